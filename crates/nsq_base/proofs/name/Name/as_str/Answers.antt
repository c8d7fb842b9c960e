use Rattle.nsq_base.proofs.AsciiTexts.{IsUtf8-name, is_text}
use Rattle.nsq_base.proofs.name.Name.as_str.Goals as goal

pub unwrap-requires : goal.unwrap-requires
unwrap-requires c = is_text _ _ _ c.from_utf8.result c.from_utf8.ensures.cases (IsUtf8-name _ c.bytes.ensures.is_name)
