-- The text that is written keeps what it was written of.
use Rattle.std.proofs.Common.{ℕ, ◌≤◌, ◌<◌, ◌^◌, ◌≡◌, List, length, subst, sym, arith}
use Rattle.path_image.specs.Data.{IsNames, KeptTopic, longest_data, names_text}
use Rattle.path_image.proofs.NameTexts.{names_text-IsNames}
use Rattle.names_file.specs.Kept.{CanKeepAll}
use Rattle.names_file.specs.Texts.{kept_of}
use Rattle.names_file.proofs.Utf8Names.{names_utf8}

pub text_keeps : (epoch : ℕ) (topics : List KeptTopic) → epoch ≤ 16777215 → CanKeepAll topics → length (names_text (kept_of epoch topics)) ≤ longest_data → IsNames (names_text (kept_of epoch topics)) (kept_of epoch topics)
text_keeps epoch topics small can fits = names_text-IsNames (kept_of epoch topics) (record {
  epoch = small;
  topics = can.topics;
  keeps = can.keeps;
  short = fits;
  utf8 = names_utf8 epoch topics (omega (arith, small)) can.topics;
})
