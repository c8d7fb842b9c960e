use Rattle.std.proofs.Common.{string_bytes}
use Rattle.nsq_fakes.proofs.Results.{text_joins}
use Rattle.nsq_fakes.proofs.dialer.keep.Goals as goal

pub returns-clause-ok : goal.returns-clause-ok
returns-clause-ok c = text_joins c.args.texts.now.items c.reserve.new.self.items c.push_reserved.new.self.items c.in_ok-from_str.field-0 c.args.text.now c.push_reserved.ensures.items c.reserve.ensures.items c.in_ok-from_str.ensures.ok
