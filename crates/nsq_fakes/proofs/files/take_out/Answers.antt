use Rattle.std.proofs.Common.{arith}
use Rattle.std.proofs.lemmas.Map.Text.{text_keys}
use Rattle.nsq_fakes.proofs.files.take_out.Goals as goal

pub returns-clause-gone : goal.returns-clause-gone
returns-clause-gone c = record { here = grind (arith, text_keys); others = λ other h. grind (arith, text_keys) }
