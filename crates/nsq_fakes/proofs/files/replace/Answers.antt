use Rattle.std.proofs.Common.{arith}
use Rattle.std.proofs.lemmas.Map.Text.{text_keys}
use Rattle.nsq_fakes.proofs.files.replace.Goals as goal

pub returns-in-Some : goal.returns-in-Some
returns-in-Some c = record { here = grind (arith, text_keys); others = λ other h. grind (arith, text_keys) }
