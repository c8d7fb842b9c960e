use Rattle.std.proofs.Common.{arith}
use Rattle.std.proofs.lemmas.Map.Text.{text_keys}
use Rattle.nsq_fakes.proofs.files.put_in.Goals as goal

pub returns-clause-ok : goal.returns-clause-ok
returns-clause-ok c = record { here = grind (arith, text_keys); others = λ other h. grind (arith, text_keys) }
