use Rattle.std.proofs.Common.{arith}
use Rattle.std.proofs.lemmas.Map.Text.{text_keys}
use Rattle.nsq_fakes.proofs.files.create.Goals as goal

pub returns-in_ok-put_in-clause-ok : goal.returns-in_ok-put_in-clause-ok
returns-in_ok-put_in-clause-ok c = record { here = grind (arith, text_keys); others = λ other h. grind (arith, text_keys) }
