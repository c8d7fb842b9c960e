use Rattle.std.proofs.Common.{arith}
use Rattle.std.proofs.lemmas.Grind.{common_steps}
use Rattle.nsq_fakes.proofs.Bytes.{written_at-grown, written_at-inside}
use Rattle.nsq_fakes.proofs.files.write_over.Goals as goal

pub returns-clause-ok : goal.returns-clause-ok
returns-clause-ok c = grind (arith, common_steps, written_at-grown, written_at-inside)
