use Rattle.std.proofs.Common.{arith}
use Rattle.queue_files.proofs.files.remove_each.Goals as goal

pub returns-clause-others : goal.returns-clause-others
returns-clause-others g c = λ told file apart.
    c.loop-number.invariant.others told file (λ k low high. apart k low (let ends = c.loop-number.invariant.high (omega arith) in omega (arith, ends)))
