use Rattle.std.proofs.Common.{take}
use Rattle.queue_opening.specs.Planned.{HasNumbersOf}
use Rattle.queue_opening.proofs.plan.numbers_in.Given as goal

abbrev pub invariant-loop-file : goal.invariant-loop-file
invariant-loop-file l = HasNumbersOf (take l.file-index l.files) l.name l.numbers.items
