use Rattle.std.proofs.Common.{take}
use Rattle.queue_opening.specs.Walked.{IsNextIn}
use Rattle.queue_opening.proofs.walking.next_number.Given as goal

abbrev pub invariant-loop-number : goal.invariant-loop-number
invariant-loop-number l = IsNextIn (take l.number-index l.numbers) l.from l.last l.next
