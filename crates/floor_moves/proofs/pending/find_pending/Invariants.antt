use Rattle.std.proofs.Common.{length}
use Rattle.floor_moves.specs.Pending.{Unlists}
use Rattle.floor_moves.proofs.pending.find_pending.Given as goal

abbrev pub decreases-loop-name : goal.decreases-loop-name
decreases-loop-name l = length l.hall.pending.items

-- only which topics are listed changed so far
abbrev pub invariant-loop-name : goal.invariant-loop-name
invariant-loop-name l = Unlists l.initial.hall l.hall
