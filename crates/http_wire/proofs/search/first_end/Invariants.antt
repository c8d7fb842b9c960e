use Rattle.std.proofs.Common.{length, ◌-◌, ◌≤◌}
use Rattle.http_wire.specs.Searching.{HasNoEnd}
use Rattle.http_wire.proofs.search.first_end.Given as goal

abbrev pub invariant-loop-place : goal.invariant-loop-place
invariant-loop-place l = record { order : l.begin ≤ l.done; within : l.done ≤ length l.bytes; none : HasNoEnd l.bytes l.done }

abbrev pub decreases-loop-place : goal.decreases-loop-place
decreases-loop-place l = length l.bytes - l.done
