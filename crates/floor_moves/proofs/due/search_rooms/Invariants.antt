use Rattle.std.proofs.Common.{◌<◌}
use Rattle.floor_moves.specs.Due.{RoomsAreQuiet}
use Rattle.floor_moves.proofs.due.search_rooms.Given as goal

-- none of the topics so far has a channel that is due before a later moment
abbrev pub invariant-loop-i : goal.invariant-loop-i
invariant-loop-i l = (l.now < l.soonest) × RoomsAreQuiet l.soonest l.rooms l.low l.i
