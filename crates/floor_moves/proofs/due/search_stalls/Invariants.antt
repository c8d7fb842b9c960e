use Rattle.std.proofs.Common.{◌<◌}
use Rattle.std.specs.List.{AllWithin}
use Rattle.floor_rooms.specs.Sound.{IsQuietUntil}
use Rattle.floor_moves.proofs.due.search_stalls.Given as goal

-- none of the channels so far is due before a later moment
abbrev pub invariant-loop-j : goal.invariant-loop-j
invariant-loop-j l = (l.now < l.soonest) × AllWithin (λ x. IsQuietUntil l.soonest x.channel) l.stalls 0 l.j
