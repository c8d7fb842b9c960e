use Rattle.std.proofs.Common.{◌≡◌, ◌+◌, length, take}
use Rattle.std.specs.List.{flat_map}
use Rattle.v2_frame.specs.Command.{sized}
use Rattle.v2_client.proofs.write.content_size.Given as goal

-- the size of the count and of the bodies so far
abbrev pub invariant-bodies : goal.invariant-bodies
invariant-bodies l = l.size ≡ 4 + length (flat_map sized (take l.i l.bodies))
