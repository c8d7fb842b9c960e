use Rattle.std.proofs.Common.{◌≡◌, ◌++◌, take}
use Rattle.std.specs.List.{flat_map}
use Rattle.v2_frame.specs.Command.{sized}
use Rattle.v2_client.proofs.write.append_bodies.Given as goal

-- the bodies so far stand behind what was there
abbrev pub invariant-bodies : goal.invariant-bodies
invariant-bodies l = l.out.items ≡ l.initial.out.items ++ flat_map sized (take l.i l.bodies)
