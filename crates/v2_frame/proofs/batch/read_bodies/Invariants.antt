use Rattle.std.proofs.Common.{◌≡◌, ◌+◌, ◌-◌, ◌≤◌, length, drop}
use Rattle.std.specs.List.{flat_map}
use Rattle.v2_frame.specs.Command.{sized}
use Rattle.v2_frame.specs.Judging.{HasBodies}
use Rattle.v2_frame.proofs.batch.read_bodies.Given as goal

-- good bodies stand behind the count, as far as the place
abbrev pub invariant-messages : goal.invariant-messages
invariant-messages l = record {
  within : l.at ≤ length l.content;
  behind : l.at ≡ 4 + length (flat_map sized l.bodies);
  bodies : HasBodies l.most (drop 4 l.content) l.bodies (drop l.at l.content);
  some : length l.bodies ≤ l.count;
}

abbrev pub decreases-messages : goal.decreases-messages
decreases-messages l = l.count - length l.bodies
