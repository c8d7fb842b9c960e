use Rattle.std.proofs.Common.{◌≡◌, ◌≤◌, ◌-◌}
use Rattle.drill_parts.specs.Draws.{behind, publishes}
use Rattle.drill_parts.proofs.draws.draw.Given as goal

abbrev pub invariant-loop-number : goal.invariant-loop-number
invariant-loop-number l = record {
  drawn : l.all.items ≡ publishes l.seed l.number;
  state : l.state ≡ behind l.seed l.number;
  high : l.number ≤ l.count;
}

abbrev pub decreases-loop-number : goal.decreases-loop-number
decreases-loop-number l = l.count - l.number
