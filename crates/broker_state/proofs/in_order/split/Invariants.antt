use Rattle.std.proofs.Common.{◌≡◌}
use Rattle.std.specs.List.{filter}
use Rattle.broker_state.proofs.in_order.split.Given as goal

abbrev pub invariant-loop-other : goal.invariant-loop-other
invariant-loop-other g l =
    let before = g.X.Ordered.before in
    (l.before.items ≡ filter (λ other. before other l.one) l.yielded)
    × (l.after.items ≡ filter (λ other. before l.one other) l.yielded)
