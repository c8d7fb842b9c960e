use Rattle.std.proofs.Common.{◌≡◌}
use Rattle.turnstile.specs.Passes.{IsSameSeat}
use Rattle.turnstile.proofs.turnstile.Turnstile.spin.Given as goal

abbrev pub invariant-loop : goal.invariant-loop
invariant-loop g l = record { same : IsSameSeat l.initial.seat l.seat; me : l.seat.me ≡ l.initial.seat.me }
