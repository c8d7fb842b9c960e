use Rattle.std.proofs.Common.{ℕ, sym, ap, ◌∙◌, option_map}
use Rattle.due_heap.specs.declared.key.Key.{Key}
use Rattle.channel_copies.specs.declared.flight.Flight.{Flight}
use Rattle.channel_copies.specs.Flights.{Flying, soonest}
use Rattle.channel_copies.proofs.Heaps.{next_flight}
use Rattle.channel_copies.proofs.flights.Flights.next_due.Goals as goal

pub returns-in-Some : goal.returns-in-Some
returns-in-Some c =
    ap (option_map (λ (p : ℕ × Key). p.0)) (sym c.in-Some.is) ∙ (next_flight c.self.inside.heap.entries c.first.result c.self.invariant.indexed.fit c.first.ensures.is ∙ ap (λ (v : Flying). option_map (λ (f : Flight). f.due) (soonest (λ f. f.due) v.flights)) c.self.view_is)

pub returns-in-None : goal.returns-in-None
returns-in-None c =
    ap (option_map (λ (p : ℕ × Key). p.0)) (sym c.in-None.is) ∙ (next_flight c.self.inside.heap.entries c.first.result c.self.invariant.indexed.fit c.first.ensures.is ∙ ap (λ (v : Flying). option_map (λ (f : Flight). f.due) (soonest (λ f. f.due) v.flights)) c.self.view_is)
