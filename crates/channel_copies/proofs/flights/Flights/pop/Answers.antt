use Rattle.std.proofs.Common.{length, sym, subst, ap, ◌∙◌}
use Rattle.channel_copies.specs.Flights.{CostsCalls, Flying, Leaves}
use Rattle.channel_copies.specs.Index.{items_of}
use Rattle.channel_copies.proofs.Heaps.{first_live, no_flights, one_call}
use Rattle.channel_copies.proofs.Indexing.{counts_less, taken_by_id, fit_taken, has_one, items_leave}
use Rattle.channel_copies.proofs.flights.Flights.pop.Goals as goal

pub returns-in_default-clause-none : goal.returns-in_default-clause-none
returns-in_default-clause-none g c = ap (λ (v : Flying). v.flights) (sym c.self.view_is) ∙ no_flights 0 c.self.inside.heap.entries c.first.result c.first.ensures.is c.in_default.is

pub invariant_of-self : goal.invariant_of-self
invariant_of-self g c =
    record { indexed = taken_by_id c.remove-flight.ensures.one.1 c.remove-flight.ensures.item c.remove-flight.ensures.others c.self.invariant.indexed c.forget.ensures; counted = counts_less _ c.remove-flight.ensures.one.1 c.self.invariant.counted c.count_down.ensures.counts }

pub returns-clause-short : goal.returns-clause-short
returns-clause-short g c = (fit_taken c.remove-flight.ensures.one.1 c.self.invariant.indexed).short

pub remove-flight-requires : goal.remove-flight-requires
remove-flight-requires g c = first_live c.self.inside.heap.entries c.first.result _ c.first.ensures.is c.in-Some.is c.in-Some.ensures.live

pub count_down-requires : goal.count_down-requires
count_down-requires g c = record { some = has_one c.remove-flight.ensures.one.1 c.self.invariant.counted }

pub returns-clause-leaves : goal.returns-clause-leaves
returns-clause-leaves g c = subst (λ (v : Flying). Leaves c.remove-flight.result v.flights (items_of c.remove-flight.new.self.entries)) c.self.view_is (items_leave c.remove-flight.ensures.one.1)

pub returns-clause-steps : goal.returns-clause-steps
returns-clause-steps g c =
    subst (λ (v : Flying). CostsCalls 1 (length v.flights) c.args.steps.now c.remove-flight.new.steps) c.self.view_is
    (one_call (λ e. e.item) c.self.inside.heap.entries c.args.steps.now c.remove-flight.new.steps c.remove-flight.ensures.steps)
