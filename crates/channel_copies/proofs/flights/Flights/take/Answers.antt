use Rattle.std.specs.HashMap.{get}
use Rattle.std.proofs.Common.{◌<◌, nat_eq, length, sym, ◌∙◌, refl, subst}
use Rattle.std.specs.Cmp.Lexicographic.{pointwise}
use Rattle.channel_copies.specs.Flights.{CostsCalls, Flying, Leaves, flights_of_id}
use Rattle.channel_copies.specs.Index.{items_of}
use Rattle.channel_copies.proofs.Heaps.{one_call}
use Rattle.channel_copies.proofs.Indexing.{counts_less, taken_by_key, id_of_taken, fit_taken, has_key_of, is_some_of, key_reaches, none_left, has_one, items_leave}
use Rattle.channel_copies.proofs.flights.Flights.take.Goals as goal

pub unwrap-key-requires : goal.unwrap-key-requires
unwrap-key-requires g c = is_some_of (c.remove.ensures.value ∙ (has_key_of c.self.inside.heap.entries (get (pointwise nat_eq) c.self.inside.keys) c.args.id c.self.invariant.indexed (subst (λ (v : Flying). 0 < flights_of_id c.args.id v.flights) (sym c.self.view_is) c.requires)).1)

pub remove-flight-requires : goal.remove-flight-requires
remove-flight-requires g c = is_some_of (key_reaches c.self.inside.heap.entries (get (pointwise nat_eq) c.self.inside.keys) c.args.id _ c.self.invariant.indexed (sym c.remove.ensures.value ∙ c.unwrap-key.ensures)).there

pub invariant_of-self : goal.invariant_of-self
invariant_of-self g c =
    record { indexed = taken_by_key c.args.id c.remove-flight.ensures.one.1 c.remove-flight.ensures.item c.remove-flight.ensures.others c.self.invariant.indexed (sym c.remove.ensures.value ∙ c.unwrap-key.ensures) c.remove.ensures.updates.0; counted = counts_less _ c.remove-flight.ensures.one.1 c.self.invariant.counted c.count_down.ensures.counts }

pub returns-clause-id : goal.returns-clause-id
returns-clause-id g c = id_of_taken c.args.id c.remove-flight.ensures.item c.self.invariant.indexed (sym c.remove.ensures.value ∙ c.unwrap-key.ensures)

pub returns-clause-short : goal.returns-clause-short
returns-clause-short g c = (fit_taken c.remove-flight.ensures.one.1 c.self.invariant.indexed).short

pub returns-clause-none : goal.returns-clause-none
returns-clause-none g c =
    none_left (get (pointwise nat_eq) c.self.inside.keys) c.args.id (taken_by_key c.args.id c.remove-flight.ensures.one.1 c.remove-flight.ensures.item c.remove-flight.ensures.others c.self.invariant.indexed (sym c.remove.ensures.value ∙ c.unwrap-key.ensures) (λ q. refl))

pub count_down-requires : goal.count_down-requires
count_down-requires g c = record { some = has_one c.remove-flight.ensures.one.1 c.self.invariant.counted }

pub returns-clause-leaves : goal.returns-clause-leaves
returns-clause-leaves g c = subst (λ (v : Flying). Leaves c.remove-flight.result v.flights (items_of c.remove-flight.new.self.entries)) c.self.view_is (items_leave c.remove-flight.ensures.one.1)

pub returns-clause-steps : goal.returns-clause-steps
returns-clause-steps g c =
    subst (λ (v : Flying). CostsCalls 1 (length v.flights) c.args.steps.now c.remove-flight.new.steps) c.self.view_is
    (one_call (λ e. e.item) c.self.inside.heap.entries c.args.steps.now c.remove-flight.new.steps c.remove-flight.ensures.steps)
