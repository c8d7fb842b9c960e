use Rattle.std.specs.HashMap.{get}
use Rattle.std.specs.Cmp.Lexicographic.{pointwise}
use Rattle.std.proofs.Common.{Some, nat_eq, length, subst, refl, ap, ◌∙◌, arith}
use Rattle.channel_copies.specs.Flights.{CostsCalls, Flying, Leaves, flights_of_id}
use Rattle.channel_copies.specs.Index.{items_of}
use Rattle.channel_copies.proofs.Counts.{on_ok}
use Rattle.channel_copies.proofs.Heaps.{one_call}
use Rattle.channel_copies.proofs.Indexing.{Updated, put_in, counts_more, items_leave}
use Rattle.channel_copies.proofs.flights.Flights.put.Goals as goal

pub invariant_of-self : goal.invariant_of-self
invariant_of-self g c =
    let none = ap (λ (v : Flying). flights_of_id c.args.flight.message.id v.flights) c.self.view_is ∙ c.requires.new in
    record {
      indexed = put_in c.insert-key.ensures.one c.insert-key.ensures.fresh c.insert-key.ensures.live c.insert-key.ensures.others none (record { due = refl; short = c.requires.short; sent = c.requires.sent }) c.self.invariant.indexed
          (subst (λ i. Updated (get (pointwise nat_eq) c.self.inside.keys) i (Some c.insert-key.result) (get (pointwise nat_eq) c.insert-put.new.self)) c.id-id.ensures (on_ok _ (c.insert-put.ensures.succeeds (omega (arith, ap (λ (v : Flying). v.spare) c.self.view_is, c.requires.room))) c.insert-put.ensures.updates).0);
      counted = counts_more c.insert-key.ensures.one c.self.invariant.counted c.count_up.ensures.counts;
    }

pub insert-key-requires : goal.insert-key-requires
insert-key-requires g c = omega (arith, ap (λ (v : Flying). v.spare) c.self.view_is, c.requires.room)

pub count_up-requires-clause-room : goal.count_up-requires-clause-room
count_up-requires-clause-room g c = omega (arith, ap (λ (v : Flying). v.spare) c.self.view_is, c.requires.room)

pub returns-clause-joins : goal.returns-clause-joins
returns-clause-joins g c = subst (λ (v : Flying). Leaves c.args.flight (items_of c.insert-key.new.self.entries) v.flights) c.self.view_is (items_leave c.insert-key.ensures.one)

pub returns-clause-spare : goal.returns-clause-spare
returns-clause-spare g c = omega (arith, ap (λ (v : Flying). v.spare) c.self.view_is, c.insert-key.ensures.spare, c.insert-put.ensures.spare, c.count_up.ensures.spare)

pub returns-clause-steps : goal.returns-clause-steps
returns-clause-steps g c =
    subst (λ (v : Flying). CostsCalls 1 (length v.flights) c.args.steps.now c.insert-key.new.steps) c.self.view_is
    (one_call (λ e. e.item) c.self.inside.heap.entries c.args.steps.now c.insert-key.new.steps c.insert-key.ensures.steps)
