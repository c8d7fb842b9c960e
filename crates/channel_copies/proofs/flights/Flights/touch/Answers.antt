use Rattle.std.specs.HashMap.{get}
use Rattle.std.proofs.Common.{◌<◌, nat_eq, sym, ap, ◌∙◌, refl, subst, option_copied, length, arith}
use Rattle.std.specs.Cmp.Lexicographic.{pointwise}
use Rattle.channel_copies.specs.Flights.{CostsCalls, Flying, Leaves, Prolongs, flights_of_id}
use Rattle.channel_copies.specs.Index.{items_of}
use Rattle.channel_copies.proofs.Counts.{on_present}
use Rattle.channel_copies.proofs.Heaps.{two_calls, fewer}
use Rattle.channel_copies.proofs.Indexing.{counts_again, taken_by_key, put_again, id_of_taken, fit_taken, has_key_of, is_some_of, copied_some, key_reaches, items_leave, none_left}
use Rattle.channel_copies.proofs.flights.Flights.touch.Goals as goal

pub unwrap-key-requires : goal.unwrap-key-requires
unwrap-key-requires g c = copied_some c.get.result (c.get.ensures.value ∙ (has_key_of c.self.inside.heap.entries (get (pointwise nat_eq) c.self.inside.keys) c.args.id c.self.invariant.indexed (subst (λ (v : Flying). 0 < flights_of_id c.args.id v.flights) (sym c.self.view_is) c.requires.there)).1)

pub remove-flight-requires : goal.remove-flight-requires
remove-flight-requires g c = is_some_of (key_reaches c.self.inside.heap.entries (get (pointwise nat_eq) c.self.inside.keys) c.args.id _ c.self.invariant.indexed (sym c.get.ensures.value ∙ ap option_copied c.unwrap-key.ensures)).there

pub overflow_add-flight : goal.overflow_add-flight
overflow_add-flight g c = omega (arith, (fit_taken c.remove-flight.ensures.one.1 c.self.invariant.indexed).sent, c.requires.most)

pub invariant_of-self : goal.invariant_of-self
invariant_of-self g c =
    let at = sym c.get.ensures.value ∙ ap option_copied c.unwrap-key.ensures in
    let r = c.remove-flight.ensures in
    let s = c.insert-key.ensures in
    let fit = fit_taken r.one.1 c.self.invariant.indexed in
    record {
      indexed = put_again (get (pointwise nat_eq) c.self.inside.keys) c.args.id (taken_by_key c.args.id r.one.1 r.item r.others c.self.invariant.indexed at (λ q. refl)) (id_of_taken c.args.id r.item c.self.invariant.indexed at)
          s.one s.fresh s.live s.others (record { due = refl; short = fit.short; sent = fit.sent }) (on_present _ c.insert-put.ensures.absent at c.insert-put.ensures.updates).0;
      counted = counts_again refl r.one.1 s.one c.self.invariant.counted;
    }

pub returns-clause-prolongs : goal.returns-clause-prolongs
returns-clause-prolongs g c =
    let at = sym c.get.ensures.value ∙ ap option_copied c.unwrap-key.ensures in
    let r = c.remove-flight.ensures in
    subst (λ (v : Flying). Prolongs c.args.id c.args.until c.args.most v.flights (items_of c.insert-key.new.self.entries)) c.self.view_is (record {
      flight = c.remove-flight.result;
      of = id_of_taken c.args.id r.item c.self.invariant.indexed at;
      rest = items_of c.remove-flight.new.self.entries;
      none = none_left (get (pointwise nat_eq) c.self.inside.keys) c.args.id (taken_by_key c.args.id r.one.1 r.item r.others c.self.invariant.indexed at (λ q. refl));
      goes = items_leave r.one.1;
      comes = subst (λ n. Leaves (record c.remove-flight.result { due = n }) (items_of c.insert-key.new.self.entries) (items_of c.remove-flight.new.self.entries)) c.min-due.ensures (items_leave c.insert-key.ensures.one);
    })

pub insert-key-requires : goal.insert-key-requires
insert-key-requires g c = omega (arith, c.remove-flight.ensures.spare)

pub returns-clause-steps : goal.returns-clause-steps
returns-clause-steps g c =
    subst (λ (v : Flying). CostsCalls 2 (length v.flights) c.args.steps.now c.insert-key.new.steps) c.self.view_is
    (two_calls (λ e. e.item) c.self.inside.heap.entries c.remove-flight.new.self.entries c.args.steps.now c.remove-flight.new.steps c.insert-key.new.steps (fewer c.remove-flight.ensures.one.1) c.remove-flight.ensures.steps c.insert-key.ensures.steps)
