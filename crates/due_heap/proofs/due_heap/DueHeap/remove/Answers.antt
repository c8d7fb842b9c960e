use Rattle.std.proofs.Common.{rules, ◌≡◌, length, length-set, sym, ap, ◌∙◌, arith, None, option_map, slice_index_or, slice_set}
use Rattle.due_heap.specs.Heap.{Heap, Entry, entry_of, without}
use Rattle.due_heap.specs.Layout.{listed}
use Rattle.due_heap.proofs.Calls.{written, held_at, slot_there, place_in_heap, place_read, remove_sound, item_there, rest_of, goes_out}
use Rattle.due_heap.proofs.Taking.{is_dead, others_stay}
use Rattle.due_heap.proofs.due_heap.DueHeap.remove.Goals as goal

pub index-place-requires : goal.index-place-requires
index-place-requires g c =
    let at = held_at c.args.key c.self.inside.slots.items c.args.self.now.entries (ap (λ (h : Heap g.row.T.Denot). h.entries) c.self.view_is) c.requires in
    let w = (slot_there c.self.invariant at).1 in search rules

pub detach-requires-clause-in_range : goal.detach-requires-clause-in_range
detach-requires-clause-in_range g c =
    let at = held_at c.args.key c.self.inside.slots.items c.args.self.now.entries (ap (λ (h : Heap g.row.T.Denot). h.entries) c.self.view_is) c.requires in
    let w = place_in_heap c.self.invariant at in
    let r = place_read c.self.invariant at c.index-place.ensures in
    omega arith

pub vacate-held-requires-clause-range : goal.vacate-held-requires-clause-range
vacate-held-requires-clause-range g c =
    let at = held_at c.args.key c.self.inside.slots.items c.args.self.now.entries (ap (λ (h : Heap g.row.T.Denot). h.entries) c.self.view_is) c.requires in
    let w = (slot_there c.self.invariant at).0 in
    rw c.deref_mut.ensures.value w

pub vacate-held-requires-clause-taken : goal.vacate-held-requires-clause-taken
vacate-held-requires-clause-taken g c =
    let at = held_at c.args.key c.self.inside.slots.items c.args.self.now.entries (ap (λ (h : Heap g.row.T.Denot). h.entries) c.self.view_is) c.requires in
    rw (c.deref_mut.ensures.value, at.is) (search rules)

pub invariant_of-self : goal.invariant_of-self
invariant_of-self g c =
    let at = held_at c.args.key c.self.inside.slots.items c.args.self.now.entries (ap (λ (h : Heap g.row.T.Denot). h.entries) c.self.view_is) c.requires in
    let w = place_in_heap c.self.invariant at in
    let d = c.detach.ensures in
    let o : length c.detach.new.order ≡ c.self.inside.order.len = d.detached.same_length ∙ c.deref_mut-2.ensures.len in
    let p : length c.detach.new.places ≡ c.self.inside.places.len = d.matched.same_length ∙ (d.detached.same_length ∙ (ap length c.deref_mut-2.ensures.value ∙ (sym c.self.invariant.matched.same_length ∙ (sym (ap length c.deref_mut-3.ensures.value) ∙ c.deref_mut-3.ensures.len)))) in
    let s : length c.vacate-held.new.slots ≡ c.self.inside.slots.len = ap length c.vacate-held.ensures.rest ∙ (length-set _ _ _ ∙ c.deref_mut.ensures.len) in
    rw (written c.self.inside.order.len c.detach.new.order c.self.inside.order.items o, written c.self.inside.places.len c.detach.new.places c.self.inside.places.items p, written c.self.inside.slots.len c.vacate-held.new.slots c.self.inside.slots.items s)
    (remove_sound c.deref_mut-2.ensures.value c.deref_mut-3.ensures.value c.deref_mut.ensures.value c.self.invariant at (omega arith) (place_read c.self.invariant at c.index-place.ensures) d.matched d.heap d.detached c.vacate-held.ensures.rest)

pub returns-clause-item : goal.returns-clause-item
returns-clause-item g c =
    let old : listed 0 c.self.inside.slots.items ≡ c.args.self.now.entries = ap (λ (h : Heap g.row.T.Denot). h.entries) c.self.view_is in
    let at = held_at c.args.key c.self.inside.slots.items c.args.self.now.entries old c.requires in
    ap (λ l. option_map (λ (e : Entry g.row.T.Denot). e.item) (entry_of c.args.key l)) (sym old)
    ∙ item_there c.args.key c.self.inside.slots.items c.vacate-held.result at (ap (λ l. slice_index_or l c.args.key.slot None) (sym c.deref_mut.ensures.value) ∙ c.vacate-held.ensures.held)

pub returns-clause-rest : goal.returns-clause-rest
returns-clause-rest g c =
    let old : listed 0 c.self.inside.slots.items ≡ c.args.self.now.entries = ap (λ (h : Heap g.row.T.Denot). h.entries) c.self.view_is in
    let at = held_at c.args.key c.self.inside.slots.items c.args.self.now.entries old c.requires in
    let s : length c.vacate-held.new.slots ≡ c.self.inside.slots.len = ap length c.vacate-held.ensures.rest ∙ (length-set _ _ _ ∙ c.deref_mut.ensures.len) in
    rw (written c.self.inside.slots.len c.vacate-held.new.slots c.self.inside.slots.items s, c.vacate-held.ensures.rest, c.deref_mut.ensures.value)
    (rest_of c.args.key c.self.inside.slots.items at ∙ ap (without c.args.key) old)

pub returns-clause-one : goal.returns-clause-one
returns-clause-one g c =
    let old : listed 0 c.self.inside.slots.items ≡ c.args.self.now.entries = ap (λ (h : Heap g.row.T.Denot). h.entries) c.self.view_is in
    let at = held_at c.args.key c.self.inside.slots.items c.args.self.now.entries old c.requires in
    let s : length c.vacate-held.new.slots ≡ c.self.inside.slots.len = ap length c.vacate-held.ensures.rest ∙ (length-set _ _ _ ∙ c.deref_mut.ensures.len) in
    rw (written c.self.inside.slots.len c.vacate-held.new.slots c.self.inside.slots.items s, c.vacate-held.ensures.rest, c.deref_mut.ensures.value)
    (goes_out c.args.key c.self.inside.slots.items c.vacate-held.result c.args.self.now.entries (listed 0 (slice_set c.self.inside.slots.items c.args.key.slot None)) at (ap (λ l. slice_index_or l c.args.key.slot None) (sym c.deref_mut.ensures.value) ∙ c.vacate-held.ensures.held) old (rest_of c.args.key c.self.inside.slots.items at ∙ ap (without c.args.key) old))

pub returns-clause-dead : goal.returns-clause-dead
returns-clause-dead g c =
    let old : listed 0 c.self.inside.slots.items ≡ c.args.self.now.entries = ap (λ (h : Heap g.row.T.Denot). h.entries) c.self.view_is in
    let at = held_at c.args.key c.self.inside.slots.items c.args.self.now.entries old c.requires in
    let s : length c.vacate-held.new.slots ≡ c.self.inside.slots.len = ap length c.vacate-held.ensures.rest ∙ (length-set _ _ _ ∙ c.deref_mut.ensures.len) in
    rw (written c.self.inside.slots.len c.vacate-held.new.slots c.self.inside.slots.items s, c.vacate-held.ensures.rest, c.deref_mut.ensures.value)
    (ap (entry_of c.args.key) (rest_of c.args.key c.self.inside.slots.items at ∙ ap (without c.args.key) old) ∙ is_dead c.args.key c.args.self.now.entries)

pub returns-clause-others : goal.returns-clause-others
returns-clause-others g c other u =
    let old : listed 0 c.self.inside.slots.items ≡ c.args.self.now.entries = ap (λ (h : Heap g.row.T.Denot). h.entries) c.self.view_is in
    let at = held_at c.args.key c.self.inside.slots.items c.args.self.now.entries old c.requires in
    let s : length c.vacate-held.new.slots ≡ c.self.inside.slots.len = ap length c.vacate-held.ensures.rest ∙ (length-set _ _ _ ∙ c.deref_mut.ensures.len) in
    rw (written c.self.inside.slots.len c.vacate-held.new.slots c.self.inside.slots.items s, c.vacate-held.ensures.rest, c.deref_mut.ensures.value)
    (ap (entry_of other) (rest_of c.args.key c.self.inside.slots.items at ∙ ap (without c.args.key) old) ∙ others_stay c.args.key c.args.self.now.entries other u)

pub returns-clause-steps : goal.returns-clause-steps
returns-clause-steps g c d h =
    let old : listed 0 c.self.inside.slots.items ≡ c.args.self.now.entries = ap (λ (h : Heap g.row.T.Denot). h.entries) c.self.view_is in
    let at = held_at c.args.key c.self.inside.slots.items c.args.self.now.entries old c.requires in
    let w = place_in_heap c.self.invariant at in
    let n : length c.args.self.now.entries ≡ c.self.inside.count = sym (ap length old) ∙ c.self.invariant.counted in
    c.detach.ensures.steps d (omega arith)

pub overflow_sub-last : goal.overflow_sub-last
overflow_sub-last g c =
    let at = held_at c.args.key c.self.inside.slots.items c.args.self.now.entries (ap (λ (h : Heap g.row.T.Denot). h.entries) c.self.view_is) c.requires in
    let w = place_in_heap c.self.invariant at in
    omega arith

pub detach-requires-clause-matched : goal.detach-requires-clause-matched
detach-requires-clause-matched g c = rw (c.deref_mut-2.ensures.value, c.deref_mut-3.ensures.value) c.self.invariant.matched

pub detach-requires-clause-within : goal.detach-requires-clause-within
detach-requires-clause-within g c =
    let at = held_at c.args.key c.self.inside.slots.items c.args.self.now.entries (ap (λ (h : Heap g.row.T.Denot). h.entries) c.self.view_is) c.requires in
    let w = place_in_heap c.self.invariant at in
    rw c.deref_mut-2.ensures.value (omega (arith, w, c.self.invariant.within))

pub detach-requires-clause-heap : goal.detach-requires-clause-heap
detach-requires-clause-heap g c p d a b f =
    let at = held_at c.args.key c.self.inside.slots.items c.args.self.now.entries (ap (λ (h : Heap g.row.T.Denot). h.entries) c.self.view_is) c.requires in
    let w = place_in_heap c.self.invariant at in
    rw c.deref_mut-2.ensures.value (c.self.invariant.heap p d a b (omega (arith, w, f)))

pub returns-clause-made : goal.returns-clause-made
returns-clause-made g c = ap (λ (h : Heap g.row.T.Denot). h.made) c.self.view_is

pub returns-clause-spare : goal.returns-clause-spare
returns-clause-spare g c =
    let at = held_at c.args.key c.self.inside.slots.items c.args.self.now.entries (ap (λ (h : Heap g.row.T.Denot). h.entries) c.self.view_is) c.requires in
    let w = place_in_heap c.self.invariant at in
    let long : length c.detach.new.order ≡ c.self.inside.order.len = c.detach.ensures.detached.same_length ∙ c.deref_mut-2.ensures.len in
    let same : length c.detach.new.order ≡ length c.self.inside.order.items = c.detach.ensures.detached.same_length ∙ ap length c.deref_mut-2.ensures.value in
    rw (written c.self.inside.order.len c.detach.new.order c.self.inside.order.items long) (omega (arith, same, w, c.self.invariant.within, ap (λ (h : Heap g.row.T.Denot). h.spare) c.self.view_is))
