use Rattle.std.proofs.Common.{◌≡◌, ◌+◌, ◌-◌, ◌^◌, ◌++◌, ◌∷◌, [], min, length, length-set, sym, ap, subst, ◌∙◌, refl, arith}
use Rattle.due_heap.specs.declared.key.Key.{Key}
use Rattle.due_heap.specs.declared.slots.Held.{Held}
use Rattle.due_heap.specs.Heap.{Heap, entry_of}
use Rattle.due_heap.specs.Layout.{node_at, listed, entry_at}
use Rattle.due_heap.proofs.Listing.{AllBelow}
use Rattle.due_heap.proofs.Calls.{written, room_left, free_slot, insert_sound, insert_free, insert_range, fresh, live, others, put_in, rest_stays, goes_last, all_below}
use Rattle.due_heap.proofs.due_heap.DueHeap.insert.Goals as goal

pub fill-requires-clause-range : goal.fill-requires-clause-range
fill-requires-clause-range g c =
    let room = room_left c.self.inside.order.items c.self.inside.count c.args.self.now.spare (ap (λ (h : Heap g.row.T.Denot). h.spare) c.self.view_is) c.requires in
    insert_range refl refl c.deref_mut.ensures.value c.self.invariant room (free_slot c.self.inside.order.items room c.index.ensures)

pub fill-requires-clause-free : goal.fill-requires-clause-free
fill-requires-clause-free g c =
    let room = room_left c.self.inside.order.items c.self.inside.count c.args.self.now.spare (ap (λ (h : Heap g.row.T.Denot). h.spare) c.self.view_is) c.requires in
    insert_free refl refl c.deref_mut.ensures.value c.self.invariant room (free_slot c.self.inside.order.items room c.index.ensures)

pub attach-requires-clause-matched : goal.attach-requires-clause-matched
attach-requires-clause-matched g c =
    rw (c.deref_mut-2.ensures.value, c.deref_mut-3.ensures.value) c.self.invariant.matched

pub attach-requires-clause-heap : goal.attach-requires-clause-heap
attach-requires-clause-heap g c p d a b f =
    rw c.deref_mut-2.ensures.value (c.self.invariant.heap p d a b f)

pub attach-requires-clause-slot : goal.attach-requires-clause-slot
attach-requires-clause-slot g c =
    let room = room_left c.self.inside.order.items c.self.inside.count c.args.self.now.spare (ap (λ (h : Heap g.row.T.Denot). h.spare) c.self.view_is) c.requires in
    rw c.deref_mut-2.ensures.value (free_slot c.self.inside.order.items room c.index.ensures)

pub invariant_of-self : goal.invariant_of-self
invariant_of-self g c =
    let room = room_left c.self.inside.order.items c.self.inside.count c.args.self.now.spare (ap (λ (h : Heap g.row.T.Denot). h.spare) c.self.view_is) c.requires in
    let is : c.index.result.now.slot ≡ (node_at c.deref_mut-2.result.now c.self.inside.count).slot = rw c.deref_mut-2.ensures.value (free_slot c.self.inside.order.items room c.index.ensures) in
    let d = c.attach.ensures in
    let o : length c.attach.new.order ≡ c.self.inside.order.len = d.attached.same_length ∙ c.deref_mut-2.ensures.len in
    let p : length c.attach.new.places ≡ c.self.inside.places.len = d.matched.same_length ∙ (d.attached.same_length ∙ (ap length c.deref_mut-2.ensures.value ∙ (sym c.self.invariant.matched.same_length ∙ (sym (ap length c.deref_mut-3.ensures.value) ∙ c.deref_mut-3.ensures.len)))) in
    let q : length c.fill.new.slots ≡ c.self.inside.slots.len = ap length c.fill.ensures ∙ (length-set _ _ _ ∙ c.deref_mut.ensures.len) in
    rw (written c.self.inside.order.len c.attach.new.order c.self.inside.order.items o, written c.self.inside.places.len c.attach.new.places c.self.inside.places.items p, written c.self.inside.slots.len c.fill.new.slots c.self.inside.slots.items q)
    (insert_sound (record { due = c.args.due; number = c.self.inside.made; item = c.args.item }) c.deref_mut-2.ensures.value c.deref_mut-3.ensures.value c.deref_mut.ensures.value c.self.invariant room is d.matched d.heap d.attached c.fill.ensures refl c.saturating_add-self-inside.ensures)

pub attach-requires-clause-in_range : goal.attach-requires-clause-in_range
attach-requires-clause-in_range g c =
    rw c.deref_mut-2.ensures.value (room_left c.self.inside.order.items c.self.inside.count c.args.self.now.spare (ap (λ (h : Heap g.row.T.Denot). h.spare) c.self.view_is) c.requires)

pub returns : goal.returns
returns g c =
    let now : Heap g.row.T.Denot = c.args.self.now in
    let room = room_left c.self.inside.order.items c.self.inside.count now.spare (ap (λ (h : Heap g.row.T.Denot). h.spare) c.self.view_is) c.requires in
    let old : listed 0 c.deref_mut.result.now ≡ now.entries = ap (listed 0) c.deref_mut.ensures.value ∙ ap (λ (h : Heap g.row.T.Denot). h.entries) c.self.view_is in
    let place = free_slot c.self.inside.order.items room c.index.ensures in
    let free = insert_free refl refl c.deref_mut.ensures.value c.self.invariant room place in
    let l = insert_range refl refl c.deref_mut.ensures.value c.self.invariant room place in
    let h : Held g.row.T.Denot = record { due = c.args.due; number = c.self.inside.made; item = c.args.item } in
    let k : Key = record { slot = c.index.result.now.slot; number = c.self.inside.made } in
    let slots = c.deref_mut.result.now in
    let slot = c.index.result.now.slot in
    let q : length c.fill.new.slots ≡ c.self.inside.slots.len = ap length c.fill.ensures ∙ (length-set _ _ _ ∙ c.deref_mut.ensures.len) in
    let filled = written c.self.inside.slots.len c.fill.new.slots c.self.inside.slots.items q in
    let long : length c.attach.new.order ≡ c.self.inside.order.len = c.attach.ensures.attached.same_length ∙ c.deref_mut-2.ensures.len in
    let same : length c.attach.new.order ≡ length c.self.inside.order.items = c.attach.ensures.attached.same_length ∙ ap length c.deref_mut-2.ensures.value in
    record {
      number = ap (λ (h : Heap g.row.T.Denot). h.made) c.self.view_is;
      made = c.saturating_add-self-inside.ensures ∙ ap (λ (h : Heap g.row.T.Denot). min (h.made + 1) (2 ^ 64 - 1)) c.self.view_is;
      fresh = ap (entry_of k) (sym old) ∙ fresh slots slot h free k refl refl;
      live = rw (filled, c.fill.ensures) (live slots slot h free k refl refl l);
      rest = rw (filled, c.fill.ensures) (others slots slot h free k refl refl l ∙ old);
      one = rw (filled, c.fill.ensures) (put_in slots slot h free k refl refl l now.entries old);
      others = λ other u. rw (filled, c.fill.ensures) (rest_stays slots slot h free k refl refl l now.entries old other u);
      last = λ m.
          rw (filled, c.fill.ensures)
          (goes_last slots slot h free k refl refl l (subst (AllBelow c.self.inside.made) (sym c.deref_mut.ensures.value) (all_below c.self.invariant (omega (arith, m, ap (λ (h : Heap g.row.T.Denot). h.made) c.self.view_is)))) ∙ ap (λ es. es ++ entry_at slot h ∷ []) old);
      spare = rw (written c.self.inside.order.len c.attach.new.order c.self.inside.order.items long) (omega (arith, same, ap (λ (h : Heap g.row.T.Denot). h.spare) c.self.view_is));
      steps = λ d few.
          let n : length now.entries ≡ c.self.inside.count = sym (ap (λ (h : Heap g.row.T.Denot). length h.entries) c.self.view_is) ∙ c.self.invariant.counted in
          c.attach.ensures.steps d (omega arith);
    }
