use Rattle.std.proofs.Common.{◌-◌, ◌+◌, ◌∙◌, ℕ, Option, List, length, ap, sym, refl}
use Rattle.std.proofs.lemmas.Result.{IfOk-from_err}
use Rattle.due_heap.specs.Heap.{Entry, Heap}
use Rattle.due_heap.specs.Layout.{listed}
use Rattle.due_heap.specs.declared.node.Node.{Node}
use Rattle.due_heap.specs.declared.slots.Held.{Held}
use Rattle.due_heap.proofs.Soundness.{no_want, room_for, room_made, spare_kept, spare_made}
use Rattle.due_heap.proofs.due_heap.DueHeap.reserve.Goals as goal

pub returns-in_err-reserve : goal.returns-in_err-reserve
returns-in_err-reserve g c =
    let was = c.self.inside in
    let spare = ap (λ (h : Heap g.row.T.Denot). h.spare) c.self.view_is in
    record {
      room = IfOk-from_err c.from_residual.result _ c.from_residual.ensures.0;
      enough = λ fits. absurd (no_want (length was.order.items) was.order.len was.order.len was.order.cap was.count c.args.n c.saturating_sub-more.result c.args.self.now.spare was.order.ok.0 was.order.ok.0 was.order.ok.1 spare (c.saturating_sub-more.ensures ∙ ap (λ (k : ℕ). c.args.n - (k - was.count)) c.len.ensures) c.in_err-reserve.ensures.full fits);
      spare = spare_kept was.order.items c.reserve.new.self.items was.count c.args.self.now.spare c.reserve.ensures.items spare;
      rest = ap (λ (h : Heap g.row.T.Denot). record h { spare = length c.reserve.new.self.items - was.count }) c.self.view_is;
    }

pub invariant_of-self : goal.invariant_of-self
invariant_of-self g c = rw c.reserve.ensures.items c.self.invariant

pub returns-in_err-reserve-2 : goal.returns-in_err-reserve-2
returns-in_err-reserve-2 g c =
    let was = c.self.inside in
    let spare = ap (λ (h : Heap g.row.T.Denot). h.spare) c.self.view_is in
    record {
      room = IfOk-from_err c.from_residual-in_err-reserve-2.result _ c.from_residual-in_err-reserve-2.ensures.0;
      enough = λ fits. absurd (no_want (length was.order.items) was.order.len was.places.len was.places.cap was.count c.args.n c.saturating_sub-more.result c.args.self.now.spare was.order.ok.0 (was.places.ok.0 ∙ c.self.invariant.matched.same_length) was.places.ok.1 spare (c.saturating_sub-more.ensures ∙ ap (λ (k : ℕ). c.args.n - (k - was.count)) c.len.ensures) c.in_err-reserve-2.ensures.full fits);
      spare = spare_kept was.order.items c.reserve.new.self.items was.count c.args.self.now.spare c.reserve.ensures.items spare;
      rest = ap (λ (h : Heap g.row.T.Denot). record h { spare = length c.reserve.new.self.items - was.count }) c.self.view_is;
    }

pub invariant_of-self-in_err-reserve-2 : goal.invariant_of-self-in_err-reserve-2
invariant_of-self-in_err-reserve-2 g c = rw (c.reserve.ensures.items, c.reserve-2.ensures.items) c.self.invariant

pub returns-in_err-reserve-3 : goal.returns-in_err-reserve-3
returns-in_err-reserve-3 g c =
    let was = c.self.inside in
    let spare = ap (λ (h : Heap g.row.T.Denot). h.spare) c.self.view_is in
    record {
      room = IfOk-from_err c.from_residual-in_err-reserve-3.result _ c.from_residual-in_err-reserve-3.ensures.0;
      enough = λ fits. absurd (no_want (length was.order.items) was.order.len was.slots.len was.slots.cap was.count c.args.n c.saturating_sub-more.result c.args.self.now.spare was.order.ok.0 (was.slots.ok.0 ∙ c.self.invariant.as_long) was.slots.ok.1 spare (c.saturating_sub-more.ensures ∙ ap (λ (k : ℕ). c.args.n - (k - was.count)) c.len.ensures) c.in_err-reserve-3.ensures.full fits);
      spare = spare_kept was.order.items c.reserve.new.self.items was.count c.args.self.now.spare c.reserve.ensures.items spare;
      rest = ap (λ (l : List (Option (Held g.row.T.Denot))). record { entries = listed 0 l; made = was.made; spare = length c.reserve.new.self.items - was.count }) c.reserve-3.ensures.items
          ∙ ap (λ (h : Heap g.row.T.Denot). record h { spare = length c.reserve.new.self.items - was.count }) c.self.view_is;
    }

pub invariant_of-self-in_err-reserve-3 : goal.invariant_of-self-in_err-reserve-3
invariant_of-self-in_err-reserve-3 g c = rw (c.reserve.ensures.items, c.reserve-2.ensures.items, c.reserve-3.ensures.items) c.self.invariant

pub make_slots-requires : goal.make_slots-requires
make_slots-requires g c = record {
  order_room = room_for c.saturating_sub-more.result c.in_ok-reserve.ensures.ok c.reserve.new.self.ok.0 refl;
  places_room = room_for c.saturating_sub-more.result c.in_ok-reserve-2.ensures.ok c.reserve-2.new.self.ok.0 (ap length c.reserve-2.ensures.items ∙ c.self.invariant.matched.same_length ∙ sym (ap length c.reserve.ensures.items));
  slots_room = room_for c.saturating_sub-more.result c.in_ok-reserve-3.ensures.ok c.reserve-3.new.self.ok.0 (ap length c.reserve-3.ensures.items ∙ c.self.invariant.as_long ∙ sym (ap length c.reserve.ensures.items));
  places_length = ap length c.reserve-2.ensures.items ∙ c.self.invariant.matched.same_length ∙ sym (ap length c.reserve.ensures.items);
  slots_length = ap length c.reserve-3.ensures.items ∙ c.self.invariant.as_long ∙ sym (ap length c.reserve.ensures.items);
}

pub returns : goal.returns
returns g c =
    let was = c.self.inside in
    let spare = ap (λ (h : Heap g.row.T.Denot). h.spare) c.self.view_is in
    let longer = c.make_slots.ensures.order_longer ∙ ap (λ (l : List Node). length l + c.saturating_sub-more.result) c.reserve.ensures.items in
    record {
      room = room_made (length was.order.items) was.order.len was.count c.args.n c.saturating_sub-more.result (length c.make_slots.new.order.items) was.order.ok.0 c.self.invariant.within (c.saturating_sub-more.ensures ∙ ap (λ (k : ℕ). c.args.n - (k - was.count)) c.len.ensures) longer;
      enough = λ fits. refl;
      spare = spare_made (length was.order.items) was.count c.saturating_sub-more.result (length c.make_slots.new.order.items) c.args.self.now.spare spare longer;
      rest = ap (λ (es : List (Entry g.row.T.Denot)). record { entries = es; made = was.made; spare = length c.make_slots.new.order.items - was.count }) (c.make_slots.ensures.same ∙ ap (listed 0) c.reserve-3.ensures.items)
          ∙ ap (λ (h : Heap g.row.T.Denot). record h { spare = length c.make_slots.new.order.items - was.count }) c.self.view_is;
    }

pub invariant_of-self-2 : goal.invariant_of-self-2
invariant_of-self-2 g c =
    c.make_slots.ensures.sound c.self.inside.count c.self.inside.made (rw (c.reserve.ensures.items, c.reserve-2.ensures.items, c.reserve-3.ensures.items) c.self.invariant)
