use Rattle.std.proofs.Common.{refl, ◌∙◌, arith}
use Rattle.due_heap.proofs.Soundness.{then_added}
use Rattle.due_heap.proofs.slots.make_slots.Goals as goal

pub loop-added-preserved : goal.loop-added-preserved
loop-added-preserved g c =
    let l = c.loop-added.invariant in
    let e = c.make_slot.ensures in
    record {
      range = omega arith;
      so_far = then_added l.so_far e.added refl;
      order_stays = e.order_stays ∙ l.order_stays;
      places_stays = e.places_stays ∙ l.places_stays;
      slots_stays = e.slots_stays ∙ l.slots_stays;
    }
