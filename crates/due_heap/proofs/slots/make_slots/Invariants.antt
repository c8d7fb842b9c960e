use Rattle.std.proofs.Common.{◌≡◌, ◌-◌, ◌≤◌, vec_capacity}
use Rattle.due_heap.specs.Layout.{SlotsAdded}
use Rattle.due_heap.proofs.slots.make_slots.Given as goal

abbrev pub invariant-loop-added : goal.invariant-loop-added
invariant-loop-added g l =
    record {
      range : l.added ≤ l.more;
      so_far : SlotsAdded l.added l.fn.order.items l.fn.places.items l.fn.slots.items l.order.items l.places.items l.slots.items;
      order_stays : vec_capacity l.order ≡ vec_capacity l.fn.order;
      places_stays : vec_capacity l.places ≡ vec_capacity l.fn.places;
      slots_stays : vec_capacity l.slots ≡ vec_capacity l.fn.slots;
    }

abbrev pub decreases-loop-added : goal.decreases-loop-added
decreases-loop-added g l = l.more - l.added
