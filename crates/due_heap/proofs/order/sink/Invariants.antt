use Rattle.std.proofs.Common.{◌≡◌, ◌-◌, ◌<◌, length}
use Rattle.due_heap.specs.Layout.{node_at, Matched, IsHeapBut, BelowParent, Moved}
use Rattle.due_heap.proofs.Rising.{Sunk}
use Rattle.due_heap.proofs.order.sink.Given as goal

abbrev pub invariant-loop-j : goal.invariant-loop-j
invariant-loop-j g l =
    record {
      matched : Matched l.order l.places;
      long : length l.order ≡ length l.fn.order;
      in_range : l.j < l.n;
      here : l.node ≡ node_at l.order l.j;
      but : IsHeapBut l.order l.n l.j;
      below : BelowParent l.order l.j;
      moved : Moved l.n l.fn.order l.fn.places l.order l.places;
      steps : Sunk l.n l.fn.steps l.steps l.j;
    }

abbrev pub decreases-loop-j : goal.decreases-loop-j
decreases-loop-j g l = l.n - l.j
