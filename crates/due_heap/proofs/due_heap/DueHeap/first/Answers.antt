use Rattle.std.proofs.Common.{ap, arith}
use Rattle.due_heap.specs.Heap.{Heap}
use Rattle.due_heap.proofs.Calls.{first_is, first_live}
use Rattle.due_heap.proofs.due_heap.DueHeap.first.Goals as goal

pub returns-clause-is : goal.returns-clause-is
returns-clause-is g c = first_is c.self.invariant (omega arith) c.index-node.result.now c.index-node.ensures (ap (λ (h : Heap g.row.T.Denot). h.entries) c.self.view_is)

pub returns-clause-live : goal.returns-clause-live
returns-clause-live g c = first_live c.self.invariant (omega arith) c.index-node.result.now c.index-node.ensures (ap (λ (h : Heap g.row.T.Denot). h.entries) c.self.view_is)
