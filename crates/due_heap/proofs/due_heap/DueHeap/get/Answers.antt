use Rattle.std.proofs.Common.{rules}
use Rattle.due_heap.proofs.Listing.{item_of}
use Rattle.due_heap.proofs.due_heap.DueHeap.get.Goals as goal

pub returns : goal.returns
returns g c = search (rules, item_of)
