use Rattle.std.proofs.Common.{arith}
use Rattle.due_heap.proofs.Soundness.{one_added}
use Rattle.due_heap.proofs.slots.make_slot.Goals as goal

pub returns-clause-added : goal.returns-clause-added
returns-clause-added g c = one_added (omega arith) c.requires.places_length c.requires.slots_length c.push_reserved.ensures.items c.push_reserved-2.ensures.items c.push_reserved-3.ensures.items
