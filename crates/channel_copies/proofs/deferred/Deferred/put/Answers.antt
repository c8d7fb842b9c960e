use Rattle.std.proofs.Common.{ap, subst, length, arith}
use Rattle.due_heap.specs.Heap.{Entry}
use Rattle.v2_frame.specs.declared.message.Message.{Message}
use Rattle.backlog.specs.Seen.{FitsLimit}
use Rattle.channel_copies.specs.Flights.{CostsCalls, Leaves}
use Rattle.channel_copies.specs.Deferred.{Deferring, waiting_in, waiting_of}
use Rattle.channel_copies.proofs.Counts.{all-in}
use Rattle.channel_copies.proofs.Heaps.{one_call, waiting_leaves}
use Rattle.channel_copies.proofs.deferred.Deferred.put.Goals as goal

pub invariant_of-self : goal.invariant_of-self
invariant_of-self g c = all-in (λ (e : Entry Message). FitsLimit e.item) c.insert.ensures.one c.requires.short c.self.invariant

pub insert-requires : goal.insert-requires
insert-requires g c = omega (arith, ap (λ (v : Deferring). v.spare) c.self.view_is, c.requires.room)

pub returns-clause-joins : goal.returns-clause-joins
returns-clause-joins g c = subst (λ (v : Deferring). Leaves (record { due = c.args.due; message = c.args.message }) (waiting_of c.insert.new.self.entries) v.waiting) c.self.view_is (waiting_leaves c.insert.ensures.one)

pub returns-clause-spare : goal.returns-clause-spare
returns-clause-spare g c = omega (arith, ap (λ (v : Deferring). v.spare) c.self.view_is, c.insert.ensures.spare)

pub returns-clause-steps : goal.returns-clause-steps
returns-clause-steps g c =
    subst (λ (v : Deferring). CostsCalls 1 (length v.waiting) c.args.steps.now c.insert.new.steps) c.self.view_is (one_call waiting_in c.self.inside.heap.entries c.args.steps.now c.insert.new.steps c.insert.ensures.steps)
