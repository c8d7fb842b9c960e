use Rattle.std.proofs.Common.{sym, ap, subst, length, ◌∙◌}
use Rattle.due_heap.specs.Heap.{Entry}
use Rattle.v2_frame.specs.declared.message.Message.{Message}
use Rattle.backlog.specs.Seen.{FitsLimit}
use Rattle.channel_copies.specs.Flights.{CostsCalls, Leaves}
use Rattle.channel_copies.specs.Deferred.{Deferring, waiting_in, waiting_of}
use Rattle.channel_copies.proofs.Counts.{all-out}
use Rattle.channel_copies.proofs.Heaps.{first_live, no_waiting, one_call, waiting_leaves}
use Rattle.channel_copies.proofs.deferred.Deferred.pop.Goals as goal

pub returns-in_default-clause-none : goal.returns-in_default-clause-none
returns-in_default-clause-none g c = ap (λ (v : Deferring). v.waiting) (sym c.self.view_is) ∙ no_waiting 0 c.self.inside.heap.entries c.first.result c.first.ensures.is c.in_default.is

pub invariant_of-self : goal.invariant_of-self
invariant_of-self g c = (all-out (λ (e : Entry Message). FitsLimit e.item) c.remove.ensures.one.1 c.self.invariant).1

pub returns-clause-short : goal.returns-clause-short
returns-clause-short g c = (all-out (λ (e : Entry Message). FitsLimit e.item) c.remove.ensures.one.1 c.self.invariant).0

pub remove-requires : goal.remove-requires
remove-requires g c = first_live c.self.inside.heap.entries c.first.result _ c.first.ensures.is c.in-Some.is c.in-Some.ensures.live

pub returns-clause-leaves : goal.returns-clause-leaves
returns-clause-leaves g c =
    let out = c.remove.ensures.one in
    (out.0, subst (λ (v : Deferring). Leaves (record { due = out.0; message = c.remove.result }) v.waiting (waiting_of c.remove.new.self.entries)) c.self.view_is (waiting_leaves out.1))

pub returns-clause-steps : goal.returns-clause-steps
returns-clause-steps g c =
    subst (λ (v : Deferring). CostsCalls 1 (length v.waiting) c.args.steps.now c.remove.new.steps) c.self.view_is (one_call waiting_in c.self.inside.heap.entries c.args.steps.now c.remove.new.steps c.remove.ensures.steps)
