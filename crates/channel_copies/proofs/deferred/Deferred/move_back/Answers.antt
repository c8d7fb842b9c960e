use Rattle.std.proofs.Common.{◌<◌, sym, ap, subst, length, arith}
use Rattle.due_heap.specs.Heap.{Entry}
use Rattle.v2_frame.specs.declared.message.Message.{Message}
use Rattle.backlog.specs.Seen.{FitsLimit}
use Rattle.broker_history.specs.Channels.{AsOften}
use Rattle.channel_copies.specs.Deferred.{Deferring, FirstWentBack, waiting_in, waiting_of}
use Rattle.channel_copies.specs.Flights.{CostsCalls}
use Rattle.channel_copies.specs.Putting.{around}
use Rattle.channel_copies.proofs.Counts.{all-in}
use Rattle.channel_copies.proofs.Heaps.{one_of_two, two_calls, fewer, some_first, some_popped, if_some, on_some, popped_first, popped_leaves, popped_short, told_at, waits_again, taken_by}
use Rattle.channel_copies.proofs.deferred.Deferred.move_back.Goals as goal

pub unwrap-due-requires : goal.unwrap-due-requires
unwrap-due-requires g c = some_first c.self.inside.heap.entries c.first.result (subst (λ (v : Deferring). 0 < length v.waiting) (sym c.self.view_is) c.requires.there) c.first.ensures.is

pub unwrap-message-requires : goal.unwrap-message-requires
unwrap-message-requires g c = some_popped c.self.inside.heap.entries c.first.result _ c.pop_due.result c.first.ensures.is c.unwrap-due.ensures c.pop_due.ensures.none

pub put_back-requires-clause-short : goal.put_back-requires-clause-short
put_back-requires-clause-short g c = (popped_short (if_some _ c.unwrap-message.ensures c.pop_due.ensures.first) c.self.invariant).0

pub invariant_of-self : goal.invariant_of-self
invariant_of-self g c = (popped_short (if_some _ c.unwrap-message.ensures c.pop_due.ensures.first) c.self.invariant).1

pub invariant_of-self-in-Fault : goal.invariant_of-self-in-Fault
invariant_of-self-in-Fault g c =
    let short = popped_short (if_some _ c.unwrap-message.ensures c.pop_due.ensures.first) c.self.invariant in
    all-in (λ (e : Entry Message). FitsLimit e.item) c.insert.ensures.one (subst FitsLimit (sym c.in-Fault.ensures.seen.0) short.0) short.1

pub returns-in-Kept : goal.returns-in-Kept
returns-in-Kept g c =
    let t = if_some _ c.unwrap-message.ensures c.pop_due.ensures.first in
    let before = around c.args.backlog.now (g.F.Folder.files c.args.folder.now) (g.F.Folder.folder_faults c.args.folder.now) in
    let after = around c.put_back.new.backlog (g.F.Folder.files c.put_back.new.folder) (g.F.Folder.folder_faults c.put_back.new.folder) in
    record {
      moves = subst (λ (v : Deferring). FirstWentBack g.F.Folder.tells_files v.waiting (waiting_of c.pop_due.new.self.entries) before after) c.self.view_is (record {
        waiting = record { due = t.entry.due; message = c.unwrap-message.result };
        first = popped_first t;
        leaves = popped_leaves t;
        answer = c.put_back.result;
        taken = taken_by c.put_back.result c.in-Kept.is;
        puts = c.put_back.ensures;
      });
      spare = omega (arith, on_some c.unwrap-message.ensures c.pop_due.ensures.spare, ap (λ (v : Deferring). v.spare) c.self.view_is);
      steps = subst (λ (v : Deferring). CostsCalls 2 (length v.waiting) c.args.steps.now c.pop_due.new.steps) c.self.view_is (one_of_two _ c.self.inside.heap.entries c.args.steps.now c.pop_due.new.steps c.pop_due.ensures.steps);
    }

pub returns-in-Fault-clause-moves : goal.returns-in-Fault-clause-moves
returns-in-Fault-clause-moves g c =
    let t = if_some _ c.unwrap-message.ensures c.pop_due.ensures.first in
    record {
      often = subst (λ (v : Deferring). AsOften v.waiting (waiting_of c.insert.new.self.entries)) c.self.view_is (waits_again t c.in-Fault.ensures.seen.0 (told_at c.self.inside.heap.entries c.first.result _ t.entry c.first.ensures.is c.unwrap-due.ensures t.first) c.insert.ensures.one);
      message = c.unwrap-message.result;
      back = c.in-Fault.message;
      puts = c.in-Fault.ensures;
    }

pub insert-requires : goal.insert-requires
insert-requires g c = omega (arith, on_some c.unwrap-message.ensures c.pop_due.ensures.spare)

pub returns-in-Fault-clause-spare : goal.returns-in-Fault-clause-spare
returns-in-Fault-clause-spare g c = omega (arith, on_some c.unwrap-message.ensures c.pop_due.ensures.spare, c.insert.ensures.spare, ap (λ (v : Deferring). v.spare) c.self.view_is)

pub returns-in-Fault-clause-steps : goal.returns-in-Fault-clause-steps
returns-in-Fault-clause-steps g c =
    let t = if_some _ c.unwrap-message.ensures c.pop_due.ensures.first in
    subst (λ (v : Deferring). CostsCalls 2 (length v.waiting) c.args.steps.now c.insert.new.steps) c.self.view_is
    (two_calls waiting_in c.self.inside.heap.entries c.pop_due.new.self.entries c.args.steps.now c.pop_due.new.steps c.insert.new.steps (fewer t.out) c.pop_due.ensures.steps c.insert.ensures.steps)
