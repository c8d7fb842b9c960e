use Rattle.std.proofs.Common.{List, length, refl, sym, ap, subst, ◌∙◌, arith}
use Rattle.channel_copies.specs.Deferred.{Deferring, Waiting}
use Rattle.channel_copies.specs.Flights.{CostsCalls}
use Rattle.channel_copies.specs.Putting.{around}
use Rattle.channel_copies.proofs.Counts.{shorter}
use Rattle.channel_copies.specs.Storing.{Stores, deferred_messages}
use Rattle.channel_copies.proofs.Wrote.{keeps_joined, keeps_none, rose_later, same_there, spends_all, spends_next, spends_none, stores_next, stores_none, when_none, deferred_less}
use Rattle.channel_copies.proofs.writing.write_deferred.Goals as goal

pub loop-message-smaller : goal.loop-message-smaller
loop-message-smaller g c = omega (arith, shorter (record { due = c.in-Some.ensures.leaves.0; message = c.in-Some.message }) c.loop-message.deferred.waiting c.pop.new.self.waiting c.in-Some.ensures.leaves.1)

pub loop-message-preserved : goal.loop-message-preserved
loop-message-preserved g c =
    let files = g.F.Folder.files in
    let count = g.F.Folder.folder_faults in
    let first = around c.args.backlog.now (files c.args.folder.now) (count c.args.folder.now) in
    let before = around c.loop-message.backlog (files c.loop-message.folder) (count c.loop-message.folder) in
    let now = around c.write_one.new.backlog (files c.write_one.new.folder) (count c.write_one.new.folder) in
    let less = shorter (record { due = c.in-Some.ensures.leaves.0; message = c.in-Some.message }) c.loop-message.deferred.waiting c.pop.new.self.waiting c.in-Some.ensures.leaves.1 in
    let kept = c.loop-message.invariant in
    record {
      fewer = omega (arith, less, kept.fewer);
      durable = same_there c.loop-message.backlog.queue c.write_one.new.backlog.queue c.write_one.ensures.disk.queue kept.durable;
      nothing = c.write_one.ensures.nothing_now;
      capacity = c.write_one.ensures.capacity ∙ kept.capacity;
      stores = stores_next first before now (deferred_less c.in-Some.ensures.leaves.0 c.in-Some.message c.loop-message.deferred.waiting c.pop.new.self.waiting c.in-Some.ensures.leaves.1) kept.stores c.in-Done.ensures.stores;
      disk = keeps_joined first before now kept.disk c.write_one.ensures.disk;
      steps = spends_next (length c.args.deferred.now.waiting) (length c.loop-message.deferred.waiting) (length c.pop.new.self.waiting) c.args.steps.now c.loop-message.steps c.pop.new.steps kept.fewer less kept.steps c.pop.ensures.steps;
    }

pub returns-in-Fault-clause-left : goal.returns-in-Fault-clause-left
returns-in-Fault-clause-left g c = omega (arith, shorter (record { due = c.in-Some.ensures.leaves.0; message = c.in-Some.message }) c.loop-message.deferred.waiting c.pop.new.self.waiting c.in-Some.ensures.leaves.1, c.loop-message.invariant.fewer)

pub returns-in-Fault-clause-disk : goal.returns-in-Fault-clause-disk
returns-in-Fault-clause-disk g c =
    let files = g.F.Folder.files in
    let count = g.F.Folder.folder_faults in
    keeps_joined (around c.args.backlog.now (files c.args.folder.now) (count c.args.folder.now)) (around c.loop-message.backlog (files c.loop-message.folder) (count c.loop-message.folder)) (around c.write_one.new.backlog (files c.write_one.new.folder) (count c.write_one.new.folder))
    c.loop-message.invariant.disk c.write_one.ensures.disk

pub returns-in-Fault-clause-steps : goal.returns-in-Fault-clause-steps
returns-in-Fault-clause-steps g c =
    let less = shorter (record { due = c.in-Some.ensures.leaves.0; message = c.in-Some.message }) c.loop-message.deferred.waiting c.pop.new.self.waiting c.in-Some.ensures.leaves.1 in
    let all = length c.args.deferred.now.waiting in
    let left = length c.pop.new.self.waiting in
    spends_all all left c.args.steps.now c.pop.new.steps (spends_next all (length c.loop-message.deferred.waiting) left c.args.steps.now c.loop-message.steps c.pop.new.steps c.loop-message.invariant.fewer less c.loop-message.invariant.steps c.pop.ensures.steps)

pub loop-message-init : goal.loop-message-init
loop-message-init g c =
    let now = around c.args.backlog.now (g.F.Folder.files c.args.folder.now) (g.F.Folder.folder_faults c.args.folder.now) in
    record {
      fewer = omega arith;
      durable = c.requires.durable;
      nothing = c.requires.nothing;
      capacity = refl;
      stores = stores_none g.F.Folder.tells_files (deferred_messages c.args.deferred.now.waiting) now;
      disk = keeps_none g.F.Folder.tells_files now;
      steps = spends_none (length c.args.deferred.now.waiting) c.args.steps.now;
    }

pub write_one-requires-clause-short : goal.write_one-requires-clause-short
write_one-requires-clause-short g c = c.in-Some.ensures.short

pub returns-in-Fault-clause-capacity : goal.returns-in-Fault-clause-capacity
returns-in-Fault-clause-capacity g c = c.write_one.ensures.capacity ∙ c.loop-message.invariant.capacity

pub returns-in-Fault-clause-cause : goal.returns-in-Fault-clause-cause
returns-in-Fault-clause-cause g c =
    let faults = g.F.Folder.folder_faults in
    rose_later (faults c.args.folder.now) (faults c.loop-message.folder) (faults c.write_one.new.folder) c.loop-message.invariant.disk.faults c.in-Fault.ensures.cause

pub returns-clause-left : goal.returns-clause-left
returns-clause-left g c = ap (λ (x : Deferring). x.waiting) (when_none c.in_default.is c.pop.ensures.none_stays) ∙ when_none c.in_default.is c.pop.ensures.none

pub returns-clause-stores : goal.returns-clause-stores
returns-clause-stores g c =
    let files = g.F.Folder.files in
    let count = g.F.Folder.folder_faults in
    let before = around c.args.backlog.now (files c.args.folder.now) (count c.args.folder.now) in
    let now = around c.loop-message.backlog (files c.loop-message.folder) (count c.loop-message.folder) in
    subst (λ (xs : List Waiting). Stores g.F.Folder.tells_files (deferred_messages c.args.deferred.now.waiting) (deferred_messages xs) before now) (when_none c.in_default.is c.pop.ensures.none) c.loop-message.invariant.stores

pub returns-clause-disk : goal.returns-clause-disk
returns-clause-disk g c = c.loop-message.invariant.disk

pub returns-clause-steps : goal.returns-clause-steps
returns-clause-steps g c =
    let all = length c.args.deferred.now.waiting in
    subst (λ now. CostsCalls all all c.args.steps.now now) (sym (when_none c.in_default.is c.pop.ensures.none_free)) (spends_all all (length c.loop-message.deferred.waiting) c.args.steps.now c.loop-message.steps c.loop-message.invariant.steps)
