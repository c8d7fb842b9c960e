use Rattle.std.proofs.Common.{List, length, refl, sym, ap, subst, ◌∙◌, arith}
use Rattle.channel_copies.specs.declared.flight.Flight.{Flight}
use Rattle.channel_copies.specs.Flights.{CostsCalls, Flying}
use Rattle.channel_copies.specs.Putting.{around}
use Rattle.channel_copies.proofs.Counts.{shorter}
use Rattle.channel_copies.specs.Storing.{Stores, flying_messages}
use Rattle.channel_copies.proofs.Wrote.{keeps_joined, keeps_none, rose_later, same_there, spends_all, spends_next, spends_none, stores_next, stores_none, when_none, flying_less}
use Rattle.channel_copies.proofs.writing.write_flights.Goals as goal

pub loop-flight-smaller : goal.loop-flight-smaller
loop-flight-smaller g c = omega (arith, shorter c.in-Some.flight c.loop-flight.flights.flights c.pop.new.self.flights c.in-Some.ensures.leaves)

pub loop-flight-preserved : goal.loop-flight-preserved
loop-flight-preserved g c =
    let files = g.F.Folder.files in
    let count = g.F.Folder.folder_faults in
    let first = around c.args.backlog.now (files c.args.folder.now) (count c.args.folder.now) in
    let before = around c.loop-flight.backlog (files c.loop-flight.folder) (count c.loop-flight.folder) in
    let now = around c.write_one.new.backlog (files c.write_one.new.folder) (count c.write_one.new.folder) in
    let less = shorter c.in-Some.flight c.loop-flight.flights.flights c.pop.new.self.flights c.in-Some.ensures.leaves in
    let kept = c.loop-flight.invariant in
    record {
      fewer = omega (arith, less, kept.fewer);
      durable = same_there c.loop-flight.backlog.queue c.write_one.new.backlog.queue c.write_one.ensures.disk.queue kept.durable;
      nothing = c.write_one.ensures.nothing_now;
      capacity = c.write_one.ensures.capacity ∙ kept.capacity;
      stores = stores_next first before now (flying_less c.in-Some.flight c.loop-flight.flights.flights c.pop.new.self.flights c.in-Some.ensures.leaves) kept.stores c.in-Done.ensures.stores;
      disk = keeps_joined first before now kept.disk c.write_one.ensures.disk;
      steps = spends_next (length c.args.flights.now.flights) (length c.loop-flight.flights.flights) (length c.pop.new.self.flights) c.args.steps.now c.loop-flight.steps c.pop.new.steps kept.fewer less kept.steps c.pop.ensures.steps;
    }

pub returns-in-Fault-clause-left : goal.returns-in-Fault-clause-left
returns-in-Fault-clause-left g c = omega (arith, shorter c.in-Some.flight c.loop-flight.flights.flights c.pop.new.self.flights c.in-Some.ensures.leaves, c.loop-flight.invariant.fewer)

pub returns-in-Fault-clause-disk : goal.returns-in-Fault-clause-disk
returns-in-Fault-clause-disk g c =
    let files = g.F.Folder.files in
    let count = g.F.Folder.folder_faults in
    keeps_joined (around c.args.backlog.now (files c.args.folder.now) (count c.args.folder.now)) (around c.loop-flight.backlog (files c.loop-flight.folder) (count c.loop-flight.folder)) (around c.write_one.new.backlog (files c.write_one.new.folder) (count c.write_one.new.folder))
    c.loop-flight.invariant.disk c.write_one.ensures.disk

pub returns-in-Fault-clause-steps : goal.returns-in-Fault-clause-steps
returns-in-Fault-clause-steps g c =
    let less = shorter c.in-Some.flight c.loop-flight.flights.flights c.pop.new.self.flights c.in-Some.ensures.leaves in
    let all = length c.args.flights.now.flights in
    let left = length c.pop.new.self.flights in
    spends_all all left c.args.steps.now c.pop.new.steps (spends_next all (length c.loop-flight.flights.flights) left c.args.steps.now c.loop-flight.steps c.pop.new.steps c.loop-flight.invariant.fewer less c.loop-flight.invariant.steps c.pop.ensures.steps)

pub loop-flight-init : goal.loop-flight-init
loop-flight-init g c =
    let now = around c.args.backlog.now (g.F.Folder.files c.args.folder.now) (g.F.Folder.folder_faults c.args.folder.now) in
    record {
      fewer = omega arith;
      durable = c.requires.durable;
      nothing = c.requires.nothing;
      capacity = refl;
      stores = stores_none g.F.Folder.tells_files (flying_messages c.args.flights.now.flights) now;
      disk = keeps_none g.F.Folder.tells_files now;
      steps = spends_none (length c.args.flights.now.flights) c.args.steps.now;
    }

pub write_one-requires-clause-short : goal.write_one-requires-clause-short
write_one-requires-clause-short g c = c.in-Some.ensures.short

pub returns-in-Fault-clause-capacity : goal.returns-in-Fault-clause-capacity
returns-in-Fault-clause-capacity g c = c.write_one.ensures.capacity ∙ c.loop-flight.invariant.capacity

pub returns-in-Fault-clause-cause : goal.returns-in-Fault-clause-cause
returns-in-Fault-clause-cause g c =
    let faults = g.F.Folder.folder_faults in
    rose_later (faults c.args.folder.now) (faults c.loop-flight.folder) (faults c.write_one.new.folder) c.loop-flight.invariant.disk.faults c.in-Fault.ensures.cause

pub returns-clause-left : goal.returns-clause-left
returns-clause-left g c = ap (λ (x : Flying). x.flights) (when_none c.in_default.is c.pop.ensures.none_stays) ∙ when_none c.in_default.is c.pop.ensures.none

pub returns-clause-stores : goal.returns-clause-stores
returns-clause-stores g c =
    let files = g.F.Folder.files in
    let count = g.F.Folder.folder_faults in
    let before = around c.args.backlog.now (files c.args.folder.now) (count c.args.folder.now) in
    let now = around c.loop-flight.backlog (files c.loop-flight.folder) (count c.loop-flight.folder) in
    subst (λ (xs : List Flight). Stores g.F.Folder.tells_files (flying_messages c.args.flights.now.flights) (flying_messages xs) before now) (when_none c.in_default.is c.pop.ensures.none) c.loop-flight.invariant.stores

pub returns-clause-disk : goal.returns-clause-disk
returns-clause-disk g c = c.loop-flight.invariant.disk

pub returns-clause-steps : goal.returns-clause-steps
returns-clause-steps g c =
    let all = length c.args.flights.now.flights in
    subst (λ now. CostsCalls all all c.args.steps.now now) (sym (when_none c.in_default.is c.pop.ensures.none_free)) (spends_all all (length c.loop-flight.flights.flights) c.args.steps.now c.loop-flight.steps c.loop-flight.invariant.steps)
