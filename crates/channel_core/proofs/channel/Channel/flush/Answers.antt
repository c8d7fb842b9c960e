use Rattle.std.proofs.Common.{◌≤◌, ◌∙◌, length, refl, sym, ap, arith}
use Rattle.std.proofs.lemmas.Bool.{false≢true}
use Rattle.broker_history.specs.State.{is_ephemeral_channel}
use Rattle.channel_copies.specs.Putting.{around}
use Rattle.channel_core.specs.Seen.{Seen}
use Rattle.channel_core.proofs.Keeping.{costs_all, costs_first, durable_queue, keeps_of, nothing_lent, still_named, still_whole}
use Rattle.channel_copies.proofs.Capacity.{flush_capacity}
use Rattle.channel_core.proofs.Storing.{flush_empties, flush_fails, flush_leaves, flush_stores}
use Rattle.channel_copies.proofs.Wrote.{keeps_joined, keeps_none, rose_later, same_there}
use Rattle.channel_core.proofs.channel.Channel.flush.Goals as goal

pub write_flights-requires-clause-durable : goal.write_flights-requires-clause-durable
write_flights-requires-clause-durable g c = durable_queue _ _ c.self.invariant.named (sym c.is_ephemeral.ensures ∙ c.if-is_ephemeral.false)

pub write_flights-requires-clause-nothing : goal.write_flights-requires-clause-nothing
write_flights-requires-clause-nothing g c = nothing_lent (ap (λ (v : Seen). v.drawn) c.self.view_is ∙ c.requires.nothing) c.self.invariant

pub invariant_of-self : goal.invariant_of-self
invariant_of-self g c =
    let named = still_named _ _ c.write_flights.new.backlog c.self.invariant.named c.write_flights.ensures.disk.queue c.write_flights.ensures.capacity in
    still_whole c.write_flights.new.backlog c.write_flights.new.flights c.self.inside.deferred c.self.inside.drawn c.self.invariant named (ap (λ (v : Seen). v.drawn) c.self.view_is ∙ c.requires.nothing) c.write_flights.ensures.nothing_now
    (omega (arith, c.in-Fault.ensures.left, c.self.invariant.room))

pub invariant_of-self-in-Fault-write_deferred : goal.invariant_of-self-in-Fault-write_deferred
invariant_of-self-in-Fault-write_deferred g c =
    let flew = still_named _ _ c.write_flights.new.backlog c.self.invariant.named c.write_flights.ensures.disk.queue c.write_flights.ensures.capacity in
    let named = still_named _ _ c.write_deferred.new.backlog flew c.write_deferred.ensures.disk.queue c.write_deferred.ensures.capacity in
    still_whole c.write_deferred.new.backlog c.write_flights.new.flights c.write_deferred.new.deferred c.self.inside.drawn c.self.invariant named (ap (λ (v : Seen). v.drawn) c.self.view_is ∙ c.requires.nothing) c.write_deferred.ensures.nothing_now
    (omega (arith, ap length c.in-Done.ensures.left))

pub invariant_of-self-2 : goal.invariant_of-self-2
invariant_of-self-2 g c =
    let flew = still_named _ _ c.write_flights.new.backlog c.self.invariant.named c.write_flights.ensures.disk.queue c.write_flights.ensures.capacity in
    let waited = still_named _ _ c.write_deferred.new.backlog flew c.write_deferred.ensures.disk.queue c.write_deferred.ensures.capacity in
    let named = still_named _ _ c.flush.new.self waited c.flush.ensures.queue (flush_capacity _ _ _ c.flush.ensures.seen) in
    still_whole c.flush.new.self c.write_flights.new.flights c.write_deferred.new.deferred c.self.inside.drawn c.self.invariant named (ap (λ (v : Seen). v.drawn) c.self.view_is ∙ c.requires.nothing) c.flush.ensures.nothing_now
    (omega (arith, ap length c.in-Done.ensures.left))

pub returns-in-Fault-write_deferred : goal.returns-in-Fault-write_deferred
returns-in-Fault-write_deferred g c = record {
  found = λ told disk on stands. tt;
  empties = tt;
  stores = λ told disk on. tt;
  ephemeral = λ ephemeral. absurd (false≢true (sym (sym c.is_ephemeral.ensures ∙ c.if-is_ephemeral.false) ∙ (ap (λ (v : Seen). is_ephemeral_channel v.about.topic v.about.name) c.self.view_is ∙ ephemeral)));
  idle = λ ephemeral. absurd (false≢true (sym (sym c.is_ephemeral.ensures ∙ c.if-is_ephemeral.false) ∙ (ap (λ (v : Seen). is_ephemeral_channel v.about.topic v.about.name) c.self.view_is ∙ ephemeral)));
  rest = ap (λ (v : Seen). record v { backlog = c.write_deferred.new.backlog; flights = c.write_flights.new.flights.flights; deferred = c.write_deferred.new.deferred.waiting; spare = c.write_flights.new.flights.spare; deferred_spare = c.write_deferred.new.deferred.spare }) c.self.view_is;
  nothing_now = ap (λ (v : Seen). v.drawn) c.self.view_is ∙ c.requires.nothing;
  disk =
      let files = g.F.Folder.files in
      let count = g.F.Folder.folder_faults in
      let now = around c.write_deferred.new.backlog (files c.write_deferred.new.folder) (count c.write_deferred.new.folder) in
      keeps_of (files c.args.folder.now) (count c.args.folder.now) now c.self.view_is
      (keeps_joined (around c.self.inside.backlog (files c.args.folder.now) (count c.args.folder.now)) (around c.write_flights.new.backlog (files c.write_flights.new.folder) (count c.write_flights.new.folder)) now
      c.write_flights.ensures.disk c.write_deferred.ensures.disk);
  cause = rose_later (g.F.Folder.folder_faults c.args.folder.now) (g.F.Folder.folder_faults c.write_flights.new.folder) (g.F.Folder.folder_faults c.write_deferred.new.folder) c.write_flights.ensures.disk.faults c.in-Fault-write_deferred.ensures.cause;
  steps = costs_all c.args.steps.now c.write_flights.new.steps c.write_deferred.new.steps c.self.view_is c.write_flights.ensures.steps c.write_deferred.ensures.steps;
}

pub returns : goal.returns
returns g c =
    let faults = g.F.Folder.folder_faults in
    let low : faults c.args.folder.now ≤ faults c.write_deferred.new.folder = omega (arith, c.write_flights.ensures.disk.faults, c.write_deferred.ensures.disk.faults) in
    let files = g.F.Folder.files in
    let count = g.F.Folder.folder_faults in
    let first = around c.self.inside.backlog (files c.args.folder.now) (count c.args.folder.now) in
    let flew = around c.write_flights.new.backlog (files c.write_flights.new.folder) (count c.write_flights.new.folder) in
    let waited = around c.write_deferred.new.backlog (files c.write_deferred.new.folder) (count c.write_deferred.new.folder) in
    let now = around c.flush.new.self (files c.flush.new.folder) (count c.flush.new.folder) in
    let kept = keeps_joined first flew waited c.write_flights.ensures.disk c.write_deferred.ensures.disk in
    let flown = still_named _ _ c.write_flights.new.backlog c.self.invariant.named c.write_flights.ensures.disk.queue c.write_flights.ensures.capacity in
    let named = still_named _ _ c.write_deferred.new.backlog flown c.write_deferred.ensures.disk.queue c.write_deferred.ensures.capacity in
    let durable = durable_queue _ _ c.self.invariant.named (sym c.is_ephemeral.ensures ∙ c.if-is_ephemeral.false) in
    record {
      found = λ told disk on stands. let stood = (keeps_of (files c.args.folder.now) (count c.args.folder.now) waited c.self.view_is kept).stands told stands in flush_leaves (files c.args.folder.now) (count c.args.folder.now) flew waited (files c.flush.new.folder) disk c.flush.result c.self.view_is told on c.in-Done.ensures.stores c.in-Done-write_deferred.ensures.stores (same_there _ _ kept.queue durable) named (λ d there. c.flush.ensures.found told d there stood);
      empties = flush_empties c.args.self.now.about c.write_deferred.new.backlog c.flush.result _ c.flush.ensures.seen c.in-Done.ensures.left c.in-Done-write_deferred.ensures.left;
      stores = λ told disk on. flush_stores (files c.args.folder.now) (count c.args.folder.now) flew waited _ (files c.flush.new.folder) disk c.flush.result c.self.view_is told on c.in-Done.ensures.stores c.in-Done-write_deferred.ensures.stores c.flush.ensures.seen (λ d there. c.flush.ensures.list told d there);
      ephemeral = λ ephemeral. absurd (false≢true (sym (sym c.is_ephemeral.ensures ∙ c.if-is_ephemeral.false) ∙ (ap (λ (v : Seen). is_ephemeral_channel v.about.topic v.about.name) c.self.view_is ∙ ephemeral)));
      idle = λ ephemeral. absurd (false≢true (sym (sym c.is_ephemeral.ensures ∙ c.if-is_ephemeral.false) ∙ (ap (λ (v : Seen). is_ephemeral_channel v.about.topic v.about.name) c.self.view_is ∙ ephemeral)));
      rest = ap (λ (v : Seen). record v { backlog = c.flush.new.self; flights = c.write_flights.new.flights.flights; deferred = c.write_deferred.new.deferred.waiting; spare = c.write_flights.new.flights.spare; deferred_spare = c.write_deferred.new.deferred.spare }) c.self.view_is;
      nothing_now = ap (λ (v : Seen). v.drawn) c.self.view_is ∙ c.requires.nothing;
      disk = keeps_of (files c.args.folder.now) (count c.args.folder.now) now c.self.view_is (keeps_joined first waited now (keeps_joined first flew waited c.write_flights.ensures.disk c.write_deferred.ensures.disk) (record { queue = c.flush.ensures.queue; stands = c.flush.ensures.stands; others = c.flush.ensures.others; faults = c.flush.ensures.faults }));
      cause = flush_fails (faults c.args.folder.now) (faults c.write_deferred.new.folder) (faults c.flush.new.folder) c.flush.result low c.flush.ensures.cause;
      steps = costs_all c.args.steps.now c.write_flights.new.steps c.write_deferred.new.steps c.self.view_is c.write_flights.ensures.steps c.write_deferred.ensures.steps;
    }

pub returns-in-Fault : goal.returns-in-Fault
returns-in-Fault g c = record {
  found = λ told disk on stands. tt;
  empties = tt;
  stores = λ told disk on. tt;
  ephemeral = λ ephemeral. absurd (false≢true (sym (sym c.is_ephemeral.ensures ∙ c.if-is_ephemeral.false) ∙ (ap (λ (v : Seen). is_ephemeral_channel v.about.topic v.about.name) c.self.view_is ∙ ephemeral)));
  idle = λ ephemeral. absurd (false≢true (sym (sym c.is_ephemeral.ensures ∙ c.if-is_ephemeral.false) ∙ (ap (λ (v : Seen). is_ephemeral_channel v.about.topic v.about.name) c.self.view_is ∙ ephemeral)));
  rest = ap (λ (v : Seen). record v { backlog = c.write_flights.new.backlog; flights = c.write_flights.new.flights.flights; deferred = c.self.inside.deferred.waiting; spare = c.write_flights.new.flights.spare; deferred_spare = c.self.inside.deferred.spare }) c.self.view_is;
  nothing_now = ap (λ (v : Seen). v.drawn) c.self.view_is ∙ c.requires.nothing;
  disk =
      let files = g.F.Folder.files in
      let count = g.F.Folder.folder_faults in
      keeps_of (files c.args.folder.now) (count c.args.folder.now) (around c.write_flights.new.backlog (files c.write_flights.new.folder) (count c.write_flights.new.folder)) c.self.view_is c.write_flights.ensures.disk;
  cause = c.in-Fault.ensures.cause;
  steps = costs_first c.args.steps.now c.write_flights.new.steps c.self.view_is c.write_flights.ensures.steps;
}

pub write_deferred-requires-clause-durable : goal.write_deferred-requires-clause-durable
write_deferred-requires-clause-durable g c = same_there _ _ c.write_flights.ensures.disk.queue (durable_queue _ _ c.self.invariant.named (sym c.is_ephemeral.ensures ∙ c.if-is_ephemeral.false))

pub write_deferred-requires-clause-nothing : goal.write_deferred-requires-clause-nothing
write_deferred-requires-clause-nothing g c = c.write_flights.ensures.nothing_now

pub flush-requires-clause-durable : goal.flush-requires-clause-durable
flush-requires-clause-durable g c = same_there _ _ c.write_deferred.ensures.disk.queue (same_there _ _ c.write_flights.ensures.disk.queue (durable_queue _ _ c.self.invariant.named (sym c.is_ephemeral.ensures ∙ c.if-is_ephemeral.false)))

pub flush-requires-clause-nothing : goal.flush-requires-clause-nothing
flush-requires-clause-nothing g c = c.write_deferred.ensures.nothing_now

pub returns-then-is_ephemeral : goal.returns-then-is_ephemeral
returns-then-is_ephemeral g c = record {
  found = λ told disk on stands durable. absurd (false≢true (sym durable ∙ (sym (ap (λ (v : Seen). is_ephemeral_channel v.about.topic v.about.name) c.self.view_is) ∙ (sym c.is_ephemeral.ensures ∙ c.if-is_ephemeral.true))));
  empties = λ durable. absurd (false≢true (sym durable ∙ (sym (ap (λ (v : Seen). is_ephemeral_channel v.about.topic v.about.name) c.self.view_is) ∙ (sym c.is_ephemeral.ensures ∙ c.if-is_ephemeral.true))));
  stores = λ told disk on durable. absurd (false≢true (sym durable ∙ (sym (ap (λ (v : Seen). is_ephemeral_channel v.about.topic v.about.name) c.self.view_is) ∙ (sym c.is_ephemeral.ensures ∙ c.if-is_ephemeral.true))));
  ephemeral = λ ephemeral. refl;
  idle = λ ephemeral. (refl, refl, refl);
  rest = refl;
  nothing_now = c.requires.nothing;
  disk = keeps_none g.F.Folder.tells_files (around c.args.self.now.backlog (g.F.Folder.files c.args.folder.now) (g.F.Folder.folder_faults c.args.folder.now));
  cause = tt;
  steps = λ d e few less. omega arith;
}
