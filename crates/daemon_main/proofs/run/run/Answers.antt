use Rattle.std.proofs.Common.{◌∙◌, ap}
use Rattle.broker_floor.specs.Floors.{scene_of}
use Rattle.daemon_main.proofs.Causes.{parts}
use Rattle.daemon_main.proofs.run.run.Goals as goal

pub returns-clause-runs : goal.returns-clause-runs
returns-clause-runs g c =
    let over = c.serve_callers-looped.ensures.over in
    let middle = c.serve_callers-looped.new.floor in
    let end = c.stop-stopped.new.floor in
    record {
      looped = c.serve_callers-looped.result;
      stopped = c.stop-stopped.result;
      shutting = c.shut-shutting.result.0;
      ended_is = c.ending_after.ensures;
      number = over.number;
      middle = scene_of middle;
      rounds = over.rounds;
      why = over.why;
      failed = c.serve_callers-looped.ensures.cause;
      last = scene_of end;
      leads = c.stop-stopped.ensures.leads.1;
      adds = c.stop-stopped.ensures.adds;
      noted = c.stop-stopped.ensures.noted;
      same_notes = ap g.H.Journal.Journal.notes c.shut-shutting.ensures.journal;
      same_coming = ap g.H.Clock.Clock.coming c.shut-shutting.ensures.clock;
      later = c.shut-shutting.ensures.faults;
      shut_fails = c.shut-shutting.ensures.cause;
      left = c.shut-shutting.ensures.left;
      changes = c.shut-shutting.ensures.files;
    }

pub shut-shutting-requires : goal.shut-shutting-requires
shut-shutting-requires g c = record { unflushed = c.stop-stopped.ensures.leads.0 ∙ c.serve_callers-looped.ensures.unflushed }

pub returns-clause-rest : goal.returns-clause-rest
returns-clause-rest g c = let over = c.serve_callers-looped.ensures.over in over.rounds.rest

pub returns-clause-listeners : goal.returns-clause-listeners
returns-clause-listeners g c = λ told is. let p = parts c.serve_callers-looped.result c.stop-stopped.result c.shut-shutting.result.0 c.ending_after.result c.ending_after.ensures in c.serve_callers-looped.ensures.listeners told (p.loop_failed is)
