use Rattle.std.proofs.Common.{◌≡◌, inl, inr, ◌∙◌, ap, subst, sym, refl}
use Rattle.std.specs.Prelude.{◌⊎◌}
use Rattle.daemon_endings.specs.Endings.{status_of}
use Rattle.daemon_main.specs.Endings.{IsCaused}
use Rattle.daemon_main.specs.Sights.{counts_of, sight}
use Rattle.daemon_endings.specs.declared.serving.ServeEnd.TheVariants as end
use Rattle.daemon_main.proofs.Asking.{same_callers}
use Rattle.daemon_main.proofs.Looping.{accepted_nobody, no_callers_change}
use Rattle.daemon_main.proofs.Causes.{refused_caused, refused_ends, refused_unfailed}
use Rattle.daemon_main.proofs.Opening.{opened, stood}
use Rattle.daemon_main.proofs.Running.{has_run, run_caused}
use Rattle.daemon_main.proofs.run.work.Goals as goal

pub open-requires-clause-options : goal.open-requires-clause-options
open-requires-clause-options g c = c.requires.options

pub open-requires-clause-aside : goal.open-requires-clause-aside
open-requires-clause-aside g c = c.requires.aside

pub open-requires-clause-empty : goal.open-requires-clause-empty
open-requires-clause-empty g c = c.requires.empty

pub run-requires-clause-options : goal.run-requires-clause-options
run-requires-clause-options g c κs within = c.requires.options

pub run-requires-clause-unflushed : goal.run-requires-clause-unflushed
run-requires-clause-unflushed g c κs within = c.in-Ok.ensures.hall.unflushed

pub run-requires-clause-empty : goal.run-requires-clause-empty
run-requires-clause-empty g c κs within = λ tells. ap g.H.Journal.Journal.notes c.in-Ok.ensures.journal ∙ c.requires.empty tells

pub returns-in-Ok : goal.returns-in-Ok
returns-in-Ok g c = record {
  worked = λ told bytes.
      let hall = c.in-Ok.ensures.hall in
      let old = sight g.H.Journal.Journal.notes g.H.Folder.Folder.files g.H.Clock.Clock.coming g.H.Folder.Folder.folder_faults c.args.kit (g.H.Host.state c.args.host.now) (g.H.Host.content c.args.host.now) in
      let new = sight g.H.Journal.Journal.notes g.H.Folder.Folder.files g.H.Clock.Clock.coming g.H.Folder.Folder.folder_faults c.run.result.1 (g.H.Host.state c.run.new.host) (g.H.Host.content c.run.new.host) in
      inr (has_run _ (record { host = told.host; pieces = told.pieces; written = told.written; notes = told.notes }) _ _ _ _ told.notes told.files told.readings _ c.args.options.now c.run.result.0 old new _
      (opened c.args.options.now old _ (c.in-Ok.ensures.finds told.files bytes) (c.in-Ok.ensures.stands told.files) hall.stuck (c.in-Ok.ensures.moment told.readings) (c.in-Ok.ensures.coming told.readings)
      (ap g.H.Journal.Journal.notes c.in-Ok.ensures.journal ∙ c.requires.empty told.notes) c.in-Ok.ensures.faults (c.in-Ok.ensures.files told.files)) _ (c.began-began.ensures ∙ hall.began_at ∙ c.in-Ok.ensures.moment told.readings) c.run.ensures.runs);
  rest = c.run.ensures.rest;
  state = c.run.ensures.state;
  cause =
      let old = sight g.H.Journal.Journal.notes g.H.Folder.Folder.files g.H.Clock.Clock.coming g.H.Folder.Folder.folder_faults c.args.kit (g.H.Host.state c.args.host.now) (g.H.Host.content c.args.host.now) in
      let new = sight g.H.Journal.Journal.notes g.H.Folder.Folder.files g.H.Clock.Clock.coming g.H.Folder.Folder.folder_faults c.run.result.1 (g.H.Host.state c.run.new.host) (g.H.Host.content c.run.new.host) in
      let hall = c.in-Ok.ensures.hall in
      run_caused _ _ _ _ _ _ c.args.options.now _ c.run.result.0 old new _ (g.H.Host.state c.args.host.now).accept_faults (g.H.Host.state c.run.new.host).accept_faults c.in-Ok.ensures.found
      (λ told tells bytes. stood c.args.options.now old _ (c.in-Ok.ensures.finds told bytes) (c.in-Ok.ensures.stands told) (ap g.H.Journal.Journal.notes c.in-Ok.ensures.journal ∙ c.requires.empty tells))
      c.in-Ok.ensures.faults hall.stuck c.run.ensures.runs;
  listeners = c.run.ensures.listeners;
}

pub returns-in-Err : goal.returns-in-Err
returns-in-Err g c = record {
  worked = λ told bytes. inl (record {
    empty = ap g.H.Journal.Journal.notes c.in-Err.ensures.back ∙ c.requires.empty told.notes;
    callers = same_callers (g.H.Host.content c.args.host.now) (g.H.Host.content c.args.host.now) refl;
    ends = subst (λ x. (status_of x ≡ 2) ⊎ (x ≡ end.Memory)) (sym c.refusal.ensures) (refused_ends c.in-Err.refused.why);
    again = c.in-Err.ensures.again told.files;
    others = c.in-Err.ensures.refused_files told.files;
  });
  rest = λ told. no_callers_change (g.H.Host.content c.args.host.now);
  state = accepted_nobody (g.H.Host.state c.args.host.now);
  cause =
      let before = counts_of g.H.Folder.Folder.folder_faults c.args.kit.folder (g.H.Host.state c.args.host.now) in
      let after = counts_of g.H.Folder.Folder.folder_faults c.in-Err.refused.kit.folder (g.H.Host.state c.args.host.now) in
      let files = g.H.Folder.Folder.files c.args.kit.folder in
      subst (λ x. IsCaused x g.H.Folder.Folder.tells_files g.H.Journal.Journal.tells_notes files before after) (sym c.refusal.ensures)
      (refused_caused c.in-Err.refused.why g.H.Folder.Folder.tells_files g.H.Journal.Journal.tells_notes files (g.H.Folder.Folder.files c.in-Err.refused.kit.folder) before after c.in-Err.ensures.why);
  listeners = λ told is. refused_unfailed c.in-Err.refused.why _ (sym c.refusal.ensures ∙ is);
}
