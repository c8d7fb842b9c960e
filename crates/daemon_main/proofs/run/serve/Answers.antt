use Rattle.std.proofs.Common.{inl, refl, ap, le_of_eq, le_refl, le_trans, subst, sym}
use Rattle.std.specs.Prelude.{IsSome}
use Rattle.nsq_outside.specs.Hosts.{HostContent, HostState}
use Rattle.broker_floor.specs.Opening.{HaveBytes}
use Rattle.daemon_main.specs.Endings.{IsCaused, IsComplete}
use Rattle.daemon_main.specs.Runs.{Runs}
use Rattle.daemon_main.specs.Sights.{sight_of}
use Rattle.daemon_endings.specs.declared.serving.ServeEnd.TheVariants.{AcceptFailed}
use Rattle.daemon_main.proofs.Asking.{starts_keep, failed_asked, failed_lines, done_keep, done_starts, done_asked, done_lines, failed_wider}
use Rattle.daemon_main.proofs.Looping.{unclean}
use Rattle.daemon_main.proofs.Causes.{completes_told}
use Rattle.daemon_main.proofs.Sighting.{both_same, both_then, kept_faults, lent_caused, lent_faults, lent_runs}
use Rattle.daemon_main.proofs.run.serve.Goals as goal

pub start-requires-clause-options : goal.start-requires-clause-options
start-requires-clause-options g c κs within = c.requires.options

pub work-ending-requires-clause-options : goal.work-ending-requires-clause-options
work-ending-requires-clause-options g c κs within = c.requires.options

pub work-ending-requires-clause-aside : goal.work-ending-requires-clause-aside
work-ending-requires-clause-aside g c κs within = c.lend-kit.ensures.aside

pub work-ending-requires-clause-empty : goal.work-ending-requires-clause-empty
work-ending-requires-clause-empty g c κs within = c.lend-kit.ensures.empty

pub returns-in-Failed : goal.returns-in-Failed
returns-in-Failed g c = record {
  home = subst (λ (s : HostState _ _ _). IsSome s.kit) (sym c.start.ensures.state.1) c.requires.home;
  asked = λ told. failed_asked c.args.options.now 4 (g.H.Host.content c.args.host.now) (g.H.Host.content c.start.new.host) (unclean 4 refl) (c.in-Failed.ensures.content told);
  lines = λ told. failed_lines c.args.options.now (g.H.Host.content c.args.host.now) (g.H.Host.content c.start.new.host) (c.in-Failed.ensures.content told);
  faults = kept_faults _ _ c.start.ensures.state;
  cause =
      both_same g.H.Journal.Journal.notes g.H.Folder.Folder.files g.H.Clock.Clock.coming g.H.Folder.Folder.folder_faults (g.H.Host.state c.args.host.now) (g.H.Host.state c.start.new.host) (g.H.Host.content c.args.host.now) (g.H.Host.content c.start.new.host)
      (λ old new. IsCaused AcceptFailed g.H.Folder.Folder.tells_files g.H.Journal.Journal.tells_notes old.files old.counts new.counts) (ap (λ (x : HostState _ _ _). x.kit) c.start.ensures.state.1) (λ x. c.in-Failed.ensures.cause);
  complete = λ told tells.
      both_same g.H.Journal.Journal.notes g.H.Folder.Folder.files g.H.Clock.Clock.coming g.H.Folder.Folder.folder_faults (g.H.Host.state c.args.host.now) (g.H.Host.state c.start.new.host) (g.H.Host.content c.args.host.now) (g.H.Host.content c.start.new.host)
      (λ old new. HaveBytes old.files → IsComplete AcceptFailed old.files old.counts new.counts) (ap (λ (x : HostState _ _ _). x.kit) c.start.ensures.state.1)
      (λ x bytes. completes_told AcceptFailed g.H.Folder.Folder.tells_files g.H.Journal.Journal.tells_notes _ _ _ told tells bytes c.in-Failed.ensures.cause);
  run = λ told.
      both_same g.H.Journal.Journal.notes g.H.Folder.Folder.files g.H.Clock.Clock.coming g.H.Folder.Folder.folder_faults (g.H.Host.state c.args.host.now) (g.H.Host.state c.start.new.host) (g.H.Host.content c.args.host.now) (g.H.Host.content c.start.new.host)
      (Runs _ c.args.options.now AcceptFailed) (ap (λ (x : HostState _ _ _). x.kit) c.start.ensures.state.1)
      (λ x bytes. inl (record { files = refl; coming = refl; notes = refl; callers = starts_keep c.args.options.now (g.H.Host.content c.args.host.now) (g.H.Host.content c.start.new.host) (c.in-Failed.ensures.content told.host); ends = inl refl }));
  listeners = λ told is.
      let keeps = starts_keep c.args.options.now (g.H.Host.content c.args.host.now) (g.H.Host.content c.start.new.host) (c.in-Failed.ensures.content told) in
      record { at = c.args.host.now; from_entry = le_refl _; rose = c.in-Failed.ensures.cause; given = keeps.given; back = keeps.back };
}

pub returns-in-Done : goal.returns-in-Done
returns-in-Done g c = record {
  home = subst (λ (s : HostState _ _ _). IsSome s.kit) (sym c.restore.ensures.state) refl;
  asked = λ told.
      done_asked c.args.options.now _ (g.H.Host.content c.args.host.now) (g.H.Host.content c.start.new.host) (g.H.Host.content c.lend-kit.new.self) (g.H.Host.content c.work-ending.new.host) (g.H.Host.content c.restore.new.self)
      (c.in-Done.ensures.content told) c.lend-kit.ensures.content (c.work-ending.ensures.rest told) c.restore.ensures.content;
  lines = λ told.
      done_lines c.args.options.now (g.H.Host.content c.args.host.now) (g.H.Host.content c.start.new.host) (g.H.Host.content c.lend-kit.new.self) (g.H.Host.content c.work-ending.new.host) (g.H.Host.content c.restore.new.self)
      (c.in-Done.ensures.content told) c.lend-kit.ensures.content (c.work-ending.ensures.rest told) c.restore.ensures.content;
  faults = lent_faults _ _ _ _ _ c.work-ending.result.1 c.start.ensures.state c.lend-kit.ensures.state c.work-ending.ensures.state c.restore.ensures.state;
  cause =
      lent_caused g.H.Journal.Journal.notes g.H.Folder.Folder.files g.H.Clock.Clock.coming g.H.Folder.Folder.folder_faults (g.H.Host.state c.args.host.now) (g.H.Host.state c.start.new.host) (g.H.Host.state c.lend-kit.new.self) (g.H.Host.state c.work-ending.new.host) (g.H.Host.state c.restore.new.self)
      (g.H.Host.content c.args.host.now) (g.H.Host.content c.start.new.host) (g.H.Host.content c.lend-kit.new.self) (g.H.Host.content c.work-ending.new.host) (g.H.Host.content c.restore.new.self)
      c.lend-kit.result c.work-ending.result.1 (record { started = c.start.ensures.state; lend = c.lend-kit.ensures.state; folder = c.lend-kit.ensures.folder; clock = c.lend-kit.ensures.clock; worked = c.work-ending.ensures.state; restore = c.restore.ensures.state })
      g.H.Folder.Folder.tells_files g.H.Journal.Journal.tells_notes c.work-ending.result.0 c.work-ending.ensures.cause;
  complete = λ told tells.
      both_then (sight_of g.H.Journal.Journal.notes g.H.Folder.Folder.files g.H.Clock.Clock.coming g.H.Folder.Folder.folder_faults (g.H.Host.state c.args.host.now) (g.H.Host.content c.args.host.now))
      (sight_of g.H.Journal.Journal.notes g.H.Folder.Folder.files g.H.Clock.Clock.coming g.H.Folder.Folder.folder_faults (g.H.Host.state c.restore.new.self) (g.H.Host.content c.restore.new.self)) (λ old new. IsCaused c.work-ending.result.0 g.H.Folder.Folder.tells_files g.H.Journal.Journal.tells_notes old.files old.counts new.counts)
      (λ old new. HaveBytes old.files → IsComplete c.work-ending.result.0 old.files old.counts new.counts)
      (λ old new cause bytes. completes_told c.work-ending.result.0 g.H.Folder.Folder.tells_files g.H.Journal.Journal.tells_notes old.files old.counts new.counts told tells bytes cause)
      (lent_caused g.H.Journal.Journal.notes g.H.Folder.Folder.files g.H.Clock.Clock.coming g.H.Folder.Folder.folder_faults (g.H.Host.state c.args.host.now) (g.H.Host.state c.start.new.host) (g.H.Host.state c.lend-kit.new.self) (g.H.Host.state c.work-ending.new.host) (g.H.Host.state c.restore.new.self)
      (g.H.Host.content c.args.host.now) (g.H.Host.content c.start.new.host) (g.H.Host.content c.lend-kit.new.self) (g.H.Host.content c.work-ending.new.host) (g.H.Host.content c.restore.new.self)
      c.lend-kit.result c.work-ending.result.1 (record { started = c.start.ensures.state; lend = c.lend-kit.ensures.state; folder = c.lend-kit.ensures.folder; clock = c.lend-kit.ensures.clock; worked = c.work-ending.ensures.state; restore = c.restore.ensures.state })
      g.H.Folder.Folder.tells_files g.H.Journal.Journal.tells_notes c.work-ending.result.0 c.work-ending.ensures.cause);
  run = λ told.
      lent_runs g.H.Journal.Journal.notes g.H.Folder.Folder.files g.H.Clock.Clock.coming g.H.Folder.Folder.folder_faults (g.H.Host.state c.args.host.now) (g.H.Host.state c.start.new.host) (g.H.Host.state c.lend-kit.new.self) (g.H.Host.state c.work-ending.new.host) (g.H.Host.state c.restore.new.self)
      (g.H.Host.content c.args.host.now) (g.H.Host.content c.start.new.host) (g.H.Host.content c.lend-kit.new.self) (g.H.Host.content c.work-ending.new.host) (g.H.Host.content c.restore.new.self)
      c.lend-kit.result c.work-ending.result.1 (record { started = c.start.ensures.state; lend = c.lend-kit.ensures.state; folder = c.lend-kit.ensures.folder; clock = c.lend-kit.ensures.clock; worked = c.work-ending.ensures.state; restore = c.restore.ensures.state })
      _ c.args.options.now c.work-ending.result.0 (done_keep c.args.options.now (g.H.Host.content c.args.host.now) (g.H.Host.content c.start.new.host) (c.in-Done.ensures.content told.host)) c.lend-kit.ensures.content c.restore.ensures.content (c.work-ending.ensures.worked told)
      (done_starts c.args.options.now (g.H.Host.content c.args.host.now) (g.H.Host.content c.start.new.host) (g.H.Host.content c.lend-kit.new.self) (g.H.Host.content c.work-ending.new.host) (g.H.Host.content c.restore.new.self)
      (c.in-Done.ensures.content told.host) c.lend-kit.ensures.content (c.work-ending.ensures.rest told.host) c.restore.ensures.content);
  listeners = λ told is.
      let started = c.start.ensures.state.0 in
      let lent = ap (λ (x : HostState _ _ _). x.accept_faults) c.lend-kit.ensures.state in
      let restored = ap (λ (x : HostState _ _ _). x.accept_faults) c.restore.ensures.state in
      failed_wider g.H.Host.state g.H.Host.content c.args.host.now c.lend-kit.new.self c.work-ending.new.host c.restore.new.self (le_trans started (le_of_eq (sym lent))) (c.work-ending.ensures.listeners told is) (le_of_eq (sym restored))
      (ap (λ (x : HostContent _). x.given) c.restore.ensures.content) (ap (λ (x : HostContent _). x.back) c.restore.ensures.content);
}
