use Rattle.std.proofs.Common.{ℕ, Err, Result, refl, subst, arith, ◌∙◌}
use Rattle.queue_sweep.specs.Swept.{HasOnlyListed}
use Rattle.queue_sweep.specs.Steps.{SweepCounts}
use Rattle.queue_sweep.specs.declared.unswept.Unswept.{Unswept}
use Rattle.queue_sweep.proofs.Sweeps.{swept_from_same, swept_between, only_between, rose_since, whatever}
use Rattle.queue_sweep.proofs.sweeping.set_aside_unlisted.Goals as goal

pub returns-in-Failed : goal.returns-in-Failed
returns-in-Failed g c = record {
  swept = λ told. swept_from_same c.args.listed.now (g.F.Folder.files c.args.folder.now) (g.F.Folder.files c.list.new.self) (c.list.ensures.same told);
  only = λ told. tt;
  faults = c.list.ensures.faults;
  cause = λ fault. c.in-Failed.ensures.cause;
  exact = c.in-Failed.ensures.exact;
}

pub returns-in-Memory : goal.returns-in-Memory
returns-in-Memory g c = record {
  swept = λ told. swept_from_same c.args.listed.now (g.F.Folder.files c.args.folder.now) (g.F.Folder.files c.list.new.self) (c.list.ensures.same told);
  only = λ told. tt;
  faults = c.list.ensures.faults;
  cause = λ fault. absurd cc;
  exact = c.in-Memory.ensures.exact;
}

pub returns-in-Ok-true : goal.returns-in-Ok-true
returns-in-Ok-true g c =
    let topics = c.args.listed.now in
    let f0 = g.F.Folder.files c.args.folder.now in
    let f1 = g.F.Folder.files c.list.new.self in
    let f2 = g.F.Folder.files c.sweep.new.folder in
    let f3 = g.F.Folder.files c.keep_names.new.folder in
    record {
      swept = λ told. swept_between topics f0 f1 f2 f3 (c.in-Done.ensures.same told) (c.sweep.ensures.swept told) (c.keep_names.ensures.same told);
      only = λ told. whatever c.keep_names.result (HasOnlyListed topics f3)
          (only_between topics f0 f1 f2 f3 c.new-files.result.items c.deref.result.now c.list.new.names.items (c.in-Done.ensures.same told) (c.in-Done.ensures.names told) c.new-files.ensures.items c.deref.ensures.value
          (c.sweep.ensures.swept told) (c.in-Ok-true.ensures.gone told) (c.keep_names.ensures.same told));
      faults = omega (arith, c.list.ensures.faults, c.sweep.ensures.faults, c.keep_names.ensures.faults);
      cause = rose_since c.keep_names.result _ _ _ (omega (arith, c.list.ensures.faults, c.sweep.ensures.faults)) c.keep_names.ensures.cause;
      exact = λ counts. subst (λ (n : ℕ). SweepCounts n (g.F.Folder.folder_faults c.keep_names.new.folder) c.keep_names.result) (c.in-Ok-true.ensures.exact counts ∙ c.in-Done.ensures.exact counts) (c.keep_names.ensures.exact counts);
    }

pub returns-in-Ok-false : goal.returns-in-Ok-false
returns-in-Ok-false g c =
    let topics = c.args.listed.now in
    let f0 = g.F.Folder.files c.args.folder.now in
    let f1 = g.F.Folder.files c.list.new.self in
    let f2 = g.F.Folder.files c.sweep.new.folder in
    record {
      swept = λ told. swept_between topics f0 f1 f2 f2 (c.in-Done.ensures.same told) (c.sweep.ensures.swept told) (λ name. refl);
      only = λ told. only_between topics f0 f1 f2 f2 c.new-files.result.items c.deref.result.now c.list.new.names.items (c.in-Done.ensures.same told) (c.in-Done.ensures.names told) c.new-files.ensures.items c.deref.ensures.value
          (c.sweep.ensures.swept told) (c.in-Ok-false.ensures.gone told) (λ name. refl);
      faults = omega (arith, c.list.ensures.faults, c.sweep.ensures.faults);
      cause = tt;
      exact = λ counts. c.in-Ok-false.ensures.exact counts ∙ c.in-Done.ensures.exact counts;
    }

pub returns : goal.returns
returns g c =
    let f1 = g.F.Folder.files c.list.new.self in
    let f2 = g.F.Folder.files c.sweep.new.folder in
    let answer : Result (Unit {0}) Unswept = Err c.in-Err.why in
    record {
      swept = λ told. swept_between c.args.listed.now (g.F.Folder.files c.args.folder.now) f1 f2 f2 (c.in-Done.ensures.same told) (c.sweep.ensures.swept told) (λ name. refl);
      only = λ told. tt;
      faults = omega (arith, c.list.ensures.faults, c.sweep.ensures.faults);
      cause = λ fault. let rose = c.in-Err.ensures.cause fault in omega (arith, c.list.ensures.faults, rose);
      exact = λ counts. subst (λ (n : ℕ). SweepCounts n (g.F.Folder.folder_faults c.sweep.new.folder) answer) (c.in-Done.ensures.exact counts) (c.in-Err.ensures.exact counts);
    }
