use Rattle.std.proofs.Common.{refl, arith, ◌∙◌}
use Rattle.std.proofs.lemmas.Bool.{false≢true}
use Rattle.queue_sweep.proofs.Sweeps.{one_failed, one_listed, one_renamed, one_wanting, spelled_then}
use Rattle.queue_sweep.proofs.sweeping.sweep_one.Goals as goal

pub returns-then-not-is_unlisted : goal.returns-then-not-is_unlisted
returns-then-not-is_unlisted g c = record {
  step = λ told. one_listed c.args.listed.now c.args.file.now (g.F.Folder.files c.args.folder.now) (λ u. false≢true (c.if-not-is_unlisted.ensures.1 u));
  faults = omega arith;
  cause = tt;
  exact = λ counts. refl;
}

pub returns-then-is_err : goal.returns-then-is_err
returns-then-is_err g c = record {
  step = λ told. one_wanting c.args.listed.now c.args.file.now (g.F.Folder.files c.args.folder.now);
  faults = omega arith;
  cause = λ fault. absurd cc;
  exact = λ counts. refl;
}

pub returns-in-Done : goal.returns-in-Done
returns-in-Done g c =
    let spelled = c.as_str.ensures.value ∙ spelled_then c.spell_aside.result c.if-is_err.ensures.value c.spell_aside.ensures in
    record {
      step = λ told. one_renamed c.args.listed.now c.args.file.now c.as_str.result.now (g.F.Folder.files c.args.folder.now) (g.F.Folder.files c.rename.new.self) (c.if-not-is_unlisted.ensures.0 refl) spelled (c.in-Done.ensures.files told);
      faults = c.rename.ensures.faults;
      cause = tt;
      exact = c.in-Done.ensures.exact;
    }

pub returns-in-Failed : goal.returns-in-Failed
returns-in-Failed g c =
    let spelled = c.as_str.ensures.value ∙ spelled_then c.spell_aside.result c.if-is_err.ensures.value c.spell_aside.ensures in
    record {
      step = λ told. one_failed c.args.listed.now c.args.file.now c.as_str.result.now (g.F.Folder.files c.args.folder.now) (g.F.Folder.files c.rename.new.self) (c.if-not-is_unlisted.ensures.0 refl) spelled (c.in-Failed.ensures.files told);
      faults = c.rename.ensures.faults;
      cause = λ fault. c.in-Failed.ensures.cause;
      exact = c.in-Failed.ensures.exact;
    }
