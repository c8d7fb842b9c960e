use Rattle.std.proofs.Common.{ℕ, Bool, Result, Err, refl, subst, ◌∙◌, arith}
use Rattle.queue_sweep.specs.Steps.{SweepCounts}
use Rattle.queue_sweep.specs.declared.unswept.Unswept.{Unswept}
use Rattle.queue_sweep.proofs.Sweeps.{swept_from_same, swept_more, gone_more, gone_all}
use Rattle.queue_sweep.proofs.sweeping.sweep.Goals as goal

pub loop-file-init : goal.loop-file-init
loop-file-init g c = record {
  swept = λ told. swept_from_same c.args.listed.now (g.F.Folder.files c.args.folder.now) (g.F.Folder.files c.args.folder.now) (λ name. refl);
  gone = λ told file its u. absurd (let no : ⊥ = omega (arith, its.1) in no);
  exact = λ counts. refl;
  faults = omega arith;
}

pub returns-in-Err : goal.returns-in-Err
returns-in-Err g c =
    let i = c.loop-file.invariant in
    let answer : Result Bool Unswept = Err c.in-Err.why in
    record {
      swept = λ told. swept_more c.args.listed.now (g.F.Folder.files c.args.folder.now) (g.F.Folder.files c.loop-file.folder) (g.F.Folder.files c.sweep_one.new.folder) (i.swept told) c.as_str.result.now (c.in-Err.ensures.step told).either;
      gone = λ told. tt;
      faults = omega (arith, i.faults, c.in-Err.ensures.faults);
      cause = λ fault. let rose = c.in-Err.ensures.cause fault in omega (arith, i.faults, rose);
      exact = λ counts. subst (λ (n : ℕ). SweepCounts n (g.F.Folder.folder_faults c.sweep_one.new.folder) answer) (i.exact counts) (c.in-Err.ensures.exact counts);
    }

pub loop-file-preserved : goal.loop-file-preserved
loop-file-preserved g c =
    let i = c.loop-file.invariant in
    let topics = c.args.listed.now in
    let names = c.args.files.now in
    let f1 = g.F.Folder.files c.loop-file.folder in
    let f2 = g.F.Folder.files c.sweep_one.new.folder in
    record {
      swept = λ told. swept_more topics (g.F.Folder.files c.args.folder.now) f1 f2 (i.swept told) c.as_str.result.now (c.in-Ok.ensures.step told).either;
      gone = λ told. gone_more topics f1 f2 names c.loop-file.file-index c.file-item.result c.as_str.result.now c.in-Ok.moved c.loop-file-test.true c.file-item.is c.as_str.ensures.value (i.gone told)
          (c.in-Ok.ensures.step told);
      exact = λ counts. c.in-Ok.ensures.exact counts ∙ i.exact counts;
      faults = omega (arith, i.faults, c.in-Ok.ensures.faults);
    }

pub returns : goal.returns
returns g c =
    let i = c.loop-file.invariant in
    record {
      swept = i.swept;
      gone = λ told. gone_all c.args.listed.now (g.F.Folder.files c.loop-file.folder) c.args.files.now c.loop-file.file-index c.loop-file-test.false (i.gone told);
      faults = i.faults;
      cause = tt;
      exact = i.exact;
    }
