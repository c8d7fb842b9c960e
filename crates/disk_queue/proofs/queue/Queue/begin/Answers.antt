use Rattle.std.proofs.Common.{ap, refl, subst, sym}
use Rattle.std.proofs.Math.Nat.{le_of_eq}
use Rattle.nsq_outside.specs.declared.did.Did.TheVariants.{Done, Failed}
use Rattle.disk_queue.specs.Holding.{Holds}
use Rattle.disk_queue.specs.Seen.{Seen}
use Rattle.disk_queue.specs.declared.standing.Staged.{Staged}
use Rattle.disk_queue.proofs.Kept.{begun_base, cut_base, through, through_staged, only_two, cut_kept, staged_changes}
use Rattle.disk_queue.proofs.Sound.{named_as, sound_named}
use Rattle.disk_queue.proofs.queue.Queue.begin.Goals as goal

pub returns-then-self : goal.returns-then-self
returns-then-self g c =
    let q = c.args.self.now in
    let old = g.F.Folder.files c.args.folder.now in
    record {
      seen = refl;
      end = ap (λ (x : Seen). x.staged) c.self.view_is;
      list = λ told bodies waiting h. h;
      ready = λ told bodies waiting h. subst (λ (s : Staged). Holds (record q { staged = s }) old bodies waiting) (sym (ap (λ (x : Seen). x.staged) c.self.view_is)) h;
      base = λ told. begun_base _ q old c.self.view_is c.if-self.true;
      files = λ told other apart next. refl;
      faults = le_of_eq refl;
      cause = tt;
      exact = λ counts. refl;
    }

pub returns-in-Failed : goal.returns-in-Failed
returns-in-Failed g c =
    let q = c.args.self.now in
    let old = g.F.Folder.files c.args.folder.now in
    let new = g.F.Folder.files c.cut.new.folder in
    record {
      seen = named_as _ q c.cut.new.self c.in-Failed.ensures.name c.self.view_is;
      end = tt;
      list = λ told bodies waiting.
          through _ _ old new bodies bodies waiting waiting c.self.view_is
          (cut_kept _ old new Failed bodies waiting c.self.invariant.staged_file (c.in-Failed.ensures.bytes told) (only_two old new _ _ (c.in-Failed.ensures.others told)));
      ready = λ told bodies waiting h. tt;
      base = λ told. tt;
      files = λ told. staged_changes _ q old new c.self.view_is (c.in-Failed.ensures.others told);
      faults = c.in-Failed.ensures.faults;
      cause = c.in-Failed.ensures.cause;
      exact = c.in-Failed.ensures.exact;
    }

pub invariant_of-self : goal.invariant_of-self
invariant_of-self g c = sound_named _ c.cut.new.self c.self.invariant

pub returns : goal.returns
returns g c =
    let q = c.args.self.now in
    let old = g.F.Folder.files c.args.folder.now in
    let new = g.F.Folder.files c.cut.new.folder in
    record {
      seen = named_as _ q c.cut.new.self c.in-Done.ensures.name c.self.view_is;
      end = ap (λ (x : Seen). x.staged) c.self.view_is;
      list = λ told bodies waiting.
          through _ _ old new bodies bodies waiting waiting c.self.view_is
          (cut_kept _ old new Done bodies waiting c.self.invariant.staged_file (c.in-Done.ensures.bytes told) (only_two old new _ _ (c.in-Done.ensures.others told)));
      ready = λ told bodies waiting.
          through_staged _ _ c.self.inside.staged old new bodies waiting c.self.view_is
          (cut_kept _ old new Done bodies waiting c.self.invariant.staged_file (c.in-Done.ensures.bytes told) (only_two old new _ _ (c.in-Done.ensures.others told)));
      base = λ told. cut_base _ q old new c.self.view_is c.if-self.false (c.in-Done.ensures.bytes told);
      files = λ told. staged_changes _ q old new c.self.view_is (c.in-Done.ensures.others told);
      faults = c.in-Done.ensures.faults;
      cause = tt;
      exact = c.in-Done.ensures.exact;
    }

pub invariant_of-self-2 : goal.invariant_of-self-2
invariant_of-self-2 g c = sound_named _ c.cut.new.self c.self.invariant
