use Rattle.std.proofs.Common.{◌∙◌, ◌+◌, List, ℕ, take, get_or, true, refl, sym, subst, arith}
use Rattle.std.proofs.Math.Nat.{le_of_eq}
use Rattle.std.proofs.lemmas.List.{take_all}
use Rattle.std.specs.List.{Contains}
use Rattle.nsq_outside.specs.Causes.{CountsFault}
use Rattle.nsq_outside.specs.declared.did.Did.TheVariants.{Done, Failed}
use Rattle.queue_opening.specs.Tidied.{RemoveStep, RemovedWhere, OnlyRemovedChange}
use Rattle.queue_opening.proofs.Asides.{removed_more, removed_others_more, next_taken, among}
use Rattle.queue_opening.proofs.tidying.remove.Goals as goal

pub loop-number-init : goal.loop-number-init
loop-number-init g c = record {
  name = refl;
  removed = λ told k its low. absurd (omega (arith, its.1));
  others = λ told file apart. refl;
  exact = λ counts. refl;
  faults = le_of_eq refl;
}

pub loop-number-preserved : goal.loop-number-preserved
loop-number-preserved g c =
    let i = c.loop-number.invariant in
    let name = c.args.files.now in
    let numbers = c.args.numbers.now in
    let at = c.loop-number.number-index in
    let n = get_or numbers at 0 in
    let f0 = g.F.Folder.files c.args.folder.now in
    let f1 = g.F.Folder.files c.loop-number.folder in
    let f2 = g.F.Folder.files c.remove_one.new.folder in
    let taken = sym (next_taken numbers at c.loop-number-test.true) in
    record {
      name = c.in-Done.ensures.name ∙ i.name;
      removed = λ told. subst (λ (ns : List ℕ). RemovedWhere name ns c.args.to f2 Done) taken
          (removed_more name f0 f1 f2 n (omega (arith, c.type_inv.numbers at)) (take at numbers) c.args.to c.requires (i.removed told) (subst (λ (x : List ℕ). RemoveStep x c.args.to n f1 f2 Done) i.name (c.in-Done.ensures.step told)));
      others = λ told. subst (λ (ns : List ℕ). OnlyRemovedChange name ns c.args.to f0 f2) taken
          (removed_others_more name f0 f1 f2 n (omega (arith, c.type_inv.numbers at)) (take at numbers) c.args.to Done (i.others told)
          (subst (λ (x : List ℕ). RemoveStep x c.args.to n f1 f2 Done) i.name (c.in-Done.ensures.step told)));
      exact = λ counts. c.in-Done.ensures.exact counts ∙ i.exact counts;
      faults = omega (arith, i.faults, c.in-Done.ensures.faults);
    }

pub returns : goal.returns
returns g c =
    let i = c.loop-number.invariant in
    let name = c.args.files.now in
    let f0 = g.F.Folder.files c.args.folder.now in
    let f1 = g.F.Folder.files c.loop-number.folder in
    let all = take_all c.loop-number.number-index c.args.numbers.now c.loop-number-test.false in
    record {
      name = i.name;
      removed = λ told k its low. i.removed told k (subst (λ (ns : List ℕ). Contains ns k) (sym all) its) low;
      others = λ told. subst (λ (ns : List ℕ). OnlyRemovedChange name ns c.args.to f0 f1) all (i.others told);
      faults = i.faults;
      cause = tt;
      exact = i.exact;
    }

pub returns-in-Failed : goal.returns-in-Failed
returns-in-Failed g c =
    let i = c.loop-number.invariant in
    let failed = c.in-Failed.ensures in
    let name = c.args.files.now in
    let numbers = c.args.numbers.now in
    let at = c.loop-number.number-index in
    let n = get_or numbers at 0 in
    let f0 = g.F.Folder.files c.args.folder.now in
    let f1 = g.F.Folder.files c.loop-number.folder in
    let f2 = g.F.Folder.files c.remove_one.new.folder in
    record {
      name = failed.name ∙ i.name;
      removed = λ told. tt;
      others = λ told file apart.
          removed_others_more name f0 f1 f2 n (omega (arith, c.type_inv.numbers at)) (take at numbers) c.args.to Failed (i.others told)
          (subst (λ (x : List ℕ). RemoveStep x c.args.to n f1 f2 Failed) i.name (failed.step told)) file
          (λ k its low. apart k (among numbers (at + 1) k (subst (λ (ns : List ℕ). Contains ns k) (sym (next_taken numbers at c.loop-number-test.true)) its)) low);
      faults = omega (arith, i.faults, failed.faults);
      cause = omega (arith, i.faults, failed.cause);
      exact = λ counts. subst (λ n. CountsFault n (g.F.Folder.folder_faults c.remove_one.new.folder) true) (i.exact counts) (failed.exact counts);
    }
