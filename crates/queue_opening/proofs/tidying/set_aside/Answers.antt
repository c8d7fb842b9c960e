use Rattle.std.proofs.Common.{◌∙◌, ◌+◌, List, ℕ, take, get_or, true, refl, sym, subst, inl, arith}
use Rattle.std.proofs.Math.Nat.{le_of_eq}
use Rattle.std.proofs.lemmas.List.{take_all}
use Rattle.nsq_outside.specs.Causes.{CountsFault}
use Rattle.std.specs.List.{Contains}
use Rattle.nsq_outside.specs.declared.did.Did.TheVariants.{Done, Failed}
use Rattle.queue_opening.specs.Tidied.{AsideStep, IsAside, OnlyAsideChanges}
use Rattle.queue_opening.proofs.Asides.{aside_more, aside_stops, aside_others_more, next_taken, among}
use Rattle.queue_opening.proofs.tidying.set_aside.Goals as goal

pub loop-number-init : goal.loop-number-init
loop-number-init g c = record {
  name = refl;
  aside = λ told. record { moves = λ k fits its low. absurd (omega (arith, its.1)); either = λ k fits. inl refl };
  others = λ told file apart. refl;
  exact = λ counts. refl;
  faults = le_of_eq refl;
}

pub loop-number-preserved : goal.loop-number-preserved
loop-number-preserved g c =
    let i = c.loop-number.invariant in
    let name = c.args.names.now in
    let numbers = c.args.numbers.now in
    let at = c.loop-number.number-index in
    let n = get_or numbers at 0 in
    let f0 = g.F.Folder.files c.args.folder.now in
    let f1 = g.F.Folder.files c.loop-number.folder in
    let f2 = g.F.Folder.files c.set_aside_one.new.folder in
    let taken = sym (next_taken numbers at c.loop-number-test.true) in
    record {
      name = c.in-Done.ensures.name ∙ i.name;
      aside = λ told. subst (λ (ns : List ℕ). IsAside name ns c.args.from f0 f2) taken
          (aside_more name f0 f1 f2 n (omega (arith, c.type_inv.numbers at)) (take at numbers) c.args.from (i.aside told) (subst (λ (x : List ℕ). AsideStep x c.args.from n f1 f2 Done) i.name (c.in-Done.ensures.step told)));
      others = λ told. subst (λ (ns : List ℕ). OnlyAsideChanges name ns c.args.from f0 f2) taken
          (aside_others_more name f0 f1 f2 n (omega (arith, c.type_inv.numbers at)) (take at numbers) c.args.from Done (i.aside told) (i.others told)
          (subst (λ (x : List ℕ). AsideStep x c.args.from n f1 f2 Done) i.name (c.in-Done.ensures.step told)));
      exact = λ counts. c.in-Done.ensures.exact counts ∙ i.exact counts;
      faults = omega (arith, i.faults, c.in-Done.ensures.faults);
    }

pub returns : goal.returns
returns g c =
    let i = c.loop-number.invariant in
    let name = c.args.names.now in
    let f0 = g.F.Folder.files c.args.folder.now in
    let f1 = g.F.Folder.files c.loop-number.folder in
    let all = take_all c.loop-number.number-index c.args.numbers.now c.loop-number-test.false in
    record {
      name = i.name;
      aside = λ told. subst (λ (ns : List ℕ). IsAside name ns c.args.from f0 f1) all (i.aside told);
      others = λ told. subst (λ (ns : List ℕ). OnlyAsideChanges name ns c.args.from f0 f1) all (i.others told);
      faults = i.faults;
      cause = tt;
      exact = i.exact;
    }

pub returns-in-Failed : goal.returns-in-Failed
returns-in-Failed g c =
    let i = c.loop-number.invariant in
    let failed = c.in-Failed.ensures in
    let name = c.args.names.now in
    let numbers = c.args.numbers.now in
    let at = c.loop-number.number-index in
    let n = get_or numbers at 0 in
    let f0 = g.F.Folder.files c.args.folder.now in
    let f1 = g.F.Folder.files c.loop-number.folder in
    let f2 = g.F.Folder.files c.set_aside_one.new.folder in
    record {
      name = failed.name ∙ i.name;
      aside = λ told.
          aside_stops name f0 f1 f2 n (omega (arith, c.type_inv.numbers at)) (take at numbers) c.args.from (i.aside told) (subst (λ (x : List ℕ). AsideStep x c.args.from n f1 f2 Failed) i.name (failed.step told));
      others = λ told file apart.
          aside_others_more name f0 f1 f2 n (omega (arith, c.type_inv.numbers at)) (take at numbers) c.args.from Failed (i.aside told) (i.others told)
          (subst (λ (x : List ℕ). AsideStep x c.args.from n f1 f2 Failed) i.name (failed.step told)) file
          (λ k fits its low some. apart k fits (among numbers (at + 1) k (subst (λ (ns : List ℕ). Contains ns k) (sym (next_taken numbers at c.loop-number-test.true)) its)) low some);
      faults = omega (arith, i.faults, failed.faults);
      cause = omega (arith, i.faults, failed.cause);
      exact = λ counts. subst (λ n. CountsFault n (g.F.Folder.folder_faults c.set_aside_one.new.folder) true) (i.exact counts) (failed.exact counts);
    }
