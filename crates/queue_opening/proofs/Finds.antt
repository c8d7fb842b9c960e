-- What an opening's plan says of the files.
use Rattle.std.proofs.Common.{◌≡◌, ℕ, ◌+◌, true, List, [], Option, Some, None, unwrap_or, ◌≤◌, Result, Ok, Err, IfOk, IfErr, sym, ◌∙◌, ap, subst, inl, inr, arith}
use Rattle.std.proofs.Math.Path.{fun_ext}
use Rattle.nsq_outside.specs.Files.{Files, SameFiles}
use Rattle.queue_image.specs.FileNames.{meta_file}
use Rattle.queue_image.specs.Metas.{Meta, IsMeta, Says}
use Rattle.queue_image.specs.Between.{content}
use Rattle.queue_image.specs.Finds.IsFound.{spoilt}
use Rattle.queue_image.specs.declared.positions.Positions.{Positions}
use Rattle.queue_image.proofs.MetaLemmas.{one_meta}
use Rattle.nsq_outside.specs.Causes.{CountsFault}
use Rattle.queue_opening.specs.Refusals.{OpenFails, OpenCounts, NotBadMeta}
use Rattle.queue_opening.specs.Walked.{HasNumbers}
use Rattle.queue_opening.specs.Planned.{SaysWhere, SpoiltWhere, FindsBadMeta, FoundBetween, IsSettled, PlansWith, PlansWithout, IsPlanned}
use Rattle.queue_opening.specs.declared.refusal.Open.{Open}
use Rattle.queue_opening.specs.declared.refusal.Open.TheVariants.{Fault, BadMeta, Memory}
use Rattle.queue_opening.specs.declared.walking.Walk.{Walk}
use Rattle.queue_opening.specs.declared.plan.Plan.{Plan}

-- files that are all the same
pub same_files : (old new : Files) → SameFiles old new → new ≡ old
same_files old new same = fun_ext same

-- metadata says one thing
pub says_one : (file : Option (List ℕ)) (p q : Positions) → Says file p → Says file q → p ≡ q
says_one file p q s t =
    let text : s.text ≡ t.text = ap (λ (o : Option (List ℕ)). unwrap_or o []) (sym s.there ∙ t.there) in
    ap (λ (m : Meta). m.positions) (one_meta t.text (record { depth = s.depth; positions = p }) (record { depth = t.depth; positions = q }) (subst (λ (x : List ℕ). IsMeta x (record { depth = s.depth; positions = p })) text s.is) t.is)

pub spoilt_found : (least limit : ℕ) (files : Files) (name file : List ℕ) (e : Open) → file ≡ meta_file name → SpoiltWhere (files file) e → FindsBadMeta least limit files name e
spoilt_found least limit files name file Fault is s = tt
spoilt_found least limit files name file BadMeta is s = spoilt s.text (ap files (sym is) ∙ s.there) s.none
spoilt_found least limit files name file Memory is s = tt

-- no part but the one that reads the metadata finds it bad
pub not_bad : (least limit : ℕ) (files : Files) (name : List ℕ) (e : Open) → NotBadMeta e → FindsBadMeta least limit files name e
not_bad least limit files name Fault other = tt
not_bad least limit files name BadMeta other = absurd other
not_bad least limit files name Memory other = tt

pub none_bad : {T : Type 0} (least limit : ℕ) (files : Files) (name : List ℕ) (r : Result T Open) → IfErr r NotBadMeta → IfErr r (λ e. FindsBadMeta least limit files name e)
none_bad least limit files name (Ok _) other = tt
none_bad least limit files name (Err e) other = not_bad least limit files name e other

-- a fault in a later part is one in the call
pub open_later : (before mid now : ℕ) (e : Open) → before ≤ mid → OpenFails mid now e → OpenFails before now e
open_later before mid now Fault low fails = omega (arith, low, fails)
open_later before mid now BadMeta low fails = tt
open_later before mid now Memory low fails = tt

pub result_later : {T : Type 0} (before mid now : ℕ) (r : Result T Open) → before ≤ mid → IfErr r (λ e. OpenFails mid now e) → IfErr r (λ e. OpenFails before now e)
result_later before mid now (Ok _) low fails = tt
result_later before mid now (Err e) low fails = open_later before mid now e low fails

pub err_counts : (before mid now : ℕ) (e : Open) → mid ≡ before → OpenCounts {T = ℕ} mid now (Err e) → OpenCounts {T = ℕ} before now (Err e)
err_counts before mid now Fault as_before counted = subst (λ (n : ℕ). CountsFault n now true) as_before counted
err_counts before mid now BadMeta as_before counted = counted ∙ as_before
err_counts before mid now Memory as_before counted = counted ∙ as_before

-- what is found and what is done with the files
pub plans_with : (least limit : ℕ) (files : Files) (name : List ℕ) (plan : Plan) (p : Positions) (walk : Walk) → plan.depth ≡ walk.depth → plan.bad.items ≡ walk.bad.items → plan.above ≡ p.write_file + 1 → plan.below ≡ p.read_file
    → IsSettled p walk.depth walk.bad.items plan.positions → FoundBetween least limit p (content files name) walk.depth walk.bad.items → PlansWith least limit files name plan p
plans_with least limit files name plan p walk d b above below s f = record {
  found = subst (λ (n : ℕ). FoundBetween least limit p (content files name) n plan.bad.items) (sym d) (subst (λ (ns : List ℕ). FoundBetween least limit p (content files name) walk.depth ns) (sym b) f);
  above = above;
  below = below;
  settles = subst (λ (n : ℕ). IsSettled p n plan.bad.items plan.positions) (sym d) (subst (λ (ns : List ℕ). IsSettled p walk.depth ns plan.positions) (sym b) s);
}

-- without it
pub planned_without : (least limit : ℕ) (f0 f1 : Files) (name file numbers : List ℕ) (o : Option Positions) (plan : Plan) → f1 ≡ f0 → file ≡ meta_file name → o ≡ None → SaysWhere (f0 file) o
    → HasNumbers f1 name numbers → plan.numbers.items ≡ numbers → PlansWithout plan → IsPlanned least limit f0 name plan
planned_without least limit f0 f1 name file numbers o plan same spelled is says has ns without =
    let none : f0 (meta_file name) ≡ None = subst (λ (n : List ℕ). f0 n ≡ None) spelled (subst (λ (x : Option Positions). SaysWhere (f0 file) x) is says) in
    record {
      numbers = subst (λ (xs : List ℕ). HasNumbers f0 name xs) (sym ns) (subst (λ (f : Files). HasNumbers f name numbers) same has);
      with_meta = λ p s. let contra : None ≡ Some s.text = sym none ∙ s.there in cc;
      without = λ _. without;
      either = inl none;
    }

-- with metadata
pub planned_with : {E : Type 0} (least limit : ℕ) (f0 f2 : Files) (name name' file numbers : List ℕ) (p : Positions) (o : Option Positions) (r : Result Plan E) → f2 ≡ f0 → name' ≡ name → file ≡ meta_file name → o ≡ Some p → SaysWhere (f0 file) o
    → HasNumbers f0 name numbers → IfOk r (λ plan. plan.numbers.items ≡ numbers) → (HasNumbers f2 name' numbers → IfOk r (λ plan. PlansWith least limit f2 name' plan p)) → IfOk r (λ plan. IsPlanned least limit f0 name plan)
planned_with least limit f0 f2 name name' file numbers p o (Ok plan) same named spelled is says has ns plans =
    let here : Says (f0 (meta_file name)) p = subst (λ (n : List ℕ). Says (f0 n) p) spelled (subst (λ (x : Option Positions). SaysWhere (f0 file) x) is says) in
    let has' : HasNumbers f2 name' numbers = subst (λ (f : Files). HasNumbers f name' numbers) (sym same) (subst (λ (n : List ℕ). HasNumbers f0 n numbers) (sym named) has) in
    let with : PlansWith least limit f0 name plan p
    = subst (λ (f : Files). PlansWith least limit f name plan p) same (subst (λ (n : List ℕ). PlansWith least limit f2 n plan p) named (plans has')) in
    record {
      numbers = subst (λ (xs : List ℕ). HasNumbers f0 name xs) (sym ns) has;
      with_meta = λ q s. subst (λ (x : Positions). PlansWith least limit f0 name plan x) (says_one (f0 (meta_file name)) p q here s) with;
      without = λ none. let contra : None ≡ Some here.text = sym none ∙ here.there in cc;
      either = inr (p, here);
    }
planned_with least limit f0 f2 name name' file numbers p o (Err _) same named spelled is says has ns plans = tt
