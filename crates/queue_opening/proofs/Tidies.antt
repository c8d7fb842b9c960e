-- What an opening does with a queue's files, all together.
use Rattle.std.proofs.Common.{◌≡◌, ℕ, ◌^◌, ◌<◌, ◌≤◌, ◌⊎◌, List, [], length, Option, Some, None, IsSome, unwrap_or, refl, sym, ◌∙◌, ap, subst, inl, inr, arith}
use Rattle.std.specs.List.{Contains}
use Rattle.nsq_outside.specs.Causes.{DidFails}
use Rattle.nsq_outside.specs.Files.{Files, OnlyChanges, Cuts, cut_to}
use Rattle.nsq_outside.specs.declared.did.Did.{Did}
use Rattle.nsq_outside.specs.declared.did.Did.TheVariants.{Done, Failed}
use Rattle.queue_image.specs.FileNames.{data_file, meta_file, meta_temp, set_aside}
use Rattle.queue_image.specs.Between.{content}
use Rattle.std.proofs.lemmas.Bool.{cases_eq}
use Rattle.queue_image.specs.Metas.{meta_text}
use Rattle.queue_image.proofs.Naming.{metadata_apart}
use Rattle.queue_files.specs.Replaced.{Replaces, OnlyTwoChange}
use Rattle.queue_opening.specs.Tidied.{IsSetAside, IsMoved, IsAside, StaysOrGoes, OnlyAsideChanges, RemovedWhere, OnlyRemovedChange, SetsAside, OnlyTidied, IsTidy, TidyWhere, IsPartlyTidy, WrittenWhere, OnlyWritten}
use Rattle.queue_opening.specs.Planned.{IsPlan}
use Rattle.queue_opening.specs.declared.plan.Plan.{Plan}
use Rattle.queue_files.proofs.WrittenBytes.{length-cut_to}
use Rattle.queue_opening.proofs.Walks.{file_order}
use Rattle.queue_opening.proofs.Asides.{none_some, data_apart, data_not_aside, aside_not_data, asides_apart}

-- the same of their bytes
pub bytes_of : {o o' : Option (List ℕ)} → o ≡ o' → unwrap_or o [] ≡ unwrap_or o' []
bytes_of e = ap (λ (x : Option (List ℕ)). unwrap_or x []) e

module _ (name : List ℕ) (plan : Plan) (i : IsPlan plan) where
  abbrev pub write : ℕ
  write = plan.positions.write_file

  write_small : write < 2 ^ 64
  write_small = let range = i.range in let high = range.write_file in omega (arith, high)

  below_write : plan.below ≤ write
  below_write = let low = i.below in let order = file_order plan.positions i.ordered in omega (arith, low, order)

  range_below : plan.below ≤ 2 ^ 40
  range_below = let range = i.range in let high = range.write_file in omega (arith, high, below_write)

  -- after the first step
  pub tidied_removed : (f0 f1 : Files) → OnlyRemovedChange name plan.numbers.items plan.below f0 f1 → OnlyTidied name plan f0 f1
  tidied_removed f0 f1 o file apart removed last = o file removed

  -- what is not removed is as it was after that
  not_removed : (f0 f1 : Files) → OnlyRemovedChange name plan.numbers.items plan.below f0 f1 → (k : ℕ) → k < 2 ^ 64 → plan.below ≤ k → f1 (data_file name k) ≡ f0 (data_file name k)
  not_removed f0 f1 o k fits low = o (data_file name k) (λ j _ high. data_apart name k j fits (omega (arith, high, range_below)) (λ e. omega (arith, e, high, low)))

  pub tidied_above : (f0 f1 f2 : Files) → OnlyRemovedChange name plan.numbers.items plan.below f0 f1 → OnlyAsideChanges name plan.numbers.items plan.above f1 f2 → OnlyTidied name plan f0 f2
  tidied_above f0 f1 f2 r o file apart removed last =
      o file (λ k fits its low some. let order = i.apart in
      apart k fits (inl (its, low)) (subst (λ (x : Option (List ℕ)). IsSome x) (not_removed f0 f1 r k fits (omega (arith, order, low))) some)) ∙ r file removed

  -- a bad file is as it was before the third
  bad_same : (f0 f1 f2 : Files) → OnlyRemovedChange name plan.numbers.items plan.below f0 f1 → OnlyAsideChanges name plan.numbers.items plan.above f1 f2 → (k : ℕ) → k < 2 ^ 64 → Contains plan.bad.items k
      → f2 (data_file name k) ≡ f0 (data_file name k)
  bad_same f0 f1 f2 r o k fits its =
      let h = i.bad k its in
      o (data_file name k) (λ j small _ low _. (data_apart name k j fits small (λ e. omega (arith, e, h.1, low)), data_not_aside name k j fits)) ∙ not_removed f0 f1 r k fits h.0

  pub tidied_bad : (f0 f1 f2 f3 : Files) → OnlyRemovedChange name plan.numbers.items plan.below f0 f1 → OnlyAsideChanges name plan.numbers.items plan.above f1 f2 → OnlyAsideChanges name plan.bad.items 0 f2 f3
      → OnlyTidied name plan f0 f3
  tidied_bad f0 f1 f2 f3 r o p file apart removed last =
      p file (λ k fits its _ some. apart k fits (inr its) (subst (λ (x : Option (List ℕ)). IsSome x) (bad_same f0 f1 f2 r o k fits its) some)) ∙ tidied_above f0 f1 f2 r o file apart removed last

  pub tidied_cut : (f0 f3 f4 : Files) → OnlyTidied name plan f0 f3 → OnlyChanges f3 f4 (data_file name write) → OnlyTidied name plan f0 f4
  tidied_cut f0 f3 f4 o p file apart removed last = p file last ∙ o file apart removed last

  not_below : (k : ℕ) → SetsAside plan k → plan.below ≤ k
  not_below k (inl above) = let order = i.apart in omega (arith, order, above.1)
  not_below k (inr bad) = let h = i.bad k bad in h.0

  -- what the plan doesn't set aside is not among the files that are
  write_kept : (f0 f1 f2 f3 : Files) → OnlyRemovedChange name plan.numbers.items plan.below f0 f1 → OnlyAsideChanges name plan.numbers.items plan.above f1 f2 → OnlyAsideChanges name plan.bad.items 0 f2 f3
      → ¬ SetsAside plan write → f3 (data_file name write) ≡ f0 (data_file name write)
  write_kept f0 f1 f2 f3 o1 o2 o3 not =
      let w = data_file name write in
      o3 w (λ j few its _ _. (data_apart name write j write_small few (λ e. not (inr (subst (λ (n : ℕ). Contains plan.bad.items n) (sym e) its))), data_not_aside name write j write_small))
      ∙ o2 w (λ j few its low _. (data_apart name write j write_small few (λ e. not (inl (subst (λ (n : ℕ). Contains plan.numbers.items n) (sym e) its, omega (arith, e, low)))), data_not_aside name write j write_small))
      ∙ not_removed f0 f1 o1 write write_small below_write

  -- before the cut
  pub partly_before : (f0 f1 f2 f3 : Files) → OnlyRemovedChange name plan.numbers.items plan.below f0 f1 → OnlyAsideChanges name plan.numbers.items plan.above f1 f2 → StaysOrGoes name f1 f2
      → OnlyAsideChanges name plan.bad.items 0 f2 f3 → StaysOrGoes name f2 f3 → IsPartlyTidy name plan f0 f3
  partly_before f0 f1 f2 f3 o1 o2 e2 o3 e3 = record {
    aside = λ k fits its.
        let same = not_removed f0 f1 o1 k fits (not_below k its) in
        elim (e3 k fits) [
          | inr gone ↦ inr (inl (bytes_of gone))
          | inl kept ↦ elim (e2 k fits) [ inr gone ↦ inr (inl (bytes_of (kept ∙ gone))) | inl still ↦ inl (bytes_of (kept ∙ still ∙ same)) ]
        ];
    cut = λ not. inl (bytes_of (write_kept f0 f1 f2 f3 o1 o2 o3 not));
  }

  pub partly_removed : (f0 f1 : Files) → OnlyRemovedChange name plan.numbers.items plan.below f0 f1 → IsPartlyTidy name plan f0 f1
  partly_removed f0 f1 o1 = partly_before f0 f1 f1 f1 o1 (λ file apart. refl) (λ k fits. inl refl) (λ file apart. refl) (λ k fits. inl refl)

  pub partly_above : (f0 f1 f2 : Files) → OnlyRemovedChange name plan.numbers.items plan.below f0 f1 → OnlyAsideChanges name plan.numbers.items plan.above f1 f2 → StaysOrGoes name f1 f2 → IsPartlyTidy name plan f0 f2
  partly_above f0 f1 f2 o1 o2 e2 = partly_before f0 f1 f2 f2 o1 o2 e2 (λ file apart. refl) (λ k fits. inl refl)

  -- where all was set aside each file is as it was or gone
  pub aside_either : (numbers : List ℕ) (from : ℕ) (old new : Files) → IsAside name numbers from old new → StaysOrGoes name old new
  aside_either numbers from old new a k fits = elim (a.either k fits) [ inl same ↦ inl same | inr m ↦ inr m.gone ]

  module _ (f0 f1 f2 f3 f4 : Files) (r1 : RemovedWhere name plan.numbers.items plan.below f1 Done) (o1 : OnlyRemovedChange name plan.numbers.items plan.below f0 f1)
      (a2 : IsAside name plan.numbers.items plan.above f1 f2) (o2 : OnlyAsideChanges name plan.numbers.items plan.above f1 f2) (a3 : IsAside name plan.bad.items 0 f2 f3)
      (o3 : OnlyAsideChanges name plan.bad.items 0 f2 f3) (o4 : OnlyChanges f3 f4 (data_file name write)) where
    -- a file is set aside once that is so before the cut
    all_aside : (k : ℕ) → k < 2 ^ 64 → IsMoved name f0 f3 k → (f0 (data_file name k) ≡ None → f3 (set_aside (data_file name k)) ≡ f0 (set_aside (data_file name k))) → IsSetAside name f0 f4 write k
    all_aside k fits m stays = record {
      moved = λ some. o4 (set_aside (data_file name k)) (aside_not_data name k write write_small) ∙ m.moved some;
      gone = λ apart. o4 (data_file name k) (data_apart name k write fits write_small apart) ∙ m.gone;
      stays = λ none. o4 (set_aside (data_file name k)) (aside_not_data name k write write_small) ∙ stays none;
    }

    moved_all : (k : ℕ) → k < 2 ^ 64 → SetsAside plan k → IsMoved name f0 f3 k
    moved_all k fits (inl above) =
        let m = a2.moves k fits above.0 above.1 in
        let same = not_removed f0 f1 o1 k fits (not_below k (inl above)) in
        record {
          gone = elim (a3.either k fits) [ inl kept ↦ kept ∙ m.gone | inr again ↦ again.gone ];
          moved = λ some. o3 (set_aside (data_file name k)) (λ j small its _ _.
              let h = i.bad j its in (aside_not_data name k j small, asides_apart name k j fits small (λ e. omega (arith, e, h.1, above.1))))
              ∙ m.moved (subst (λ (x : Option (List ℕ)). IsSome x) (sym same) some) ∙ same;
        }
    moved_all k fits (inr bad) =
        let m = a3.moves k fits bad (omega arith) in
        let same = bad_same f0 f1 f2 o1 o2 k fits bad in
        record { gone = m.gone; moved = λ some. m.moved (subst (λ (x : Option (List ℕ)). IsSome x) (sym same) some) ∙ same }

    -- a name of one that is absent is not touched
    stays_all : (k : ℕ) → k < 2 ^ 64 → f0 (data_file name k) ≡ None → f3 (set_aside (data_file name k)) ≡ f0 (set_aside (data_file name k))
    stays_all k fits none =
        tidied_bad f0 f1 f2 f3 o1 o2 o3 (set_aside (data_file name k))
        (λ j small its some. (aside_not_data name k j small, asides_apart name k j fits small (λ e. none_some (f0 (data_file name j)) (subst (λ (n : ℕ). f0 (data_file name n) ≡ None) e none) some)))
        (λ j _ high. aside_not_data name k j (omega (arith, high, range_below))) (aside_not_data name k write write_small)

    -- with the cut, made or not
    pub partly_cut : (did : Did) → Cuts (f3 (data_file name write)) (f4 (data_file name write)) plan.positions.write_at did → IsPartlyTidy name plan f0 f4
    partly_cut did cut = record {
      aside = λ k fits its. elim (cases_eq k write) [
        | inl here ↦ subst (λ (j : ℕ). (content f4 name j ≡ content f0 name j) ⊎ (content f4 name j ≡ []) ⊎ ((j ≡ write) × (content f4 name j ≡ cut_to [] plan.positions.write_at))) (sym here)
            (at_write did cut (bytes_of (moved_all write write_small (subst (λ (j : ℕ). SetsAside plan j) here its)).gone))
        | inr apart ↦ inr (inl (bytes_of (o4 (data_file name k) (data_apart name k write fits write_small apart) ∙ (moved_all k fits its).gone)))
      ];
      cut = λ not. not_aside_cut did cut (write_kept f0 f1 f2 f3 o1 o2 o3 not);
    }
      where
        at_write : (did : Did) → Cuts (f3 (data_file name write)) (f4 (data_file name write)) plan.positions.write_at did → content f3 name write ≡ []
            → (content f4 name write ≡ content f0 name write) ⊎ (content f4 name write ≡ []) ⊎ ((write ≡ write) × (content f4 name write ≡ cut_to [] plan.positions.write_at))
        at_write Done cut none = inr (inr (refl, bytes_of cut ∙ ap (λ (x : List ℕ). cut_to x plan.positions.write_at) none))
        at_write Failed (inl same) none = inr (inl (bytes_of same ∙ none))
        at_write Failed (inr made) none = inr (inr (refl, bytes_of made ∙ ap (λ (x : List ℕ). cut_to x plan.positions.write_at) none))

        not_aside_cut : (did : Did) → Cuts (f3 (data_file name write)) (f4 (data_file name write)) plan.positions.write_at did → f3 (data_file name write) ≡ f0 (data_file name write)
            → (content f4 name write ≡ content f0 name write) ⊎ (content f4 name write ≡ cut_to (content f0 name write) plan.positions.write_at)
        not_aside_cut Done cut kept = inr (bytes_of cut ∙ ap (λ (x : List ℕ). cut_to x plan.positions.write_at) (bytes_of kept))
        not_aside_cut Failed (inl same) kept = inl (bytes_of (same ∙ kept))
        not_aside_cut Failed (inr made) kept = inr (bytes_of made ∙ ap (λ (x : List ℕ). cut_to x plan.positions.write_at) (bytes_of kept))

    -- the write file before the cut
    write_same : ¬ SetsAside plan write → f3 (data_file name write) ≡ f0 (data_file name write)
    write_same not = write_kept f0 f1 f2 f3 o1 o2 o3 not

    removed_still : (k : ℕ) → k < 2 ^ 64 → k < plan.below → f1 (data_file name k) ≡ None → f4 (data_file name k) ≡ None
    removed_still k fits low none =
        let order = i.apart in
        o4 (data_file name k) (data_apart name k write fits write_small (λ e. omega (arith, e, low, below_write)))
        ∙ o3 (data_file name k) (λ j small its _ _. let h = i.bad j its in (data_apart name k j fits small (λ e. omega (arith, e, low, h.0)), data_not_aside name k j fits))
        ∙ o2 (data_file name k) (λ j small _ high _. (data_apart name k j fits small (λ e. omega (arith, e, low, high, order)), data_not_aside name k j fits)) ∙ none

    pub tidied : f4 (data_file name write) ≡ Some (cut_to (unwrap_or (f3 (data_file name write)) []) plan.positions.write_at) → IsTidy name plan f0 f4
    tidied cut = record {
      aside = λ k fits its. all_aside k fits (moved_all k fits its) (stays_all k fits);
      removed = λ k its low. removed_still k (omega (arith, low, range_below)) low (r1 k its low);
      cut = λ not. cut ∙ ap (λ (x : Option (List ℕ)). Some (cut_to (unwrap_or x []) plan.positions.write_at)) (write_same not);
      ends = ap (λ (x : Option (List ℕ)). length (unwrap_or x [])) cut ∙ length-cut_to (unwrap_or (f3 (data_file name write)) []) plan.positions.write_at;
    }

-- a fault in a later part is one in the call
pub did_later : (before mid now : ℕ) (did : Did) → before ≤ mid → DidFails mid now did → DidFails before now did
did_later before mid now Done low fails = tt
did_later before mid now Failed low fails = omega (arith, low, fails)

-- the names and the numbers as they are
pub as_named : (P : List ℕ → List ℕ → Type 0) (a b xs ys : List ℕ) → a ≡ b → xs ≡ ys → P a xs → P b ys
as_named P a b xs ys e f h = subst (λ (ns : List ℕ). P b ns) f (subst (λ (n : List ℕ). P n xs) e h)

pub tidy_where : (name : List ℕ) (plan : Plan) (i : IsPlan plan) (f0 f1 f2 f3 f4 : Files) (did : Did) → RemovedWhere name plan.numbers.items plan.below f1 Done → OnlyRemovedChange name plan.numbers.items plan.below f0 f1
    → IsAside name plan.numbers.items plan.above f1 f2 → OnlyAsideChanges name plan.numbers.items plan.above f1 f2 → IsAside name plan.bad.items 0 f2 f3 → OnlyAsideChanges name plan.bad.items 0 f2 f3
    → OnlyChanges f3 f4 (data_file name plan.positions.write_file) → Cuts (f3 (data_file name plan.positions.write_file)) (f4 (data_file name plan.positions.write_file)) plan.positions.write_at did
    → TidyWhere name plan f0 f4 did
tidy_where name plan i f0 f1 f2 f3 f4 Done r1 o1 a2 o2 a3 o3 o4 cut = tidied name plan i f0 f1 f2 f3 f4 r1 o1 a2 o2 a3 o3 o4 cut
tidy_where name plan i f0 f1 f2 f3 f4 Failed r1 o1 a2 o2 a3 o3 o4 cut = tt

-- the list is saved, and then the files below the read file are removed
pub written_where : (name : List ℕ) (plan : Plan) (f0 f1 f2 : Files) (did : Did) → plan.positions.read_file ≤ 2 ^ 40 → Replaces f0 f1 (meta_file name) (meta_temp name) (meta_text plan.depth plan.positions) Done
    → RemovedWhere name plan.numbers.items plan.positions.read_file f2 did → OnlyRemovedChange name plan.numbers.items plan.positions.read_file f1 f2 → WrittenWhere name plan f0 f2 did
written_where name plan f0 f1 f2 Done small r gone o = record {
  meta = o (meta_file name) (λ k _ low. (metadata_apart name k (omega (arith, low, small))).0) ∙ r.0;
  temp = o (meta_temp name) (λ k _ low. (metadata_apart name k (omega (arith, low, small))).1) ∙ r.1;
  removed = gone;
}
written_where name plan f0 f1 f2 Failed small r gone o = inr (o (meta_file name) (λ k _ low. (metadata_apart name k (omega (arith, low, small))).0) ∙ r.0)

-- the save failed
pub unwritten_where : (name : List ℕ) (plan : Plan) (f0 f1 : Files) → Replaces f0 f1 (meta_file name) (meta_temp name) (meta_text plan.depth plan.positions) Failed → OnlyTwoChange f0 f1 (meta_file name) (meta_temp name)
    → WrittenWhere name plan f0 f1 Failed
unwritten_where name plan f0 f1 (inl same) two = inl (record {
  meta = same;
  data_files = λ k fits. let apart = metadata_apart name k fits in two (data_file name k) (λ e. apart.0 (sym e)) (λ e. apart.1 (sym e));
})
unwritten_where name plan f0 f1 (inr text) two = inr text

pub written_others : (name : List ℕ) (plan : Plan) (f0 f1 f2 : Files) → OnlyTwoChange f0 f1 (meta_file name) (meta_temp name)
    → OnlyRemovedChange name plan.numbers.items plan.positions.read_file f1 f2 → OnlyWritten name plan f0 f2
written_others name plan f0 f1 f2 two o file meta temp removed = o file removed ∙ two file meta temp
