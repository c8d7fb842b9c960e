-- What an opening found is read where the bad files are gone.
use Rattle.std.proofs.Common.{◌≡◌, ℕ, ◌+◌, ◌^◌, ◌<◌, ◌≤◌, ◌⊎◌, List, [], ◌∷◌, ◌++◌, length, take, refl, sym, ◌∙◌, ap, subst, inl, inr, arith}
use Rattle.std.proofs.lemmas.List.{append-nil}
use Rattle.std.proofs.lemmas.List.Elements.{Contains-append_left, Contains-push, Contains-push_cases}
use Rattle.std.proofs.lemmas.Bool.{cases_eq}
use Rattle.std.proofs.lemmas.Bool.Decides.{eqb_tells}
use Rattle.std.specs.List.{slice_range, Contains}
use Rattle.queue_image.specs.Records.{IsRow}
use Rattle.queue_image.specs.Places.{IsOrdered, part_start, part_end}
use Rattle.queue_image.specs.Between.{Reads}
use Rattle.queue_image.specs.Between.Reads.{arrives, turns}
use Rattle.queue_image.specs.Finds.{IsGoodFile, IsBadFile, Walks}
use Rattle.queue_image.specs.Finds.Walks.{starts, good, passes}
use Rattle.queue_image.specs.declared.positions.Positions.{Positions}
use Rattle.queue_image.proofs.Reading.{joined, keeps}
use Rattle.queue_image.proofs.Keeping.{good_is_read}
use Rattle.queue_image.proofs.Walking.{walk_starts, reads_row, if_same, start_later, end_earlier, not_both}

module _ (least limit : ℕ) (p : Positions) (old new : ℕ → List ℕ) where
  nothing_yet : {k : ℕ} {bodies : List (List ℕ)} {bad : List ℕ} → Walks least limit p old k bodies bad → k ≡ p.read_file → bodies ≡ []
  nothing_yet (starts e) same = refl
  nothing_yet (good more w g e h) same = absurd (let low = walk_starts least limit p old w in omega arith)
  nothing_yet (passes w b e h) same = absurd (let low = walk_starts least limit p old w in omega arith)

  -- the bad files are those that are listed
  pub bad_listed : {k : ℕ} {bodies : List (List ℕ)} {bad : List ℕ} → limit < 2 ^ 32 → Walks least limit p old k bodies bad → (j : ℕ) → p.read_file ≤ j → j < k → IsBadFile least limit p j (old j) → Contains bad j
  bad_listed small (starts e) j low high b = absurd (omega arith)
  bad_listed small (good {k = m} {bad = bad} more w g e h) j low high b =
      elim (cases_eq j m) [
        | inl here ↦ absurd (not_both least limit p old m more small g (subst (λ (i : ℕ). IsBadFile least limit p i (old i)) here b))
        | inr apart ↦ bad_listed small w j low (omega (arith, e, high, apart)) b
      ]
  bad_listed small (passes {k = m} {bad = bad} w c e h) j low high b =
      subst (λ (ns : List ℕ). Contains ns j) (sym h)
      (elim (cases_eq j m) [
        | inl here ↦ subst (λ (i : ℕ). Contains (bad ++ m ∷ []) i) (sym here) (Contains-push bad m)
        | inr apart ↦ Contains-append_left bad (m ∷ []) j (bad_listed small w j low (omega (arith, e, high, apart)) b)
      ])

  pub listed_bad : {k : ℕ} {bodies : List (List ℕ)} {bad : List ℕ} → Walks least limit p old k bodies bad → (j : ℕ) → Contains bad j → IsBadFile least limit p j (old j)
  listed_bad (starts e) j its = absurd (omega (arith, its.1))
  listed_bad (good more w g e h) j its = listed_bad w j its
  listed_bad (passes {k = m} {bad = bad} w b e h) j its =
      elim (Contains-push_cases bad m j (subst (λ (ns : List ℕ). Contains ns j) h its)) [
        | inl before ↦ listed_bad w j before
        | inr here ↦ subst (λ (i : ℕ). IsBadFile least limit p i (old i)) here b
      ]

  -- reading on to the end of a file that was good, and to the next one's start
  reads_on : (m f a : ℕ) {done more : List (List ℕ)} → m < p.write_file → Reads least limit new m (part_start p m) f a done → IsGoodFile least limit p m (old m) more → new m ≡ old m
      → Reads least limit new (m + 1) 0 f a (done ++ more)
  reads_on m f a {done} {more} before r g same =
      let ends : part_end p m (length (old m)) ≡ length (new m) = end_earlier least limit p old m before ∙ ap length (sym same) in
      let inside : part_start p m ≤ length (new m) = omega (arith, g.starts_inside, ap length same) in
      let row : IsRow least limit (slice_range (new m) (part_start p m) (length (new m))) more
      = subst (λ (bs : List ℕ). IsRow least limit (slice_range bs (part_start p m) (length (new m))) more) (sym same)
      (subst (λ (b : ℕ). IsRow least limit (slice_range (old m) (part_start p m) b) more) ends g.row) in
      let here : Reads least limit new m (length (new m)) f a (done ++ more) = joined least limit r (reads_row least limit new m (length (new m)) (part_start p m) more row inside (omega arith)) in
      subst (λ (zs : List (List ℕ)). Reads least limit new (m + 1) 0 f a zs) (append-nil (done ++ more)) (joined least limit here (turns refl (arrives refl refl)))

  -- the same past a file that was bad
  pub reads_past : (m f a : ℕ) {done : List (List ℕ)} → Reads least limit new m 0 f a done → new m ≡ [] → Reads least limit new (m + 1) 0 f a done
  reads_past m f a {done} r none =
      subst (λ (zs : List (List ℕ)). Reads least limit new (m + 1) 0 f a zs) (append-nil done) (joined least limit r (turns (sym (ap length none)) (arrives refl refl)))

  module _ (from : ℕ) (is_bad : IsBadFile least limit p p.read_file (old p.read_file) → from ≡ 0)
      (is_good : (xs : List (List ℕ)) → IsGoodFile least limit p p.read_file (old p.read_file) xs → from ≡ p.read_at) where
    moved : (k : ℕ) (bodies all : List (List ℕ)) (m : ℕ) → k ≡ m + 1 → bodies ≡ all → Reads least limit new (m + 1) 0 p.read_file from all → Reads least limit new k 0 p.read_file from bodies
    moved k bodies all m e h r =
        subst (λ (j : ℕ). Reads least limit new j 0 p.read_file from bodies) (sym e) (subst (λ (zs : List (List ℕ)). Reads least limit new (m + 1) 0 p.read_file from zs) (sym h) r)

    -- what was found before a file is read up to its start
    pub reads_kept : {k : ℕ} {bodies : List (List ℕ)} {bad : List ℕ} → Walks least limit p old k bodies bad → p.read_file < k → k ≤ p.write_file
        → ((j : ℕ) → p.read_file ≤ j → j < k → IsBadFile least limit p j (old j) → new j ≡ [])
        → ((j : ℕ) (xs : List (List ℕ)) → p.read_file ≤ j → j < k → IsGoodFile least limit p j (old j) xs → new j ≡ old j)
        → Reads least limit new k 0 p.read_file from bodies
    reads_kept (starts e) past below mended kept = absurd (omega arith)
    reads_kept {k} {bodies} (good {k = m} {bodies = done} more w g e h) past below mended kept =
        let low = walk_starts least limit p old w in
        let same : new m ≡ old m = kept m more low (omega arith) g in
        elim (eqb_tells m p.read_file) [
          | inl first ↦ let none : done ≡ [] = nothing_yet w first.1 in
              let at : from ≡ p.read_at = is_good more (subst (λ (j : ℕ). IsGoodFile least limit p j (old j) more) first.1 g) in
              let start : Reads least limit new m (part_start p m) p.read_file from done
              = subst (λ (zs : List (List ℕ)). Reads least limit new m (part_start p m) p.read_file from zs) (sym none)
              (arrives (sym first.1) (at ∙ sym (if_same m p.read_file p.read_at 0 first.1))) in
              moved k bodies (done ++ more) m e h (reads_on m p.read_file from (omega arith) start g same)
          | inr later ↦ let rest = reads_kept w (omega (arith, later.1)) (omega arith) (λ j a b. mended j a (omega arith)) (λ j xs a b. kept j xs a (omega arith)) in
              let zero : part_start p m ≡ 0 = start_later least limit p old m (omega (arith, later.1)) in
              moved k bodies (done ++ more) m e h
              (reads_on m p.read_file from (omega arith) (subst (λ (b : ℕ). Reads least limit new m b p.read_file from done) (sym zero) rest) g same)
        ]
    reads_kept {k} {bodies} (passes {k = m} w b e h) past below mended kept =
        let low = walk_starts least limit p old w in
        let none : new m ≡ [] = mended m low (omega arith) b in
        elim (eqb_tells m p.read_file) [
          | inl first ↦ let nothing : bodies ≡ [] = nothing_yet w first.1 in
              let zero : from ≡ 0 = is_bad (subst (λ (j : ℕ). IsBadFile least limit p j (old j)) first.1 b) in
              let start : Reads least limit new m 0 p.read_file from bodies
              = subst (λ (zs : List (List ℕ)). Reads least limit new m 0 p.read_file from zs) (sym nothing) (arrives (sym first.1) zero) in
              subst (λ (j : ℕ). Reads least limit new j 0 p.read_file from bodies) (sym e) (reads_past m p.read_file from start none)
          | inr later ↦ let rest = reads_kept w (omega (arith, later.1)) (omega arith) (λ j a c. mended j a (omega arith)) (λ j xs a c. kept j xs a (omega arith)) in
              subst (λ (j : ℕ). Reads least limit new j 0 p.read_file from bodies) (sym e) (reads_past m p.read_file from rest none)
        ]

  -- the last step of a walk
  pub record LastGood (bodies : List (List ℕ)) : Type 0 where
    pub done : List (List ℕ)
    pub more : List (List ℕ)
    pub bad : List ℕ
    pub walks : Walks least limit p old p.write_file done bad
    pub good : IsGoodFile least limit p p.write_file (old p.write_file) more
    pub whole : bodies ≡ done ++ more

  pub record LastBad (bodies : List (List ℕ)) : Type 0 where
    pub bad : List ℕ
    pub walks : Walks least limit p old p.write_file bodies bad
    pub is_bad : IsBadFile least limit p p.write_file (old p.write_file)

  pub last_step : {k : ℕ} {bodies : List (List ℕ)} {bad : List ℕ} → Walks least limit p old k bodies bad → k ≡ p.write_file + 1 → p.read_file ≤ p.write_file → LastGood bodies ⊎ LastBad bodies
  last_step (starts e) k order = absurd (omega arith)
  last_step (good {k = m} {bodies = done} {bad = bad} more w g e h) k order =
      let here : m ≡ p.write_file = omega (arith, k, e) in
      inl (record {
        done = done;
        more = more;
        bad = bad;
        walks = subst (λ (j : ℕ). Walks least limit p old j done bad) here w;
        good = subst (λ (j : ℕ). IsGoodFile least limit p j (old j) more) here g;
        whole = h;
      })
  last_step (passes {k = m} {bodies = bodies} {bad = bad} w b e h) k order =
      let here : m ≡ p.write_file = omega (arith, k, e) in
      inr (record { bad = bad; walks = subst (λ (j : ℕ). Walks least limit p old j bodies bad) here w; is_bad = subst (λ (j : ℕ). IsBadFile least limit p j (old j)) here b })

  -- nothing is found before the read file
  pub nothing_before : {bodies : List (List ℕ)} {bad : List ℕ} → Walks least limit p old p.write_file bodies bad → p.write_file ≡ p.read_file → bodies ≡ []
  nothing_before w same = nothing_yet w same

  -- the part of the write file is read
  pub reads_last : (more : List (List ℕ)) → IsOrdered p → IsGoodFile least limit p p.write_file (old p.write_file) more → take p.write_at (new p.write_file) ≡ take p.write_at (old p.write_file)
      → Reads least limit new p.write_file p.write_at p.write_file (part_start p p.write_file) more
  reads_last more order g same =
      let ends : part_end p p.write_file (length (old p.write_file)) ≡ p.write_at = if_same p.write_file p.write_file p.write_at (length (old p.write_file)) refl in
      keeps least limit
      (subst (λ (b : ℕ). Reads least limit old p.write_file b p.write_file (part_start p p.write_file) more) ends (good_is_read least limit p old p.write_file more order g))
      (λ k low high. absurd (omega (arith, low, high))) same
