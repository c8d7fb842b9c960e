-- What an opening found stays readable: the bad files count as empty afterwards, and the good ones are as they were.
use Rattle.std.proofs.Common.{◌≡◌, ℕ, ◌+◌, ◌<◌, ◌≤◌, List, [], ◌++◌, length, refl, sym, ◌∙◌, ap, subst, inl, inr, arith}
use Rattle.std.proofs.lemmas.List.{append-nil}
use Rattle.std.proofs.lemmas.Bool.Decides.{eqb_tells}
use Rattle.std.specs.List.{slice_range}
use Rattle.queue_image.specs.Records.{IsRow}
use Rattle.queue_image.specs.Places.{part_start, part_end}
use Rattle.queue_image.specs.Between.{Reads}
use Rattle.queue_image.specs.Between.Reads.{arrives, turns}
use Rattle.queue_image.specs.Finds.{IsGoodFile, IsBadFile, Walks}
use Rattle.queue_image.specs.Finds.Walks.{starts, good, passes}
use Rattle.queue_laws.specs.Laws.{FoundUpTo}
use Rattle.queue_image.specs.declared.positions.Positions.{Positions}
use Rattle.queue_image.proofs.Reading.{joined}
use Rattle.queue_image.proofs.Walking.{walk_starts, reads_row, if_same, start_later, end_earlier}

module _ (least limit : ℕ) (p : Positions) (old new : ℕ → List ℕ) where
  nothing_yet : {k : ℕ} {bodies : List (List ℕ)} {bad : List ℕ} → Walks least limit p old k bodies bad → k ≡ p.read_file → bodies ≡ []
  nothing_yet (starts e) same = refl
  nothing_yet (good more w g e h) same = absurd (let low = walk_starts least limit p old w in omega arith)
  nothing_yet (passes w b e h) same = absurd (let low = walk_starts least limit p old w in omega arith)

  -- reading on to the end of a file that was good, and to the next one's start
  reads_on : (m f a : ℕ) {done more : List (List ℕ)} → m < p.write_file → Reads least limit new m (part_start p m) f a done → IsGoodFile least limit p m (old m) more → new m ≡ old m
      → Reads least limit new (m + 1) 0 f a (done ++ more)
  reads_on m f a {done} {more} before r g same =
      let ends : part_end p m (length (old m)) ≡ length (new m) = end_earlier least limit p old m before ∙ ap length (sym same) in
      let inside : part_start p m ≤ length (new m) = omega (arith, g.starts_inside, ap length same) in
      let row : IsRow least limit (slice_range (new m) (part_start p m) (length (new m))) more
      = subst (λ (bs : List ℕ). IsRow least limit (slice_range bs (part_start p m) (length (new m))) more) (sym same)
      (subst (λ (b : ℕ). IsRow least limit (slice_range (old m) (part_start p m) b) more) ends g.row) in
      let here : Reads least limit new m (length (new m)) f a (done ++ more) = joined least limit r (reads_row least limit new m (length (new m)) (part_start p m) more row inside (omega arith)) in
      subst (λ (zs : List (List ℕ)). Reads least limit new (m + 1) 0 f a zs) (append-nil (done ++ more)) (joined least limit here (turns refl (arrives refl refl)))

  -- the same past a file that was bad
  reads_past : (m f a : ℕ) {done : List (List ℕ)} → Reads least limit new m 0 f a done → new m ≡ [] → Reads least limit new (m + 1) 0 f a done
  reads_past m f a {done} r none =
      subst (λ (zs : List (List ℕ)). Reads least limit new (m + 1) 0 f a zs) (append-nil done) (joined least limit r (turns (sym (ap length none)) (arrives refl refl)))

  pub found_up_to : {k : ℕ} {bodies : List (List ℕ)} {bad : List ℕ} → Walks least limit p old k bodies bad → p.read_file < k → k ≤ p.write_file
      → ((j : ℕ) → p.read_file ≤ j → j < k → IsBadFile least limit p j (old j) → new j ≡ [])
      → ((j : ℕ) (xs : List (List ℕ)) → p.read_file ≤ j → j < k → IsGoodFile least limit p j (old j) xs → new j ≡ old j)
      → FoundUpTo least limit p new k bodies
  found_up_to (starts e) past below mended kept = absurd (omega arith)
  found_up_to {k} {bodies} (good {k = m} {bodies = done} more w g e h) past below mended kept =
      let low = walk_starts least limit p old w in
      let same : new m ≡ old m = kept m more low (omega arith) g in
      elim (eqb_tells m p.read_file) [
        | inl first ↦ let none : done ≡ [] = nothing_yet w first.1 in
            let start : Reads least limit new m (part_start p m) p.read_file p.read_at done
            = subst (λ (zs : List (List ℕ)). Reads least limit new m (part_start p m) p.read_file p.read_at zs) (sym none) (arrives (sym first.1) (sym (if_same m p.read_file p.read_at 0 first.1))) in
            record { from = p.read_at; is = inl refl; reads = moved k bodies (done ++ more) m p.read_at e h (reads_on m p.read_file p.read_at (omega arith) start g same) }
        | inr later ↦ let rest = found_up_to w (omega (arith, later.1)) (omega arith) (λ j a b. mended j a (omega arith)) (λ j xs a b. kept j xs a (omega arith)) in
            let zero : part_start p m ≡ 0 = start_later least limit p old m (omega (arith, later.1)) in
            record {
              from = rest.from;
              is = rest.is;
              reads = moved k bodies (done ++ more) m rest.from e h
                  (reads_on m p.read_file rest.from (omega arith) (subst (λ (b : ℕ). Reads least limit new m b p.read_file rest.from done) (sym zero) rest.reads) g same);
            }
      ]
    where
      moved : (k : ℕ) (bodies all : List (List ℕ)) (m a : ℕ) → k ≡ m + 1 → bodies ≡ all → Reads least limit new (m + 1) 0 p.read_file a all → Reads least limit new k 0 p.read_file a bodies
      moved k bodies all m a e h r =
          subst (λ (j : ℕ). Reads least limit new j 0 p.read_file a bodies) (sym e) (subst (λ (zs : List (List ℕ)). Reads least limit new (m + 1) 0 p.read_file a zs) (sym h) r)
  found_up_to {k} {bodies} (passes {k = m} w b e h) past below mended kept =
      let low = walk_starts least limit p old w in
      let none : new m ≡ [] = mended m low (omega arith) b in
      elim (eqb_tells m p.read_file) [
        | inl first ↦ let nothing : bodies ≡ [] = nothing_yet w first.1 in
            let start : Reads least limit new m 0 p.read_file 0 bodies
            = subst (λ (zs : List (List ℕ)). Reads least limit new m 0 p.read_file 0 zs) (sym nothing) (arrives (sym first.1) refl) in
            record { from = 0; is = inr refl; reads = subst (λ (j : ℕ). Reads least limit new j 0 p.read_file 0 bodies) (sym e) (reads_past m p.read_file 0 start none) }
        | inr later ↦ let rest = found_up_to w (omega (arith, later.1)) (omega arith) (λ j a c. mended j a (omega arith)) (λ j xs a c. kept j xs a (omega arith)) in
            record { from = rest.from; is = rest.is; reads = subst (λ (j : ℕ). Reads least limit new j 0 p.read_file rest.from bodies) (sym e) (reads_past m p.read_file rest.from rest.reads none) }
      ]
