-- The walk over the files, and the records between the positions.
use Rattle.std.proofs.Common.{◌≡◌, ◌≢◌, ℕ, ◌+◌, ◌-◌, ◌^◌, ◌<◌, ◌≤◌, ◌==◌, ◌⊎◌, cond, List, [], ◌∷◌, ◌++◌, length, take, drop, Option, Some, None, refl, sym, ◌∙◌, ap, subst, inl, inr, arith, append_assoc, length-append, length-take, length-drop, take-append-drop, zero, suc, max}
use Rattle.std.proofs.Math.Seq.{take-append-add}
use Rattle.std.proofs.lemmas.List.{take_at, drop_at, drop-drop, drop_all, take_rest, append-nil}
use Rattle.std.proofs.lemmas.List.Folds.{drop_split}
use Rattle.std.proofs.lemmas.Bool.{eq-eqb}
use Rattle.std.proofs.lemmas.Bool.Decides.{eqb_tells}
use Rattle.std.specs.List.{slice_range}
use Rattle.queue_image.specs.FileNames.{meta_file}
use Rattle.queue_image.specs.Records.{HasRecord, record_bytes, rows, IsRow}
use Rattle.queue_image.specs.Places.{IsOrdered, IsAtEnd, IsBehind, part_start, part_end}
use Rattle.queue_image.specs.Metas.{Meta, IsMeta}
use Rattle.queue_image.specs.Between.{content, Reads, Between}
use Rattle.queue_image.specs.Between.Reads.{arrives, takes, turns}
use Rattle.queue_image.specs.Finds.{segment, IsGoodFile, IsBadFile, Walks, Finding, IsFound, Records}
use Rattle.queue_image.specs.Finds.IsBadFile.{read_past, write_past, damaged}
use Rattle.queue_image.specs.Finds.Walks.{starts, good, passes}
use Rattle.queue_image.specs.Finds.IsFound.{fresh, spoilt, empty, walked}
use Rattle.queue_image.specs.declared.positions.Positions.{Positions}
use Rattle.queue_image.proofs.RowLemmas.{same_rows, rows_are_whole, length-record}
use Rattle.queue_image.proofs.Reading.{in_order, joined}
use Rattle.queue_image.proofs.MetaLemmas.{one_meta}
use Rattle.queue_image.proofs.Lists.{empty_at_end}

pub if_same : (x y m n : ℕ) → x ≡ y → cond (x == y) m n ≡ m
if_same x y m n e = ap (λ b. cond b m n) (eq-eqb x y e)

pub if_apart : (x y m n : ℕ) → x ≢ y → cond (x == y) m n ≡ n
if_apart x y m n apart = elim (eqb_tells x y) [ inl h ↦ absurd (apart h.1) | inr h ↦ ap (λ b. cond b m n) h.0 ]

-- a record, and then what stands behind it
drop-record : (least limit : ℕ) (bytes : List ℕ) (place : ℕ) (body : List ℕ) → HasRecord least limit bytes place body
    → drop place bytes ≡ record_bytes body ++ drop (place + (4 + length body)) bytes
drop-record least limit bytes place body r =
    let n = 4 + length body in
    let behind : drop place bytes ≡ record_bytes body ++ r.back
    = ap (drop place) r.whole ∙ ap (drop place) (append_assoc r.front (record_bytes body) r.back) ∙ drop_at r.front (record_bytes body ++ r.back) place (sym r.here) in
    let rest : drop (place + n) bytes ≡ r.back = sym (drop-drop n place bytes) ∙ ap (drop n) behind ∙ drop_at (record_bytes body) r.back n (length-record body) in
    behind ∙ ap (λ (x : List ℕ). record_bytes body ++ x) (sym rest)

module _ (least limit : ℕ) where
  -- what is read within one file is a row
  pub row_within : {bytes : ℕ → List ℕ} {g b f a : ℕ} {xs : List (List ℕ)} → Reads least limit bytes g b f a xs → f ≡ g → b ≤ length (bytes f)
      → IsRow least limit (slice_range (bytes f) a b) xs
  row_within {bytes} {g} {b} {f} {a} (arrives e d) same inside =
      let none : b - a ≡ 0 = omega (arith, d) in
      record { whole = ap (λ (n : ℕ). take n (drop a (bytes f))) none; sizes = tt }
  row_within {bytes} {g} {b} {f} {a} (takes {bodies = xs} x r more) same inside =
      let here = row_within more same inside in
      let n = 4 + length x in
      let order : a + n ≤ b = elim (in_order least limit more) [ inl lt ↦ absurd (omega arith) | inr h ↦ h.1 ] in
      let count : b - a ≡ length (record_bytes x) + (b - (a + n)) = omega (arith, length-record x) in
      record {
        whole = ap (λ (m : ℕ). take m (drop a (bytes f))) count ∙ ap (take (length (record_bytes x) + (b - (a + n)))) (drop-record least limit (bytes f) a x r)
            ∙ take-append-add (record_bytes x) (drop (a + n) (bytes f)) (b - (a + n)) ∙ ap (λ (z : List ℕ). record_bytes x ++ z) here.whole;
        sizes = (r.size, here.sizes);
      }
  row_within (turns e more) same inside = absurd (elim (in_order least limit more) [ inl lt ↦ omega arith | inr h ↦ omega (arith, h.0) ])

  -- what is read up to a later file is a row up to this file's end, and what is read from the next one's start
  pub record Parts (bytes : ℕ → List ℕ) (g b f a : ℕ) (xs : List (List ℕ)) : Type 0 where
    pub here : List (List ℕ)
    pub later : List (List ℕ)
    pub whole : xs ≡ here ++ later
    pub inside : a ≤ length (bytes f)
    pub row : IsRow least limit (drop a (bytes f)) here
    pub reads : Reads least limit bytes g b (f + 1) 0 later

  pub parts : {bytes : ℕ → List ℕ} {g b f a : ℕ} {xs : List (List ℕ)} → Reads least limit bytes g b f a xs → f < g → Parts bytes g b f a xs
  parts (arrives e d) before = absurd (omega arith)
  parts {bytes} {g} {b} {f} {a} (takes {bodies = xs} x r more) before =
      let rest = parts more before in
      let fits = rest.inside in
      record {
        here = x ∷ rest.here;
        later = rest.later;
        whole = ap (λ (zs : List (List ℕ)). x ∷ zs) rest.whole;
        inside = omega (arith, fits);
        row = record { whole = drop-record least limit (bytes f) a x r ∙ ap (λ (z : List ℕ). record_bytes x ++ z) rest.row.whole; sizes = (r.size, rest.row.sizes) };
        reads = rest.reads;
      }
  parts {bytes} {g} {b} {f} {a} {xs} (turns e more) before = record {
    here = [];
    later = xs;
    whole = refl;
    inside = omega (arith, e);
    row = record { whole = drop_all a (bytes f) (omega (arith, e)); sizes = tt };
    reads = more;
  }

  -- a row within one file is read
  pub reads_row : (bytes : ℕ → List ℕ) (k b a : ℕ) (xs : List (List ℕ)) → IsRow least limit (slice_range (bytes k) a b) xs → a ≤ b → b ≤ length (bytes k) → Reads least limit bytes k b k a xs
  reads_row bytes k b a [] r order inside =
      arrives refl (omega (arith, ap length r.whole, length-take (b - a) (drop a (bytes k)), length-drop a (bytes k)))
  reads_row bytes k b a (x ∷ xs) r order inside =
      let n = 4 + length x in
      let rest = rows xs in
      let part : length (slice_range (bytes k) a b) ≡ b - a = omega (arith, length-take (b - a) (drop a (bytes k)), length-drop a (bytes k)) in
      let sum : b - a ≡ n + length rest = sym part ∙ ap length r.whole ∙ length-append (record_bytes x) rest ∙ ap (λ (m : ℕ). m + length rest) (length-record x) in
      let behind : drop a (bytes k) ≡ record_bytes x ++ (rest ++ drop b (bytes k))
      = drop_split (bytes k) a b order ∙ ap (λ (z : List ℕ). z ++ drop b (bytes k)) r.whole ∙ append_assoc (record_bytes x) rest (drop b (bytes k)) in
      let after : drop (a + n) (bytes k) ≡ rest ++ drop b (bytes k)
      = sym (drop-drop n a (bytes k)) ∙ ap (drop n) behind ∙ drop_at (record_bytes x) (rest ++ drop b (bytes k)) n (length-record x) in
      let row : slice_range (bytes k) (a + n) b ≡ rest = ap (take (b - (a + n))) after ∙ take_at rest (drop b (bytes k)) (b - (a + n)) (omega arith) in
      takes x
      (record {
        front = take a (bytes k);
        back = rest ++ drop b (bytes k);
        whole = sym (take-append-drop a (bytes k)) ∙ ap (λ (z : List ℕ). take a (bytes k) ++ z) behind ∙ sym (append_assoc (take a (bytes k)) (record_bytes x) (rest ++ drop b (bytes k)));
        here = omega (arith, length-take a (bytes k));
        size = r.sizes.0;
      })
      (reads_row bytes k b (a + n) xs (record { whole = row; sizes = r.sizes.1 }) (omega arith) inside)

  -- no file is good and bad
  pub not_both : (p : Positions) (bytes : ℕ → List ℕ) (k : ℕ) (xs : List (List ℕ)) → limit < 2 ^ 32 → IsGoodFile least limit p k (bytes k) xs → IsBadFile least limit p k (bytes k) → ⊥
  not_both p bytes k xs small g (read_past lt) = omega (arith, g.starts_inside)
  not_both p bytes k xs small g (write_past lt) = omega (arith, g.ends_inside)
  not_both p bytes k xs small g (damaged place size d) = rows_are_whole least limit xs d.before d.rest size small g.row.sizes d.sizes (sym g.row.whole ∙ d.whole) d.damage

  module _ (p : Positions) (bytes : ℕ → List ℕ) where
    pub walk_starts : {k : ℕ} {xs : List (List ℕ)} {bad : List ℕ} → Walks least limit p bytes k xs bad → p.read_file ≤ k
    walk_starts (starts e) = omega arith
    walk_starts (good more w g e h) = let before = walk_starts w in omega arith
    walk_starts (passes w b e h) = let before = walk_starts w in omega arith

    -- a walk has one outcome
    pub one_walk : {k : ℕ} {xs : List (List ℕ)} {bad : List ℕ} → limit < 2 ^ 32 → Walks least limit p bytes k xs bad → (k' : ℕ) (ys : List (List ℕ)) (bad' : List ℕ) → k ≡ k'
        → Walks least limit p bytes k' ys bad' → (xs ≡ ys) × (bad ≡ bad')
    one_walk small (starts e) k' ys bad' same (starts e') = (refl, refl)
    one_walk small (starts e) k' ys bad' same (good more w g e' h) = absurd (let before = walk_starts w in omega arith)
    one_walk small (starts e) k' ys bad' same (passes w b e' h) = absurd (let before = walk_starts w in omega arith)
    one_walk small (good more w g e h) k' ys bad' same (starts e') = absurd (let before = walk_starts w in omega arith)
    one_walk small (good {k = k} more w g e h) k' ys bad' same (good {k = m} more' w' g' e' h') =
        let here : k ≡ m = omega arith in
        let rest = one_walk small w m _ _ here w' in
        let row' = subst (λ (j : ℕ). IsGoodFile least limit p j (bytes j) more') (sym here) g' in
        let last : more ≡ more' = same_rows least limit more more' small g.row.sizes row'.row.sizes (sym g.row.whole ∙ row'.row.whole) in
        (cc, rest.1)
    one_walk small (good {k = k} more w g e h) k' ys bad' same (passes {k = m} w' b e' h') =
        let here : k ≡ m = omega arith in
        absurd (not_both p bytes k more small g (subst (λ (j : ℕ). IsBadFile least limit p j (bytes j)) (sym here) b))
    one_walk small (passes w b e h) k' ys bad' same (starts e') = absurd (let before = walk_starts w in omega arith)
    one_walk small (passes {k = k} w b e h) k' ys bad' same (good {k = m} more' w' g' e' h') =
        let here : k ≡ m = omega arith in
        absurd (not_both p bytes k more' small (subst (λ (j : ℕ). IsGoodFile least limit p j (bytes j) more') (sym here) g') b)
    one_walk small (passes {k = k} w b e h) k' ys bad' same (passes {k = m} w' b' e' h') =
        let here : k ≡ m = omega arith in
        let rest = one_walk small w m _ _ here w' in
        (rest.0, cc)

    -- where a file's part starts: not at the read position once the read file is passed
    pub start_later : (k : ℕ) → p.read_file < k → part_start p k ≡ 0
    start_later k past = if_apart k p.read_file p.read_at 0 (λ e. omega (arith, e))

    pub end_earlier : (k : ℕ) → k < p.write_file → part_end p k (length (bytes k)) ≡ length (bytes k)
    end_earlier k before = if_apart k p.write_file p.write_at (length (bytes k)) (λ e. omega (arith, e))

    end_last : (k : ℕ) → k ≡ p.write_file → part_end p k (length (bytes k)) ≡ p.write_at
    end_last k e = if_same k p.write_file p.write_at (length (bytes k)) e

    -- what is left to read is found by walking on: n files before the write file
    walk_on : (n k : ℕ) {done xs : List (List ℕ)} {bad : List ℕ} → k + n ≡ p.write_file → Walks least limit p bytes k done bad
        → Reads least limit bytes p.write_file p.write_at k (part_start p k) xs → p.write_at ≤ length (bytes p.write_file)
        → Walks least limit p bytes (p.write_file + 1) (done ++ xs) bad
    walk_on zero k {done} {xs} {bad} e w r inside =
        let last : k ≡ p.write_file = omega arith in
        let ends : part_end p k (length (bytes k)) ≡ p.write_at = end_last k last in
        let here : p.write_at ≤ length (bytes k) = subst (λ (j : ℕ). p.write_at ≤ length (bytes j)) (sym last) inside in
        let order : part_start p k ≤ p.write_at = elim (in_order least limit r) [ inl lt ↦ absurd (omega arith) | inr h ↦ h.1 ] in
        good xs w
        (record {
          starts_inside = omega arith;
          ends_inside = omega (arith, ends);
          row = subst (λ (b : ℕ). IsRow least limit (slice_range (bytes k) (part_start p k) b) xs) (sym ends) (row_within r last here);
        })
        (ap (λ (j : ℕ). j + 1) (sym last)) refl
    walk_on (suc n) k {done} {xs} {bad} e w r inside =
        let before : k < p.write_file = omega arith in
        let s = parts r before in
        let ends : part_end p k (length (bytes k)) ≡ length (bytes k) = end_earlier k before in
        let low = walk_starts w in
        let whole : segment p k (bytes k) ≡ drop (part_start p k) (bytes k) = ap (slice_range (bytes k) (part_start p k)) ends ∙ take_rest (bytes k) (part_start p k) in
        let g : IsGoodFile least limit p k (bytes k) s.here = record {
          starts_inside = s.inside;
          ends_inside = omega (arith, ends);
          row = record { whole = whole ∙ s.row.whole; sizes = s.row.sizes };
        } in
        let next : Walks least limit p bytes (k + 1) (done ++ s.here) bad = good s.here w g refl refl in
        let rest : Reads least limit bytes p.write_file p.write_at (k + 1) (part_start p (k + 1)) s.later
        = subst (λ (a : ℕ). Reads least limit bytes p.write_file p.write_at (k + 1) a s.later) (sym (start_later (k + 1) (omega arith))) s.reads in
        subst (λ (zs : List (List ℕ)). Walks least limit p bytes (p.write_file + 1) zs bad) (append_assoc done s.here s.later ∙ ap (λ (zs : List (List ℕ)). done ++ zs) (sym s.whole))
        (walk_on n (k + 1) (omega arith) next rest inside)

    -- a list between the positions is what the walk gives
    pub walk_finds : (xs : List (List ℕ)) → Reads least limit bytes p.write_file p.write_at p.read_file p.read_at xs → p.write_at ≤ length (bytes p.write_file)
        → Walks least limit p bytes (p.write_file + 1) xs []
    walk_finds xs r inside =
        let order : p.read_file ≤ p.write_file = elim (in_order least limit r) [ inl lt ↦ omega arith | inr h ↦ omega (arith, h.0) ] in
        let here : part_start p p.read_file ≡ p.read_at = if_same p.read_file p.read_file p.read_at 0 refl in
        walk_on (p.write_file - p.read_file) p.read_file (omega arith) (starts refl)
        (subst (λ (a : ℕ). Reads least limit bytes p.write_file p.write_at p.read_file a xs) (sym here) r) inside

    -- a walk without a bad file reads the list: up to the start of a file's part
    walk_reads : {k : ℕ} {xs : List (List ℕ)} {bad : List ℕ} → Walks least limit p bytes k xs bad → bad ≡ [] → IsOrdered p → k ≤ p.write_file
        → Reads least limit bytes k (part_start p k) p.read_file p.read_at xs
    walk_reads {k} (starts e) none order below =
        arrives (sym e) (sym (if_same k p.read_file p.read_at 0 e))
    walk_reads {k} {xs} (good {k = m} {bodies = done} more w g e h) none order below =
        let before : m < p.write_file = omega arith in
        let low = walk_starts w in
        let ends : part_end p m (length (bytes m)) ≡ length (bytes m) = end_earlier m before in
        let inside = g.starts_inside in
        let row : IsRow least limit (slice_range (bytes m) (part_start p m) (length (bytes m))) more
        = subst (λ (b : ℕ). IsRow least limit (slice_range (bytes m) (part_start p m) b) more) ends g.row in
        let here : Reads least limit bytes m (length (bytes m)) p.read_file p.read_at (done ++ more)
        = joined least limit (walk_reads w none order (omega arith)) (reads_row bytes m (length (bytes m)) (part_start p m) more row inside (omega arith)) in
        let turned : Reads least limit bytes (m + 1) 0 p.read_file p.read_at ((done ++ more) ++ []) = joined least limit here (turns refl (arrives refl refl)) in
        subst (λ (zs : List (List ℕ)). Reads least limit bytes k (part_start p k) p.read_file p.read_at zs) (append-nil (done ++ more) ∙ sym h)
        (subst (λ (j : ℕ). Reads least limit bytes j (part_start p j) p.read_file p.read_at ((done ++ more) ++ [])) (sym e)
        (subst (λ (a : ℕ). Reads least limit bytes (m + 1) a p.read_file p.read_at ((done ++ more) ++ [])) (sym (start_later (m + 1) (omega arith))) turned))
    walk_reads (passes {k = m} {bad = bad} w b e h) none order below = absurd (omega (arith, ap length (sym h ∙ none), length-append bad (m ∷ [])))

    pub found_reads : {k : ℕ} {xs : List (List ℕ)} {bad : List ℕ} → Walks least limit p bytes k xs bad → k ≡ p.write_file + 1 → bad ≡ [] → IsOrdered p
        → Reads least limit bytes p.write_file p.write_at p.read_file p.read_at xs × (p.write_at ≤ length (bytes p.write_file))
    found_reads (starts e) last none order = absurd (elim order [ inl lt ↦ omega arith | inr h ↦ omega (arith, h.0) ])
    found_reads {xs = xs} (good {k = m} {bodies = done} more w g e h) last none order =
        let here : m ≡ p.write_file = omega arith in
        let ends : part_end p m (length (bytes m)) ≡ p.write_at = end_last m here in
        let fits = g.ends_inside in
        let starts_in = g.starts_inside in
        let inside : p.write_at ≤ length (bytes m) = omega arith in
        let row : IsRow least limit (slice_range (bytes m) (part_start p m) p.write_at) more
        = subst (λ (b : ℕ). IsRow least limit (slice_range (bytes m) (part_start p m) b) more) ends g.row in
        let reads : Reads least limit bytes m p.write_at p.read_file p.read_at (done ++ more)
        = joined least limit (walk_reads w none order (omega arith)) (reads_row bytes m p.write_at (part_start p m) more row (start_below m here) inside) in (
          subst (λ (zs : List (List ℕ)). Reads least limit bytes p.write_file p.write_at p.read_file p.read_at zs) (sym h)
              (subst (λ (j : ℕ). Reads least limit bytes j p.write_at p.read_file p.read_at (done ++ more)) here reads),
          subst (λ (j : ℕ). p.write_at ≤ length (bytes j)) here inside,
        )
      where
        start_below : (m : ℕ) → m ≡ p.write_file → part_start p m ≤ p.write_at
        start_below m here =
            elim (eqb_tells m p.read_file) [
              | inl same ↦ let at : part_start p m ≡ p.read_at = if_same m p.read_file p.read_at 0 same.1 in elim order [ inl lt ↦ absurd (omega (arith, same.1)) | inr o ↦ omega (arith, o.1, at) ]
              | inr apart ↦ let at : part_start p m ≡ 0 = if_apart m p.read_file p.read_at 0 apart.1 in omega (arith, at)
            ]
    found_reads (passes {k = m} {bad = bad} w b e h) last none order = absurd (omega (arith, ap length (sym h ∙ none), length-append bad (m ∷ [])))

  same_text : (files : List ℕ → Option (List ℕ)) (name text text' : List ℕ) → files (meta_file name) ≡ Some text → files (meta_file name) ≡ Some text' → text ≡ text'
  same_text files name text text' e e' = cc

  same_meta : (files : List ℕ → Option (List ℕ)) (name text text' : List ℕ) (m n : Meta) → files (meta_file name) ≡ Some text → files (meta_file name) ≡ Some text' → IsMeta text m → IsMeta text' n → m ≡ n
  same_meta files name text text' m n e e' i j = one_meta text m n i (subst (λ (t : List ℕ). IsMeta t n) (sym (same_text files name text text' e e')) j)

  not_here : {X : Type 0} (o : Option X) (x : X) → o ≡ None → o ≡ Some x → ⊥
  not_here o x e h = cc

  apart : (p : Positions) → IsAtEnd p → IsBehind p → ⊥
  apart p e (inl lt) = omega (arith, e.0)
  apart p e (inr h) = omega (arith, e.1, h.1)

  -- an opening finds one thing only
  pub one_finding : (files : List ℕ → Option (List ℕ)) (name : List ℕ) (x y : Finding) → limit < 2 ^ 32 → IsFound least limit files name x → IsFound least limit files name y → x ≡ y
  one_finding files name x y small (fresh e) (fresh e') = refl
  one_finding files name x y small (fresh e) (spoilt text' e' bars') = absurd (not_here (files (meta_file name)) text' e e')
  one_finding files name x y small (fresh e) (empty text' m' e' i' at) = refl
  one_finding files name x y small (fresh e) (walked text' m' e' i' behind w) = absurd (not_here (files (meta_file name)) text' e e')
  one_finding files name x y small (spoilt text e bars) (fresh e') = absurd (not_here (files (meta_file name)) text e' e)
  one_finding files name x y small (spoilt text e bars) (spoilt text' e' bars') = refl
  one_finding files name x y small (spoilt text e bars) (empty text' m' e' i' at) = absurd (bars m' (subst (λ (t : List ℕ). IsMeta t m') (same_text files name text' text e' e) i'))
  one_finding files name x y small (spoilt text e bars) (walked text' m' e' i' behind w) = absurd (bars m' (subst (λ (t : List ℕ). IsMeta t m') (same_text files name text' text e' e) i'))
  one_finding files name x y small (empty text m e i at) (fresh e') = refl
  one_finding files name x y small (empty text m e i at) (spoilt text' e' bars') = absurd (bars' m (subst (λ (t : List ℕ). IsMeta t m) (same_text files name text text' e e') i))
  one_finding files name x y small (empty text m e i at) (empty text' m' e' i' at') = refl
  one_finding files name x y small (empty text m e i at) (walked text' m' e' i' behind w) =
      absurd (apart m'.positions (subst (λ (n : Meta). IsAtEnd n.positions) (same_meta files name text text' m m' e e' i i') at) behind)
  one_finding files name x y small (walked text m e i behind w) (fresh e') = absurd (not_here (files (meta_file name)) text e' e)
  one_finding files name x y small (walked text m e i behind w) (spoilt text' e' bars') = absurd (bars' m (subst (λ (t : List ℕ). IsMeta t m) (same_text files name text text' e e') i))
  one_finding files name x y small (walked text m e i behind w) (empty text' m' e' i' at) =
      absurd (apart m.positions (subst (λ (n : Meta). IsAtEnd n.positions) (sym (same_meta files name text text' m m' e e' i i')) at) behind)
  one_finding files name x y small (walked {bodies = xs} {bad = bad} text m e i behind w) (walked {bodies = ys} {bad = bad'} text' m' e' i' behind' w') =
      let both = one_walk m.positions (content files name) small w (m.positions.write_file + 1) ys bad' refl
      (subst (λ (n : Meta). Walks least limit n.positions (content files name) (n.positions.write_file + 1) ys bad') (sym (same_meta files name text text' m m' e e' i i')) w') in
      ap (λ (zs : List (List ℕ)). Records zs bad) both.0 ∙ ap (λ (zs : List ℕ). Records ys zs) both.1

  pub behind_or_end : (p : Positions) → IsOrdered p → IsAtEnd p ⊎ IsBehind p
  behind_or_end p (inl lt) = inr (inl lt)
  behind_or_end p (inr h) = elim (eqb_tells p.read_at p.write_at) [ inl same ↦ inl (h.0, same.1) | inr apart ↦ inr (inr (h.0, omega (arith, h.1, apart.1))) ]

  pub list_is_found : (files : List ℕ → Option (List ℕ)) (name text : List ℕ) (meta : Meta) (bodies : List (List ℕ)) → files (meta_file name) ≡ Some text
      → IsMeta text meta → Between least limit files name meta.positions bodies → IsFound least limit files name (Records bodies [])
  list_is_found files name text meta bodies e i b =
      elim (behind_or_end meta.positions i.ordered) [
        | inl at ↦ subst (λ (zs : List (List ℕ)). IsFound least limit files name (Records zs [])) (sym (empty_at_end least limit b.reads at.0 at.1)) (empty text meta e i at)
        | inr behind ↦ walked text meta e i behind (walk_finds meta.positions (content files name) bodies b.reads b.inside)
      ]

  pub found_is_list : (files : List ℕ → Option (List ℕ)) (name text : List ℕ) (meta : Meta) (bodies : List (List ℕ)) (x : Finding) → files (meta_file name) ≡ Some text
      → IsMeta text meta → meta.positions.write_at ≤ length (content files name meta.positions.write_file)
      → IsFound least limit files name x → x ≡ Records bodies [] → Between least limit files name meta.positions bodies
  found_is_list files name text meta bodies x e i inside (fresh none) same = absurd (not_here (files (meta_file name)) text none e)
  found_is_list files name text meta bodies x e i inside (spoilt text' e' bars) same = absurd (bars meta (subst (λ (t : List ℕ). IsMeta t meta) (same_text files name text text' e e') i))
  found_is_list files name text meta bodies x e i inside (empty text' m' e' i' at) same =
      let none : bodies ≡ [] = cc in
      let here = subst (λ (n : Meta). IsAtEnd n.positions) (sym (same_meta files name text text' meta m' e e' i i')) at in
      record {
        reads = subst (λ (zs : List (List ℕ)). Reads least limit (content files name) meta.positions.write_file meta.positions.write_at meta.positions.read_file meta.positions.read_at zs) (sym none)
            (arrives here.0 here.1);
        inside = inside;
      }
  found_is_list files name text meta bodies x e i inside (walked {bodies = xs} {bad = bad} text' m' e' i' behind w) same =
      let none : bad ≡ [] = cc in
      let list : xs ≡ bodies = cc in
      let walk = subst (λ (n : Meta). Walks least limit n.positions (content files name) (n.positions.write_file + 1) xs bad) (sym (same_meta files name text text' meta m' e e' i i')) w in
      let r = found_reads meta.positions (content files name) walk refl none i.ordered in
      record {
        reads = subst (λ (zs : List (List ℕ)). Reads least limit (content files name) meta.positions.write_file meta.positions.write_at meta.positions.read_file meta.positions.read_at zs) list r.0;
        inside = inside;
      }

-- files that are passed over at once
module _ (least limit : ℕ) (p : Positions) (bytes : ℕ → List ℕ) where
  -- an empty file between the read file and the write file gives nothing, and is not bad
  empty_is_good : (k : ℕ) → p.read_file < k → k < p.write_file → bytes k ≡ [] → IsGoodFile least limit p k (bytes k) []
  empty_is_good k past before none =
      let start : part_start p k ≡ 0 = if_apart k p.read_file p.read_at 0 (λ e. omega (arith, e)) in
      let end : part_end p k (length (bytes k)) ≡ 0 = if_apart k p.write_file p.write_at (length (bytes k)) (λ e. omega (arith, e)) ∙ ap length none in
      record {
        starts_inside = omega arith;
        ends_inside = omega arith;
        row = record { whole = ap (slice_range (bytes k) (part_start p k)) end ∙ ap (λ (s : ℕ). slice_range (bytes k) s 0) start; sizes = tt };
      }

  -- empty files are passed over at once
  pub skips : (d k n : ℕ) {bodies : List (List ℕ)} {bad : List ℕ} → k + d ≡ n → p.read_file < k → n ≤ max k p.write_file → ((j : ℕ) → k ≤ j → j < n → bytes j ≡ [])
      → Walks least limit p bytes k bodies bad → Walks least limit p bytes n bodies bad
  skips zero k n {bodies} {bad} e past fits none w = subst (λ (m : ℕ). Walks least limit p bytes m bodies bad) (omega arith) w
  skips (suc d) k n {bodies} {bad} e past fits none w =
      skips d (k + 1) n (omega arith) (omega arith) (omega arith) (λ j low high. none j (omega arith) high)
      (good [] w (empty_is_good k past (omega arith) (none k (omega arith) (omega arith))) refl (sym (append-nil bodies)))
