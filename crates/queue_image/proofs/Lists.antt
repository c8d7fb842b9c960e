-- The records between two positions.
use Rattle.std.proofs.Common.{◌≡◌, ℕ, ◌+◌, ◌^◌, ◌<◌, ◌≤◌, ◌↔◌, List, [], ◌∷◌, ◌++◌, length, take, Option, refl, subst, inl, inr, arith}
use Rattle.std.proofs.lemmas.List.{append-nil}
use Rattle.queue_image.specs.Places.{IsOrdered}
use Rattle.queue_image.specs.Records.{HasRecord}
use Rattle.queue_image.specs.Between.{content, Reads, Between}
use Rattle.queue_image.specs.Between.Reads.{arrives, takes, turns}
use Rattle.queue_image.specs.declared.positions.Positions.{Positions}
use Rattle.queue_image.proofs.Reading.{record_ends, in_order, joined, keeps, one_way, first_taken, turned}

module _ (least limit : ℕ) where
  pub list_is_one : (files : List ℕ → Option (List ℕ)) (name : List ℕ) (p : Positions) (xs ys : List (List ℕ)) → limit < 2 ^ 32
      → Between least limit files name p xs → Between least limit files name p ys → xs ≡ ys
  list_is_one files name p xs ys small x y = one_way least limit small x.reads p.read_at ys refl y.reads

  pub list_grows : (old new : List ℕ → Option (List ℕ)) (name : List ℕ) (p : Positions) (bodies : List (List ℕ)) (body : List ℕ)
      → Between least limit old name p bodies → ((k : ℕ) → p.read_file ≤ k → k < p.write_file → content new name k ≡ content old name k)
      → take p.write_at (content new name p.write_file) ≡ take p.write_at (content old name p.write_file) → HasRecord least limit (content new name p.write_file) p.write_at body
      → Between least limit new name (record p { write_at = p.write_at + (4 + length body) }) (bodies ++ body ∷ [])
  list_grows old new name p bodies body x same front r = record {
    reads = joined least limit (keeps least limit x.reads same front) (takes body r (arrives refl refl));
    inside = record_ends least limit (content new name p.write_file) p.write_at body r;
  }

  pub list_turns : (files : List ℕ → Option (List ℕ)) (name : List ℕ) (p : Positions) (bodies : List (List ℕ)) → Between least limit files name p bodies
      → p.write_at ≡ length (content files name p.write_file) → Between least limit files name (record p { write_file = p.write_file + 1; write_at = 0 }) bodies
  list_turns files name p bodies x end = record {
    reads = subst (λ (bs : List (List ℕ)). Reads least limit (content files name) (p.write_file + 1) 0 p.read_file p.read_at bs) (append-nil bodies)
        (joined least limit x.reads (turns end (arrives refl refl)));
    inside = omega arith;
  }

  pub first_goes : (files : List ℕ → Option (List ℕ)) (name : List ℕ) (p : Positions) (first : List ℕ) (rest : List (List ℕ)) → Between least limit files name p (first ∷ rest)
      → p.read_at < length (content files name p.read_file)
      → HasRecord least limit (content files name p.read_file) p.read_at first × Between least limit files name (record p { read_at = p.read_at + (4 + length first) }) rest
  first_goes files name p first rest x inside =
      let h = first_taken least limit x.reads inside in
      (h.0, record { reads = h.1; inside = x.inside })

  pub reading_turns : (files : List ℕ → Option (List ℕ)) (name : List ℕ) (p : Positions) (bodies : List (List ℕ)) → Between least limit files name p bodies
      → p.read_file < p.write_file → p.read_at ≡ length (content files name p.read_file) → Between least limit files name (record p { read_file = p.read_file + 1; read_at = 0 }) bodies
  reading_turns files name p bodies x before end = record { reads = turned least limit x.reads before end; inside = x.inside }

  pub list_is_ordered : (files : List ℕ → Option (List ℕ)) (name : List ℕ) (p : Positions) (bodies : List (List ℕ)) → Between least limit files name p bodies → IsOrdered p
  list_is_ordered files name p bodies x = in_order least limit x.reads

  pub empty_at_end : {bytes : ℕ → List ℕ} {g b f a : ℕ} {bodies : List (List ℕ)} → Reads least limit bytes g b f a bodies → f ≡ g → a ≡ b → bodies ≡ []
  empty_at_end (arrives _ _) e d = refl
  empty_at_end (takes body r more) e d = absurd (elim (in_order least limit more) [ inl lt ↦ omega arith | inr here ↦ omega (arith, here.1) ])
  empty_at_end (turns _ more) e d = absurd (elim (in_order least limit more) [ inl lt ↦ omega arith | inr here ↦ omega (arith, here.0) ])

  end_where_empty : {bytes : ℕ → List ℕ} {g b f a : ℕ} → Reads least limit bytes g b f a [] → f ≡ g → a ≡ b
  end_where_empty (arrives _ d) e = d
  end_where_empty (turns _ more) e = absurd (elim (in_order least limit more) [ inl lt ↦ omega arith | inr here ↦ omega (arith, here.0) ])

  pub empty_is_at_end : (files : List ℕ → Option (List ℕ)) (name : List ℕ) (p : Positions) (bodies : List (List ℕ)) → Between least limit files name p bodies
      → p.read_file ≡ p.write_file → (bodies ≡ []) ↔ (p.read_at ≡ p.write_at)
  empty_is_at_end files name p bodies x same = (
    λ e. end_where_empty (subst (λ (bs : List (List ℕ)). Reads least limit (content files name) p.write_file p.write_at p.read_file p.read_at bs) e x.reads) same,
    λ e. empty_at_end x.reads same e,
  )
