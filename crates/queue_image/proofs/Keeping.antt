-- What is listed and found of a queue depends on the queue's own files alone, and a saved list is found.
use Rattle.std.proofs.Common.{◌≡◌, ℕ, ◌^◌, ◌<◌, ◌≤◌, List, [], length, take, Option, unwrap_or, refl, sym, ◌∙◌, ap, subst, inl, inr, arith}
use Rattle.std.proofs.lemmas.Bool.Decides.{eqb_tells}
use Rattle.queue_image.specs.FileNames.{data_file, meta_file, IsOwnFile}
use Rattle.queue_image.specs.FileNames.IsOwnFile.{numbered, metadata}
use Rattle.queue_image.specs.Places.{IsOrdered, IsInRange, part_start, part_end}
use Rattle.queue_image.specs.Between.{content, Reads, Between, IsSaved}
use Rattle.queue_image.specs.Finds.{IsGoodFile, IsBadFile, Walks, Finding, Records, IsFound}
use Rattle.queue_image.specs.Finds.Walks.{starts, good, passes}
use Rattle.queue_image.specs.Finds.IsFound.{fresh, spoilt, empty, walked}
use Rattle.queue_image.specs.Metas.{meta_text}
use Rattle.queue_image.specs.declared.positions.Positions.{Positions}
use Rattle.queue_image.proofs.Reading.{keeps}
use Rattle.queue_image.proofs.Lists.{list_is_ordered}
use Rattle.queue_image.proofs.MetaLemmas.{reads_back}
use Rattle.queue_image.proofs.Walking.{if_same, if_apart, reads_row, list_is_found}

-- a data file that is as it was gives what it gave
same_content : (old new : List ℕ → Option (List ℕ)) (name : List ℕ) → ((file : List ℕ) → IsOwnFile name file → new file ≡ old file) → (k : ℕ) → k < 2 ^ 64 → content new name k ≡ content old name k
same_content old new name same k small = ap (λ (o : Option (List ℕ)). unwrap_or o []) (same (data_file name k) (numbered k small refl))

module _ (least limit : ℕ) where
  pub list_keeps : (old new : List ℕ → Option (List ℕ)) (name : List ℕ) (p : Positions) (bodies : List (List ℕ)) → p.write_file < 2 ^ 64
      → ((file : List ℕ) → IsOwnFile name file → new file ≡ old file) → Between least limit old name p bodies → Between least limit new name p bodies
  list_keeps old new name p bodies small same x =
      let last = same_content old new name same p.write_file small in
      let fits = x.inside in
      record {
        reads = keeps least limit x.reads (λ k low high. same_content old new name same k (omega arith)) (ap (take p.write_at) last);
        inside = omega (arith, ap length last);
      }

  -- a walk depends on the files that it goes over
  walk_keeps : (p : Positions) {old new : ℕ → List ℕ} {k : ℕ} {bodies : List (List ℕ)} {bad : List ℕ} → Walks least limit p old k bodies bad → ((j : ℕ) → j < k → new j ≡ old j)
      → Walks least limit p new k bodies bad
  walk_keeps p (starts e) same = starts e
  walk_keeps p (good {k = m} more w g e h) same =
      good more (walk_keeps p w (λ j before. same j (omega arith))) (subst (λ (bytes : List ℕ). IsGoodFile least limit p m bytes more) (sym (same m (omega arith))) g) e h
  walk_keeps p (passes {k = m} w b e h) same =
      passes (walk_keeps p w (λ j before. same j (omega arith))) (subst (λ (bytes : List ℕ). IsBadFile least limit p m bytes) (sym (same m (omega arith))) b) e h

  pub finding_keeps : (old new : List ℕ → Option (List ℕ)) (name : List ℕ) (x : Finding) → ((file : List ℕ) → IsOwnFile name file → new file ≡ old file) → IsFound least limit old name x
      → IsFound least limit new name x
  finding_keeps old new name x same (fresh e) = fresh (same (meta_file name) (metadata refl) ∙ e)
  finding_keeps old new name x same (spoilt text e bars) = spoilt text (same (meta_file name) (metadata refl) ∙ e) bars
  finding_keeps old new name x same (empty text meta e i at) = empty text meta (same (meta_file name) (metadata refl) ∙ e) i at
  finding_keeps old new name x same (walked text meta e i behind w) =
      let range = i.in_range.write_file in
      walked text meta (same (meta_file name) (metadata refl) ∙ e) i behind (walk_keeps meta.positions w (λ j before. same_content old new name same j (omega (arith, range))))

  pub saved_is_found : (files : List ℕ → Option (List ℕ)) (name : List ℕ) (p : Positions) (bodies : List (List ℕ)) → length bodies < 2 ^ 128 → IsInRange p
      → IsSaved least limit files name p bodies → IsFound least limit files name (Records bodies [])
  saved_is_found files name p bodies small range s =
      list_is_found least limit files name (meta_text (length bodies) p) (record { depth = length bodies; positions = p }) bodies s.text
      (reads_back (length bodies) p small range (list_is_ordered least limit files name p bodies s.list)) s.list

  -- a file's part starts at its end at the latest
  starts_before : (p : Positions) (k len : ℕ) → IsOrdered p → part_start p k ≤ len → part_start p k ≤ part_end p k len
  starts_before p k len order inside =
      elim (eqb_tells k p.write_file) [
        | inl last ↦ let end : part_end p k len ≡ p.write_at = if_same k p.write_file p.write_at len last.1 in
            elim (eqb_tells k p.read_file) [
              | inl first ↦ let start : part_start p k ≡ p.read_at = if_same k p.read_file p.read_at 0 first.1 in
                  elim order [ inl lt ↦ absurd (omega (arith, first.1, last.1)) | inr same ↦ omega (arith, same.1, start, end) ]
              | inr later ↦ let start : part_start p k ≡ 0 = if_apart k p.read_file p.read_at 0 later.1 in omega (arith, start)
            ]
        | inr earlier ↦ let end : part_end p k len ≡ len = if_apart k p.write_file p.write_at len earlier.1 in omega (arith, end)
      ]

  pub good_is_read : (p : Positions) (bytes : ℕ → List ℕ) (k : ℕ) (bodies : List (List ℕ)) → IsOrdered p → IsGoodFile least limit p k (bytes k) bodies
      → Reads least limit bytes k (part_end p k (length (bytes k))) k (part_start p k) bodies
  good_is_read p bytes k bodies order g =
      reads_row least limit bytes k (part_end p k (length (bytes k))) (part_start p k) bodies g.row (starts_before p k (length (bytes k)) order g.starts_inside) g.ends_inside
