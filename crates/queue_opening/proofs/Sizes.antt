-- What a file gives by the sizes of its records.
use Rattle.std.proofs.Common.{◌≡◌, ℕ, ◌+◌, ◌-◌, ◌^◌, ◌<◌, ◌≤◌, ◌⊎◌, List, [], ◌∷◌, ◌++◌, length, take, drop, refl, sym, ◌∙◌, ap, subst, inl, inr, arith, append_assoc, length-append, length-take, length-drop, take-append-drop}
use Rattle.std.proofs.Math.Seq.{take-append-add}
use Rattle.std.proofs.lemmas.List.{take-take, take_rest, drop-drop}
use Rattle.std.proofs.lemmas.List.Folds.{drop_split}
use Rattle.std.proofs.lemmas.Nat.{from_be_bytes-to_be_bytes_4}
use Rattle.std.proofs.lemmas.Bool.Decides.{eqb_tells}
use Rattle.std.specs.List.{slice_range}
use Rattle.std.specs.Int.{w32, to_be_bytes, from_be_bytes}
use Rattle.queue_image.specs.Records.{HasRecord, IsNoRecord, IsDamaged, IsRow, IsSize, size_read, rows}
use Rattle.queue_image.specs.Records.IsNoRecord.{wrong, passing}
use Rattle.queue_image.specs.Places.{IsOrdered, part_start, part_end}
use Rattle.queue_image.specs.Finds.IsBadFile.{damaged}
use Rattle.queue_image.specs.declared.positions.Positions.{Positions}
use Rattle.queue_image.proofs.RowLemmas.{row_next}
use Rattle.queue_image.proofs.Walking.{if_same, if_apart}
use Rattle.queue_opening.specs.Walked.{HasRecordTo, HasNoRecord, HasRow, HasDamage, RowGives, GivesOf}
use Rattle.queue_opening.specs.declared.walking.Gives.{Gives}
use Rattle.queue_opening.specs.declared.walking.Gives.TheVariants.{Good, Bad, Fault}

-- so many bytes count from a place up to an end
length-part : (bytes : List ℕ) (at end : ℕ) → at ≤ end → end ≤ length bytes → length (slice_range bytes at end) ≡ end - at
length-part bytes at end order inside = omega (arith, length-take (end - at) (drop at bytes), length-drop at bytes)

-- the size that begins them
part_size : (n at end : ℕ) (bytes : List ℕ) → n < 2 ^ 32 → at + 4 ≤ end → to_be_bytes w32 n ≡ take 4 (drop at bytes) → n ≡ size_read (slice_range bytes at end)
part_size n at end bytes small room e =
    sym (from_be_bytes-to_be_bytes_4 n small) ∙ ap (from_be_bytes w32) e ∙ sym (ap (from_be_bytes w32) (take-take 4 (end - at) (drop at bytes) (omega arith)))

-- a size that the queue does not take
pub size_out : (least limit n at end : ℕ) (bytes : List ℕ) → n < 2 ^ 32 → at + 4 ≤ end → to_be_bytes w32 n ≡ take 4 (drop at bytes) → end ≤ length bytes → (n < least) ⊎ (limit < n)
    → HasNoRecord least limit (slice_range bytes at end)
size_out least limit n at end bytes small room e inside out =
    record { size = n; none = wrong (omega (arith, length-part bytes at end (omega arith) inside)) (part_size n at end bytes small room e) out }

-- a size that passes the end
pub size_past : (least limit n at end : ℕ) (bytes : List ℕ) → n < 2 ^ 32 → at + 4 ≤ end → to_be_bytes w32 n ≡ take 4 (drop at bytes) → end ≤ length bytes → end < at + 4 + n
    → HasNoRecord least limit (slice_range bytes at end)
size_past least limit n at end bytes small room e inside past =
    let long = length-part bytes at end (omega arith) inside in
    record { size = n; none = passing (omega (arith, long)) (part_size n at end bytes small room e) (omega (arith, long)) }

-- a record
pub size_fits : (least limit n at end : ℕ) (bytes : List ℕ) → to_be_bytes w32 n ≡ take 4 (drop at bytes) → end ≤ length bytes → IsSize least limit n → at + 4 + n ≤ end
    → HasRecordTo least limit bytes at (at + (4 + n))
size_fits least limit n at end bytes e inside is fits =
    let xs = drop at bytes in
    let rest = drop 4 xs in
    let body = take n rest in
    let len : length body ≡ n = omega (arith, length-take n rest, length-drop 4 xs, length-drop at bytes) in
    record {
      body = body;
      there = record {
        front = [];
        back = drop n rest;
        whole = sym (take-append-drop 4 xs) ∙ ap (λ (x : List ℕ). x ++ rest) (sym e) ∙ ap (λ (x : List ℕ). to_be_bytes w32 n ++ x) (sym (take-append-drop n rest))
            ∙ sym (append_assoc (to_be_bytes w32 n) body (drop n rest)) ∙ ap (λ (m : ℕ). (to_be_bytes w32 m ++ body) ++ drop n rest) (sym len);
        here = refl;
        size = subst (λ (m : ℕ). IsSize least limit m) (sym len) is;
      };
      ends = ap (λ (m : ℕ). at + (4 + m)) (sym len);
    }

-- no record stands yet
pub row_none : (least limit start : ℕ) (bytes : List ℕ) → HasRow least limit (slice_range bytes start start) 0
row_none least limit start bytes =
    let none : start - start ≡ 0 = omega arith in
    record { bodies = []; row = record { whole = ap (λ (n : ℕ). take n (drop start bytes)) none; sizes = tt }; count = refl }

-- a record behind a row
pub row_on : (least limit start at next count : ℕ) (bytes now : List ℕ) → now ≡ bytes → start ≤ at → at ≤ length bytes → HasRow least limit (slice_range bytes start at) count
    → HasRecordTo least limit now at next → HasRow least limit (slice_range bytes start next) (count + 1)
row_on least limit start at next count bytes now same low inside r s =
    let xs = drop start bytes in
    let place = at - start in
    let left : take (length xs - place) (drop place xs) ≡ drop at now
    = take_rest xs place ∙ drop-drop place start bytes ∙ ap (λ (i : ℕ). drop i bytes) (omega arith) ∙ ap (drop at) (sym same) in
    let h = row_next least limit xs place r.bodies (r.bodies ++ s.body ∷ []) s.body s.body (omega (arith, length-drop start bytes)) r.row
    (subst (λ (x : List ℕ). HasRecord least limit x 0 s.body) (sym left) s.there) refl refl in
    let ends : place + (4 + length s.body) ≡ next - start = omega (arith, s.ends) in
    let count' = r.count in
    record {
      bodies = r.bodies ++ s.body ∷ [];
      row = subst (λ (n : ℕ). IsRow least limit (take n xs) (r.bodies ++ s.body ∷ [])) ends h.1;
      count = omega (arith, length-append r.bodies (s.body ∷ []), count');
    }

-- no record behind a row
pub row_ends : (least limit start at end count : ℕ) (bytes now : List ℕ) → now ≡ bytes → start ≤ at → at ≤ end → end ≤ length bytes → HasRow least limit (slice_range bytes start at) count
    → HasNoRecord least limit (slice_range now at end) → HasDamage least limit (slice_range bytes start end)
row_ends least limit start at end count bytes now same low high inside r s =
    let front = slice_range bytes start at in
    let size = length-part bytes start at low (omega arith) in
    let sum : end - start ≡ length front + (end - at) = omega (arith, size) in
    let split : slice_range bytes start end ≡ front ++ slice_range bytes at end
    = ap (λ (n : ℕ). take n (drop start bytes)) sum ∙ ap (take (length front + (end - at))) (drop_split bytes start at low) ∙ take-append-add front (drop at bytes) (end - at) in
    record {
      place = length (rows r.bodies);
      size = s.size;
      damage = record {
        before = r.bodies;
        rest = slice_range bytes at end;
        whole = split ∙ ap (λ (x : List ℕ). x ++ slice_range bytes at end) r.row.whole;
        sizes = r.row.sizes;
        stands = refl;
        damage = subst (λ (x : List ℕ). IsNoRecord least limit (slice_range x at end) s.size) same s.none;
      };
    }

-- a file's part starts at its end at the latest
pub starts_before : (p : Positions) (k len : ℕ) → IsOrdered p → part_start p k ≤ len → part_start p k ≤ part_end p k len
starts_before p k len order inside =
    elim (eqb_tells k p.write_file) [
      | inl last ↦ let end : part_end p k len ≡ p.write_at = if_same k p.write_file p.write_at len last.1 in
          elim (eqb_tells k p.read_file) [
            | inl first ↦ let start : part_start p k ≡ p.read_at = if_same k p.read_file p.read_at 0 first.1 in
                elim order [ inl lt ↦ absurd (omega (arith, first.1, last.1)) | inr same ↦ omega (arith, same.1, start, end) ]
            | inr later ↦ let start : part_start p k ≡ 0 = if_apart k p.read_file p.read_at 0 later.1 in omega (arith, start)
          ]
      | inr earlier ↦ let end : part_end p k len ≡ len = if_apart k p.write_file p.write_at len earlier.1 in omega (arith, end)
    ]

-- what the part gives is what the file gives
pub file_gives : (least limit : ℕ) (p : Positions) (k start end len : ℕ) (bytes : List ℕ) (given : Gives) → start ≡ part_start p k → end ≡ part_end p k len → len ≡ length bytes → start ≤ len → end ≤ len
    → RowGives least limit (slice_range bytes start end) given → GivesOf least limit p k bytes given
file_gives least limit p k start end len bytes (Good n) a b c low high r =
    let ends : end ≡ part_end p k (length bytes) = b ∙ ap (part_end p k) c in
    record {
      bodies = r.bodies;
      good = record {
        starts_inside = omega (arith, a, c, low);
        ends_inside = omega (arith, ends, c, high);
        row = subst (λ (s : ℕ). IsRow least limit (slice_range bytes s (part_end p k (length bytes))) r.bodies) a (subst (λ (e : ℕ). IsRow least limit (slice_range bytes start e) r.bodies) ends r.row);
      };
      count = r.count;
    }
file_gives least limit p k start end len bytes Bad a b c low high r =
    let ends : end ≡ part_end p k (length bytes) = b ∙ ap (part_end p k) c in
    damaged r.place r.size
    (subst (λ (s : ℕ). IsDamaged least limit (slice_range bytes s (part_end p k (length bytes))) r.place r.size) a (subst (λ (e : ℕ). IsDamaged least limit (slice_range bytes start e) r.place r.size) ends r.damage))
file_gives least limit p k start end len bytes Fault a b c low high r = tt
