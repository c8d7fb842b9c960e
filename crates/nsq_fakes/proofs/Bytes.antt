use Rattle.std.proofs.Common.{◌≡◌, ℕ, ◌+◌, ◌-◌, ◌≤◌, List, ◌++◌, length, take, drop, replicate, append_assoc, ap, sym, ◌∙◌, subst, length-append, length-drop, arith}
use Rattle.std.proofs.lemmas.Grind.{common_steps}
use Rattle.std.proofs.lemmas.List.{take-replicate, take_at, length-take-le, drop-drop}
use Rattle.std.proofs.Math.Seq.{take-append-add}
use Rattle.nsq_outside.specs.Files.{cut_to, written_at}

-- a cut as `resize` makes it
pub cut_to-parts : (xs : List ℕ) (n : ℕ) → cut_to xs n ≡ take n xs ++ replicate (n - length xs) 0
cut_to-parts xs n = grind (arith, common_steps)

-- a cut of a shorter list
pub cut_to-long : (xs : List ℕ) (n : ℕ) → length xs ≤ n → cut_to xs n ≡ xs ++ replicate (n - length xs) 0
cut_to-long xs n h = grind (arith, common_steps)

-- a cut of a list that is long enough
pub cut_to-short : (xs : List ℕ) (n : ℕ) → n ≤ length xs → cut_to xs n ≡ take n xs
cut_to-short xs n h = grind (arith, common_steps)

take_beyond : (xs ys : List ℕ) (n : ℕ) → length xs ≤ n → take n (xs ++ ys) ≡ xs ++ take (n - length xs) ys
take_beyond xs ys n h = grind (arith, take-append-add xs ys (n - length xs))

-- a cut of a cut
pub cut_to-cut_to : (xs : List ℕ) (n m : ℕ) → n ≤ m → length xs ≤ m → take n (xs ++ replicate (m - length xs) 0) ≡ cut_to xs n
cut_to-cut_to xs n m h k = grind (arith, common_steps, cut_to-short, cut_to-long, take_beyond, take-replicate)

-- bytes written over those of a list that was made long enough first
pub written_at-grown : (xs from : List ℕ) (at : ℕ) → length xs ≤ at + length from →
    take at (cut_to xs (at + length from)) ++ from ++ drop (at + length from) (cut_to xs (at + length from)) ≡ written_at xs at from
written_at-grown xs from at h = grind (arith, common_steps, cut_to-cut_to xs at (at + length from), cut_to-long xs (at + length from))

-- bytes written over those of a list that is long enough
pub written_at-inside : (xs from : List ℕ) (at : ℕ) → at + length from ≤ length xs → take at xs ++ from ++ drop (at + length from) xs ≡ written_at xs at from
written_at-inside xs from at h = grind (arith, common_steps, cut_to-short)

-- bytes that were copied into a list from a place on, as the list then holds them
pub overwritten : (items copied from : List ℕ) (at len : ℕ) → len ≡ length items → copied ≡ from → at + length from ≤ length items
    → take len ((take at items ++ (copied ++ drop (length copied) (drop at items))) ++ drop (length (take at items ++ (copied ++ drop (length copied) (drop at items)))) items) ≡ (take at items ++ from) ++ drop (at + length from) items
overwritten items copied from at len size same within =
    let front : length (take at items) ≡ at = length-take-le at items (omega (arith, within)) in
    let left : length (drop at items) ≡ length items - at = length-drop at items in
    let behind : length (drop (length from) (drop at items)) ≡ length (drop at items) - length from = length-drop (length from) (drop at items) in
    let joined : length (from ++ drop (length from) (drop at items)) ≡ length from + length (drop (length from) (drop at items)) = length-append from (drop (length from) (drop at items)) in
    let all : length (take at items ++ (from ++ drop (length from) (drop at items))) ≡ length (take at items) + length (from ++ drop (length from) (drop at items)) = length-append (take at items) (from ++ drop (length from) (drop at items)) in
    subst (λ (bytes : List ℕ). take len ((take at items ++ (bytes ++ drop (length bytes) (drop at items))) ++ drop (length (take at items ++ (bytes ++ drop (length bytes) (drop at items)))) items) ≡ (take at items ++ from) ++ drop (at + length from) items) (sym same)
    (take_at (take at items ++ (from ++ drop (length from) (drop at items))) (drop (length (take at items ++ (from ++ drop (length from) (drop at items)))) items) len (omega (arith, within, front, left, behind, joined, all, size))
    ∙ ap (λ (rest : List ℕ). take at items ++ (from ++ rest)) (drop-drop (length from) at items) ∙ sym (append_assoc (take at items) from (drop (at + length from) items)))
