-- Sums over lists in byte order of their keys, in which one item is put.
use Rattle.std.proofs.Common.{◌≡◌, ℕ, suc, ◌+◌, Bool, true, false, if◌then◌else◌, List, [], ◌∷◌, get_or, Option, Some, None, refl, ap, ◌∙◌, arith, Ordering, Less, Equal, Greater}
use Rattle.std.specs.List.{All, filter, find, sum_by}
use Rattle.std.specs.Ordering.{is_lt}
use Rattle.std.specs.Str.{bytes_eq}
use Rattle.std.proofs.lemmas.List.Sums.{sum_by-append, sum_by-cons}
use Rattle.nsq_base.specs.Names.{byte_order, is_before, IsAscendingBy, put_by}
use Rattle.nsq_base.proofs.PutBy.{byte_order-flip, filter_none, Less-from_before, other_from_order, same_from_tie}
use Rattle.broker_history.proofs.Lists.{exact_bytes, same_bytes}

-- a number where the test is passed
abbrev pub where_so : Bool → ℕ → ℕ
where_so b n = if b then n else 0

module _ {X : Type 0} (key : X → List ℕ) (size : X → ℕ) where
  abbrev has : List ℕ → X → Bool
  has k y = bytes_eq k (key y)

  -- what was found, counted
  abbrev pub found_size : Option X → ℕ
  found_size None = 0
  found_size (Some y) = size y

  one_more : (b : Bool) (y : X) (ys : List X) → sum_by size (if b then y ∷ ys else ys) ≡ where_so b (size y) + sum_by size ys
  one_more true y ys = sum_by-cons size y ys
  one_more false y ys = omega arith

  filtered : (p : X → Bool) (y : X) (ys : List X) → sum_by size (filter p (y ∷ ys)) ≡ where_so (p y) (size y) + sum_by size (filter p ys)
  filtered p y ys = one_more (p y) y (filter p ys)

  -- each item stands before a key, behind it, or has it
  one_of_three : (k : List ℕ) (y : X) (n : ℕ) (o : Ordering) → byte_order (key y) k ≡ o → where_so (is_before (key y) k) n + where_so (is_before k (key y)) n + where_so (has k y) n ≡ n
  one_of_three k y n Less e =
      let back : is_before k (key y) ≡ false = ap is_lt (byte_order-flip (key y) k Less e) in
      let other : has k y ≡ false = other_from_order k (key y) Greater (byte_order-flip (key y) k Less e) refl in
      rw (e, back, other) (omega arith)
  one_of_three k y n Equal e =
      let back : is_before k (key y) ≡ false = ap is_lt (byte_order-flip (key y) k Equal e) in
      let here : has k y ≡ true = ap (λ z. bytes_eq k z) (same_from_tie (key y) k e) ∙ same_bytes k in
      rw (e, back, here) (omega arith)
  one_of_three k y n Greater e =
      let back : is_before k (key y) ≡ true = ap is_lt (byte_order-flip (key y) k Greater e) in
      let other : has k y ≡ false = other_from_order k (key y) Less (byte_order-flip (key y) k Greater e) refl in
      rw (e, back, other) (omega arith)

  parted : (k : List ℕ) (ys : List X) → sum_by size (filter (λ y. is_before (key y) k) ys) + sum_by size (filter (λ y. is_before k (key y)) ys) + sum_by size (filter (has k) ys) ≡ sum_by size ys
  parted k [] = omega arith
  parted k (y ∷ ys) =
      let rest = parted k ys in
      let a = filtered (λ y. is_before (key y) k) y ys in
      let b = filtered (λ y. is_before k (key y)) y ys in
      let c = filtered (has k) y ys in
      let here = one_of_three k y (size y) (byte_order (key y) k) refl in
      let whole = sum_by-cons size y ys in
      omega (arith, rest, a, b, c, here, whole)

  -- the one that is found is the only one with its key
  behind : (k : List ℕ) (y : X) (ys : List X) → has k y ≡ true → IsAscendingBy key (y ∷ ys) → All (λ z. has k z ≡ false) ys
  behind k y ys h up =
      λ i d l. let after : byte_order (key y) (key (get_or ys i d)) ≡ Less = Less-from_before _ (up 0 (suc i) d (omega arith) (omega arith)) in
      let same : k ≡ key y = exact_bytes k (key y) h in
      other_from_order k (key (get_or ys i d)) Less (ap (λ z. byte_order z (key (get_or ys i d))) same ∙ after) refl

  found_one : (k : List ℕ) (y : X) (ys : List X) (b : Bool) (o : Option X) → has k y ≡ b → IsAscendingBy key (y ∷ ys) → (if b then Some y else find (has k) ys) ≡ o
      → (find (has k) ys ≡ o → sum_by size (filter (has k) ys) ≡ found_size o) → sum_by size (if b then y ∷ filter (has k) ys else filter (has k) ys) ≡ found_size o
  found_one k y ys true o h up e rest = rw (filter_none (has k) ys (behind k y ys h up)) (omega (arith, ap found_size e))
  found_one k y ys false o h up e rest = rest e

  found : (k : List ℕ) (ys : List X) (o : Option X) → IsAscendingBy key ys → find (has k) ys ≡ o → sum_by size (filter (has k) ys) ≡ found_size o
  found k [] o up e = ap found_size e
  found k (y ∷ ys) o up e = found_one k y ys (has k y) o refl up e (found k ys o (λ i j d l m. up (suc i) (suc j) d (omega arith) (omega arith)))

  -- the sum of a list in which an item was put, in place of what had its key
  pub put_sum : (xs : List X) (x : X) (o : Option X) → IsAscendingBy key xs → find (has (key x)) xs ≡ o → sum_by size (put_by key xs x) + found_size o ≡ sum_by size xs + size x
  put_sum xs x o up e =
      let p = λ (y : X). is_before (key y) (key x) in
      let q = λ (y : X). is_before (key x) (key y) in
      let front = sum_by-append size (filter p xs) (x ∷ filter q xs) in
      let back = sum_by-cons size x (filter q xs) in
      let parts = parted (key x) xs in
      let there = found (key x) xs o up e in
      omega (arith, front, back, parts, there)
