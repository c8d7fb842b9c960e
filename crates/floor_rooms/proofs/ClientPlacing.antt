-- Where a client stands in a list that is in the order of numbers.
use Rattle.std.proofs.Common.{◌≡◌, ◌⊎◌, inl, inr, ℕ, suc, ◌+◌, ◌<◌, ◌≤◌, Bool, true, false, ◌==◌, nat_lt, if◌then◌else◌, List, [], ◌∷◌, ◌++◌, length, take, drop, get_or, Some, Result, Ok, Err, Ordering, Less, Equal, Greater, refl, sym, ap, subst, ◌∙◌, append_assoc, arith}
use Rattle.std.specs.List.{All, HoldsAt, filter, find}
use Rattle.std.specs.List.Sorted.{IsBinarySearchResult, IsSearchInRange, IsPartitionPoint, IsSortedBy}
use Rattle.std.specs.Ordering.{nat_cmp, is_lt, MatchOrdering}
use Rattle.std.proofs.lemmas.Bool.{lt-ltb, le-ltb, eq-eqb}
use Rattle.std.proofs.lemmas.Bool.Decides.{eqb_tells}
use Rattle.std.proofs.lemmas.Cmp.{ranked, nat_cmp_total}
use Rattle.std.proofs.lemmas.List.{append-nil, take-append-drop, get_or-take, get_or-drop, length-take-le, length-drop}
use Rattle.std.proofs.lemmas.List.Elements.{All-head, All-tail, All-cons, All-nil, All-append, All-weaker}
use Rattle.std.proofs.lemmas.List.Sorted.{searchable_from_sorted}
use Rattle.nsq_base.proofs.PutBy.{filter_all, filter_none, filter-three, parts_at}
use Rattle.broker_history.specs.State.{Client}
use Rattle.floor_rooms.specs.ClientPlaces.{AreInOrder, StandsAt, BelongsAt, IsPlaceOf}

-- what the order of numbers tells
order_tells : (a b : ℕ) (o : Ordering) → nat_cmp a b ≡ o → MatchOrdering o (a < b) (a ≡ b) (b < a)
order_tells a b o e = ranked a b o (sym e)

-- numbers that differ
other_number : (a b : ℕ) → (a < b) ⊎ (b < a) → (a == b) ≡ false
other_number a b h = elim (eqb_tells a b) [ inl same ↦ absurd (elim h [ inl lt ↦ omega (arith, same.1, lt) | inr gt ↦ omega (arith, same.1, gt) ]) | inr apart ↦ apart.0 ]

-- the order, read from the greater one
above_tells : (a b : ℕ) → a < b → nat_cmp b a ≡ Greater
above_tells a b h = ap (λ c. if c then Less else (if b == a then Equal else Greater)) (le-ltb b a (omega (arith, h))) ∙ ap (λ c. if c then Equal else Greater) (other_number b a (inr h))

-- the tests for lesser and greater numbers tell the three parts of a list apart
parts : (k : ℕ) (front middle back : List Client) → All (λ (d : Client). d.number < k) front → All (λ (d : Client). d.number ≡ k) middle → All (λ (d : Client). k < d.number) back
    → (filter (λ (d : Client). nat_lt d.number k) (front ++ middle ++ back) ≡ front) × (filter (λ (d : Client). nat_lt k d.number) (front ++ middle ++ back) ≡ back)
parts k front middle back f m b =
    let p : Client → Bool = λ d. nat_lt d.number k in
    let q : Client → Bool = λ d. nat_lt k d.number in
    let L : Client → Type 0 = λ d. d.number < k in
    let E : Client → Type 0 = λ d. d.number ≡ k in
    let G : Client → Type 0 = λ d. k < d.number in (
      filter-three p front middle back front [] []
          (filter_all p front (All-weaker L (λ d. p d ≡ true) (λ d h. lt-ltb d.number k h) front f))
          (filter_none p middle (All-weaker E (λ d. p d ≡ false) (λ d h. le-ltb d.number k (omega (arith, h))) middle m))
          (filter_none p back (All-weaker G (λ d. p d ≡ false) (λ d h. le-ltb d.number k (omega (arith, h))) back b))
          ∙ append-nil (front ++ []) ∙ append-nil front,
      filter-three q front middle back [] [] back
          (filter_none q front (All-weaker L (λ d. q d ≡ false) (λ d h. le-ltb k d.number (omega (arith, h))) front f))
          (filter_none q middle (All-weaker E (λ d. q d ≡ false) (λ d h. le-ltb k d.number (omega (arith, h))) middle m))
          (filter_all q back (All-weaker G (λ d. q d ≡ true) (λ d h. lt-ltb k d.number h) back b)),
    )

-- a search passes over clients of other numbers
find_past : (k : ℕ) (front back : List Client) → All (λ (d : Client). (d.number == k) ≡ false) front → find (λ (c : Client). c.number == k) (front ++ back) ≡ find (λ (c : Client). c.number == k) back
find_past k [] back h = refl
find_past k (x ∷ front) back h =
    rw (All-head (λ (d : Client). (d.number == k) ≡ false) x front h) (find_past k front back (All-tail (λ (d : Client). (d.number == k) ≡ false) x front h))

-- a client of the number stands alone between those of lesser and those of greater ones
pub stands : (xs : List Client) (k i : ℕ) (e : Client) → AreInOrder xs → i < length xs → HoldsAt (λ (y : Client). nat_cmp y.number k ≡ Equal) xs i → StandsAt xs k i
stands xs k i e up l at =
    let is : (d : Client) → (get_or xs i d).number ≡ k = λ d. order_tells (get_or xs i d).number k Equal (at d) in
    let front : All (λ (y : Client). y.number < k) (take i xs) =
    λ j d m. let n : j < i = omega (arith, length-take-le i xs (omega arith)) in
    subst (λ (y : Client). y.number < k) (sym (get_or-take i xs j d n)) (omega (arith, up j i d n l, is d)) in
    let back : All (λ (y : Client). k < y.number) (drop (suc i) xs) =
    λ j d m. let n : suc i + j < length xs = omega (arith, length-drop (suc i) xs) in
    subst (λ (y : Client). k < y.number) (sym (get_or-drop (suc i) xs j d)) (omega (arith, up i (suc i + j) d (omega arith) n, is d)) in
    let split = parts k (take i xs) (get_or xs i e ∷ []) (drop (suc i) xs) front (All-cons (λ (y : Client). y.number ≡ k) (get_or xs i e) [] (is e) (All-nil (λ (y : Client). y.number ≡ k))) back in
    let whole = parts_at xs i e l in
    record {
      in_range = l;
      is = is;
      before = subst (λ (ys : List Client). filter (λ (y : Client). nat_lt y.number k) ys ≡ take i xs) whole split.0;
      after = subst (λ (ys : List Client). filter (λ (y : Client). nat_lt k y.number) ys ≡ drop (suc i) xs) whole split.1;
      found = λ d.
          let past : All (λ (y : Client). (y.number == k) ≡ false) (take i xs) = All-weaker (λ (y : Client). y.number < k) (λ (y : Client). (y.number == k) ≡ false) (λ y h. other_number y.number k (inl h)) (take i xs) front in
          let here : find (λ (c : Client). c.number == k) (get_or xs i d ∷ drop (suc i) xs) ≡ Some (get_or xs i d) = rw (eq-eqb (get_or xs i d).number k (is d)) refl in
          ap (find (λ (c : Client). c.number == k)) (sym (parts_at xs i d l) ∙ append_assoc (take i xs) (get_or xs i d ∷ []) (drop (suc i) xs)) ∙ find_past k (take i xs) (get_or xs i d ∷ drop (suc i) xs) past ∙ here;
    }

-- a place that parts a list by the answers of the order is where the number belongs
pub belongs : (xs : List Client) (k i : ℕ) → i ≤ length xs → IsPartitionPoint (λ (y : Client). nat_cmp y.number k ≡ Less) (λ (y : Client). nat_cmp y.number k ≡ Greater) xs i → BelongsAt xs k i
belongs xs k i l h =
    let front : All (λ (y : Client). y.number < k) (take i xs) =
    λ j d m. let n : j < i = omega (arith, length-take-le i xs l) in
    subst (λ (y : Client). y.number < k) (sym (get_or-take i xs j d n)) (order_tells (get_or xs j d).number k Less (h.0 j d (omega arith) n)) in
    let back : All (λ (y : Client). k < y.number) (drop i xs) =
    λ j d m. let n : i + j < length xs = omega (arith, length-drop i xs) in
    subst (λ (y : Client). k < y.number) (sym (get_or-drop i xs j d)) (order_tells (get_or xs (i + j) d).number k Greater (h.1 (i + j) d (omega arith) n)) in
    let split = parts k (take i xs) [] (drop i xs) front (All-nil (λ (y : Client). y.number ≡ k)) back in
    let whole : take i xs ++ [] ++ drop i xs ≡ xs = rw append-nil (take-append-drop i xs) in
    let differs : All (λ (y : Client). (y.number == k) ≡ false) (take i xs ++ drop i xs) =
    All-append (λ (y : Client). (y.number == k) ≡ false) (take i xs) (drop i xs)
    (All-weaker (λ (y : Client). y.number < k) (λ (y : Client). (y.number == k) ≡ false) (λ y h. other_number y.number k (inl h)) (take i xs) front)
    (All-weaker (λ (y : Client). k < y.number) (λ (y : Client). (y.number == k) ≡ false) (λ y h. other_number y.number k (inr h)) (drop i xs) back) in
    record {
      in_range = l;
      before = subst (λ (ys : List Client). filter (λ (y : Client). nat_lt y.number k) ys ≡ take i xs) whole split.0;
      after = subst (λ (ys : List Client). filter (λ (y : Client). nat_lt k y.number) ys ≡ drop i xs) whole split.1;
      found =
          let all : All (λ (y : Client). (y.number == k) ≡ false) xs = subst (All (λ (y : Client). (y.number == k) ≡ false)) (take-append-drop i xs) differs in
          ap (find (λ (c : Client). c.number == k)) (sym (append-nil xs)) ∙ find_past k xs [] all;
    }

-- neighbours are in the order that a search asks for
sorted : (xs : List Client) → AreInOrder xs → IsSortedBy (λ (a b : Client). is_lt (nat_cmp a.number b.number)) xs
sorted xs up n d l m = ap is_lt (above_tells (get_or xs n d).number (get_or xs (n + 1) d).number (up n (n + 1) d (omega arith) m))

-- a binary search answers the place of the number
pub place_found : (xs : List Client) (k : ℕ) (r : Result ℕ ℕ) → AreInOrder xs → IsSearchInRange r (length xs) → IsBinarySearchResult (λ (y : Client). nat_cmp y.number k) xs r → IsPlaceOf xs k r
place_found [] k (Ok i) up l h = absurd (omega arith)
place_found (d ∷ xs) k (Ok i) up l h = stands (d ∷ xs) k i d up l h
place_found xs k (Err i) up l h = belongs xs k i l (h (searchable_from_sorted nat_cmp_total (λ (c : Client). c.number) xs k (sorted xs up)))
