-- Items in byte order of their keys: where a key stands, and what is kept when an item is put in.
use Rattle.std.proofs.Common.{◌≡◌, ℕ, suc, set, ◌+◌, ◌<◌, ◌≤◌, Bool, true, false, List, [], ◌∷◌, ◌++◌, length, take, drop, get_or, Result, Ok, Err, refl, sym, ap, subst, ◌∙◌, arith, Ordering, Less, Equal, Greater}
use Rattle.std.specs.List.{All, AllPairs, HoldsAt, filter, insert}
use Rattle.std.specs.List.Sorted.{IsBinarySearchResult, IsSearchInRange, IsPartitionPoint, IsSortedBy}
use Rattle.std.specs.Ordering.{is_lt, ordering_reverse, is_eq}
use Rattle.std.specs.Cmp.Lexicographic.{texts_ties, same_text, nat_list_cmp_total}
use Rattle.std.specs.Str.{bytes_eq}
use Rattle.std.proofs.lemmas.Cmp.{alike_right}
use Rattle.std.proofs.Math.Seq.{take-suc}
use Rattle.std.proofs.lemmas.List.{append-nil, set_split, take-append-drop, get_or-take, get_or-drop, length-take-le, length-drop}
use Rattle.std.proofs.lemmas.List.Elements.{All-head, All-tail, All-cons, All-nil, All-append, All-filter, All-weaker, filter-append, filter_passes}
use Rattle.std.proofs.lemmas.List.Kept.{AllPairs-cons, AllPairs-filter}
use Rattle.std.proofs.lemmas.List.Sorted.{searchable_from_sorted}
use Rattle.nsq_base.specs.Names.{byte_order, is_before, IsAscendingBy, put_by}
use Rattle.nsq_base.specs.Places.{StandsAt, BelongsAt, IsPlaceOf}

-- a filter keeps all where all pass
pub filter_all : {X : Type 0} (p : X → Bool) (xs : List X) → All (λ x. p x ≡ true) xs → filter p xs ≡ xs
filter_all p [] h = refl
filter_all p (x ∷ xs) h = rw (All-head (λ y. p y ≡ true) x xs h, filter_all p xs (All-tail (λ y. p y ≡ true) x xs h)) refl

-- a filter keeps nothing where none passes
pub filter_none : {X : Type 0} (p : X → Bool) (xs : List X) → All (λ x. p x ≡ false) xs → filter p xs ≡ []
filter_none p [] h = refl
filter_none p (x ∷ xs) h = rw (All-head (λ y. p y ≡ false) x xs h, filter_none p xs (All-tail (λ y. p y ≡ false) x xs h)) refl

-- pairs within two lists and across them are pairs of the whole
pub AllPairs-append : {X : Type 0} (R : X → X → Type 0) (xs ys : List X) → AllPairs R xs → AllPairs R ys → All (λ x. All (R x) ys) xs → AllPairs R (xs ++ ys)
AllPairs-append R [] ys a b c = b
AllPairs-append R (x ∷ xs) ys a b c =
    AllPairs-cons R x (xs ++ ys) (All-append (R x) xs ys (λ k d l. a 0 (suc k) d (omega arith) (omega arith)) (All-head (λ y. All (R y) ys) x xs c)) (AllPairs-append R xs ys (λ i j d l m. a (suc i) (suc j) d (omega arith) (omega arith)) b (All-tail (λ y. All (R y) ys) x xs c))

-- the order, read from the other side
pub byte_order-flip : (a b : List ℕ) (o : Ordering) → byte_order a b ≡ o → byte_order b a ≡ ordering_reverse o
byte_order-flip a b o e = nat_list_cmp_total.antisymm b a ∙ ap ordering_reverse e

-- from the test to the answer
pub Less-from_before : (o : Ordering) → is_lt o ≡ true → o ≡ Less
Less-from_before Less h = refl
Less-from_before Equal h = absurd (cc)
Less-from_before Greater h = absurd (cc)

-- one before another before a third
pub is_before-trans : (a b c : List ℕ) → is_before a b ≡ true → is_before b c ≡ true → is_before a c ≡ true
is_before-trans a b c h k = ap is_lt (nat_list_cmp_total.trans a b c (Less-from_before (byte_order a b) h) (Less-from_before (byte_order b c) k))

-- byte strings that tie are one
pub same_from_tie : (a b : List ℕ) → byte_order a b ≡ Equal → a ≡ b
same_from_tie a b e = same_text a b (sym (texts_ties a b ∙ ap is_eq e))

-- byte strings that don't tie differ
pub other_from_order : (a b : List ℕ) (o : Ordering) → byte_order a b ≡ o → is_eq o ≡ false → bytes_eq a b ≡ false
other_from_order a b o e h = texts_ties a b ∙ ap is_eq e ∙ h

-- what a filter keeps of three lists, one after another
pub filter-three : {X : Type 0} (p : X → Bool) (a b c a' b' c' : List X) → filter p a ≡ a' → filter p b ≡ b' → filter p c ≡ c' → filter p (a ++ b ++ c) ≡ a' ++ b' ++ c'
filter-three p a b c a' b' c' e f g = rw (filter-append p (a ++ b) c, filter-append p a b, e, f, g) refl

-- a list is what stands before a place, the item there, and what stands behind it
pub parts_at : {X : Type 0} (xs : List X) (i : ℕ) (d : X) → i < length xs → take i xs ++ get_or xs i d ∷ [] ++ drop (suc i) xs ≡ xs
parts_at xs i d l = rw (← take-suc xs i d l) (take-append-drop (suc i) xs)

module _ {X : Type 0} (key : X → List ℕ) where
  -- where the keys in front come before k, those in the middle are k and those behind come after it, the tests tell them apart
  pub filters_part : (k : List ℕ) (front middle back : List X) → All (λ y. byte_order (key y) k ≡ Less) front → All (λ y. byte_order (key y) k ≡ Equal) middle → All (λ y. byte_order (key y) k ≡ Greater) back → (filter (λ y. is_before (key y) k) (front ++ middle ++ back) ≡ front) × (filter (λ y. is_before k (key y)) (front ++ middle ++ back) ≡ back)
  filters_part k front middle back f m b =
      let p : X → Bool = λ y. is_before (key y) k in
      let q : X → Bool = λ y. is_before k (key y) in
      let L : X → Type 0 = λ y. byte_order (key y) k ≡ Less in
      let E : X → Type 0 = λ y. byte_order (key y) k ≡ Equal in
      let G : X → Type 0 = λ y. byte_order (key y) k ≡ Greater in (
        filter-three p front middle back front [] []
            (filter_all p front (All-weaker L (λ y. p y ≡ true) (λ y e. ap is_lt e) front f))
            (filter_none p middle (All-weaker E (λ y. p y ≡ false) (λ y e. ap is_lt e) middle m))
            (filter_none p back (All-weaker G (λ y. p y ≡ false) (λ y e. ap is_lt e) back b))
            ∙ append-nil (front ++ []) ∙ append-nil front,
        filter-three q front middle back [] [] back
            (filter_none q front (All-weaker L (λ y. q y ≡ false) (λ y e. ap is_lt (byte_order-flip (key y) k Less e)) front f))
            (filter_none q middle (All-weaker E (λ y. q y ≡ false) (λ y e. ap is_lt (byte_order-flip (key y) k Equal e)) middle m))
            (filter_all q back (All-weaker G (λ y. q y ≡ true) (λ y e. ap is_lt (byte_order-flip (key y) k Greater e)) back b)),
      )

  -- in an ascending list an item with the key stands alone between those before and those after it
  stands : (xs : List X) (k : List ℕ) (i : ℕ) (d : X) → IsAscendingBy key xs → i < length xs → HoldsAt (λ y. byte_order (key y) k ≡ Equal) xs i → StandsAt key xs k i
  stands xs k i e up l at =
      let front : All (λ y. byte_order (key y) k ≡ Less) (take i xs) =
      λ j d m. let n : j < i = omega (arith, length-take-le i xs (omega arith)) in
      ap (λ (y : X). byte_order (key y) k) (get_or-take i xs j d n) ∙ sym (alike_right nat_list_cmp_total (key (get_or xs i d)) k (key (get_or xs j d)) (at d)) ∙ Less-from_before _ (up j i d n l) in
      let back : All (λ y. byte_order (key y) k ≡ Greater) (drop (suc i) xs) =
      λ j d m. let n : suc i + j < length xs = omega (arith, length-drop (suc i) xs) in
      ap (λ (y : X). byte_order (key y) k) (get_or-drop (suc i) xs j d) ∙ byte_order-flip k (key (get_or xs (suc i + j) d)) Less (sym (nat_list_cmp_total.congr (key (get_or xs i d)) k (key (get_or xs (suc i + j) d)) (at d)) ∙ Less-from_before _ (up i (suc i + j) d (omega arith) n)) in
      let parts = filters_part k (take i xs) (get_or xs i e ∷ []) (drop (suc i) xs) front (All-cons (λ y. byte_order (key y) k ≡ Equal) (get_or xs i e) [] (at e) (All-nil (λ y. byte_order (key y) k ≡ Equal))) back in
      let whole = parts_at xs i e l in
      record {
        in_range = l;
        is_key = λ d. same_from_tie _ _ (at d);
        before = subst (λ (ys : List X). filter (λ y. is_before (key y) k) ys ≡ take i xs) whole parts.0;
        after = subst (λ (ys : List X). filter (λ y. is_before k (key y)) ys ≡ drop (suc i) xs) whole parts.1;
      }

  -- a place that parts a list by the answers of the order is where the key belongs
  belongs : (xs : List X) (k : List ℕ) (i : ℕ) → i ≤ length xs → IsPartitionPoint (λ y. byte_order (key y) k ≡ Less) (λ y. byte_order (key y) k ≡ Greater) xs i → BelongsAt key xs k i
  belongs xs k i l h =
      let front : All (λ y. byte_order (key y) k ≡ Less) (take i xs) =
      λ j d m. let n : j < i = omega (arith, length-take-le i xs l) in
      ap (λ (y : X). byte_order (key y) k) (get_or-take i xs j d n) ∙ h.0 j d (omega arith) n in
      let back : All (λ y. byte_order (key y) k ≡ Greater) (drop i xs) =
      λ j d m. let n : i + j < length xs = omega (arith, length-drop i xs) in
      ap (λ (y : X). byte_order (key y) k) (get_or-drop i xs j d) ∙ h.1 (i + j) d (omega arith) n in
      let parts = filters_part k (take i xs) [] (drop i xs) front (All-nil (λ y. byte_order (key y) k ≡ Equal)) back in
      let whole : take i xs ++ [] ++ drop i xs ≡ xs = rw append-nil (take-append-drop i xs) in
      let differs : All (λ y. bytes_eq k (key y) ≡ false) (take i xs ++ drop i xs) =
      All-append (λ y. bytes_eq k (key y) ≡ false) (take i xs) (drop i xs)
      (All-weaker (λ y. byte_order (key y) k ≡ Less) (λ y. bytes_eq k (key y) ≡ false) (λ y e. other_from_order k (key y) Greater (byte_order-flip (key y) k Less e) refl) (take i xs) front)
      (All-weaker (λ y. byte_order (key y) k ≡ Greater) (λ y. bytes_eq k (key y) ≡ false) (λ y e. other_from_order k (key y) Less (byte_order-flip (key y) k Greater e) refl) (drop i xs) back) in
      record {
        in_range = l;
        before = subst (λ (ys : List X). filter (λ y. is_before (key y) k) ys ≡ take i xs) whole parts.0;
        after = subst (λ (ys : List X). filter (λ y. is_before k (key y)) ys ≡ drop i xs) whole parts.1;
        absent = subst (λ (ys : List X). All (λ y. bytes_eq k (key y) ≡ false) ys) (take-append-drop i xs) differs;
      }

  -- neighbours in an ascending list are in the order that a search asks for
  sorted : (xs : List X) → IsAscendingBy key xs → IsSortedBy (λ a b. is_lt (byte_order (key a) (key b))) xs
  sorted xs up n d l m = ap is_lt (byte_order-flip (key (get_or xs n d)) (key (get_or xs (n + 1) d)) Less (Less-from_before _ (up n (n + 1) d (omega arith) m)))

  -- a binary search of an ascending list answers the place of the key
  pub place_found : (xs : List X) (k : List ℕ) (r : Result ℕ ℕ) → IsAscendingBy key xs → IsSearchInRange r (length xs) → IsBinarySearchResult (λ y. byte_order (key y) k) xs r → IsPlaceOf key xs k r
  place_found [] k (Ok i) up l h = absurd (omega arith)
  place_found (d ∷ xs) k (Ok i) up l h = stands (d ∷ xs) k i d up l h
  place_found xs k (Err i) up l h = belongs xs k i l (h (searchable_from_sorted nat_list_cmp_total key xs k (sorted xs up)))

  -- an item put in where its key stands replaces what is there
  pub put_by-stands : (xs : List X) (x : X) (i : ℕ) → StandsAt key xs (key x) i → put_by key xs x ≡ set xs i x
  put_by-stands xs x i h = rw (h.before, h.after) (sym (set_split xs i x h.in_range))

  -- an item put in where its key belongs is inserted there
  pub put_by-belongs : (xs : List X) (x : X) (i : ℕ) → BelongsAt key xs (key x) i → put_by key xs x ≡ insert xs i x
  put_by-belongs xs x i h = rw (h.before, h.after) refl

  -- a list stays ascending when an item is put in
  pub IsAscendingBy-put_by : (xs : List X) (x : X) → IsAscendingBy key xs → IsAscendingBy key (put_by key xs x)
  IsAscendingBy-put_by xs x up =
      let R : X → X → Type 0 = λ y z. is_before (key y) (key z) ≡ true in
      let p : X → Bool = λ y. is_before (key y) (key x) in
      let q : X → Bool = λ y. is_before (key x) (key y) in
      AllPairs-append R (filter p xs) (x ∷ filter q xs) (AllPairs-filter R p xs up)
      (AllPairs-cons R x (filter q xs) (filter_passes q xs) (AllPairs-filter R q xs up))
      (All-weaker (λ y. p y ≡ true) (λ y. All (R y) (x ∷ filter q xs))
      (λ y h. All-cons (R y) x (filter q xs) h (All-weaker (R x) (R y) (λ z k. is_before-trans (key y) (key x) (key z) h k) (filter q xs) (filter_passes q xs)))
      (filter p xs) (filter_passes p xs))

  -- what holds of each item and of the new one holds of each when it is put in
  pub All-put_by : (P : X → Type 0) (xs : List X) (x : X) → All P xs → P x → All P (put_by key xs x)
  All-put_by P xs x h k =
      All-append P _ _ (All-filter (λ y. is_before (key y) (key x)) P xs h) (All-cons P x _ k (All-filter (λ y. is_before (key x) (key y)) P xs h))
