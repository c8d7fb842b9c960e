-- A list of items that is sorted by their keys.
use Rattle.std.proofs.Common.{◌≡◌, ◌≢◌, ℕ, zero, suc, ◌+◌, ◌-◌, ◌<◌, ◌≤◌, Bool, true, false, cond, List, [], ◌∷◌, length, get_or, refl, sym, ap, subst, ◌∙◌, arith, Ordering, Less, Equal, Greater}
use Rattle.std.specs.List.{All, AllAdjacentBelow, filter}
use Rattle.std.specs.List.Sorted.{IsPermutation, IsSortedBy}
use Rattle.std.specs.Ordering.{is_lt}
use Rattle.std.specs.Str.{bytes_eq}
use Rattle.std.proofs.lemmas.Bool.{false≢true}
use Rattle.std.proofs.lemmas.List.Elements.{All-nil, All-cons}
use Rattle.std.proofs.lemmas.List.Kept.{AllPairs-cons}
use Rattle.std.proofs.lemmas.List.Sorted.{IsPermutation-sym, sum_by-IsPermutation}
use Rattle.std.proofs.lemmas.List.Sums.{length-filter}
use Rattle.std.proofs.lemmas.Slice.Eq.{bytes_eq-Decides}
use Rattle.nsq_base.specs.Names.{byte_order, is_before, IsAscendingBy}
use Rattle.nsq_base.proofs.PutBy.{byte_order-flip, same_from_tie, is_before-trans, filter_none}
use Rattle.path_image.proofs.NameLists.{before_once}
use Rattle.names_reading.specs.Reading.{AreApart, AreSorted}
use Rattle.names_reading.proofs.Putting.{sorted_put}

-- other bytes don't pass the test
other_bytes : (a b : List ℕ) → a ≢ b → bytes_eq a b ≡ false
other_bytes a b other = go (bytes_eq a b) refl
  where
    go : (t : Bool) → bytes_eq a b ≡ t → t ≡ false
    go true e = absurd (other ((bytes_eq-Decides a b).0 e))
    go false e = refl

module _ {X : Type 0} (key : X → List ℕ) where
  -- those of a list that have this key
  abbrev having : List ℕ → List X → List X
  having k xs = filter (λ x. bytes_eq k (key x)) xs

  longer : (b : Bool) (x : X) (xs : List X) → length xs ≤ length (cond b (x ∷ xs) xs)
  longer true x xs = omega arith
  longer false x xs = omega arith

  -- of items of which no two have one key, one at most has this one
  few : (k : List ℕ) (xs : List X) → AreApart key xs → length (having k xs) ≤ 1
  few k [] apart = omega arith
  few k (x ∷ xs) apart = go (bytes_eq k (key x)) refl (few k xs (λ i j d l m. apart (suc i) (suc j) d (omega (arith, l)) (omega (arith, m))))
    where
      go : (t : Bool) → bytes_eq k (key x) ≡ t → length (having k xs) ≤ 1 → length (cond t (x ∷ having k xs) (having k xs)) ≤ 1
      go true e rest =
          let is : k ≡ key x = (bytes_eq-Decides k (key x)).0 e in
          let none : having k xs ≡ [] = filter_none (λ y. bytes_eq k (key y)) xs (λ i d l. other_bytes k (key (get_or xs i d)) (λ f. apart 0 (suc i) d (omega arith) (omega (arith, l)) (sym is ∙ f))) in
          rw none (omega arith)
      go false e rest = rest

  -- where none has this key, each has another
  others : (k : List ℕ) (xs : List X) → length (having k xs) ≤ 0 → All (λ y. k ≢ key y) xs
  others k [] none = All-nil (λ y. k ≢ key y)
  others k (x ∷ xs) none =
      let rest = longer (bytes_eq k (key x)) x (having k xs) in
      All-cons (λ y. k ≢ key y) x xs
      (λ e. let one : length (x ∷ having k xs) ≤ 0 = subst (λ (t : Bool). length (cond t (x ∷ having k xs) (having k xs)) ≤ 0) ((bytes_eq-Decides k (key x)).1 e) none in
      absurd (let no : ⊥ = omega (arith, one) in no))
      (others k xs (omega (arith, rest, none)))

  -- where of each key there is one at most, no two have one
  apart_few : (xs : List X) → ((k : List ℕ) → length (having k xs) ≤ 1) → AreApart key xs
  apart_few [] one = λ i j d l m. absurd (let no : ⊥ = omega (arith, m) in no)
  apart_few (x ∷ xs) one =
      let first : length (x ∷ having (key x) xs) ≤ 1 =
      subst (λ (t : Bool). length (cond t (x ∷ having (key x) xs) (having (key x) xs)) ≤ 1) ((bytes_eq-Decides (key x) (key x)).1 refl) (one (key x)) in
      AllPairs-cons (λ a b. key a ≢ key b) x xs (others (key x) xs (omega (arith, first)))
      (apart_few xs (λ k. let rest = longer (bytes_eq k (key x)) x (having k xs) in let most = one k in omega (arith, rest, most)))

  -- another order changes nothing of that
  pub apart_moved : (xs ys : List X) → AreApart key xs → IsPermutation xs ys → AreApart key ys
  apart_moved xs ys apart moved =
      apart_few ys (λ k.
      let p : X → Bool = λ x. bytes_eq k (key x) in
      let same : length (filter p ys) ≡ length (filter p xs) = length-filter p ys ∙ sum_by-IsPermutation (λ x. cond (p x) 1 0) xs ys moved ∙ sym (length-filter p xs) in
      let most = few k xs apart in
      omega (arith, same, most))

  -- neighbours that are in order and have other keys
  next_up : (a b : X) (o : Ordering) → byte_order (key a) (key b) ≡ o → is_lt (byte_order (key b) (key a)) ≡ false → key a ≢ key b → is_before (key a) (key b) ≡ true
  next_up a b Less e sorted other = ap is_lt e
  next_up a b Equal e sorted other = absurd (other (same_from_tie (key a) (key b) e))
  next_up a b Greater e sorted other = absurd (false≢true (sym sorted ∙ ap is_lt (byte_order-flip (key a) (key b) Greater e)))

  far_up : (ys : List X) → ((i : ℕ) (d : X) → i + 1 < length ys → is_before (key (get_or ys i d)) (key (get_or ys (i + 1) d)) ≡ true)
      → (i n : ℕ) (d : X) → suc (i + n) < length ys → is_before (key (get_or ys i d)) (key (get_or ys (suc (i + n)) d)) ≡ true
  far_up ys next i zero d l = subst (λ (j : ℕ). is_before (key (get_or ys i d)) (key (get_or ys j d)) ≡ true) (let e : i + 1 ≡ suc (i + 0) = omega arith in e) (next i d (omega (arith, l)))
  far_up ys next i (suc n) d l =
      is_before-trans (key (get_or ys i d)) (key (get_or ys (suc (i + n)) d)) (key (get_or ys (suc (i + suc n)) d)) (far_up ys next i n d (omega (arith, l)))
      (subst (λ (j : ℕ). is_before (key (get_or ys (suc (i + n)) d)) (key (get_or ys j d)) ≡ true) (let e : suc (i + n) + 1 ≡ suc (i + suc n) = omega arith in e) (next (suc (i + n)) d (omega (arith, l))))

  -- a sorted list of which no two neighbours have one key ascends
  pub up_sorted : (ys : List X) → IsSortedBy (λ a b. is_lt (byte_order (key a) (key b))) ys → AllAdjacentBelow (λ a b. key a ≢ key b) ys (length ys) → IsAscendingBy key ys
  up_sorted ys sorted other i j d l m =
      let next : (i : ℕ) (d : X) → i + 1 < length ys → is_before (key (get_or ys i d)) (key (get_or ys (i + 1) d)) ≡ true =
      λ i d l. next_up (get_or ys i d) (get_or ys (i + 1) d) _ refl (sorted i d (omega arith) l) (other i d l) in
      let e : suc (i + (j - suc i)) ≡ j = omega (arith, l) in
      subst (λ (k : ℕ). is_before (key (get_or ys i d)) (key (get_or ys k d)) ≡ true) e (far_up ys next i (j - suc i) d (omega (arith, l, m)))

  -- what is before itself never comes
  pub up_apart : (ys : List X) → IsAscendingBy key ys → AreApart key ys
  up_apart ys up i j d l m e = false≢true (sym (before_self (key (get_or ys i d))) ∙ subst (λ (k : List ℕ). is_before (key (get_or ys i d)) k ≡ true) (sym e) (up i j d l m))
    where
      before_self : (a : List ℕ) → is_before a a ≡ false
      before_self a = either (is_before a a) refl
        where
          either : (t : Bool) → is_before a a ≡ t → is_before a a ≡ false
          either true e = before_once a a e
          either false e = e

  -- a list whose sorted order has no two neighbours of one key
  pub are_sorted : (xs ys : List X) → IsPermutation xs ys → IsSortedBy (λ a b. is_lt (byte_order (key a) (key b))) ys → AllAdjacentBelow (λ a b. key a ≢ key b) ys (length ys) → AreSorted key xs ys
  are_sorted xs ys moved sorted other =
      let up = up_sorted ys sorted other in
      let once = apart_moved ys xs (up_apart ys up) (IsPermutation-sym xs ys moved) in
      record { once = once; order = sorted_put key xs ys once moved up }
