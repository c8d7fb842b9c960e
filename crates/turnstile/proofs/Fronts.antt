-- Fronts of one list, what stands in a list, and the entries of a number.
use Rattle.std.proofs.Common.{◌≡◌, ◌≢◌, ◌⊎◌, ℕ, zero, suc, ◌+◌, ◌<◌, ◌≤◌, Bool, true, false, not, ◌&&◌, eqb, leb, List, [], ◌∷◌, ◌++◌, length, get_or, refl, sym, ap, ◌∙◌, subst, inl, inr, ⊎_elim, arith, append_assoc, append-nil, length-append}
use Rattle.std.specs.Prelude.{IsTrue, All, filter}
use mathlib.Core.Option.{some, some-injective, some-ne-none}
use mathlib.Core.List.{map-append}
use lib.ListN.{get_elem?}
use Rattle.std.proofs.lemmas.Bool.{cond_both, ne_eqb, leb-true, leb-false, and_left, and_right, not_from_true}
use Rattle.std.proofs.lemmas.List.Elements.{filter-append}
use Rattle.turnstile.specs.declared.view.Joined.{Joined}
use Rattle.turnstile.specs.Lists.{BeginsWith, IsIn, own}
use Rattle.turnstile.specs.Views.{numbers_of, longer}

module _ {X : Type 0} where
  pub begins_refl : (xs : List X) → BeginsWith xs xs
  begins_refl xs = ([], sym (append-nil xs))

  pub begins_trans : (xs ys zs : List X) → BeginsWith xs ys → BeginsWith ys zs → BeginsWith xs zs
  begins_trans xs ys zs a b = (b.0 ++ a.0, a.1 ∙ ap (λ (l : List X). l ++ a.0) b.1 ∙ append_assoc zs b.0 a.0)

  cons_injective : (x y : X) (xs ys : List X) → x ∷ xs ≡ y ∷ ys → (x ≡ y) × (xs ≡ ys)
  cons_injective x y xs ys e = (cc, cc)

  -- of two fronts of one list the shorter is a front of the longer
  pub begins_shorter : (xs ys a b : List X) → xs ++ a ≡ ys ++ b → length xs ≤ length ys → BeginsWith ys xs
  begins_shorter [] ys a b e l = (ys, refl)
  begins_shorter (x ∷ xs) [] a b e l = absurd (omega arith)
  begins_shorter (x ∷ xs) (y ∷ ys) a b e l =
      let t : (x ≡ y) × (xs ++ a ≡ ys ++ b) = cons_injective x y (xs ++ a) (ys ++ b) e in
      let r : BeginsWith ys xs = begins_shorter xs ys a b t.1 (omega arith) in
      (r.0, λ i. sym t.0 i ∷ r.1 i)

  pub nothing_more : (xs ys : List X) → xs ++ ys ≡ xs → ys ≡ []
  nothing_more xs [] e = refl
  nothing_more xs (y ∷ ys) e = absurd (let l : length (xs ++ y ∷ ys) ≡ length xs = ap length e in let m : length (xs ++ y ∷ ys) ≡ length xs + length (y ∷ ys) = length-append xs (y ∷ ys) in omega arith)

  -- the longer of two fronts of one list begins with both
  pub longer_begins : (l xs ys : List X) → BeginsWith l xs → BeginsWith l ys → BeginsWith (longer xs ys) xs × BeginsWith (longer xs ys) ys
  longer_begins l xs ys a b = cond_both (leb (length xs) (length ys)) ys xs (λ (z : List X). BeginsWith z xs × BeginsWith z ys)
      (λ e. (begins_shorter xs ys a.0 b.0 (sym a.1 ∙ b.1) (leb-true (length xs) (length ys) e), begins_refl ys))
      (λ e. let lt : length ys < length xs = leb-false (length xs) (length ys) e in (begins_refl xs, begins_shorter ys xs b.0 a.0 (sym b.1 ∙ a.1) (omega arith)))

  pub longer_within : (l xs ys : List X) → BeginsWith l xs → BeginsWith l ys → BeginsWith l (longer xs ys)
  longer_within l xs ys a b = cond_both (leb (length xs) (length ys)) ys xs (λ (z : List X). BeginsWith l z) (λ _. b) (λ _. a)

  none_left : (xs : List X) → length xs ≤ 0 → xs ≡ []
  none_left [] h = refl
  none_left (x ∷ xs) h = absurd (omega arith)

  whole : (l xs : List X) → BeginsWith l xs → length l ≤ length xs → xs ≡ l
  whole l xs a le = let m : length (xs ++ a.0) ≡ length xs + length a.0 = length-append xs a.0 in let n : length l ≡ length (xs ++ a.0) = ap length a.1 in
      sym (a.1 ∙ ap (λ (z : List X). xs ++ z) (none_left a.0 (omega arith)) ∙ append-nil xs)

  -- where one of two fronts of a list is the whole list, so is the longer one
  pub longer_is : (l xs ys : List X) → BeginsWith l xs → BeginsWith l ys → (xs ≡ l) ⊎ (ys ≡ l) → longer xs ys ≡ l
  longer_is l xs ys a b one = cond_both (leb (length xs) (length ys)) ys xs (λ (z : List X). z ≡ l)
      (λ e. let le : length xs ≤ length ys = leb-true (length xs) (length ys) e in ⊎_elim (λ (p : xs ≡ l). whole l ys b (let q : length xs ≡ length l = ap length p in omega arith)) (λ (p : ys ≡ l). p) one)
      (λ e. let lt : length ys < length xs = leb-false (length xs) (length ys) e in
      let m : length l ≡ length (xs ++ a.0) = ap length a.1 in let m' : length (xs ++ a.0) ≡ length xs + length a.0 = length-append xs a.0 in
      ⊎_elim (λ (p : xs ≡ l). p) (λ (p : ys ≡ l). absurd (let q : length ys ≡ length l = ap length p in omega arith)) one)

  pub is_in_front : (x : X) (xs ys : List X) → IsIn x xs → IsIn x (xs ++ ys)
  is_in_front x [] ys h = absurd h
  is_in_front x (y ∷ xs) ys h = ⊎_elim (λ (e : x ≡ y). inl e) (λ (t : IsIn x xs). inr (is_in_front x xs ys t)) h

  pub is_in_last : (x : X) (xs : List X) → IsIn x (xs ++ x ∷ [])
  is_in_last x [] = inl refl
  is_in_last x (y ∷ xs) = inr (is_in_last x xs)

  pub is_in_snoc : (x y : X) (xs : List X) → IsIn x (xs ++ y ∷ []) → IsIn x xs ⊎ (x ≡ y)
  is_in_snoc x y [] h = ⊎_elim (λ (e : x ≡ y). inr e) (λ (no : ⊥). absurd no) h
  is_in_snoc x y (z ∷ xs) h = ⊎_elim (λ (e : x ≡ z). inl (inl e)) (λ (t : IsIn x (xs ++ y ∷ [])). ⊎_elim (λ (a : IsIn x xs). inl (inr a)) (λ (b : x ≡ y). inr b) (is_in_snoc x y xs t)) h

  pub all_one : (P : X → Type 0) (x : X) → P x → All P (x ∷ [])
  all_one P x p zero d l = p
  all_one P x p (suc k) d l = absurd (omega arith)

  pub all_nil : (P : X → Type 0) → All P []
  all_nil P k d l = absurd (omega arith)

  pub filter_none : (p : X → Bool) (xs : List X) → All (λ x. p x ≡ false) xs → filter p xs ≡ []
  filter_none p [] h = refl
  filter_none p (x ∷ xs) h =
      let first : p x ≡ false = h zero x (omega arith) in
      let others : All (λ y. p y ≡ false) xs = (λ k d l. h (suc k) d (omega arith)) in
      rw first (filter_none p xs others)

  -- an element that stands behind a list, or in it
  pub at_snoc_place : (l : List X) (a b : X) (j : ℕ) → get_elem? (l ++ a ∷ []) j ≡ some b → (get_elem? l j ≡ some b) ⊎ ((j ≡ length l) × (a ≡ b))
  at_snoc_place [] a b zero e = inr (refl, some-injective a b e)
  at_snoc_place [] a b (suc j) e = absurd (some-ne-none b (sym e))
  at_snoc_place (x ∷ xs) a b zero e = inl e
  at_snoc_place (x ∷ xs) a b (suc j) e = ⊎_elim (λ (t : get_elem? xs j ≡ some b). inl t) (λ (t : (j ≡ length xs) × (a ≡ b)). inr (ap suc t.0, t.1)) (at_snoc_place xs a b j e)

  pub at_single : (a b : X) (j : ℕ) → get_elem? (a ∷ []) j ≡ some b → (j ≡ 0) × (a ≡ b)
  at_single a b zero e = (refl, some-injective a b e)
  at_single a b (suc j) e = absurd (some-ne-none b (sym e))

pub numbers_more : {E : Type 0} (joined : List (Joined E)) (j : Joined E) → numbers_of (joined ++ j ∷ []) ≡ numbers_of joined ++ j.number ∷ []
numbers_more joined j = map-append (λ i. i.number) joined (j ∷ [])

module _ {E : Type 0} (number : E → ℕ) (is_common : E → Bool) where
  abbrev Own : ℕ → List E → List E
  Own = own number is_common

  is_other : (n : ℕ) (e : E) → number e ≢ n → ((eqb (number e) n) && not (is_common e)) ≡ false
  is_other n e ne = and_left (eqb (number e) n) (not (is_common e)) (ne_eqb (number e) n ne)

  is_no_own : (n : ℕ) (e : E) → is_common e ≡ true → ((eqb (number e) n) && not (is_common e)) ≡ false
  is_no_own n e c = and_right (eqb (number e) n) (not (is_common e)) (not_from_true (is_common e) c)

  -- no entry is of a number that none names
  pub own_none : (n : ℕ) (given : List ℕ) (list : List E) → All (λ e. IsIn (number e) given) list → ¬ (IsIn n given) → Own n list ≡ []
  own_none n given list named new = filter_none (λ e. eqb (number e) n && not (is_common e)) list (λ k d l. is_other n (get_or list k d) (λ e. new (subst (λ (z : ℕ). IsIn z given) e (named k d l))))

  -- what a pass appends leaves the entries of other numbers as they are
  pub own_other : (n m : ℕ) (old rest : List E) → All (λ e. IsTrue (is_common e) ⊎ (number e ≡ m)) rest → n ≢ m → Own n (old ++ rest) ≡ Own n old
  own_other n m old rest each ne =
      let none : Own n rest ≡ [] = filter_none (λ e. eqb (number e) n && not (is_common e)) rest
      (λ k d l. ⊎_elim (λ (c : IsTrue (is_common (get_or rest k d))). is_no_own n (get_or rest k d) c) (λ (e : number (get_or rest k d) ≡ m). is_other n (get_or rest k d) (λ f. ne (sym f ∙ e))) (each k d l)) in
      filter-append (λ e. eqb (number e) n && not (is_common e)) old rest ∙ ap (λ (z : List E). Own n old ++ z) none ∙ append-nil (Own n old)

  pub own_append : (n : ℕ) (old rest : List E) → Own n (old ++ rest) ≡ Own n old ++ Own n rest
  own_append n old rest = filter-append (λ e. eqb (number e) n && not (is_common e)) old rest

  first_none : (xs ys : List E) → xs ++ ys ≡ [] → xs ≡ []
  first_none [] ys e = refl
  first_none (x ∷ xs) ys e = absurd (let l : length ((x ∷ xs) ++ ys) ≡ 0 = ap length e in omega arith)

  -- a list between a front and the whole has as many entries of a number as both, where both have as many
  pub own_between : (n : ℕ) (l ys xs : List E) → BeginsWith l ys → BeginsWith ys xs → Own n l ≡ Own n xs → Own n ys ≡ Own n xs
  own_between n l ys xs a b same =
      let e : Own n l ≡ Own n xs ++ (Own n b.0 ++ Own n a.0) = ap (Own n) a.1 ∙ own_append n ys a.0 ∙ ap (λ (z : List E). Own n z ++ Own n a.0) b.1 ∙ ap (λ (z : List E). z ++ Own n a.0) (own_append n xs b.0) ∙ append_assoc (Own n xs) (Own n b.0) (Own n a.0) in
      let none : Own n b.0 ++ Own n a.0 ≡ [] = nothing_more (Own n xs) (Own n b.0 ++ Own n a.0) (sym e ∙ same) in
      ap (Own n) b.1 ∙ own_append n xs b.0 ∙ ap (λ (z : List E). Own n xs ++ z) (first_none (Own n b.0) (Own n a.0) none) ∙ append-nil (Own n xs)
