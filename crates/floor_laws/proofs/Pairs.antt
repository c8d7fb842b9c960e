-- Two lists that belong together pair by pair, as items are put in, go, are found and are looked through.
use Rattle.std.proofs.Common.{◌≡◌, ℕ, Bool, true, false, not, ◌||◌, if◌then◌else◌, List, [], ◌∷◌, ◌++◌, map, Option, Some, None, refl, sym, ap, ◌∙◌}
use Rattle.std.specs.List.{All, filter, find, list_any}
use Rattle.std.specs.Str.{bytes_eq}
use Rattle.std.proofs.lemmas.Bool.{false≢true}
use Rattle.std.proofs.lemmas.List.Elements.{All-head, All-tail, All-weaker, filter_passes}
use Rattle.nsq_base.specs.Names.{is_before, byte_order, put_by}
use Rattle.nsq_base.proofs.PutBy.{other_from_order, Less-from_before, byte_order-flip}
use Rattle.path_image.specs.Found.{Pairwise}

-- a name that comes before another, or behind it, is another one
before_apart : (a b : List ℕ) → is_before a b ≡ true → bytes_eq b a ≡ false
before_apart a b h = other_from_order b a _ (byte_order-flip a b _ (Less-from_before (byte_order a b) h)) refl

after_apart : (a b : List ℕ) → is_before b a ≡ true → bytes_eq b a ≡ false
after_apart a b h = other_from_order b a _ (Less-from_before (byte_order b a) h) refl

-- a test that neither the first nor any of the others passes
none_one : {Y : Type 0} (q : Y → Bool) (y : Y) (ys : List Y) → q y ≡ false → list_any q ys ≡ false → list_any q (y ∷ ys) ≡ false
none_one q y ys e h = ap (λ b. b || list_any q ys) e ∙ h

module _ {X Y : Type 0} where
  pub pairs_append : (R : X → Y → Type 0) (xs us : List X) (ys vs : List Y) → Pairwise R xs ys → Pairwise R us vs → Pairwise R (xs ++ us) (ys ++ vs)
  pairs_append R [] us [] vs p q = q
  pairs_append R [] us (y ∷ ys) vs p q = absurd p
  pairs_append R (x ∷ xs) us [] vs p q = absurd p
  pairs_append R (x ∷ xs) us (y ∷ ys) vs p q = (p.0, pairs_append R xs us ys vs p.1 q)

  -- what holds of the pairs of which the first is so
  pub pairs_become : (R S : X → Y → Type 0) (P : X → Type 0) (xs : List X) (ys : List Y) → ((a : X) (b : Y) → P a → R a b → S a b) → All P xs → Pairwise R xs ys → Pairwise S xs ys
  pairs_become R S P [] [] f all p = tt
  pairs_become R S P [] (y ∷ ys) f all p = absurd p
  pairs_become R S P (x ∷ xs) [] f all p = absurd p
  pairs_become R S P (x ∷ xs) (y ∷ ys) f all p = (f x y (All-head P x xs all) p.0, pairs_become R S P xs ys f (All-tail P x xs all) p.1)

  -- where a test tells the same of both of a pair, what passes it belongs together
  kept_one : (R : X → Y → Type 0) (x : X) (y : Y) (xs : List X) (ys : List Y) (b c : Bool) → b ≡ c → R x y → Pairwise R xs ys → Pairwise R (if b then x ∷ xs else xs) (if c then y ∷ ys else ys)
  kept_one R x y xs ys true true e r p = (r, p)
  kept_one R x y xs ys true false e r p = absurd (false≢true (sym e))
  kept_one R x y xs ys false true e r p = absurd (false≢true e)
  kept_one R x y xs ys false false e r p = p

  pub pairs_filter : (R : X → Y → Type 0) (p : X → Bool) (q : Y → Bool) (xs : List X) (ys : List Y) → ((a : X) (b : Y) → R a b → p a ≡ q b) → Pairwise R xs ys → Pairwise R (filter p xs) (filter q ys)
  pairs_filter R p q [] [] same h = tt
  pairs_filter R p q [] (y ∷ ys) same h = absurd h
  pairs_filter R p q (x ∷ xs) [] same h = absurd h
  pairs_filter R p q (x ∷ xs) (y ∷ ys) same h = kept_one R x y (filter p xs) (filter q ys) (p x) (q y) (same x y h.0) h.0 (pairs_filter R p q xs ys same h.1)

  -- what is found by such a test belongs together, or nothing is found in either
  abbrev pub IfBoth : (X → Y → Type 0) → Option X → Option Y → Type 0
  IfBoth R None None = Unit {0}
  IfBoth R None (Some y) = ⊥
  IfBoth R (Some x) None = ⊥
  IfBoth R (Some x) (Some y) = R x y

  found_one : (R : X → Y → Type 0) (x : X) (y : Y) (o : Option X) (u : Option Y) (b c : Bool) → b ≡ c → R x y → IfBoth R o u → IfBoth R (if b then Some x else o) (if c then Some y else u)
  found_one R x y o u true true e r h = r
  found_one R x y o u true false e r h = absurd (false≢true (sym e))
  found_one R x y o u false true e r h = absurd (false≢true e)
  found_one R x y o u false false e r h = h

  pub pairs_found : (R : X → Y → Type 0) (p : X → Bool) (q : Y → Bool) (xs : List X) (ys : List Y) → ((a : X) (b : Y) → R a b → p a ≡ q b) → Pairwise R xs ys → IfBoth R (find p xs) (find q ys)
  pairs_found R p q [] [] same h = tt
  pairs_found R p q [] (y ∷ ys) same h = absurd h
  pairs_found R p q (x ∷ xs) [] same h = absurd h
  pairs_found R p q (x ∷ xs) (y ∷ ys) same h = found_one R x y (find p xs) (find q ys) (p x) (q y) (same x y h.0) h.0 (pairs_found R p q xs ys same h.1)

  -- what is told alike of both of a pair is one list
  pub pairs_told : {Z : Type 0} (R : X → Y → Type 0) (f : X → Z) (g : Y → Z) (xs : List X) (ys : List Y) → ((a : X) (b : Y) → R a b → f a ≡ g b) → Pairwise R xs ys → map f xs ≡ map g ys
  pairs_told R f g [] [] same h = refl
  pairs_told R f g [] (y ∷ ys) same h = absurd h
  pairs_told R f g (x ∷ xs) [] same h = absurd h
  pairs_told R f g (x ∷ xs) (y ∷ ys) same h = ap (λ z. z ∷ map f xs) (same x y h.0) ∙ ap (λ zs. g y ∷ zs) (pairs_told R f g xs ys same h.1)

  -- where all of the one list are so, none of the other passes a test
  pub pairs_none : (R : X → Y → Type 0) (P : X → Type 0) (q : Y → Bool) (xs : List X) (ys : List Y) → ((a : X) (b : Y) → P a → R a b → q b ≡ false) → All P xs → Pairwise R xs ys → list_any q ys ≡ false
  pairs_none R P q [] [] f all h = refl
  pairs_none R P q [] (y ∷ ys) f all h = absurd h
  pairs_none R P q (x ∷ xs) [] f all h = absurd h
  pairs_none R P q (x ∷ xs) (y ∷ ys) f all h = none_one q y ys (f x y (All-head P x xs all) h.0) (pairs_none R P q xs ys f (All-tail P x xs all) h.1)

  module _ (key : X → List ℕ) (key' : Y → List ℕ) (R S : X → Y → Type 0) where
    -- an item that is put into both takes its pair's place; the pairs of other names become as the change lets them
    pub pairs_put : (x : X) (y : Y) (xs : List X) (ys : List Y) → ((a : X) (b : Y) → R a b → key' b ≡ key a) → ((a : X) (b : Y) → bytes_eq (key x) (key a) ≡ false → R a b → S a b) → key' y ≡ key x → S x y → Pairwise R xs ys
        → Pairwise S (put_by key xs x) (put_by key' ys y)
    pairs_put x y xs ys named become same s h =
        let p : X → Bool = λ a. is_before (key a) (key x) in
        let p' : Y → Bool = λ b. is_before (key' b) (key' y) in
        let q : X → Bool = λ a. is_before (key x) (key a) in
        let q' : Y → Bool = λ b. is_before (key' y) (key' b) in
        let Apart : X → Type 0 = λ a. bytes_eq (key x) (key a) ≡ false in
        let front : Pairwise R (filter p xs) (filter p' ys) = pairs_filter R p p' xs ys (λ a b r. sym (ap (λ k. is_before k (key' y)) (named a b r) ∙ ap (is_before (key a)) same)) h in
        let back : Pairwise R (filter q xs) (filter q' ys) = pairs_filter R q q' xs ys (λ a b r. sym (ap (is_before (key' y)) (named a b r) ∙ ap (λ k. is_before k (key a)) same)) h in
        let before : All Apart (filter p xs) = All-weaker (λ a. p a ≡ true) Apart (λ a e. before_apart (key a) (key x) e) (filter p xs) (filter_passes p xs) in
        let after : All Apart (filter q xs) = All-weaker (λ a. q a ≡ true) Apart (λ a e. after_apart (key a) (key x) e) (filter q xs) (filter_passes q xs) in
        pairs_append S (filter p xs) (x ∷ filter q xs) (filter p' ys) (y ∷ filter q' ys)
        (pairs_become R S Apart (filter p xs) (filter p' ys) become before front)
        (s, pairs_become R S Apart (filter q xs) (filter q' ys) become after back)

    -- the items of a name go from both
    pub pairs_gone : (name : List ℕ) (xs : List X) (ys : List Y) → ((a : X) (b : Y) → R a b → key' b ≡ key a) → ((a : X) (b : Y) → bytes_eq name (key a) ≡ false → R a b → S a b) → Pairwise R xs ys
        → Pairwise S (filter (λ a. not (bytes_eq name (key a))) xs) (filter (λ b. not (bytes_eq name (key' b))) ys)
    pairs_gone name xs ys named become h =
        let p : X → Bool = λ a. not (bytes_eq name (key a)) in
        let p' : Y → Bool = λ b. not (bytes_eq name (key' b)) in
        let Apart : X → Type 0 = λ a. bytes_eq name (key a) ≡ false in
        let kept : Pairwise R (filter p xs) (filter p' ys) = pairs_filter R p p' xs ys (λ a b r. sym (ap (λ k. not (bytes_eq name k)) (named a b r))) h in
        let apart : All Apart (filter p xs) = All-weaker (λ a. p a ≡ true) Apart (λ a e. turned (bytes_eq name (key a)) e) (filter p xs) (filter_passes p xs) in
        pairs_become R S Apart (filter p xs) (filter p' ys) become apart kept
      where
        turned : (b : Bool) → not b ≡ true → b ≡ false
        turned true e = absurd (false≢true e)
        turned false e = refl
