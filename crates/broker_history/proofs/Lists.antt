-- Looking for an item in a list that was filtered, or into which one was put.
use Rattle.std.proofs.Common.{rules, ◌≡◌, ℕ, Bool, true, false, not, if◌then◌else◌, List, [], ◌∷◌, Option, Some, None, refl, sym, ap, subst, ◌∙◌, Ordering, Less, Equal, Greater}
use Rattle.std.specs.List.{find, filter}
use Rattle.std.specs.Option.{option_or}
use Rattle.std.specs.Ordering.{is_lt}
use Rattle.std.specs.Str.{bytes_eq}
use Rattle.std.proofs.lemmas.Bool.{false≢true}
use Rattle.std.proofs.lemmas.List.Folds.{find-append}
use Rattle.std.proofs.lemmas.Slice.Eq.{bytes_eq-Decides}
use Rattle.nsq_base.specs.Names.{byte_order, is_before, put_by}
use Rattle.nsq_base.proofs.PutBy.{byte_order-flip, same_from_tie, other_from_order}

pub exact_bytes : (xs ys : List ℕ) → bytes_eq xs ys ≡ true → xs ≡ ys
exact_bytes xs ys h = search (rules, bytes_eq-Decides xs ys)

pub same_bytes : (xs : List ℕ) → bytes_eq xs xs ≡ true
same_bytes xs = search (rules, bytes_eq-Decides xs xs)

module _ {X : Type 0} (p q : X → Bool) where
  -- a filter that keeps what is looked for changes nothing
  kept_one : (x : X) (xs : List X) (a b : Bool) → p x ≡ a → q x ≡ b → (a ≡ true → b ≡ true) → find p (filter q xs) ≡ find p xs → find p (if b then x ∷ filter q xs else filter q xs) ≡ find p (x ∷ xs)
  kept_one x xs a true e f g h = ap (λ (o : Option X). if p x then Some x else o) h
  kept_one x xs true false e f g h = absurd (false≢true (g refl))
  kept_one x xs false false e f g h = h ∙ rw e refl

  pub find_kept : (xs : List X) → ((x : X) → p x ≡ true → q x ≡ true) → find p (filter q xs) ≡ find p xs
  find_kept [] g = refl
  find_kept (x ∷ xs) g = kept_one x xs (p x) (q x) refl refl (g x) (find_kept xs g)

  -- and one that drops it leaves none
  none_one : (x : X) (xs : List X) (a b : Bool) → p x ≡ a → (a ≡ true → b ≡ false) → find p (filter q xs) ≡ None → find p (if b then x ∷ filter q xs else filter q xs) ≡ None
  none_one x xs a false e g h = h
  none_one x xs true true e g h = absurd (false≢true (sym (g refl)))
  none_one x xs false true e g h = rw e h

  pub find_none : (xs : List X) → ((x : X) → p x ≡ true → q x ≡ false) → find p (filter q xs) ≡ None
  find_none [] g = refl
  find_none (x ∷ xs) g = none_one x xs (p x) (q x) refl (g x) (find_none xs g)

-- what is found passes
found_one : {X : Type 0} (p : X → Bool) (x y : X) (xs : List X) (b : Bool) → p x ≡ b → (find p xs ≡ Some y → p y ≡ true) → (if b then Some x else find p xs) ≡ Some y → p y ≡ true
found_one p x y xs true e g h = let same : x ≡ y = cc in subst (λ z. p z ≡ true) same e
found_one p x y xs false e g h = g h

pub find_passes : {X : Type 0} (p : X → Bool) (xs : List X) (y : X) → find p xs ≡ Some y → p y ≡ true
find_passes p [] y h = absurd cc
find_passes p (x ∷ xs) y h = found_one p x y xs (p x) refl (find_passes p xs y) h

or_none : {X : Type 0} (o : Option X) → option_or o None ≡ o
or_none None = refl
or_none (Some x) = refl

module _ {X : Type 0} (key : X → List ℕ) where
  -- whether an item has this key
  abbrev pub has : List ℕ → X → Bool
  has k y = bytes_eq k (key y)

  order_of : (k : List ℕ) (y : X) → has k y ≡ true → key y ≡ k
  order_of k y h = sym (exact_bytes k (key y) h)

  put_order : (xs : List X) (x : X) (k : List ℕ) (o : Ordering) → byte_order k (key x) ≡ o
      → option_or (find (has k) (filter (λ y. is_before (key y) (key x)) xs)) (if has k x then Some x else find (has k) (filter (λ y. is_before (key x) (key y)) xs)) ≡ (if has k x then Some x else find (has k) xs)
  put_order xs x k Less e =
      let other : has k x ≡ false = other_from_order k (key x) Less e refl in
      let front : find (has k) (filter (λ y. is_before (key y) (key x)) xs) ≡ find (has k) xs = find_kept (has k) (λ y. is_before (key y) (key x)) xs (λ y h. ap (λ z. is_before z (key x)) (order_of k y h) ∙ ap is_lt e) in
      let back : find (has k) (filter (λ y. is_before (key x) (key y)) xs) ≡ None = find_none (has k) (λ y. is_before (key x) (key y)) xs (λ y h. ap (λ z. is_before (key x) z) (order_of k y h) ∙ ap is_lt (byte_order-flip k (key x) Less e)) in
      rw (other, back, front) (or_none (find (has k) xs))
  put_order xs x k Equal e =
      let same : k ≡ key x = same_from_tie k (key x) e in
      let here : has k x ≡ true = ap (λ z. bytes_eq z (key x)) same ∙ same_bytes (key x) in
      let front : find (has k) (filter (λ y. is_before (key y) (key x)) xs) ≡ None = find_none (has k) (λ y. is_before (key y) (key x)) xs (λ y h. ap (λ z. is_before z (key x)) (order_of k y h) ∙ ap is_lt e) in
      rw (here, front) refl
  put_order xs x k Greater e =
      let other : has k x ≡ false = other_from_order k (key x) Greater e refl in
      let front : find (has k) (filter (λ y. is_before (key y) (key x)) xs) ≡ None = find_none (has k) (λ y. is_before (key y) (key x)) xs (λ y h. ap (λ z. is_before z (key x)) (order_of k y h) ∙ ap is_lt e) in
      let back : find (has k) (filter (λ y. is_before (key x) (key y)) xs) ≡ find (has k) xs = find_kept (has k) (λ y. is_before (key x) (key y)) xs (λ y h. ap (λ z. is_before (key x) z) (order_of k y h) ∙ ap is_lt (byte_order-flip k (key x) Greater e)) in
      rw (other, front, back) refl

  -- what is found of a key once an item was put
  pub find_put : (xs : List X) (x : X) (k : List ℕ) → find (has k) (put_by key xs x) ≡ (if has k x then Some x else find (has k) xs)
  find_put xs x k = find-append (has k) (filter (λ y. is_before (key y) (key x)) xs) (x ∷ filter (λ y. is_before (key x) (key y)) xs) ∙ put_order xs x k (byte_order k (key x)) refl

  -- what is found of a key once the items of a name went
  gone_from : (xs : List X) (name k : List ℕ) (b : Bool) → bytes_eq name k ≡ b → find (has k) (filter (λ y. not (has name y)) xs) ≡ (if b then None else find (has k) xs)
  gone_from xs name k true e = find_none (has k) (λ y. not (has name y)) xs (λ y h. ap (λ z. not (bytes_eq name z)) (order_of k y h) ∙ ap not e)
  gone_from xs name k false e = find_kept (has k) (λ y. not (has name y)) xs (λ y h. ap (λ z. not (bytes_eq name z)) (order_of k y h) ∙ ap not e)

  pub find_gone : (xs : List X) (name k : List ℕ) → find (has k) (filter (λ y. not (has name y)) xs) ≡ (if bytes_eq name k then None else find (has k) xs)
  find_gone xs name k = gone_from xs name k (bytes_eq name k) refl
