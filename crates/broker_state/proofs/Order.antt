-- Lists in an order.
use Rattle.std.proofs.Common.{◌≡◌, Bool, true, false, List, [], ◌∷◌, ◌++◌, refl, sym, ap, ◌∙◌}
use Rattle.std.specs.List.{filter}
use Rattle.std.proofs.lemmas.List.{append-nil}
use Rattle.std.proofs.lemmas.List.Elements.{filter-append}

-- what a filter keeps of one more element
pub filter_in : {X : Type 0} (p : X → Bool) (xs : List X) (x : X) → p x ≡ true → filter p (xs ++ x ∷ []) ≡ filter p xs ++ x ∷ []
filter_in p xs x e = filter-append p xs (x ∷ []) ∙ rw e refl

pub filter_out : {X : Type 0} (p : X → Bool) (xs : List X) (x : X) → p x ≡ false → filter p (xs ++ x ∷ []) ≡ filter p xs
filter_out p xs x e = filter-append p xs (x ∷ []) ∙ rw e (append-nil (filter p xs))

module _ {X : Type 0} (before : X → X → Bool) (once : (a b : X) → before a b ≡ true → before b a ≡ false) (one : X) where
  -- one more that comes before
  pub put_before : (ys lower higher more : List X) (y : X) → lower ≡ filter (λ o. before o one) ys → higher ≡ filter (λ o. before one o) ys → before y one ≡ true → more ≡ lower ++ y ∷ []
      → (more ≡ filter (λ o. before o one) (ys ++ y ∷ [])) × (higher ≡ filter (λ o. before one o) (ys ++ y ∷ []))
  put_before ys lower higher more y e f t m = (
    m ∙ ap (λ l. l ++ y ∷ []) e ∙ sym (filter_in (λ o. before o one) ys y t),
    f ∙ sym (filter_out (λ o. before one o) ys y (once y one t)),
  )

module _ {X : Type 0} (p q : X → Bool) where
  -- one more of the second kind and not of the first
  pub put_after : (ys before after more : List X) (y : X) → before ≡ filter p ys → after ≡ filter q ys → p y ≡ false → q y ≡ true → more ≡ after ++ y ∷ []
      → (before ≡ filter p (ys ++ y ∷ [])) × (more ≡ filter q (ys ++ y ∷ []))
  put_after ys before after more y e f n t m = (e ∙ sym (filter_out p ys y n), m ∙ ap (λ l. l ++ y ∷ []) f ∙ sym (filter_in q ys y t))

  -- one more of neither kind
  pub put_neither : (ys before after : List X) (y : X) → before ≡ filter p ys → after ≡ filter q ys → p y ≡ false → q y ≡ false
      → (before ≡ filter p (ys ++ y ∷ [])) × (after ≡ filter q (ys ++ y ∷ []))
  put_neither ys before after y e f n m = (e ∙ sym (filter_out p ys y n), f ∙ sym (filter_out q ys y m))
