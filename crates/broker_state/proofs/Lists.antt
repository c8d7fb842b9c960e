-- A loop that looks for the first element of a kind.
use Rattle.std.proofs.Common.{◌≡◌, ℕ, suc, ◌+◌, ◌<◌, Bool, true, false, List, [], ◌∷◌, ◌++◌, length, take, drop, get_or, Some, None, refl, sym, ap, ◌∙◌, add-one}
use Rattle.std.specs.List.{find}
use Rattle.std.proofs.Math.Seq.{take-suc}
use Rattle.std.proofs.lemmas.List.{take-append-drop}
use Rattle.std.proofs.lemmas.List.Folds.{find-append}
use Rattle.std.specs.List.{filter}
use Rattle.broker_state.proofs.Order.{filter_in, filter_out}

-- the elements up to a place, and the one there
pub take_next : {X : Type 0} (xs : List X) (i : ℕ) (d : X) → i < length xs → take (i + 1) xs ≡ take i xs ++ get_or xs i d ∷ []
take_next xs i d l = rw add-one (take-suc xs i d l)

-- a list is what stands before a place, the element there, and what stands behind it
pub parts_at : {X : Type 0} (xs : List X) (i : ℕ) (d : X) → i < length xs → xs ≡ (take i xs ++ get_or xs i d ∷ []) ++ drop (suc i) xs
parts_at xs i d l = rw (← take-suc xs i d l) (sym (take-append-drop (suc i) xs))

-- none is found up to a place, nor there
pub find_miss : {X : Type 0} (p : X → Bool) (xs : List X) (i : ℕ) (d x : X) → i < length xs → find p (take i xs) ≡ None → x ≡ get_or xs i d → p x ≡ false → find p (take (i + 1) xs) ≡ None
find_miss p xs i d x l e s f = rw (take_next xs i d l, find-append p (take i xs) (get_or xs i d ∷ []), e, ← s, f) refl

-- none is found up to a place, but one is there
pub find_hit : {X : Type 0} (p : X → Bool) (xs : List X) (i : ℕ) (d x : X) → i < length xs → find p (take i xs) ≡ None → x ≡ get_or xs i d → p x ≡ true → find p xs ≡ Some x
find_hit p xs i d x l e s f =
    ap (find p) (parts_at xs i d l)
    ∙ rw (find-append p (take i xs ++ get_or xs i d ∷ []) (drop (suc i) xs), find-append p (take i xs) (get_or xs i d ∷ []), e, ← s, f) refl

-- a copy of the next element joins the copies of those before it
pub copied_more : {X : Type 0} (xs : List X) (i : ℕ) (d item copy : X) (old new : List X) → i < length xs → item ≡ get_or xs i d → old ≡ take i xs → copy ≡ item → new ≡ old ++ copy ∷ [] → new ≡ take (i + 1) xs
copied_more xs i d item copy old new l is e f m = m ∙ ap (λ ys. ys ++ copy ∷ []) e ∙ ap (λ y. take i xs ++ y ∷ []) (f ∙ is) ∙ sym (take_next xs i d l)

-- a copy of one more is kept, or it is passed over
pub keeps : {X : Type 0} (p : X → Bool) (xs : List X) (i : ℕ) (d x copy : X) (old new : List X) → i < length xs → old ≡ filter p (take i xs) → x ≡ get_or xs i d → p x ≡ true → copy ≡ x → new ≡ old ++ copy ∷ []
    → new ≡ filter p (take (i + 1) xs)
keeps p xs i d x copy old new l e s t f m =
    m ∙ ap (λ ys. ys ++ copy ∷ []) e ∙ ap (λ y. filter p (take i xs) ++ y ∷ []) (f ∙ s) ∙ sym (filter_in p (take i xs) (get_or xs i d) (ap p (sym s) ∙ t)) ∙ ap (filter p) (sym (take_next xs i d l))

pub leaves : {X : Type 0} (p : X → Bool) (xs : List X) (i : ℕ) (d x : X) (old : List X) → i < length xs → old ≡ filter p (take i xs) → x ≡ get_or xs i d → p x ≡ false → old ≡ filter p (take (i + 1) xs)
leaves p xs i d x old l e s f = e ∙ sym (filter_out p (take i xs) (get_or xs i d) (ap p (sym s) ∙ f)) ∙ ap (filter p) (sym (take_next xs i d l))
