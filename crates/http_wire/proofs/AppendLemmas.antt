-- Lemmas on bytes behind others.
use Rattle.std.proofs.Common.{◌≡◌, ℕ, ◌+◌, ◌<◌, ◌≤◌, List, [], ◌++◌, flat_map, length, take, take_all, get_or, append-nil, refl, sym, ap, ◌∙◌}
use Rattle.std.proofs.lemmas.List.{take_at, take_more, flat_map_more}

-- what was there is the front
pub front_stays : (old more new : List ℕ) → new ≡ old ++ more → take (length old) new ≡ old
front_stays old more new is = ap (take (length old)) is ∙ take_at old more (length old) refl

-- none is there yet
pub no_part : (old : List ℕ) → old ≡ old ++ []
no_part old = sym (append-nil old)

-- one part more joins those so far
pub one_part : {X : Type 0} (f : X → List ℕ) (old now next : List ℕ) (parts : List X) (i : ℕ) (d : X) → i < length parts → now ≡ old ++ flat_map f (take i parts) → next ≡ now ++ f (get_or parts i d)
    → next ≡ old ++ flat_map f (take (i + 1) parts)
one_part f old now next parts i d within so more =
    more ∙ ap (λ (x : List ℕ). x ++ f (get_or parts i d)) so ∙ flat_map_more f old (take i parts) (get_or parts i d) ∙ ap (λ xs. old ++ flat_map f xs) (sym (take_more parts i d within))

-- all are there
pub all_parts : {X : Type 0} (f : X → List ℕ) (old now : List ℕ) (parts : List X) (i : ℕ) → length parts ≤ i → now ≡ old ++ flat_map f (take i parts) → now ≡ old ++ flat_map f parts
all_parts f old now parts i over so = so ∙ ap (λ xs. old ++ flat_map f xs) (take_all i parts over)
