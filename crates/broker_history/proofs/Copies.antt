-- Lists that are copied item by item into room that is there.
use Rattle.std.proofs.Common.{◌≡◌, ℕ, ◌+◌, ◌<◌, List, [], ◌∷◌, ◌++◌, length, take, get_or, sym, ap, ◌∙◌}
use Rattle.std.proofs.lemmas.List.{take_more}

-- one item more is copied
pub next_copied : {X : Type 0} (xs : List X) (i : ℕ) (d x copy : X) (old new : List X) → i < length xs → x ≡ get_or xs i d → old ≡ take i xs → copy ≡ x → new ≡ old ++ copy ∷ [] → new ≡ take (i + 1) xs
next_copied xs i d x copy old new within is so_far same pushed =
    pushed ∙ ap (λ ys. ys ++ copy ∷ []) so_far ∙ ap (λ y. take i xs ++ y ∷ []) (same ∙ is) ∙ sym (take_more xs i d within)
