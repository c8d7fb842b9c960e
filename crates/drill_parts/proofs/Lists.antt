-- Texts that are put together, and lists that grow at their end.
use Rattle.std.proofs.Common.{◌≡◌, ◌<◌, ◌+◌, ◌-◌, min, arith, ℕ, List, [], ◌∷◌, ◌++◌, ap, subst, sym, ◌∙◌, codes, refl, add-one, take, drop, length, get_or, map, flat_map}
use Rattle.std.specs.List.{AllByRecursion}
use Rattle.std.proofs.lemmas.List.{append_assoc, append-nil, take_more, map-append, take_all, take_min, length-drop}
use Rattle.std.proofs.lemmas.List.Concat.{flat_map-append}
use Rattle.drill_parts.proofs.Talking.{all_push}
use Rattle.drill_parts.specs.Callers.{fin_piece, fin_pieces}
use Rattle.drill_parts.specs.declared.draws.Publish.{Publish}

-- the line of a FIN, from its parts
pub fin_line : (old first second out id : List ℕ) → first ≡ old ++ codes "FIN " → second ≡ first ++ id → out ≡ second ++ 10 ∷ [] → out ≡ old ++ (codes "FIN " ++ id ++ 10 ∷ [])
fin_line old first second out id a b c = c ∙ rw (b, a) (ap (λ t. t ++ 10 ∷ []) (append_assoc old (codes "FIN ") id) ∙ append_assoc old (codes "FIN " ++ id) (10 ∷ []))

-- what a loop has put together, and what the next item adds
pub flat_next : {X : Type 0} (f : X → List ℕ) (xs : List X) (i : ℕ) (d : X) (old new : List ℕ) → i < length xs → old ≡ flat_map f (take i xs) → new ≡ old ++ f (get_or xs i d)
    → new ≡ flat_map f (take (i + 1) xs)
flat_next f xs i d old new l o n = n ∙ rw (o, take_more xs i d l, flat_map-append f (take i xs) (get_or xs i d ∷ []), append-nil (f (get_or xs i d))) refl

-- what a loop has pushed behind a first item
pub map_next : {X Y Z : Type 0} (g : Y → Z) (f : X → Y) (first : Z) (xs : List X) (i : ℕ) (d : X) (v : Y) (old new : List Z) → i < length xs → v ≡ f (get_or xs i d)
    → old ≡ first ∷ map g (map f (take i xs)) → new ≡ old ++ g v ∷ [] → new ≡ first ∷ map g (map f (take (i + 1) xs))
map_next g f first xs i d v old new l e o n = n ∙ rw (e, o, take_more xs i d l, map-append f (take i xs) (get_or xs i d ∷ []), map-append g (map f (take i xs)) (f (get_or xs i d) ∷ [])) refl

-- the next piece of FINs
pub pieces_next : {Z : Type 0} (g : List ℕ → Z) (first : Z) (ps : List Publish) (k : ℕ) (v : List ℕ) (old new : List Z) → v ≡ fin_piece ps k → old ≡ first ∷ map g (fin_pieces ps k)
    → new ≡ old ++ g v ∷ [] → new ≡ first ∷ map g (fin_pieces ps (k + 1))
pieces_next g first ps k v old new e o n = n ∙ rw (e, o, add-one, map-append g (fin_pieces ps k) (fin_piece ps k ∷ [])) refl

-- the front of what is left behind a place
pub front_of_rest : {X : Type 0} (xs : List X) (a n m : ℕ) → m ≡ min n (length (take (length xs - a) (drop a xs))) → take m (take (length xs - a) (drop a xs)) ≡ take n (drop a xs)
front_of_rest xs a n m e =
    let all : take (length xs - a) (drop a xs) ≡ drop a xs = take_all (length xs - a) (drop a xs) (omega (arith, length-drop a xs)) in
    ap (λ k. take k (take (length xs - a) (drop a xs))) e ∙ take_min n (take (length xs - a) (drop a xs)) ∙ ap (take n) all

-- what holds of the first items holds of one more
pub all_next : {X : Type 0} (P : X → Type 0) (xs : List X) (i : ℕ) (d x : X) → x ≡ get_or xs i d → i < length xs → P x → AllByRecursion P (take i xs) → AllByRecursion P (take (i + 1) xs)
all_next P xs i d x is l here all = subst (λ ys. AllByRecursion P ys) (sym (take_more xs i d l)) (all_push P (take i xs) (get_or xs i d) all (subst P is here))
