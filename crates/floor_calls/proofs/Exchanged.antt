-- An item that is exchanged for another at its place, also where it was just put in there.
use Rattle.std.proofs.Common.{◌≡◌, ◌≤◌, ◌<◌, ℕ, suc, zero, set, List, [], ◌∷◌, length, Some, refl, sym, ap, subst, ◌∙◌, arith}
use Rattle.std.specs.List.{insert, slice_get}
use Rattle.std.proofs.lemmas.List.{get_or-set_same, length-set, set-get_or, set-set}
use Rattle.std.proofs.lemmas.Option.{get_or_from_slice_get, slice_get_within, slice_get-get_or}
use Rattle.nsq_base.specs.Names.{put_by}
use Rattle.nsq_base.specs.Places.{BelongsAt}
use Rattle.nsq_base.proofs.PutBy.{put_by-belongs}
use Rattle.floor_rooms.proofs.Placing.{inserted_at}

-- the other one stands there then
pub set_there : {X : Type 0} (xs : List X) (i : ℕ) (x y : X) → slice_get xs i ≡ Some x → slice_get (set xs i y) i ≡ Some y
set_there xs i x y at =
    let l : i < length xs = slice_get_within xs i x at in
    slice_get-get_or (set xs i y) i y (omega (arith, length-set xs i y, l)) ∙ ap Some (get_or-set_same xs i y y l)

-- the same in its own place changes nothing, and put back neither
pub set_itself : {X : Type 0} (xs : List X) (i : ℕ) (x : X) → slice_get xs i ≡ Some x → set xs i x ≡ xs
set_itself xs i x at = ap (set xs i) (sym (get_or_from_slice_get xs i x x at)) ∙ set-get_or xs i x

pub set_back : {X : Type 0} (xs : List X) (i : ℕ) (x y : X) → slice_get xs i ≡ Some x → set (set xs i y) i x ≡ xs
set_back xs i x y at = set-set xs i y x ∙ set_itself xs i x at

-- in the place of one that was put in it is put in in its stead
set_inserted : {X : Type 0} (xs : List X) (i : ℕ) (x y : X) → i ≤ length xs → set (insert xs i x) i y ≡ insert xs i y
set_inserted xs zero x y l = refl
set_inserted [] (suc i) x y l = absurd (let no : ⊥ = omega (arith, l) in no)
set_inserted (z ∷ xs) (suc i) x y l = ap (λ zs. z ∷ zs) (set_inserted xs i x y (omega (arith, l)))

module _ {X : Type 0} (key : X → List ℕ) where
  pub put_there : (xs : List X) (i : ℕ) (x : X) → BelongsAt key xs (key x) i → slice_get (put_by key xs x) i ≡ Some x
  put_there xs i x place = ap (λ zs. slice_get zs i) (put_by-belongs key xs x i place) ∙ inserted_at xs i x place.in_range

  pub set_put : (xs : List X) (i : ℕ) (x y : X) → BelongsAt key xs (key x) i → key y ≡ key x → set (put_by key xs x) i y ≡ put_by key xs y
  set_put xs i x y place same =
      ap (λ zs. set zs i y) (put_by-belongs key xs x i place) ∙ set_inserted xs i x y place.in_range ∙ sym (put_by-belongs key xs y i (subst (λ n. BelongsAt key xs n i) (sym same) place))
