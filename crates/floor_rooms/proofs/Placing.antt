-- What stands at a place of a list that is in byte order of its items' names.
use Rattle.std.proofs.Common.{arith, ◌≡◌, ◌≤◌, ℕ, set, ◌<◌, Bool, true, false, if◌then◌else◌, List, [], ◌∷◌, length, get_or, Some, None, Ok, refl, sym, ap, subst, ◌∙◌, Ordering, Less, Equal, Greater}
use Rattle.std.specs.List.{All, find, insert, slice_get}
use Rattle.std.specs.Ordering.{is_eq}
use Rattle.std.specs.Str.{bytes_eq}
use Rattle.std.specs.Cmp.Lexicographic.{texts_ties}
use Rattle.std.proofs.lemmas.Bool.{false≢true}
use Rattle.std.proofs.lemmas.List.{set-get_or}
use Rattle.std.proofs.lemmas.List.Edits.{get_or-insert_at, length-insert}
use Rattle.std.proofs.lemmas.List.Elements.{All-head, All-tail}
use Rattle.std.proofs.lemmas.Option.{get_or_from_slice_get, slice_get_within, slice_get-get_or}
use Rattle.nsq_base.specs.Names.{byte_order, IsAscendingBy, put_by}
use Rattle.nsq_base.specs.Places.{StandsAt, BelongsAt}
use Rattle.nsq_base.proofs.PutBy.{place_found, put_by-stands}
use Rattle.broker_history.proofs.Lists.{find_put, same_bytes}
use Rattle.floor_rooms.specs.Places.{IsThere}

-- a name ties with itself
equal_from_tie : (o : Ordering) → is_eq o ≡ true → o ≡ Equal
equal_from_tie Less e = absurd (false≢true e)
equal_from_tie Equal e = refl
equal_from_tie Greater e = absurd (false≢true e)

itself : (name : List ℕ) → byte_order name name ≡ Equal
itself name = equal_from_tie (byte_order name name) (sym (texts_ties name name) ∙ same_bytes name)

none_found : {X : Type 0} (p : X → Bool) (xs : List X) → All (λ x. p x ≡ false) xs → find p xs ≡ None
none_found p [] h = refl
none_found p (x ∷ xs) h = rw (All-head (λ y. p y ≡ false) x xs h) (none_found p xs (All-tail (λ y. p y ≡ false) x xs h))

-- an item as it was read at a place stands there
pub at_place : {X : Type 0} (xs : List X) (i : ℕ) (x : X) → i < length xs → x ≡ get_or xs i x → slice_get xs i ≡ Some x
at_place xs i x l e = slice_get-get_or xs i x l ∙ ap Some (sym e)

-- an item that is put where it stands changes nothing
set_itself : {X : Type 0} (xs : List X) (i : ℕ) (x : X) → get_or xs i x ≡ x → set xs i x ≡ xs
set_itself xs i x e = ap (set xs i) (sym e) ∙ set-get_or xs i x

module _ {X : Type 0} (key : X → List ℕ) where
  pub put_itself : (xs : List X) (i : ℕ) (d : X) → StandsAt key xs (key (get_or xs i d)) i → put_by key xs (get_or xs i d) ≡ xs
  put_itself xs i d h = put_by-stands key xs (get_or xs i d) i h ∙ set-get_or xs i d

  -- the item of a name is found where it stands
  pub found_standing : (xs : List X) (k : List ℕ) (i : ℕ) (d : X) → StandsAt key xs k i → find (λ x. bytes_eq k (key x)) xs ≡ Some (get_or xs i d)
  found_standing xs k i d h =
      let x : X = get_or xs i d in
      let same : key x ≡ k = h.is_key d in
      let whole : put_by key xs x ≡ xs = put_itself xs i d (subst (λ n. StandsAt key xs n i) (sym same) h) in
      let here : bytes_eq k (key x) ≡ true = ap (bytes_eq k) same ∙ same_bytes k in
      ap (find (λ y. bytes_eq k (key y))) (sym whole) ∙ find_put key xs x k ∙ ap (λ b. if b then Some x else find (λ y. bytes_eq k (key y)) xs) here

  pub there_standing : (xs : List X) (k : List ℕ) (i : ℕ) → StandsAt key xs k i → IsThere key xs k i
  there_standing xs k i h = record { stands = h; found = λ d. found_standing xs k i d h }

  -- none is found of a name that only belongs
  pub none_belonging : (xs : List X) (k : List ℕ) (i : ℕ) → BelongsAt key xs k i → find (λ x. bytes_eq k (key x)) xs ≡ None
  none_belonging xs k i h = none_found (λ x. bytes_eq k (key x)) xs h.absent

  -- an item of an ascending list stands at its place by its name
  pub standing_at : (xs : List X) (i : ℕ) (x : X) → IsAscendingBy key xs → slice_get xs i ≡ Some x → StandsAt key xs (key x) i
  standing_at xs i x up at =
      place_found key xs (key x) (Ok i) up (slice_get_within xs i x at) (λ d. ap (λ y. byte_order (key y) (key x)) (get_or_from_slice_get xs i x d at) ∙ itself (key x))

  pub found_at : (xs : List X) (i : ℕ) (x : X) → IsAscendingBy key xs → slice_get xs i ≡ Some x → find (λ y. bytes_eq (key x) (key y)) xs ≡ Some x
  found_at xs i x up at = found_standing xs (key x) i x (standing_at xs i x up at) ∙ ap Some (get_or_from_slice_get xs i x x at)

  -- another of its name is put in its place
  pub put_at : (xs : List X) (i : ℕ) (x y : X) → IsAscendingBy key xs → slice_get xs i ≡ Some x → key y ≡ key x → set xs i y ≡ put_by key xs y
  put_at xs i x y up at same = sym (put_by-stands key xs y i (subst (λ n. StandsAt key xs n i) (sym same) (standing_at xs i x up at)))

-- what is inserted at a place stands there
pub inserted_at : {X : Type 0} (xs : List X) (i : ℕ) (x : X) → i ≤ length xs → slice_get (insert xs i x) i ≡ Some x
inserted_at xs i x l = slice_get-get_or (insert xs i x) i x (omega (arith, length-insert xs i x l, l)) ∙ ap Some (get_or-insert_at xs i x x l)
