-- Places in lists that are in byte order of their keys.
use Rattle.std.specs.Prelude.{◌≡◌, ℕ, suc, ◌<◌, ◌≤◌, false, List, length, filter, take, drop, All, slice_index_or, MatchResult, Result}
use Rattle.std.specs.Str.{bytes_eq}
use Rattle.nsq_base.specs.Names.{is_before}

-- the item with this key stands at a place: putting another of this key there is to replace it
pub record StandsAt {X : Type 0} (key : X → List ℕ) (xs : List X) (k : List ℕ) (i : ℕ) : Type 0 where
  pub in_range : i < length xs
  pub is_key : (d : X) → key (slice_index_or xs i d) ≡ k
  pub before : filter (λ y. is_before (key y) k) xs ≡ take i xs
  pub after : filter (λ y. is_before k (key y)) xs ≡ drop (suc i) xs

-- no item has this key, and a place parts those before it from those after it
pub record BelongsAt {X : Type 0} (key : X → List ℕ) (xs : List X) (k : List ℕ) (i : ℕ) : Type 0 where
  pub in_range : i ≤ length xs
  pub before : filter (λ y. is_before (key y) k) xs ≡ take i xs
  pub after : filter (λ y. is_before k (key y)) xs ≡ drop i xs
  pub absent : All (λ y. bytes_eq k (key y) ≡ false) xs

-- where the key stands, or where it belongs
abbrev pub IsPlaceOf : {X : Type 0} → (X → List ℕ) → List X → List ℕ → Result ℕ ℕ → Type 0
IsPlaceOf key xs k r = MatchResult r (StandsAt key xs k) (BelongsAt key xs k)
