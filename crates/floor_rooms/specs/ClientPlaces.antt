-- Places in lists of clients that are in the order of their numbers.
use Rattle.std.specs.Prelude.{◌≡◌, ◌<◌, ◌≤◌, ℕ, suc, ◌==◌, nat_lt, List, length, take, drop, filter, find, AllPairs, Some, None, slice_index_or, Result, MatchResult}
use Rattle.broker_history.specs.State.{Client}

-- each client's number is below those of all later ones
abbrev pub AreInOrder : List Client → Type 0
AreInOrder clients = AllPairs (λ c d. c.number < d.number) clients

-- the client of this number stands at a place, between those of lesser numbers and those of greater ones
pub record StandsAt (clients : List Client) (number : ℕ) (i : ℕ) : Type 0 where
  pub in_range : i < length clients
  pub is : (d : Client) → (slice_index_or clients i d).number ≡ number
  pub before : filter (λ d. nat_lt d.number number) clients ≡ take i clients
  pub after : filter (λ d. nat_lt number d.number) clients ≡ drop (suc i) clients
  pub found : (d : Client) → find (λ c. c.number == number) clients ≡ Some (slice_index_or clients i d)

-- no client has this number, and a place parts those of lesser numbers from those of greater ones
pub record BelongsAt (clients : List Client) (number : ℕ) (i : ℕ) : Type 0 where
  pub in_range : i ≤ length clients
  pub before : filter (λ d. nat_lt d.number number) clients ≡ take i clients
  pub after : filter (λ d. nat_lt number d.number) clients ≡ drop i clients
  pub found : find (λ c. c.number == number) clients ≡ None

-- where the number stands, or where it belongs
abbrev pub IsPlaceOf : List Client → ℕ → Result ℕ ℕ → Type 0
IsPlaceOf clients number place = MatchResult place (StandsAt clients number) (BelongsAt clients number)
