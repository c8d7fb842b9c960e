-- What a list of clients becomes as one is put in, goes, or changes.
use Rattle.std.specs.Prelude.{◌≡◌, ℕ, suc, ◌==◌, if◌then◌else◌, List, map, find, take, drop, ◌++◌, Some, None, option_map, slice_set}
use Rattle.std.specs.List.{insert}
use Rattle.broker_history.specs.State.{Client, put_client, without_client}
use Rattle.floor_rooms.specs.ClientPlaces.{AreInOrder, StandsAt, BelongsAt}

-- a client that is put where its number stands is exchanged there; where it belongs, it is inserted there
abbrev pub StandingIsExchanged : Type 0
StandingIsExchanged = (clients : List Client) (c : Client) (i : ℕ) → StandsAt clients c.number i → slice_set clients i c ≡ put_client clients c

abbrev pub BelongingIsInserted : Type 0
BelongingIsInserted = (clients : List Client) (c : Client) (i : ℕ) → BelongsAt clients c.number i → insert clients i c ≡ put_client clients c

-- one that stands at a place goes from there
abbrev pub StandingGoes : Type 0
StandingGoes = (clients : List Client) (number i : ℕ) → StandsAt clients number i → take i clients ++ drop (suc i) clients ≡ without_client clients number

-- clients stay in the order of their numbers
abbrev pub PutsKeepOrder : Type 0
PutsKeepOrder = (clients : List Client) (c : Client) → AreInOrder clients → AreInOrder (put_client clients c)

abbrev pub GoingsKeepOrder : Type 0
GoingsKeepOrder = (clients : List Client) (number : ℕ) → AreInOrder clients → AreInOrder (without_client clients number)

-- who is found of a number
abbrev pub PutIsFound : Type 0
PutIsFound = (clients : List Client) (c : Client) (n : ℕ) → find (λ d. d.number == n) (put_client clients c) ≡ (if c.number == n then Some c else find (λ d. d.number == n) clients)

abbrev pub GoneIsNotFound : Type 0
GoneIsNotFound = (clients : List Client) (number n : ℕ) → find (λ d. d.number == n) (without_client clients number) ≡ (if number == n then None else find (λ d. d.number == n) clients)

abbrev pub ChangedIsFound : Type 0
ChangedIsFound = (f : Client → Client) (clients : List Client) (n : ℕ) → ((c : Client) → (f c).number ≡ c.number) → find (λ d. d.number == n) (map f clients) ≡ option_map f (find (λ d. d.number == n) clients)
