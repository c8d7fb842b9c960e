-- Where a copy is due.
use Rattle.std.specs.Prelude.{◌≡◌, ◌<◌, ℕ, min, Bool, false, nat_le, List, Option, Some, None, IsSome, Result, Ok, Err, All, slice_get}
use Rattle.std.specs.List.{AllWithin}
use Rattle.channel_core.specs.Moves.{due_in}
use Rattle.floor_rooms.specs.declared.stall.Stall.{Stall}
use Rattle.floor_rooms.specs.declared.room.Room.{Room}
use Rattle.floor_rooms.specs.Sound.{IsQuietUntil}
use Rattle.floor_moves.specs.declared.due.Place.{Place}

-- whether a moment has come
abbrev pub has_come : Option ℕ → (now : ℕ) → Bool
has_come None now = false
has_come (Some due) now = nat_le due now

-- the sooner of a moment and another one, where there is one
abbrev pub sooner : ℕ → Option ℕ → ℕ
sooner soonest None = soonest
sooner soonest (Some due) = min soonest due

-- a channel stands at a place of a topic, and this holds of it
pub record HasStall (j : ℕ) (P : Stall → Type 0) (stalls : List Stall) : Type 0 where
  pub stall : Stall
  pub there : slice_get stalls j ≡ Some stall
  pub is : P stall

-- and so in the topic at a place of the hall
pub record HasStallAt (i j : ℕ) (P : Stall → Type 0) (rooms : List Room) : Type 0 where
  pub room : Room
  pub there : slice_get rooms i ≡ Some room
  pub has : HasStall j P room.stalls.items

-- a copy of the channel is due
abbrev pub IsDueNow : (now : ℕ) → Stall → Type 0
IsDueNow now s = IsSome (due_in now s.channel)

-- no copy of these channels is due before a moment
abbrev pub AreQuiet : (quiet : ℕ) → List Stall → Type 0
AreQuiet quiet stalls = All (λ s. IsQuietUntil quiet s.channel) stalls

-- none of these topics' channels from a place up to another
abbrev pub RoomsAreQuiet : (quiet : ℕ) → List Room → (low high : ℕ) → Type 0
RoomsAreQuiet quiet rooms low high = AllWithin (λ r. AreQuiet quiet r.stalls.items) rooms low high

-- what a look through channels gives: one of which a copy is due, or a later moment before which none of any is
abbrev pub StallsSearched : (now : ℕ) → List Stall → Result ℕ ℕ → Type 0
StallsSearched now stalls (Ok j) = HasStall j (IsDueNow now) stalls
StallsSearched now stalls (Err soonest) = (now < soonest) × AreQuiet soonest stalls

abbrev pub RoomsSearched : (now : ℕ) → List Room → (low high : ℕ) → Result Place ℕ → Type 0
RoomsSearched now rooms low high (Ok place) = HasStallAt place.room place.stall (IsDueNow now) rooms
RoomsSearched now rooms low high (Err soonest) = (now < soonest) × RoomsAreQuiet soonest rooms low high

-- what is found in a whole hall
abbrev pub DueFound : (now quiet : ℕ) → List Room → Option Place → Type 0
DueFound now quiet rooms (Some place) = HasStallAt place.room place.stall (IsDueNow now) rooms
DueFound now quiet rooms None = now < quiet
