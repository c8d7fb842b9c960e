-- Which topic has something to take or to pay.
use Rattle.std.specs.Prelude.{◌≡◌, ℕ, false, List, [], ◌∷◌, Option, Some, None, IfSome, slice_get}
use Rattle.nsq_outside.specs.Files.{Files}
use Rattle.path_image.specs.Found.{Pairwise}
use Rattle.broker_history.specs.State.{State}
use Rattle.floor_rooms.specs.declared.room.Room.{Room}
use Rattle.floor_rooms.specs.declared.hall.Hall.{Hall}
use Rattle.floor_rooms.specs.Rooms.{room_in}
use Rattle.floor_rooms.specs.Sound.{IsSound, rests}
use Rattle.floor_rooms.specs.Standing.{HoldsFor}

-- the first of a list of names, where it has any
pub record BeginsWith (names : List (List ℕ)) (name : List ℕ) : Type 0 where
  pub more : List (List ℕ)
  pub is : names ≡ name ∷ more

abbrev pub IsFirstOf : List (List ℕ) → Option (List ℕ) → Type 0
IsFirstOf names None = names ≡ []
IsFirstOf names (Some name) = BeginsWith names name

-- the topic at a place has something to take or to pay
pub record IsBusyAt (rooms : List Room) (i : ℕ) : Type 0 where
  pub room : Room
  pub there : slice_get rooms i ≡ Some room
  pub busy : rests room ≡ false

-- the topic that was found; where there is none, none is listed any more
abbrev pub PendingFound : Hall → Option ℕ → Type 0
PendingFound h None = h.pending.items ≡ []
PendingFound h (Some i) = IsBusyAt h.rooms.items i

-- the topic of this name, where there is one, isn't listed
abbrev pub IsUnlisted : Hall → (name : List ℕ) → Type 0
IsUnlisted h name = IfSome (room_in h.rooms.items name) (λ r. r.listed ≡ false)

-- nothing of a topic but whether it is listed changed
abbrev pub IsRelisted : Room → Room → Type 0
IsRelisted a b = b ≡ record a { listed = b.listed }

-- nothing but which topics are listed changed
pub record Unlists (h h' : Hall) : Type 0 where
  pub sound : IsSound h'
  pub rest : h' ≡ record h { rooms = h'.rooms; pending = h'.pending }
  pub rooms : Pairwise IsRelisted h.rooms.items h'.rooms.items
  pub stands : (files : Files) (s : State) → HoldsFor h files s → HoldsFor h' files s
