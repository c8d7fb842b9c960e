-- What is seen of a floor, and the states that it stands for.
use Rattle.std.specs.Prelude.{◌≡◌, ℕ, ◌+◌, ◌&&◌, Bool, true, not, is_some}
use Rattle.nsq_outside.specs.Files.{Files}
use Rattle.broker_history.specs.State.{State, has_begun}
use Rattle.broker_history.specs.Entries.{History, has_stop, own}
use Rattle.broker_history.specs.Moments.{moment_of}
use Rattle.broker_history.specs.Calls.{has_began, is_over}
use Rattle.floor_rooms.specs.declared.hall.Hall.{Hall}
use Rattle.floor_rooms.specs.Rooms.{client_in}
use Rattle.floor_rooms.specs.Standing.{HoldsFor}

-- a floor as it is seen: what it holds, its history, its files, how often its folder failed, and the readings to come of its clock
pub record Scene : Type 0 where
  pub hall : Hall
  pub notes : History
  pub files : Files
  pub faults : ℕ
  pub coming : ℕ → ℕ

abbrev pub scene : Hall → History → Files → (faults : ℕ) → (coming : ℕ → ℕ) → Scene
scene hall notes files faults coming = record { hall = hall; notes = notes; files = files; faults = faults; coming = coming }

-- the floor stands for the state: its hall does in its files, and a connection began in the one where it did in the other
pub record Stands (seen : Scene) (s : State) : Type 0 where
  pub holds : HoldsFor seen.hall seen.files s
  pub began : (n : ℕ) → has_begun s n ≡ has_began (own n seen.notes)

-- whether the connection of these entries began and isn't gone
abbrev pub is_here : History → Bool
is_here own = has_began own && not (is_over own)

-- a hall's clients and its Stop are those of its history
pub record IsTied (h : Hall) (notes : History) : Type 0 where
  pub clients : (n : ℕ) → is_some (client_in h.clients.items n) ≡ is_here (own n notes)
  pub begun : (n : ℕ) → is_over (own n notes) ≡ true → has_began (own n notes) ≡ true
  pub stopped : h.stopped ≡ has_stop notes

-- the readings that the clock gave up to here were so many, counted from a first one, and the floor's moment is the greatest of them
pub record IsAt (coming : ℕ → ℕ) (readings : ℕ) (seen : Scene) : Type 0 where
  pub ahead : (k : ℕ) → seen.coming k ≡ coming (readings + k)
  pub moment : seen.hall.moment ≡ moment_of coming readings
