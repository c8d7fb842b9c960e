-- What turns of a number lead to.
use Rattle.std.specs.Prelude.{◌≡◌, ◌⊎◌, ◌≤◌, ℕ, ◌+◌, Bool, true, false, IsTrue, List, ◌++◌, Option, Some, IfSome}
use Rattle.broker_history.specs.State.{State}
use Rattle.broker_history.specs.Entries.{History, faults_apart, faults_of}
use Rattle.broker_history.specs.Legal.{Legal}
use Rattle.broker_history.specs.Moments.{IsTimed}
use Rattle.floor_rooms.specs.declared.hall.Hall.{Hall}
use Rattle.floor_rooms.specs.declared.room.Room.{Room}
use Rattle.floor_rooms.specs.Rooms.{room_in, stall_at}
use Rattle.floor_rooms.specs.Changes.{OnlyQueueFiles, room_since, stall_since}
use Rattle.floor_rooms.specs.Kept.{NamesTold}
use Rattle.floor_laws.specs.Laid.{AreTurns}
use Rattle.floor_laws.specs.Laws.{RoseBy}
use Rattle.floor_turns.specs.Scenes.{IsAt, Scene, Stands}

-- from a state that the floor stood for, turns led to another one: the entries that they noted are legal, and no more of them ended with a disk fault than
-- the folder's count rose; where such a fault kept the Stop's turn from paying all, it rose by more than those that don't stand just before the Stop
pub record LedTo (old new : Scene) (s : State) : Type 0 where
  pub added : History
  pub whole : new.notes ≡ old.notes ++ added
  pub to : State
  pub legal : Legal s added to
  pub stands : Stands new to
  pub counted : RoseBy (faults_of added) old.faults new.faults
  pub apart : old.hall.stuck ≡ false → new.hall.stuck ≡ true → RoseBy (faults_apart added + 1) old.faults new.faults

-- what they noted is laid out in turns of the number
pub record AddsTurns (number : ℕ) (old new : Scene) : Type 0 where
  pub added : History
  pub whole : new.notes ≡ old.notes ++ added
  pub turns : AreTurns number added

-- turns made further readings, and the entries that they noted have their moments from these
pub record Times (coming : ℕ → ℕ) (readings : ℕ) (old new : Scene) : Type 0 where
  pub added : History
  pub whole : new.notes ≡ old.notes ++ added
  pub later : ℕ
  pub timed : IsTimed coming readings added later
  pub now : IsAt coming later new

-- what turns leave of a hall
pub record LeavesHall (old new : Hall) : Type 0 where
  pub options : new.options ≡ old.options
  pub epoch : new.epoch ≡ old.epoch
  pub began_at : new.began_at ≡ old.began_at
  pub later : old.moment ≤ new.moment
  pub names : NamesTold old new

-- a queue is marked as unsaved since the moment since which it was, or since one from this moment on
abbrev pub IsMarkLater : (at : ℕ) → (old since : Option ℕ) → Type 0
IsMarkLater at old since = IfSome since (λ moment. (old ≡ Some moment) ⊎ (at ≤ moment))

pub record MarksStand (at : ℕ) (old new : List Room) : Type 0 where
  pub topics : (topic : List ℕ) → IfSome (room_in new topic) (λ r. IsMarkLater at (room_since old topic) r.since)
  pub channels : (topic channel : List ℕ) → IfSome (stall_at new topic channel) (λ s. IsMarkLater at (stall_since old topic channel) s.since)

-- what turns of a number may lead to, where the journal tells, the folder tells and the clock tells
pub record Leads (tells_notes tells_files tells_readings : Bool) (number : ℕ) (old new : Scene) : Type 0 where
  pub hall : LeavesHall old.hall new.hall
  pub marks : MarksStand old.hall.moment old.hall.rooms.items new.hall.rooms.items
  pub faults : old.faults ≤ new.faults
  pub files : IsTrue tells_files → OnlyQueueFiles old.files new.files
  pub turns : IsTrue tells_notes → AddsTurns number old new
  pub legal : IsTrue tells_notes → IsTrue tells_files → (s : State) → Stands old s → LedTo old new s
  pub times : IsTrue tells_notes → IsTrue tells_readings → (coming : ℕ → ℕ) (readings : ℕ) → IsAt coming readings old → Times coming readings old new

-- no turn leads where one is, and turns and then turns lead where all lead
abbrev pub LeadsStay : Type 0
LeadsStay = (tells_notes tells_files tells_readings : Bool) (number : ℕ) (a : Scene) → Leads tells_notes tells_files tells_readings number a a

abbrev pub LeadsFollow : Type 0
LeadsFollow = (tells_notes tells_files tells_readings : Bool) (number : ℕ) (a b c : Scene) → Leads tells_notes tells_files tells_readings number a b → Leads tells_notes tells_files tells_readings number b c
    → Leads tells_notes tells_files tells_readings number a c
