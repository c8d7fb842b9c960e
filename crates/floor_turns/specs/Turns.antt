-- What one turn of a floor does: it reads the clock once, and takes its turn at that moment.
use Rattle.std.specs.Prelude.{◌≡◌, ◌≤◌, ℕ, ◌+◌, ◌^◌, min, max, Bool, IsTrue}
use Rattle.nsq_outside.specs.Files.{Files}
use Rattle.broker_history.specs.State.{State}
use Rattle.broker_history.specs.Entries.{own}
use Rattle.broker_history.specs.declared.call.Call.{Call}
use Rattle.broker_history.specs.declared.turned.Turned.{Turned}
use Rattle.broker_history.specs.Calls.{MayCall}
use Rattle.floor_rooms.specs.declared.hall.Hall.{Hall}
use Rattle.floor_rooms.specs.Changes.{OnlyQueueFiles}
use Rattle.floor_rooms.specs.Standing.{HoldsFor}
use Rattle.floor_moves.specs.Moves.{Sight, sight}
use Rattle.floor_turns.specs.Turning.{TakesTurn}
use Rattle.floor_turns.specs.Scenes.{IsTied, Scene}
use Rattle.floor_turns.specs.Leads.{Leads}

-- the clock was read once, and the moment is its reading where that is later, and no later than the greatest one
pub record ReadsOnce (tells_readings : Bool) (old new : Scene) : Type 0 where
  pub later : old.hall.moment ≤ new.hall.moment
  pub bounded : new.hall.moment ≤ 2 ^ 62
  pub moment : IsTrue tells_readings → new.hall.moment ≡ max old.hall.moment (min (old.coming 0) (2 ^ 62))
  pub coming : IsTrue tells_readings → (k : ℕ) → new.coming k ≡ old.coming (k + 1)

-- the hall at another moment
abbrev pub hall_at : Hall → (at : ℕ) → Hall
hall_at h at = record h { moment = at }

-- what is seen of a floor whose clock was read, and of one
abbrev pub seen_at : Scene → (at : ℕ) → Sight
seen_at a at = sight (hall_at a.hall at) a.notes a.files a.faults

abbrev pub seen : Scene → Sight
seen a = sight a.hall a.notes a.files a.faults

-- one turn of a number, for its call, and its answer
pub record IsTurn (tells_notes tells_files tells_readings : Bool) (number : ℕ) (c : Call) (answer : Turned) (old new : Scene) : Type 0 where
  pub reads : ReadsOnce tells_readings old new
  pub waits : (files : Files) (s : State) → HoldsFor old.hall files s → HoldsFor (hall_at old.hall new.hall.moment) files s
  pub takes : TakesTurn tells_notes tells_files number c answer (seen_at old new.hall.moment) (seen new)
  pub files : IsTrue tells_files → OnlyQueueFiles old.files new.files

-- one turn leads where turns of its number lead
abbrev pub TurnLeads : Type 0
TurnLeads = (tells_notes tells_files tells_readings : Bool) (number : ℕ) (c : Call) (answer : Turned) (old new : Scene) → (IsTrue tells_notes → MayCall number (own number old.notes) c) → IsTurn tells_notes tells_files tells_readings number c answer old new
    → Leads tells_notes tells_files tells_readings number old new

-- and leaves a hall whose clients and whose Stop are those of its history
abbrev pub TurnTies : Type 0
TurnTies = (tells_notes tells_files : Bool) (number : ℕ) (c : Call) (answer : Turned) (old new : Sight) → IsTied old.hall old.noted → MayCall number (own number old.noted) c → TakesTurn tells_notes tells_files number c answer old new → IsTrue tells_notes → IsTied new.hall new.noted
