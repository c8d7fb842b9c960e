-- What a move makes of a hall: one entry is noted, by which each state that the hall stood for comes to one that it stands for.
use Rattle.std.specs.Prelude.{◌≡◌, ◌≤◌, ℕ, ◌+◌, ◌-◌, ◌^◌, min, Bool, true, [], ◌∷◌, ◌++◌, IsTrue}
use Rattle.nsq_outside.specs.Causes.{Rose}
use Rattle.nsq_outside.specs.Files.{Files}
use Rattle.nsq_outside.specs.declared.journal.End.{End}
use Rattle.nsq_outside.specs.declared.journal.End.TheVariants as end
use Rattle.broker_history.specs.declared.entry.Act.{Act}
use Rattle.broker_history.specs.declared.entry.Entry.{Entry}
use Rattle.broker_history.specs.State.{State}
use Rattle.broker_history.specs.Entries.{History, faults_of}
use Rattle.broker_history.specs.Before.{is_moved_at, is_stuck_at}
use Rattle.broker_history.specs.Step.{Step}
use Rattle.floor_rooms.specs.declared.hall.Hall.{Hall}
use Rattle.floor_rooms.specs.Standing.{HoldsFor}
use Rattle.floor_rooms.specs.Changes.{KeepsRooms}
use Rattle.floor_moves.specs.declared.made.Made.{Made}
use Rattle.floor_moves.specs.declared.made.Made.TheVariants as made

-- all that is seen as a move is made: the hall, what was noted, the folder's files and its count of faults
pub record Sight : Type 0 where
  pub hall : Hall
  pub noted : History
  pub files : Files
  pub faults : ℕ

abbrev pub sight : Hall → History → Files → ℕ → Sight
sight hall noted files faults = record { hall = hall; noted = noted; files = files; faults = faults }

-- the daemon's entry of an act at a moment
abbrev pub entry_at : (at : ℕ) → Act → Entry
entry_at at act = record { conn = 0; at = at; act = act }

-- the count rose by so much, or stands at the end of its type
abbrev pub RoseBy : (n before now : ℕ) → Type 0
RoseBy n before now = min (before + n) (2 ^ 64 - 1) ≤ now

-- one entry was noted, by which each state that the hall stood for came to one that it stands for; the count of faults rose by those of the entry
pub record Notes (tells_notes tells_files : Bool) (Is : Entry × End → Type 0) (old new : Sight) : Type 0 where
  pub entry : Entry × End
  pub is : Is entry
  pub noted : IsTrue tells_notes → new.noted ≡ old.noted ++ entry ∷ []
  pub step : IsTrue tells_files → (s : State) → HoldsFor old.hall old.files s → (t : State) × Step s entry t × HoldsFor new.hall new.files t
  pub rose : IsTrue tells_files → (s : State) → HoldsFor old.hall old.files s → RoseBy (faults_of (entry ∷ [])) old.faults new.faults
  pub faults : old.faults ≤ new.faults

-- nothing was noted, and the hall stands for the same states
pub record NothingNoted (tells_notes tells_files : Bool) (old new : Sight) : Type 0 where
  pub noted : IsTrue tells_notes → new.noted ≡ old.noted
  pub same : IsTrue tells_files → (s : State) → HoldsFor old.hall old.files s → HoldsFor new.hall new.files s
  pub faults : old.faults ≤ new.faults

-- the entry is this move of a moment, which was made
pub record IsMade (at : ℕ) (move : Act) (e : Entry × End) : Type 0 where
  pub moved : is_moved_at at e ≡ true
  pub of : e.0.act ≡ move
  pub done : e.1 ≡ end.Done

-- the entry is this move of a moment, which a disk fault kept off
pub record IsKeptOff (at : ℕ) (move : Act) (e : Entry × End) : Type 0 where
  pub stuck : is_stuck_at at e ≡ true
  pub of : e.0.act ≡ move

-- how a move ended: it was made at the hall's moment; or a disk fault kept it off, and where all is told the count rose; or nothing was done
abbrev pub Moves : (tells_notes tells_files : Bool) → (move : Act) → (old new : Sight) → Made → Type 0
Moves tells_notes tells_files move old new made.Done = Notes tells_notes tells_files (IsMade old.hall.moment move) old new
Moves tells_notes tells_files move old new made.Stuck =
    Notes tells_notes tells_files (IsKeptOff old.hall.moment move) old new × (IsTrue tells_files → (s : State) → HoldsFor old.hall old.files s → Rose old.faults new.faults)
Moves tells_notes tells_files move old new made.Memory = NothingNoted tells_notes tells_files old new

-- what moves leave of a hall: no topic or channel comes, goes, or changes its place, its name, its pause or its clients' numbers, and no mark begins anew
pub record Keeps (old new : Hall) : Type 0 where
  pub options : new.options ≡ old.options
  pub epoch : new.epoch ≡ old.epoch
  pub began_at : new.began_at ≡ old.began_at
  pub ids_used : new.ids_used ≡ old.ids_used
  pub moment : new.moment ≡ old.moment
  pub stopped : new.stopped ≡ old.stopped
  pub stuck : new.stuck ≡ old.stuck
  pub unsaved_names : new.unsaved_names ≡ old.unsaved_names
  pub clients : new.clients ≡ old.clients
  pub rooms : KeepsRooms old.moment old.rooms.items new.rooms.items
