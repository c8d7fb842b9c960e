-- What turns of whatever numbers lead to, with the file of names saved between them.
use Rattle.std.specs.Prelude.{◌≤◌, ℕ, Bool, IsTrue}
use Rattle.broker_history.specs.State.{State}
use Rattle.broker_floor.specs.Scenes.{IsAt, Scene, Stands}
use Rattle.broker_floor.specs.Leads.{LedTo, Times}
use Rattle.broker_floor.specs.Closings.{ShutChanges}

-- what turns may lead to, of whatever numbers, where the journal tells, the folder tells and the clock tells: the entries that were noted are legal from
-- each state that the floor stood for, to one that it stands for now, and have their moments from the readings that the turns made; no file changes but those
-- that a shutting may change
pub record Went (tells_notes tells_files tells_readings : Bool) (old new : Scene) : Type 0 where
  pub faults : old.faults ≤ new.faults
  pub files : IsTrue tells_files → ShutChanges old.files new.files
  pub legal : IsTrue tells_notes → IsTrue tells_files → (s : State) → Stands old s → LedTo old new s
  pub times : IsTrue tells_notes → IsTrue tells_readings → (coming : ℕ → ℕ) (readings : ℕ) → IsAt coming readings old → Times coming readings old new
