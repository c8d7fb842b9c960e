-- What is seen of a floor at a moment.
use Rattle.std.specs.Prelude.{ℕ, Bool}
use Rattle.nsq_outside.specs.Files.{Files}
use Rattle.nsq_outside.specs.declared.clock.Clock.{Ghosts as OfClock}
use Rattle.nsq_outside.specs.declared.folder.Folder.{Ghosts as OfFolder}
use Rattle.nsq_outside.specs.declared.host.Kit.{Kit}
use Rattle.nsq_outside.specs.declared.journal.Journal.{Ghosts as OfJournal}
use Rattle.broker_history.specs.declared.entry.Entry.{Entry}
use Rattle.broker_history.specs.Entries.{History}
use Rattle.floor_rooms.specs.declared.hall.Hall.{Hall}
use Rattle.floor_serving.specs.Scenes.{Scene, scene}
use Rattle.broker_floor.specs.Held.{Held}
use Rattle.broker_floor.specs.declared.floor.Floor.{Floor}

module _ {F C J : Type 0} {folders : OfFolder F} {clocks : OfClock C} {journals : OfJournal J Entry} where
  -- its folder, its clock and its journal
  abbrev pub kit_of : Floor F C J folders clocks journals → Kit F C J
  kit_of floor = record { folder = floor.folder; clock = floor.clock; journal = floor.journal }

  -- the hall that it holds, and whether all that it had in memory was written at a stop
  abbrev pub held_of : Floor F C J folders clocks journals → Held
  held_of floor = floor.held

  -- that hall
  abbrev pub hall_of : Floor F C J folders clocks journals → Hall
  hall_of floor = floor.held.hall

  -- whether that was done
  abbrev pub flushed_of : Floor F C J folders clocks journals → Bool
  flushed_of floor = floor.held.flushed

  -- what its journal has noted
  abbrev pub notes_of : Floor F C J folders clocks journals → History
  notes_of floor = journals.notes floor.journal

  -- its folder's files
  abbrev pub files_of : Floor F C J folders clocks journals → Files
  files_of floor = folders.files floor.folder

  -- how often its folder failed
  abbrev pub faults_of : Floor F C J folders clocks journals → ℕ
  faults_of floor = folders.folder_faults floor.folder

  -- the readings to come of its clock
  abbrev pub coming_of : Floor F C J folders clocks journals → ℕ → ℕ
  coming_of floor = clocks.coming floor.clock

  -- all that is seen of it
  abbrev pub scene_of : Floor F C J folders clocks journals → Scene
  scene_of floor = scene (hall_of floor) (notes_of floor) (files_of floor) (faults_of floor) (coming_of floor)
