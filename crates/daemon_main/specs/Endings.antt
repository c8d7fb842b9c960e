-- How a run that serves ends, by its cause.
use Rattle.std.specs.Prelude.{◌≡◌, ◌⊎◌, Bool, IsTrue}
use Rattle.nsq_outside.specs.Causes.{Rose}
use Rattle.nsq_outside.specs.Files.{Files}
use Rattle.path_image.specs.Found.{BadData, EpochSpent, Finding, Found, IsFound, Names}
use Rattle.broker_floor.specs.Opening.{HaveBytes, IsNamesFinding}
use Rattle.daemon_endings.specs.declared.serving.ServeEnd.{ServeEnd}
use Rattle.daemon_endings.specs.declared.serving.ServeEnd.TheVariants as end
use Rattle.daemon_main.specs.Sights.{Counts, NoFault}

-- an opening of these files finds names, whatever it finds
abbrev pub FindsNames : Files → Type 0
FindsNames files = (f : Finding) → IsFound files f → IsNamesFinding f

-- an ending's cause, from the files and the counts at entry to the counts at return: where the folder tells its files, a clean stop comes only where they show
-- names, bad data and spent ids where they show just that; a fault comes only where the folder's count of faults or the listeners' rose. A fault of the stop may have
-- been met by the Stop's turn: there a folder that doesn't tell its files may also have given a damaged record
abbrev pub IsCaused : ServeEnd → (tells_files tells_notes : Bool) → Files → (old new : Counts) → Type 0
IsCaused end.Clean tells_files tells_notes files old new = IsTrue tells_files → FindsNames files
IsCaused end.BadData tells_files tells_notes files old new = IsTrue tells_files → IsFound files BadData
IsCaused end.EpochSpent tells_files tells_notes files old new = IsTrue tells_files → IsFound files EpochSpent
IsCaused end.OpeningFault tells_files tells_notes files old new = Rose old.folder new.folder
IsCaused end.StopFault tells_files tells_notes files old new = IsTrue tells_files → IsTrue tells_notes → HaveBytes files → Rose old.folder new.folder
IsCaused end.AcceptFailed tells_files tells_notes files old new = Rose old.accept new.accept
IsCaused end.Memory tells_files tells_notes files old new = Unit {0}

-- it ended so, or for want of memory
abbrev pub IsOrWants : ServeEnd → ServeEnd → Type 0
IsOrWants wanted ended = (ended ≡ wanted) ⊎ (ended ≡ end.Memory)

-- where no count of the folder or the listeners rose, a run ends cleanly from names, and by its own refusal from bad data and from spent ids; want of memory alone may
-- come in the place of each
pub record IsComplete (ended : ServeEnd) (files : Files) (old new : Counts) : Type 0 where
  pub names : (found : Found) → IsFound files (Names found) → NoFault old new → IsOrWants end.Clean ended
  pub bad_data : IsFound files BadData → NoFault old new → IsOrWants end.BadData ended
  pub spent : IsFound files EpochSpent → NoFault old new → IsOrWants end.EpochSpent ended
