-- What saving the names and shutting a floor answer, and why, and what they leave in the folder.
use Rattle.std.specs.Prelude.{◌≡◌, ◌≢◌, ◌⊎◌, ◌≤◌, ◌<◌, ◌+◌, ◌-◌, ◌^◌, ℕ, min, Bool, false, true, IsTrue, List, length, Some, None}
use Rattle.nsq_outside.specs.Causes.{Rose}
use Rattle.nsq_outside.specs.Files.{Files}
use Rattle.nsq_outside.specs.declared.did.Did.{Did}
use Rattle.nsq_outside.specs.declared.did.Did.TheVariants as did
use Rattle.queue_image.specs.FileNames.{IsOwnFile, IsQueueName}
use Rattle.path_image.specs.Data.{IsNames, Kept, data_name, last_epoch, names_text, temp_name}
use Rattle.path_image.specs.Found.{EpochSpent, Found, IsFound, Names}
use Rattle.names_file.specs.Texts.{kept_of}
use Rattle.backlog.specs.declared.answers.Flushed.{Flushed}
use Rattle.backlog.specs.declared.answers.Flushed.TheVariants as flushed
use Rattle.broker_history.specs.State.{State}
use Rattle.broker_history.specs.Left.{IsAllLeft, kept_names}
use Rattle.floor_rooms.specs.declared.hall.Hall.{Hall}
use Rattle.floor_rooms.specs.Kept.{hall_kept}
use Rattle.floor_rooms.specs.Standing.{HoldsFor}
use Rattle.floor_serving.specs.Flushing.{LeavesBut}
use Rattle.broker_floor.specs.Held.{Held}
use Rattle.broker_floor.specs.declared.path.saving.Saved.{Saved}
use Rattle.broker_floor.specs.declared.path.saving.Saved.TheVariants as saved
use Rattle.daemon_endings.specs.declared.ends.ShutEnd.{ShutEnd}
use Rattle.daemon_endings.specs.declared.ends.ShutEnd.TheVariants as shut

-- the text is that of these names, and keeps them
pub record IsTextOf (text : List ℕ) (kept : Kept) : Type 0 where
  pub is : text ≡ names_text kept
  pub keeps : IsNames (names_text kept) kept

-- the file of names has the text of these and keeps them
pub record HasNames (files : Files) (kept : Kept) : Type 0 where
  pub text : files data_name ≡ Some (names_text kept)
  pub keeps : IsNames (names_text kept) kept

-- so it has, and its temporary is gone
pub record KeepsNames (files : Files) (kept : Kept) : Type 0 where
  pub text : files data_name ≡ Some (names_text kept)
  pub keeps : IsNames (names_text kept) kept
  pub temp : files temp_name ≡ None

-- the file of names has its old content, or the text of these names, which keeps them
abbrev pub OldOrNew : (old new : Files) → Kept → Type 0
OldOrNew old new kept = (new data_name ≡ old data_name) ⊎ HasNames new kept

-- the file of names and its temporary are as they were
pub record NamesStay (old new : Files) : Type 0 where
  pub names : new data_name ≡ old data_name
  pub temp : new temp_name ≡ old temp_name

-- what is kept of a hall is what is to be kept of each state that it stands for
abbrev pub NamesAreThoseOfStates : Type 0
NamesAreThoseOfStates = (h : Hall) (files : Files) (s : State) → HoldsFor h files s → kept_of h.epoch (hall_kept h) ≡ kept_names s

-- this holds where the names were saved; nothing is said elsewhere
abbrev pub WhereSaved : Saved → Type 0 → Type 0
WhereSaved saved.Done P = P
WhereSaved saved.Fault P = Unit {0}
WhereSaved saved.Memory P = Unit {0}

-- this holds where memory was wanting for the names; nothing is said elsewhere
abbrev pub WhereSaveWants : Saved → Type 0 → Type 0
WhereSaveWants saved.Done P = Unit {0}
WhereSaveWants saved.Fault P = Unit {0}
WhereSaveWants saved.Memory P = P

-- a floor notes that no name is unsaved where the names were saved; all else that it holds stays, and after another answer this too
abbrev pub HeldBehind : Saved → (old new : Held) → Type 0
HeldBehind saved.Done old new = new ≡ record old { hall = record (old.hall) { unsaved_names = false } }
HeldBehind saved.Fault old new = new ≡ old
HeldBehind saved.Memory old new = new ≡ old

-- Fault comes only with a rise
abbrev pub SaveFails : (before now : ℕ) → Saved → Type 0
SaveFails before now saved.Done = Unit {0}
SaveFails before now saved.Fault = Rose before now
SaveFails before now saved.Memory = Unit {0}

-- how a floor is shut whose messages were written so, and whose names were stored so
abbrev pub shut_end : Flushed → Did → ShutEnd
shut_end flushed.Done did.Done = shut.Clean
shut_end flushed.Done did.Failed = shut.Fault
shut_end flushed.Fault stored = shut.Fault

-- this holds where a floor was shut cleanly; nothing is said elsewhere
abbrev pub WhereClean : ShutEnd → Type 0 → Type 0
WhereClean shut.Clean P = P
WhereClean shut.Fault P = Unit {0}
WhereClean shut.Memory P = Unit {0}

-- this holds unless memory was wanting for the names
abbrev pub WhereTried : ShutEnd → Type 0 → Type 0
WhereTried shut.Clean P = P
WhereTried shut.Fault P = P
WhereTried shut.Memory P = Unit {0}

-- this holds where memory was wanting for the names; nothing is said elsewhere
abbrev pub WhereShutWants : ShutEnd → Type 0 → Type 0
WhereShutWants shut.Clean P = Unit {0}
WhereShutWants shut.Fault P = Unit {0}
WhereShutWants shut.Memory P = P

-- Fault comes only with a rise, or where a disk fault had kept the Stop's turn from paying all that was owed; Clean comes only where none had
abbrev pub ShutFails : (stuck : Bool) → (before now : ℕ) → ShutEnd → Type 0
ShutFails stuck before now shut.Clean = stuck ≡ false
ShutFails stuck before now shut.Fault = Rose before now ⊎ (stuck ≡ true)
ShutFails stuck before now shut.Memory = Unit {0}

-- an opening finds all that a run left, and nothing else
pub record FindsAllLeft (s : State) (files : Files) : Type 0 where
  pub found : Found
  pub is_found : IsFound files (Names found)
  pub is_all : IsAllLeft s found

-- what is left in a folder by a floor that stood for this state: all that the run left; where the run had the last epoch, that no further one is left
pub record Leaves (s : State) (files : Files) : Type 0 where
  pub left : s.epoch < last_epoch → FindsAllLeft s files
  pub spent : s.epoch ≡ last_epoch → IsFound files EpochSpent

-- the names were tried: they are in the file, or one more than so many things are missing, and the folder's count of faults rose by no less
abbrev pub NamesOrOneMore : (before now missing : ℕ) → Files → Kept → Type 0
NamesOrOneMore before now missing files kept = KeepsNames files kept ⊎ (min (before + (missing + 1)) (2 ^ 64 - 1) ≤ now)

-- an opening finds in each queue of a durable topic or channel all that was left of it but for a few queues, no more of them than the folder's count of
-- faults rose; and unless memory was wanting for them the names are in their file, or count as one more that is missing
pub record MissesSome (end : ShutEnd) (before now : ℕ) (h : Hall) (old new : Files) : Type 0 where
  pub missed : List (List ℕ)
  pub few : min (before + length missed) (2 ^ 64 - 1) ≤ now
  pub left : (s : State) → HoldsFor h old s → LeavesBut missed s new
  pub tried : WhereTried end (NamesOrOneMore before now (length missed) new (kept_of h.epoch (hall_kept h)))

-- no file changes but the file of names, its temporary, and those that queues read and write
abbrev pub ShutChanges : (old new : Files) → Type 0
ShutChanges old new = (file : List ℕ) → file ≢ data_name → file ≢ temp_name → ((name : List ℕ) → IsQueueName name → IsOwnFile name file → ⊥) → new file ≡ old file

-- what shutting a floor leaves, all together
pub record ShutsDown (tells : Bool) (end : ShutEnd) (h : Hall) (old new : Files) (before now : ℕ) : Type 0 where
  pub names : IsTrue tells → WhereClean end (KeepsNames new (kept_of h.epoch (hall_kept h)))
  pub left : IsTrue tells → (s : State) → HoldsFor h old s → WhereClean end (Leaves s new)
  pub queues : IsTrue tells → MissesSome end before now h old new
  pub text : IsTrue tells → OldOrNew old new (kept_of h.epoch (hall_kept h))
  pub memory : IsTrue tells → WhereShutWants end (NamesStay old new)
  pub files : IsTrue tells → ShutChanges old new
  pub faults : before ≤ now
  pub cause : ShutFails h.stuck before now end
