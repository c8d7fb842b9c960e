-- What the opening of a folder makes of its files, and why it is refused.
use Rattle.std.specs.Prelude.{◌≡◌, ◌≢◌, ◌⊎◌, ℕ, ◌+◌, Bool, false, IsTrue, List, [], Some, None}
use Rattle.nsq_base.specs.declared.options.Options.{Options}
use Rattle.nsq_outside.specs.Causes.{Rose}
use Rattle.nsq_outside.specs.Files.{Files, SameFiles}
use Rattle.queue_image.specs.FileNames.{IsFileOf, IsQueueName}
use Rattle.v2_frame.specs.Line.{AreBytes}
use Rattle.path_image.specs.Data.{IsNames, Kept, data_name, last_epoch, names_text, temp_name}
use Rattle.path_image.specs.Found.{BadData, EpochSpent, Finding, Found, IsFound, Names}
use Rattle.names_file.specs.Texts.{kept_of}
use Rattle.broker_floor.specs.Held.{Held}
use Rattle.daemon_endings.specs.declared.ends.Why.{Why}
use Rattle.daemon_endings.specs.declared.ends.Why.TheVariants as why

-- what the file of names keeps: where there is none, epoch 0 and no topic
pub data KeepsIn (files : Files) (kept : Kept) : Type 0 where
  absent : files data_name ≡ None → kept ≡ kept_of 0 [] → KeepsIn files kept
  written : (text : List ℕ) → files data_name ≡ Some text → IsNames text kept → KeepsIn files kept

-- an opening finds names
abbrev pub IsNamesFinding : Finding → Type 0
IsNamesFinding BadData = ⊥
IsNamesFinding EpochSpent = ⊥
IsNamesFinding (Names found) = Unit {0}

-- what files have are bytes: numbers below 256
abbrev pub HaveBytes : Files → Type 0
HaveBytes files = (name bytes : List ℕ) → files name ≡ Some bytes → AreBytes bytes

-- this run's epoch is one above the one that the file of names kept, and the file keeps it now, with the same topics. Its temporary is gone
pub record Raises (old new : Files) (epoch : ℕ) : Type 0 where
  pub kept : Kept
  pub keeps : KeepsIn old kept
  pub next : epoch ≡ kept.epoch + 1
  pub text : new data_name ≡ Some (names_text (kept_of epoch kept.topics))
  pub names : IsNames (names_text (kept_of epoch kept.topics)) (kept_of epoch kept.topics)
  pub temp : new temp_name ≡ None

-- a hall with these options before any turn: it wasn't flushed, it has no client, no id was used, nothing stopped or is stuck, and its names are saved
pub record IsOpenedHall (with_options : Options) (held : Held) : Type 0 where
  pub unflushed : held.flushed ≡ false
  pub options : held.hall.options ≡ with_options
  pub clients : held.hall.clients.items ≡ []
  pub ids_used : held.hall.ids_used ≡ 0
  pub stopped : held.hall.stopped ≡ false
  pub stuck : held.hall.stuck ≡ false
  pub unsaved_names : held.hall.unsaved_names ≡ false
  pub began_at : held.hall.began_at ≡ held.hall.moment

-- why a folder isn't opened: it shows bad data; it shows that no further epoch is left, and no file changes; its count of faults rose; memory was wanting
abbrev pub IsWhy : Why → (tells : Bool) → (old new : Files) → (before now : ℕ) → Type 0
IsWhy why.BadData tells old new before now = IsTrue tells → IsFound old BadData
IsWhy why.EpochSpent tells old new before now = IsTrue tells → IsFound old EpochSpent × SameFiles old new
IsWhy why.Fault tells old new before now = Rose before now
IsWhy why.Memory tells old new before now = Unit {0}

-- the same topics are found with the next epoch; where that is the last one, that no further one is left
abbrev pub FindsNext : Files → Found → Type 0
FindsNext files found = IsFound files (Names (record found { epoch = found.epoch + 1 })) ⊎ ((found.epoch + 1 ≡ last_epoch) × IsFound files EpochSpent)

-- what was found in the old files is found in the new ones, with the same epoch or the next
abbrev pub FindsAgain : Files → Files → Type 0
FindsAgain old new = (found : Found) → IsFound old (Names found) → IsFound new (Names found) ⊎ FindsNext new found

-- no file changes but the file of names, its temporary, and files of queues, set aside or not
abbrev pub OnlyOpeningFiles : Files → Files → Type 0
OnlyOpeningFiles old new = (file : List ℕ) → file ≢ data_name → file ≢ temp_name → ((queue : List ℕ) → IsQueueName queue → IsFileOf queue file → ⊥) → new file ≡ old file

-- why a folder isn't opened, and what it has then
pub record IsRefusal (reason : Why) (tells : Bool) (old new : Files) (before now : ℕ) : Type 0 where
  pub why : IsWhy reason tells old new before now
  pub again : IsTrue tells → FindsAgain old new
  pub files : IsTrue tells → OnlyOpeningFiles old new
