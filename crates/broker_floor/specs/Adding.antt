-- What the parts of an opening do: a folder is made ready, its topics are added to a floor, and the file of names is written.
use Rattle.std.specs.Prelude.{◌≡◌, ◌≢◌, ◌⊎◌, ◌≤◌, ℕ, ◌+◌, Bool, false, IsTrue, List, [], All, Contains, Some, None, map}
use Rattle.std.specs.List.{list_any}
use Rattle.std.specs.Str.{bytes_eq}
use Rattle.nsq_outside.specs.Causes.{Rose}
use Rattle.nsq_outside.specs.Files.{Files}
use Rattle.queue_image.specs.FileNames.{IsFileOf}
use Rattle.queue_opening.specs.Again.{FindsSameList}
use Rattle.queue_opening.specs.declared.refusal.Open.{Open}
use Rattle.queue_opening.specs.declared.refusal.Open.TheVariants as refusal
use Rattle.path_image.specs.Data.{IsBadNames, IsNames, Kept, KeptChannel, KeptTopic, data_name, names_text, temp_name}
use Rattle.path_image.specs.Found.{FindsTopic, FoundTopic, Pairwise, queues_of}
use Rattle.backlog.specs.Seen.{longest_body}
use Rattle.names_file.specs.Texts.{kept_of}
use Rattle.broker_history.specs.Found.{started}
use Rattle.broker_history.specs.State.{State}
use Rattle.floor_rooms.specs.declared.hall.Hall.{Hall}
use Rattle.floor_rooms.specs.declared.room.Room.{Room}
use Rattle.floor_rooms.specs.Rooms.{put_room, room_in, topic_name}
use Rattle.floor_rooms.specs.Standing.{HoldsFor, StandsFor}
use Rattle.floor_files.specs.Opened.{BadStays, FindsBack, FindsQueue, FindsThem, IsBad, ListsStay, NoneIsBad, OnlyTheirFiles, OpensTo, RefusesTopic}
use Rattle.queue_sweep.specs.Swept.{HasOnlyListed, IsSweptTo}
use Rattle.queue_sweep.specs.declared.unswept.Unswept.{Unswept}
use Rattle.queue_sweep.specs.declared.unswept.Unswept.TheVariants as unswept
use Rattle.broker_floor.specs.Held.{Held}
use Rattle.broker_floor.specs.Opening.{KeepsIn}
use Rattle.daemon_endings.specs.declared.ends.Why.{Why}
use Rattle.daemon_endings.specs.declared.ends.Why.TheVariants as why

-- the file of names is there, and its text is bad
pub record HasBadText (files : Files) : Type 0 where
  pub text : List ℕ
  pub is : files data_name ≡ Some text
  pub bad : IsBadNames text

-- why a text isn't read: it is bad, or memory was wanting
abbrev pub IsWhyUnread : List ℕ → Why → Type 0
IsWhyUnread text why.BadData = IsBadNames text
IsWhyUnread text why.EpochSpent = ⊥
IsWhyUnread text why.Fault = ⊥
IsWhyUnread text why.Memory = Unit {0}

-- why the file of names isn't read: its text is bad, or the count of faults rose, or memory was wanting
abbrev pub IsUnread : Why → (tells : Bool) → Files → (before now : ℕ) → Type 0
IsUnread why.BadData tells files before now = IsTrue tells → HasBadText files
IsUnread why.EpochSpent tells files before now = ⊥
IsUnread why.Fault tells files before now = Rose before now
IsUnread why.Memory tells files before now = Unit {0}

-- why files weren't set aside
abbrev pub why_unswept : Unswept → Why
why_unswept unswept.Fault = why.Fault
why_unswept unswept.Memory = why.Memory

-- each channel with its pause
abbrev pub pauses : List KeptChannel → List (List ℕ × Bool)
pauses channels = map (λ (c : KeptChannel). (c.name, c.paused)) channels

-- the folder keeps these names, and only files of their queues have the form of a queue's; the others were set aside
pub record IsReady (kept : Kept) (old new : Files) : Type 0 where
  pub keeps : KeepsIn old kept
  pub swept : IsSweptTo kept.topics old new
  pub only : HasOnlyListed kept.topics new

-- the list that an opening finds of this queue in the old files is found in the new ones
abbrev pub SameList : Files → Files → (name : List ℕ) → Type 0
SameList old new name = FindsSameList 26 (26 + longest_body) name old new

-- no queue of a topic has bad metadata
abbrev pub IsGood : Files → KeptTopic → Type 0
IsGood files t = All (λ name. IsBad files name → ⊥) (queues_of t)

-- an opening finds bodies of each queue of a topic
abbrev pub FindsAll : Files → KeptTopic → Type 0
FindsAll files t = All (FindsQueue files) (queues_of t)

-- a file is of no queue of a topic
abbrev pub IsElsewhere : (file : List ℕ) → KeptTopic → Type 0
IsElsewhere file t = All (λ name. IsFileOf name file → ⊥) (queues_of t)

-- no file changes but those of the queues of these topics
abbrev pub OnlyFilesOf : List KeptTopic → Files → Files → Type 0
OnlyFilesOf topics old new = (file : List ℕ) → All (IsElsewhere file) topics → new file ≡ old file

-- from a state without topics that the first hall stood for, a hall with topics that are found in the first files stands for the state with those
abbrev pub StandsWith : List KeptTopic → (old : Hall) → (before : Files) → (new : Hall) → (after : Files) → Type 0
StandsWith topics old before new after = (founds : List FoundTopic) → Pairwise (FindsTopic before) topics founds → (s : State) → s.topics ≡ [] → StandsFor old before s → StandsFor new after (record s { topics = map started founds })

-- what adding these topics makes of a hall and of files
pub record AddsTopics (topics : List KeptTopic) (old : Hall) (before : Files) (new : Hall) (after : Files) : Type 0 where
  pub stands : StandsWith topics old before new after
  pub lists : ListsStay before after
  pub bad : BadStays before after
  pub good : All (IsGood before) topics
  pub finds : All (FindsAll before) topics
  pub back : FindsBack before after
  pub only : OnlyFilesOf topics before after

-- the hall has other topics, and nothing else of it changed
abbrev pub HasOthersOnly : Held → Held → Type 0
HasOthersOnly old new = new ≡ record old { hall = record (old.hall) { rooms = new.hall.rooms; pending = new.hall.pending } }

-- a hall that had no topic has these at most
abbrev pub HasOnlyTopics : List KeptTopic → Hall → Type 0
HasOnlyTopics topics h = (name : List ℕ) → list_any (λ (t : KeptTopic). bytes_eq name t.name) topics ≡ false → room_in h.rooms.items name ≡ None

-- what adding one topic makes of a hall and of files
pub record AddsOne (t : KeptTopic) (old : Hall) (before : Files) (new : Hall) (after : Files) : Type 0 where
  pub opens : OpensTo t.name t.paused (pauses t.channels) old before new after
  pub lists : ListsStay before after
  pub bad : BadStays before after
  pub good : NoneIsBad t.name (pauses t.channels) before
  pub finds : FindsThem t.name (pauses t.channels) before
  pub back : FindsBack before after
  pub only : OnlyTheirFiles t.name (pauses t.channels) before after

-- the topic is there, where it belongs
pub record PutsTopic (name : List ℕ) (old new : Hall) : Type 0 where
  pub room : Room
  pub is : new.rooms.items ≡ put_room old.rooms.items room
  pub named : topic_name room ≡ name

-- why a topic isn't added: a queue of its has bad metadata, or the count of faults rose, or memory was wanting
abbrev pub IsWhyNotOne : Why → (tells : Bool) → KeptTopic → (old new : Files) → (before now : ℕ) → Type 0
IsWhyNotOne why.BadData tells t old new before now = IsTrue tells → RefusesTopic t.name (pauses t.channels) old new refusal.BadMeta
IsWhyNotOne why.EpochSpent tells t old new before now = ⊥
IsWhyNotOne why.Fault tells t old new before now = Rose before now
IsWhyNotOne why.Memory tells t old new before now = Unit {0}

-- and what the folder has then
pub record IsNotOne (reason : Why) (tells : Bool) (t : KeptTopic) (old new : Files) (before now : ℕ) : Type 0 where
  pub why : IsWhyNotOne reason tells t old new before now
  pub lists : IsTrue tells → ListsStay old new
  pub only : IsTrue tells → OnlyTheirFiles t.name (pauses t.channels) old new

-- these topics were added to a hall that had none
pub record IsAdded (tells : Bool) (topics : List KeptTopic) (old new : Held) (before after : Files) (count count' : ℕ) : Type 0 where
  pub rest : HasOthersOnly old new
  pub names : HasOnlyTopics topics new.hall
  pub adds : IsTrue tells → AddsTopics topics old.hall before new.hall after
  pub faults : count ≤ count'

-- a queue of one of these topics has bad metadata
pub record HasBadOf (topics : List KeptTopic) (files : Files) : Type 0 where
  pub topic : KeptTopic
  pub listed : Contains topics topic
  pub name : List ℕ
  pub own : Contains (queues_of topic) name
  pub bad : IsBad files name

-- why topics aren't added: a queue of theirs has bad metadata, or the count of faults rose, or memory was wanting
abbrev pub IsWhyNotAdded : Why → (tells : Bool) → List KeptTopic → Files → (before now : ℕ) → Type 0
IsWhyNotAdded why.BadData tells topics files before now = IsTrue tells → HasBadOf topics files
IsWhyNotAdded why.EpochSpent tells topics files before now = ⊥
IsWhyNotAdded why.Fault tells topics files before now = Rose before now
IsWhyNotAdded why.Memory tells topics files before now = Unit {0}

-- and what the folder has then
pub record IsNotAdded (reason : Why) (tells : Bool) (topics : List KeptTopic) (old new : Files) (before now : ℕ) : Type 0 where
  pub why : IsWhyNotAdded reason tells topics old before now
  pub lists : IsTrue tells → ListsStay old new
  pub only : IsTrue tells → OnlyFilesOf topics old new

-- why an opening of a queue failed
abbrev pub why_of : Open → Why
why_of refusal.Fault = why.Fault
why_of refusal.BadMeta = why.BadData
why_of refusal.Memory = why.Memory

-- the file of names has the text of this epoch and these topics, and keeps them. Its temporary is gone
pub record HasNames (files : Files) (epoch : ℕ) (topics : List KeptTopic) : Type 0 where
  pub text : files data_name ≡ Some (names_text (kept_of epoch topics))
  pub names : IsNames (names_text (kept_of epoch topics)) (kept_of epoch topics)
  pub temp : files temp_name ≡ None

-- the file of names is the old one, or keeps this epoch and these topics
abbrev pub IsOldOrKeeps : Files → Files → (epoch : ℕ) → List KeptTopic → Type 0
IsOldOrKeeps old new epoch topics = (new data_name ≡ old data_name) ⊎ ((new data_name ≡ Some (names_text (kept_of epoch topics))) × IsNames (names_text (kept_of epoch topics)) (kept_of epoch topics))

-- why the file of names isn't written: the count of faults rose, or memory was wanting
abbrev pub IsWhyNotSaved : Why → (before now : ℕ) → Type 0
IsWhyNotSaved why.BadData before now = ⊥
IsWhyNotSaved why.EpochSpent before now = ⊥
IsWhyNotSaved why.Fault before now = Rose before now
IsWhyNotSaved why.Memory before now = Unit {0}

-- and what it has then
pub record IsNotSaved (reason : Why) (tells : Bool) (topics : List KeptTopic) (epoch : ℕ) (old new : Files) (before now : ℕ) : Type 0 where
  pub why : IsWhyNotSaved reason before now
  pub file : IsTrue tells → IsOldOrKeeps old new epoch topics

-- no file changes but the file of names, its temporary, and those of the queues of these topics
abbrev pub OnlyFilledFiles : List KeptTopic → Files → Files → Type 0
OnlyFilledFiles topics old new = (file : List ℕ) → file ≢ data_name → file ≢ temp_name → All (IsElsewhere file) topics → new file ≡ old file

-- what it is to fill a hall with these topics, and to write the file of names, as the folder tells it
pub record Fills (topics : List KeptTopic) (old : Hall) (before : Files) (new : Hall) (after : Files) : Type 0 where
  pub holds : HasOnlyListed topics before → (founds : List FoundTopic) → Pairwise (FindsTopic before) topics founds → (s : State) → s.topics ≡ [] → StandsFor old before s → HoldsFor new after (record s { topics = map started founds })
  pub good : All (IsGood before) topics
  pub finds : All (FindsAll before) topics
  pub saved : HasNames after old.epoch topics
  pub only : OnlyFilledFiles topics before after

pub record IsFilled (tells : Bool) (topics : List KeptTopic) (old new : Held) (before after : Files) : Type 0 where
  pub rest : HasOthersOnly old new
  pub fills : IsTrue tells → Fills topics old.hall before new.hall after

-- a hall isn't filled, and what the folder has then
pub record IsNotFilled (reason : Why) (tells : Bool) (topics : List KeptTopic) (epoch : ℕ) (old new : Files) (before now : ℕ) : Type 0 where
  pub why : IsWhyNotAdded reason tells topics old before now
  pub lists : IsTrue tells → ListsStay old new
  pub file : IsTrue tells → IsOldOrKeeps old new epoch topics
  pub only : IsTrue tells → OnlyFilledFiles topics old new
