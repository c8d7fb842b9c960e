-- What a sweep means for the queues of a daemon.
use Rattle.std.specs.Prelude.{ℕ, ◌≡◌, ◌<◌, List, [], length, Some}
use Rattle.nsq_outside.specs.Files.{Files}
use Rattle.v2_frame.specs.declared.message.Message.{Message}
use Rattle.queue_image.specs.FileNames.{IsQueueName, IsFileOf}
use Rattle.path_image.specs.Data.{KeptTopic, Kept, IsNames, data_name}
use Rattle.path_image.specs.Found.{HasMessages, Finding, IsFound}
use Rattle.queue_sweep.specs.Swept.{IsListedQueue, IsSweptTo, HasOnlyListed, HasNoFiles}

-- every file of a listed queue stays: its data files, its metadata, the metadata being written, and those set aside
abbrev pub ListedFilesStay : Type 0
ListedFilesStay = (topics : List KeptTopic) (old new : Files) (name file : List ℕ) → IsSweptTo topics old new → IsListedQueue topics name → IsFileOf name file → new file ≡ old file

-- a listed queue keeps its messages
abbrev pub ListedMessagesStay : Type 0
ListedMessagesStay = (topics : List KeptTopic) (old new : Files) (name : List ℕ) (messages : List Message) → IsSweptTo topics old new → IsListedQueue topics name → HasMessages old name messages → HasMessages new name messages

-- a file whose name is shorter than any queue's file stays, the file of names among them
abbrev pub ShortNamesStay : Type 0
ShortNamesStay = (topics : List KeptTopic) (old new : Files) (file : List ℕ) → IsSweptTo topics old new → length file < 19 → new file ≡ old file

-- these are the topics that the file of names keeps, where there is a good one
abbrev pub AreKept : List KeptTopic → Files → Type 0
AreKept topics files = (text : List ℕ) (kept : Kept) → files data_name ≡ Some text → IsNames text kept → kept.topics ≡ topics

-- an opening finds what it found before, where what is listed is what the file of names keeps
abbrev pub FindingStays : Type 0
FindingStays = (topics : List KeptTopic) (old new : Files) (finding : Finding) → AreKept topics old → IsSweptTo topics old new → IsFound old finding → IsFound new finding

-- an unlisted queue has no metadata and no data file
abbrev pub UnlistedHaveNoFiles : Type 0
UnlistedHaveNoFiles = (topics : List KeptTopic) (files : Files) (name : List ℕ) → HasOnlyListed topics files → IsQueueName name → ¬ IsListedQueue topics name → HasNoFiles files name

-- and so no message
abbrev pub UnlistedHaveNoMessages : Type 0
UnlistedHaveNoMessages = (topics : List KeptTopic) (files : Files) (name : List ℕ) → HasOnlyListed topics files → IsQueueName name → ¬ IsListedQueue topics name → HasMessages files name []
