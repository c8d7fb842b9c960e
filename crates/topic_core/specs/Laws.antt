-- What is said of a topic's queue, and what an opening finds of it, rests on the files of its own queue on disk alone.
use Rattle.std.specs.Prelude.{ℕ, ◌≡◌, ◌≢◌, List, Option, IfSome}
use Rattle.nsq_outside.specs.Files.{Files}
use Rattle.queue_image.specs.FileNames.{IsOwnFile}
use Rattle.v2_frame.specs.declared.message.Message.{Message}
use Rattle.backlog.specs.Queues.{Seen as Queue}
use Rattle.backlog.specs.Opened.{FilesOfChange}
use Rattle.backlog.specs.Lists.{Stands, DiskChanges}
use Rattle.broker_history.specs.State.{Topic}
use Rattle.topic_core.specs.Seen.{Seen}
use Rattle.topic_core.specs.Kept.{IsNamed}
use Rattle.topic_core.specs.Rows.{IsTopicOf, FindsMessages, FindsLeft}

-- the files that the queue of this name reads and writes are as they were
abbrev pub OwnFilesStay : List ℕ → Files → Files → Type 0
OwnFilesStay name old new = (file : List ℕ) → IsOwnFile name file → new file ≡ old file

-- so are those of the queue on disk, where there is one
abbrev pub DiskStays : Option Queue → Files → Files → Type 0
DiskStays queue old new = IfSome queue (λ q. OwnFilesStay q.name old new)

-- then it is the same topic of a state
abbrev pub TopicsStay : Type 0
TopicsStay = (q : Seen) (old new : Files) (t : Topic) → DiskStays q.backlog.queue old new → IsTopicOf q old t → IsTopicOf q new t

-- what the last save left still stands
abbrev pub SavesStay : Type 0
SavesStay = (queue : Option Queue) (old new : Files) → DiskStays queue old new → Stands queue old → Stands queue new

-- an opening finds the same messages of the topic of that name
abbrev pub FindingsStay : Type 0
FindingsStay = (name : List ℕ) (old new : Files) (messages : List Message) → OwnFilesStay name old new → FindsMessages old name messages → FindsMessages new name messages

-- and all that was left of it
abbrev pub LeftStays : Type 0
LeftStays = (old new : Files) (t : Topic) → OwnFilesStay t.name old new → FindsLeft old t → FindsLeft new t

-- the files of a name are a topic's own, where it has that name
abbrev pub NamesTell : Type 0
NamesTell = (q : Seen) (old new : Files) → IsNamed q.name q.backlog → OwnFilesStay q.name old new → DiskStays q.backlog.queue old new

-- they stay where a queue of another name is opened
abbrev pub OpeningsStay : Type 0
OpeningsStay = (name other : List ℕ) (old new : Files) → other ≢ name → FilesOfChange other old new → OwnFilesStay name old new

-- and where a call of a backlog changes its own queue's, if it has one, which has another name
abbrev pub ChangesStay : Type 0
ChangesStay = (name : List ℕ) (queue : Option Queue) (old new : Files) → IfSome queue (λ q. q.name ≢ name) → DiskChanges queue old new → OwnFilesStay name old new
