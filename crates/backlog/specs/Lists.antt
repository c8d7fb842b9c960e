-- The list of a backlog: the messages of its ring, and then those on disk.
use Rattle.std.specs.Prelude.{ℕ, ◌≡◌, ◌≢◌, ◌+◌, ◌-◌, List, [], ◌∷◌, ◌++◌, All, length, take, drop, map, Option, Some, None, IfSome}
use Rattle.nsq_outside.specs.Files.{Files, SameFiles}
use Rattle.nsq_outside.specs.declared.did.Did.{Did}
use Rattle.nsq_outside.specs.declared.did.Did.TheVariants as did
use Rattle.queue_image.specs.Finds.{IsFound, Records}
use Rattle.v2_frame.specs.Messages.{FitsItsBytes}
use Rattle.v2_frame.specs.Written.{message_bytes}
use Rattle.v2_frame.specs.declared.message.Message.{Message}
use Rattle.disk_queue.specs.Seen.{Seen as Queue}
use Rattle.disk_queue.specs.Holding.{Holds, SaveStands, OwnChange}
use Rattle.disk_queue.specs.Answers.{FoundUnlessFailed}
use Rattle.disk_queue.specs.Opened.{RefusedWhere}
use Rattle.disk_queue.specs.Open.{Open}
use Rattle.disk_queue.specs.declared.answers.Sync.{Sync}
use Rattle.disk_queue.specs.declared.answers.Emptied.{Emptied}
use Rattle.disk_queue.specs.declared.answers.Emptied.TheVariants as emptying
use Rattle.backlog.specs.Seen.{Seen, longest_body, room, with_lent}
use Rattle.backlog.specs.declared.backlog.Lent.{Lent}
use Rattle.backlog.specs.declared.backlog.Lent.TheVariants.{Nothing, OfRing, OfDisk}
use Rattle.backlog.specs.declared.answers.PutOne.{PutOne}
use Rattle.backlog.specs.declared.answers.PutOne.TheVariants.{Kept, Dropped, Spilled, Fault}
use Rattle.backlog.specs.declared.answers.PutAll.{PutAll}
use Rattle.backlog.specs.declared.answers.PutAll.TheVariants.{Done as AllDone, Fault as AllFault}
use Rattle.backlog.specs.declared.answers.Drawn.{Drawn}
use Rattle.backlog.specs.declared.answers.Drawn.TheVariants as drawn
use Rattle.backlog.specs.declared.answers.Flushed.{Flushed}
use Rattle.backlog.specs.declared.answers.Flushed.TheVariants.{Done as FlushDone, Fault as FlushFault}

-- a message as it comes back from disk: without its delay
abbrev pub stored : Message → Message
stored message = record message { delay = 0 }

-- a message that disk gives back as it is
pub record IsStored (message : Message) : Type 0 where
  pub fits : FitsItsBytes message
  pub no_delay : message.delay ≡ 0

-- the queue's list is these messages, each in its bytes, and nothing is staged
pub record HoldsAll (q : Queue) (files : Files) (messages : List Message) : Type 0 where
  pub list : Holds q files (map message_bytes messages) []
  pub stored : All IsStored messages

-- these messages are on disk; none where there is no queue
abbrev pub OnDisk : Option Queue → Files → List Message → Type 0
OnDisk None files messages = messages ≡ []
OnDisk (Some q) files messages = HoldsAll q files messages

-- what the queue's last save left still stands
abbrev pub Stands : Option Queue → Files → Type 0
Stands queue files = IfSome queue (λ q. SaveStands q files)

-- no file changes but the queue's own; without a queue none does
abbrev pub DiskChanges : Option Queue → Files → Files → Type 0
DiskChanges None old new = SameFiles old new
DiskChanges (Some q) old new = OwnChange q.name old new

-- the list of a backlog that has these messages on disk, and of which this message was drawn, where one is: that one is still the first
abbrev pub list_with : Seen → Message → List Message → List Message
list_with b first disk = with_lent b.lent first b.ring ++ disk

-- the message is the first of the list
pub record IsFirstMessage (messages : List Message) (message : Message) : Type 0 where
  pub rest : List Message
  pub whole : messages ≡ message ∷ rest

-- the messages on disk after one was put
abbrev pub disk_after : List Message → Message → PutOne → List Message
disk_after disk message Kept = disk
disk_after disk message Dropped = disk
disk_after disk message Spilled = disk ++ stored message ∷ []
disk_after disk message (Fault back) = disk

-- the messages on disk after these were written behind them, or none
abbrev pub disk_spilled : List Message → List Message → Did → List Message
disk_spilled disk messages did.Done = disk ++ map stored messages
disk_spilled disk messages did.Failed = disk

-- those of these messages that go to disk, where there is one
abbrev pub spilled : Option Queue → List Message → List Message
spilled None messages = []
spilled (Some q) messages = map stored messages

-- the messages on disk after these were put
abbrev pub disk_after_all : Seen → List Message → List Message → PutAll → List Message
disk_after_all b disk messages AllDone = disk ++ spilled b.queue (drop (room b) messages)
disk_after_all b disk messages AllFault = disk

-- what a drawing gives, of the list that these messages on disk make: the first, which stays the first until it is settled; Empty only where
-- there is none; want of memory only where there is one; no file is damaged
abbrev pub DrawGives : Seen → Seen → List Message → Drawn → Type 0
DrawGives old new disk (drawn.Got message) = IsFirstMessage (old.ring ++ disk) message × (list_with new message disk ≡ old.ring ++ disk)
DrawGives old new disk drawn.Empty = old.ring ++ disk ≡ []
DrawGives old new disk drawn.Fault = Unit {0}
DrawGives old new disk drawn.Damaged = ⊥
DrawGives old new disk drawn.Memory = old.ring ++ disk ≢ []

-- the messages on disk after the drawn one was settled
abbrev pub disk_settled : Lent → List Message → List Message
disk_settled Nothing disk = disk
disk_settled OfRing disk = disk
disk_settled OfDisk disk = drop 1 disk

-- the first of the list went, whatever it was, and the others stay in their order
abbrev pub SettlesFirst : Seen → Seen → List Message → Type 0
SettlesFirst old new disk = (first : Message) → new.ring ++ disk_settled old.lent disk ≡ drop 1 (list_with old first disk)

-- the messages on disk after a flush: the ring's that left it are behind those that were there
abbrev pub disk_flushed : Seen → Seen → List Message → List Message
disk_flushed old new disk = disk ++ map stored (take (length old.ring - length new.ring) old.ring)

-- an opening of the queue finds these messages, in their order, and no bad file
abbrev pub QueueFinds : Option Queue → Files → List Message → Type 0
QueueFinds None files messages = Unit {0}
QueueFinds (Some q) files messages = IsFound 26 (26 + longest_body) files q.name (Records (map message_bytes messages) [])

-- so it is after a flush that is Done, with all that waited
abbrev pub FlushFinds : Seen → Files → List Message → Flushed → Type 0
FlushFinds old files disk FlushDone = QueueFinds old.queue files (disk ++ map stored old.ring)
FlushFinds old files disk FlushFault = Unit {0}

-- and after a save that didn't fail, or wasn't due
abbrev pub SyncFinds : Option Queue → Files → List Message → Sync → Type 0
SyncFinds None files disk answer = Unit {0}
SyncFinds (Some q) files disk answer = FoundUnlessFailed q files (map message_bytes disk) answer

-- the messages on disk after emptying
abbrev pub disk_emptied : List Message → Emptied → List Message
disk_emptied disk emptying.Done = []
disk_emptied disk emptying.Fault = disk

-- after emptying an opening finds nothing, whatever the files held before
abbrev pub EmptyFinds : Option Queue → Files → Emptied → Type 0
EmptyFinds queue files emptying.Done = QueueFinds queue files []
EmptyFinds queue files emptying.Fault = Unit {0}

-- a change of putting one: a message that the ring takes, or that is dropped, changes no file
abbrev pub PutChanges : Option Queue → Files → Files → PutOne → Type 0
PutChanges queue old new Kept = SameFiles old new
PutChanges queue old new Dropped = SameFiles old new
PutChanges queue old new Spilled = DiskChanges queue old new
PutChanges queue old new (Fault back) = DiskChanges queue old new

-- an opening found these messages, each in its bytes, whatever files were bad. The bodies that it found, whatever they are, are those that
-- the queue then has
pub record WasFound (name : List ℕ) (files : Files) (messages : List Message) : Type 0 where
  pub bad : List ℕ
  pub found : IsFound 26 (26 + longest_body) files name (Records (map message_bytes messages) bad)
  pub stored : All IsStored messages

-- an opening finds a list in the old files, and it finds the same one in the new files, and no bad file there
pub record IsFoundAgain (name : List ℕ) (old new : Files) : Type 0 where
  pub bodies : List (List ℕ)
  pub bad : List ℕ
  pub found : IsFound 26 (26 + longest_body) old name (Records bodies bad)
  pub again : IsFound 26 (26 + longest_body) new name (Records bodies [])

-- an opening that was refused: BadMeta only where the metadata is not in its grammar, and then no file changed; nor did one where memory was
-- wanting
abbrev pub OpenRefused : List ℕ → Files → Files → Open → Type 0
OpenRefused name old new why = RefusedWhere 26 (26 + longest_body) name old new why
