-- What saving queues makes of a hall.
use Rattle.std.specs.Prelude.{◌≡◌, ◌⊎◌, ◌≤◌, ◌<◌, ◌+◌, ℕ, Bool, true, false, IsTrue, List, Option, Some, None, IfSome, All}
use Rattle.std.specs.List.{AllWithin}
use Rattle.nsq_outside.specs.Causes.{Rose}
use Rattle.nsq_outside.specs.Files.{Files}
use Rattle.v2_frame.specs.declared.message.Message.{Message}
use Rattle.path_image.specs.Found.{Pairwise}
use Rattle.disk_queue.specs.Seen.{Seen as Queue}
use Rattle.disk_queue.specs.declared.answers.Sync.{Sync}
use Rattle.disk_queue.specs.declared.answers.Sync.TheVariants.{NotDue, Done, Failed}
use Rattle.backlog.specs.Seen.{QueueIsSaved, SameQueue, disk_depth}
use Rattle.backlog.specs.Lists.{DiskChanges, OnDisk, Stands}
use Rattle.broker_history.specs.State.{State}
use Rattle.channel_copies.specs.Putting.{KeepsDisk, around}
use Rattle.topic_core.specs.Rows.{Stays}
use Rattle.floor_rooms.specs.declared.hall.Hall.{Hall}
use Rattle.floor_rooms.specs.declared.room.Room.{Room}
use Rattle.floor_rooms.specs.declared.stall.Stall.{Stall}
use Rattle.floor_rooms.specs.Rooms.{room_in, stall_at}
use Rattle.floor_rooms.specs.Changes.{OnlyQueueFiles, room_since, stall_since}
use Rattle.floor_rooms.specs.Sound.{IsSound}
use Rattle.floor_rooms.specs.Standing.{HoldsFor}
use Rattle.floor_files.specs.Timely.{HasFailed, IsQueueTimely, mark_or_last}

-- a mark stays as it is, or goes
abbrev pub MarkGoes : (old new : Option ℕ) → Type 0
MarkGoes old new = IfSome new (λ moment. old ≡ Some moment)

-- a queue isn't marked, or was marked less than the timeout before this moment
abbrev pub IsNotDue : (at timeout : ℕ) → (since : Option ℕ) → Type 0
IsNotDue at timeout since = IfSome since (λ moment. at < moment + timeout)

-- saving changes nothing of a channel but what is known of its queue on disk, and its mark, which stays or goes; and nothing at all where the queue
-- isn't due
pub record ClearsStall (at timeout : ℕ) (old new : Stall) : Type 0 where
  pub same : new ≡ record old { channel = record (old.channel) { backlog = record (old.channel.backlog) { queue = new.channel.backlog.queue } }; since = new.since }
  pub queue : SameQueue old.channel.backlog.queue new.channel.backlog.queue
  pub since : MarkGoes old.since new.since
  pub early : IsNotDue at timeout old.since → new ≡ old

-- nor of a topic, whose channels stay at their places
pub record ClearsRoom (at timeout : ℕ) (old new : Room) : Type 0 where
  pub same : new ≡ record old { queue = record (old.queue) { backlog = record (old.queue.backlog) { queue = new.queue.backlog.queue } }; since = new.since; stalls = new.stalls }
  pub queue : SameQueue old.queue.backlog.queue new.queue.backlog.queue
  pub since : MarkGoes old.since new.since
  pub early : IsNotDue at timeout old.since → new ≡ record old { stalls = new.stalls }
  pub stalls : Pairwise (ClearsStall at timeout) old.stalls.items new.stalls.items

abbrev pub ClearsRooms : (at timeout : ℕ) → (old new : List Room) → Type 0
ClearsRooms at timeout old new = Pairwise (ClearsRoom at timeout) old new

-- no queue is marked that wasn't marked since the same moment
pub record MarksGo (old new : List Room) : Type 0 where
  pub topics : (topic : List ℕ) → IfSome (room_in new topic) (λ r. MarkGoes (room_since old topic) r.since)
  pub channels : (topic channel : List ℕ) → IfSome (stall_at new topic channel) (λ s. MarkGoes (stall_since old topic channel) s.since)

-- whether a save failed
abbrev pub is_failed : Sync → Bool
is_failed NotDue = false
is_failed Done = false
is_failed Failed = true

-- what becomes of a queue and its mark: where it isn't marked, or was marked lately, both stay; else it is saved and its mark goes, or the save
-- failed, the folder's count rose, and the mark stays
pub data SavesMark (at timeout : ℕ) (before now : ℕ) (since since' : Option ℕ) (queue queue' : Option Queue) : Type 0 where
  stays : since' ≡ since → queue' ≡ queue → IsNotDue at timeout since → SavesMark at timeout before now since since' queue queue'
  saved : (moment : ℕ) → since ≡ Some moment → moment + timeout ≤ at → since' ≡ None → QueueIsSaved queue' → SavesMark at timeout before now since since' queue queue'
  failed : (moment : ℕ) → since ≡ Some moment → moment + timeout ≤ at → since' ≡ since → HasFailed queue' → Rose before now → SavesMark at timeout before now since since' queue queue'

-- saving the queue of a topic, and the mark that is left
pub record SavesRoom (tells : Bool) (at timeout least : ℕ) (old new : Files) (before now : ℕ) (a b : Room) : Type 0 where
  pub same : b ≡ record a { queue = record (a.queue) { backlog = record (a.queue.backlog) { queue = b.queue.backlog.queue } }; since = b.since }
  pub queue : SameQueue a.queue.backlog.queue b.queue.backlog.queue
  pub depth : disk_depth b.queue.backlog.queue ≡ disk_depth a.queue.backlog.queue
  pub mark : SavesMark at timeout before now a.since b.since a.queue.backlog.queue b.queue.backlog.queue
  pub left : least ≡ mark_or_last b.since
  pub row : IsTrue tells → Stays a.queue old b.queue new
  pub stands : IsTrue tells → Stands a.queue.backlog.queue old → Stands b.queue.backlog.queue new
  pub others : IsTrue tells → DiskChanges a.queue.backlog.queue old new
  pub faults : before ≤ now

-- and that of a channel
pub record SavesStall (tells : Bool) (at timeout least : ℕ) (old new : Files) (before now : ℕ) (a b : Stall) : Type 0 where
  pub same : b ≡ record a { channel = record (a.channel) { backlog = record (a.channel.backlog) { queue = b.channel.backlog.queue } }; since = b.since }
  pub mark : SavesMark at timeout before now a.since b.since a.channel.backlog.queue b.channel.backlog.queue
  pub left : least ≡ mark_or_last b.since
  pub list : IsTrue tells → (disk : List Message) → OnDisk a.channel.backlog.queue old disk → OnDisk b.channel.backlog.queue new disk
  pub disk : KeepsDisk tells (around a.channel.backlog old before) (around b.channel.backlog new now)

-- a queue that was looked at is timely, or its save failed in these calls; and its mark is no earlier than the least
pub record IsQueueDone (at timeout least before now : ℕ) (since : Option ℕ) (queue : Option Queue) : Type 0 where
  pub later : IfSome since (λ moment. least ≤ moment)
  pub timely : IsQueueTimely at timeout since queue ⊎ (HasFailed queue × Rose before now)

-- so are a topic's queue and its first channels'
pub record IsRoomBegun (at timeout least before now j : ℕ) (r : Room) : Type 0 where
  pub queue : IsQueueDone at timeout least before now r.since r.queue.backlog.queue
  pub stalls : AllWithin (λ (s : Stall). IsQueueDone at timeout least before now s.since s.channel.backlog.queue) r.stalls.items 0 j

-- and all of them
pub record IsRoomDone (at timeout least before now : ℕ) (r : Room) : Type 0 where
  pub queue : IsQueueDone at timeout least before now r.since r.queue.backlog.queue
  pub stalls : All (λ (s : Stall). IsQueueDone at timeout least before now s.since s.channel.backlog.queue) r.stalls.items

-- the least mark that is left comes to be due later than now, unless a save failed
abbrev pub IsSoon : (at timeout least before now : ℕ) → Type 0
IsSoon at timeout least before now = (at < least + timeout) ⊎ Rose before now

-- what saves make of a hall, of the folder's files and of its count of faults: the hall stands for the same states
pub record Synced (tells : Bool) (h h' : Hall) (old new : Files) (before now : ℕ) : Type 0 where
  pub rest : h' ≡ record h { rooms = h'.rooms }
  pub rooms : ClearsRooms h.moment h.options.sync_timeout h.rooms.items h'.rooms.items
  pub sound : IsSound h'
  pub told : IsTrue tells → (s : State) → HoldsFor h old s → HoldsFor h' new s
  pub files : IsTrue tells → OnlyQueueFiles old new
  pub faults : before ≤ now
