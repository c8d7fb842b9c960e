-- What a stop leaves of a state in a folder's files, once all that was in memory is written.
use Rattle.std.specs.Prelude.{◌≡◌, ◌≢◌, ◌⊎◌, ◌≤◌, ◌<◌, ◌+◌, ◌-◌, ◌^◌, ℕ, min, Bool, false, IsTrue, List, [], length, All, Contains, Some, IfSome, slice_get}
use Rattle.nsq_base.specs.Name.{IsName, is_ephemeral}
use Rattle.nsq_base.specs.Names.{IsAscendingBy}
use Rattle.nsq_outside.specs.Files.{Files}
use Rattle.v2_frame.specs.declared.message.Message.{Message}
use Rattle.path_image.specs.Found.{HasMessages, Pairwise}
use Rattle.backlog.specs.Answers.{FlushFails}
use Rattle.backlog.specs.declared.answers.Flushed.{Flushed}
use Rattle.backlog.specs.declared.answers.Flushed.TheVariants.{Done, Fault}
use Rattle.broker_history.specs.State.{Channel, State, Topic, is_ephemeral_channel}
use Rattle.broker_history.specs.Left.{SameMessages, durable_channels, durable_topics, left_in_channel}
use Rattle.topic_core.specs.Laws.{OwnFilesStay}
use Rattle.topic_core.specs.Rows.{FindsLeft}
use Rattle.topic_core.specs.Seen.{IsSettled}
use Rattle.channel_core.specs.Seen.{queue_name}
use Rattle.channel_core.specs.declared.drawn.Drawn.TheVariants.{Nothing}
use Rattle.floor_rooms.specs.declared.hall.Hall.{Hall}
use Rattle.floor_rooms.specs.declared.room.Room.{Room}
use Rattle.floor_rooms.specs.declared.stall.Stall.{Stall}
use Rattle.floor_rooms.specs.Rooms.{channel_name, topic_name}
use Rattle.floor_rooms.specs.Standing.{HoldsFor, IsRoomOf, IsStallOf}
use Rattle.floor_rooms.specs.Changes.{OnlyQueueFiles}

-- an opening finds messages in the queue of this name: those that were left, each as often
pub record FindsQueue (left : List Message) (name : List ℕ) (files : Files) : Type 0 where
  pub messages : List Message
  pub found : HasMessages files name messages
  pub same : SameMessages left messages

-- so it finds all that was left of a channel of this topic
abbrev pub LeavesChannel : Files → (topic : List ℕ) → Channel → Type 0
LeavesChannel files topic k = FindsQueue (left_in_channel k) (queue_name topic k.name) files

-- and all that was left of a topic and of its durable channels
pub record LeavesTopic (files : Files) (t : Topic) : Type 0 where
  pub own : FindsLeft files t
  pub channels : All (LeavesChannel files t.name) (durable_channels t)

-- so it is of each durable topic of a state
abbrev pub LeavesAll : State → Files → Type 0
LeavesAll s files = All (LeavesTopic files) (durable_topics s)

-- where all was written
abbrev pub LeavesWhere : Flushed → State → Files → Type 0
LeavesWhere Done s files = LeavesAll s files
LeavesWhere Fault s files = Unit {0}

-- so it is of a topic and its durable channels but for the queues of these names
pub record LeavesTopicBut (missed : List (List ℕ)) (files : Files) (t : Topic) : Type 0 where
  pub own : Contains missed t.name ⊎ FindsLeft files t
  pub channels : All (λ (k : Channel). Contains missed (queue_name t.name k.name) ⊎ LeavesChannel files t.name k) (durable_channels t)

-- and of each durable topic of a state
abbrev pub LeavesBut : (missed : List (List ℕ)) → State → Files → Type 0
LeavesBut missed s files = All (LeavesTopicBut missed files) (durable_topics s)

-- no more queues are missed than the folder's count of faults rose, and none where all was written
pub record MissesFew (answer : Flushed) (before now : ℕ) (missed : List (List ℕ)) : Type 0 where
  pub done : answer ≡ Done → missed ≡ []
  pub rose : min (before + length missed) (2 ^ 64 - 1) ≤ now

-- a fault in one queue kept none of the others from being written
pub record LeavesOthers (answer : Flushed) (before now : ℕ) (h : Hall) (old new : Files) : Type 0 where
  pub missed : List (List ℕ)
  pub few : MissesFew answer before now missed
  pub left : (s : State) → HoldsFor h old s → LeavesBut missed s new

-- two answers together: a fault where one of them is
abbrev pub both_flushed : Flushed → Flushed → Flushed
both_flushed Done other = other
both_flushed Fault other = Fault

-- a channel of this topic that may be flushed: nothing of it is drawn, and its queue has its name
pub record CanFlushStall (topic : List ℕ) (s : Stall) : Type 0 where
  pub named : IsName (channel_name s)
  pub topic_is : s.channel.about.topic ≡ topic
  pub nothing : s.channel.drawn ≡ Nothing
  pub queue : IfSome s.channel.backlog.queue (λ q. q.name ≡ queue_name topic (channel_name s))

-- a topic that may be flushed with its channels
pub record CanFlushRoom (r : Room) : Type 0 where
  pub named : IsName (topic_name r)
  pub settled : IsSettled r.queue
  pub queue : IfSome r.queue.backlog.queue (λ q. q.name ≡ topic_name r)
  pub order : IsAscendingBy channel_name r.stalls.items
  pub stalls : All (CanFlushStall (topic_name r)) r.stalls.items

-- a flush leaves of a channel its names and whether it is paused
pub record KeepsStallNames (old new : Stall) : Type 0 where
  pub about : new.channel.about ≡ old.channel.about
  pub paused : new.channel.paused ≡ old.channel.paused

-- and of a topic, whose channels stay at their places
pub record KeepsRoomNames (old new : Room) : Type 0 where
  pub name : topic_name new ≡ topic_name old
  pub paused : new.queue.paused ≡ old.queue.paused
  pub stalls : Pairwise KeepsStallNames old.stalls.items new.stalls.items

-- the name of a queue that is neither this topic's own nor that of a channel of it
pub record IsOfOther (topic name : List ℕ) : Type 0 where
  pub own : name ≢ topic
  pub channels : (channel : List ℕ) → name ≢ queue_name topic channel

-- what flushing a topic with its channels leaves in the files: no other queue's change, and what was left of it is found but for a few queues
pub record FlushesRoom (answer : Flushed) (before now : ℕ) (r : Room) (old new : Files) : Type 0 where
  pub missed : List (List ℕ)
  pub few : MissesFew answer before now missed
  pub left : (t : Topic) → IsRoomOf old r t → is_ephemeral t.name ≡ false → LeavesTopicBut missed new t
  pub stays : (name : List ℕ) → IsOfOther (topic_name r) name → OwnFilesStay name old new

-- the first channels of a topic were flushed: of each durable one all that was left is found but for a few queues, and no queue's files changed but
-- theirs
pub record StallsLeft (answer : Flushed) (before now j : ℕ) (topic : List ℕ) (stalls : List Stall) (old new : Files) : Type 0 where
  pub missed : List (List ℕ)
  pub few : MissesFew answer before now missed
  pub left : (k : ℕ) (s : Stall) → k < j → slice_get stalls k ≡ Some s → (c : Channel) → IsStallOf old s c → is_ephemeral_channel topic (channel_name s) ≡ false
      → Contains missed (queue_name topic (channel_name s)) ⊎ FindsQueue (left_in_channel c) (queue_name topic (channel_name s)) new
  pub stays : (name : List ℕ) → ((k : ℕ) (s : Stall) → k < j → slice_get stalls k ≡ Some s → name ≢ queue_name topic (channel_name s)) → OwnFilesStay name old new

-- so many were; the others are as they were
pub record StallsSoFar (tells : Bool) (j : ℕ) (old new : Room) (answer : Flushed) (from to : Files) (before now : ℕ) : Type 0 where
  pub same : new ≡ record old { stalls = new.stalls }
  pub keeps : Pairwise KeepsStallNames old.stalls.items new.stalls.items
  pub later : (k : ℕ) → j ≤ k → slice_get new.stalls.items k ≡ slice_get old.stalls.items k
  pub left : IsTrue tells → StallsLeft answer before now j (topic_name old) old.stalls.items from to
  pub files : IsTrue tells → OnlyQueueFiles from to
  pub faults : before ≤ now
  pub cause : FlushFails before now answer

-- the first topics were flushed: what was left of each durable one is found but for a few queues, and no queue's files changed but theirs
pub record RoomsLeft (answer : Flushed) (before now i : ℕ) (rooms : List Room) (old new : Files) : Type 0 where
  pub missed : List (List ℕ)
  pub few : MissesFew answer before now missed
  pub left : (k : ℕ) (r : Room) → k < i → slice_get rooms k ≡ Some r → (t : Topic) → IsRoomOf old r t → is_ephemeral t.name ≡ false → LeavesTopicBut missed new t
  pub stays : (name : List ℕ) → ((k : ℕ) (r : Room) → k < i → slice_get rooms k ≡ Some r → IsOfOther (topic_name r) name) → OwnFilesStay name old new

-- so many were; the others are as they were
pub record RoomsSoFar (tells : Bool) (i : ℕ) (old new : Hall) (answer : Flushed) (from to : Files) (before now : ℕ) : Type 0 where
  pub rest : new ≡ record old { rooms = new.rooms }
  pub keeps : Pairwise KeepsRoomNames old.rooms.items new.rooms.items
  pub later : (k : ℕ) → i ≤ k → slice_get new.rooms.items k ≡ slice_get old.rooms.items k
  pub left : IsTrue tells → RoomsLeft answer before now i old.rooms.items from to
  pub files : IsTrue tells → OnlyQueueFiles from to
  pub faults : before ≤ now
  pub cause : FlushFails before now answer
