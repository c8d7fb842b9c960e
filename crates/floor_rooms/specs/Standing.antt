-- Which states a hall stands for in a folder's files.
use Rattle.std.specs.Prelude.{◌≡◌, ◌≤◌, ℕ, false, List, All, None, IfSome}
use Rattle.nsq_base.specs.Name.{IsName, is_ephemeral}
use Rattle.nsq_outside.specs.Files.{Files}
use Rattle.queue_image.specs.FileNames.{meta_file}
use Rattle.queue_image.specs.Metas.{IsIdle}
use Rattle.v2_frame.specs.declared.message.Message.{Message}
use Rattle.path_image.specs.Found.{Pairwise}
use Rattle.channel_core.specs.Lists.{OnDisk, Stands}
use Rattle.broker_history.specs.State.{Channel, Topic, State, is_ephemeral_channel}
use Rattle.broker_history.specs.Channels.{IsKept}
use Rattle.topic_core.specs.Rows.{IsTopicOf}
use Rattle.channel_core.specs.Seen.{seen_channel, queue_name}
use Rattle.floor_rooms.specs.declared.stall.Stall.{Stall}
use Rattle.floor_rooms.specs.declared.room.Room.{Room}
use Rattle.floor_rooms.specs.declared.hall.Hall.{Hall}
use Rattle.floor_rooms.specs.Rooms.{room_in, stall_at}

-- the longest delay that any options allow, 8760 hours in nanoseconds
abbrev pub longest_delay : ℕ
longest_delay = 31536000000000000

-- the stall is this channel of a state: it keeps its live copies, and what its queue's last save left still stands
pub record IsStallOf (files : Files) (s : Stall) (k : Channel) : Type 0 where
  pub disk : List Message
  pub on_disk : OnDisk s.channel.backlog.queue files disk
  pub is_kept : IsKept (seen_channel s.channel disk) k
  pub stands : Stands s.channel.backlog.queue files

-- the room is this topic of a state, with its channels pair by pair; no message waits with a longer delay than options allow
pub record IsRoomOf (files : Files) (r : Room) (t : Topic) : Type 0 where
  pub queue : IsTopicOf r.queue files t
  pub stands : Stands r.queue.backlog.queue files
  pub channels : Pairwise (IsStallOf files) r.stalls.items t.channels
  pub delays : All (λ w. w.message.delay ≤ longest_delay) t.waiting
  pub taken : IfSome t.taken (λ x. x.message.delay ≤ longest_delay)

-- a name of a topic, and of a channel of a topic, that has a queue on disk
abbrev pub IsDurableTopic : (name : List ℕ) → Type 0
IsDurableTopic name = IsName name × (is_ephemeral name ≡ false)

abbrev pub IsDurableChannel : (topic name : List ℕ) → Type 0
IsDurableChannel topic name = IsName name × (is_ephemeral_channel topic name ≡ false)

-- the hall's value is the state's in these files: it has its options, epoch, ids used, Stop and clients, its topics pair by pair, and no earlier
-- moment
pub record StandsFor (h : Hall) (files : Files) (s : State) : Type 0 where
  pub options : s.options ≡ h.options
  pub epoch : s.epoch ≡ h.epoch
  pub ids_used : s.ids_used ≡ h.ids_used
  pub moment : s.moment ≤ h.moment
  pub stopped : s.stopped ≡ h.stopped
  pub clients : s.clients ≡ h.clients.items
  pub topics : Pairwise (IsRoomOf files) h.rooms.items s.topics

-- a durable queue of a name that the hall doesn't have would begin with nothing
pub record AreIdle (h : Hall) (files : Files) : Type 0 where
  pub topics : (name : List ℕ) → IsDurableTopic name → room_in h.rooms.items name ≡ None → IsIdle (files (meta_file name))
  pub channels : (topic channel : List ℕ) → IsName topic → IsDurableChannel topic channel → stall_at h.rooms.items topic channel ≡ None → IsIdle (files (meta_file (queue_name topic channel)))

-- the hall stands for the state, whatever it goes on to make: so it does once each topic that a folder lists was opened
pub record HoldsFor (h : Hall) (files : Files) (s : State) : Type 0 where
  pub stands : StandsFor h files s
  pub idle : AreIdle h files

-- from each state that the hall stood for, the change leads to one that it stands for
abbrev pub Carries : (old : Hall) → (before : Files) → (new : Hall) → (after : Files) → (Does : State → State → Type 0) → Type 0
Carries old before new after Does = (s : State) → HoldsFor old before s → (t : State) × Does s t × HoldsFor new after t

-- the channel of a state changes by the row, and the stall is the changed one in these files
pub record LiftsTo (Row : Channel → Channel → Type 0) (files : Files) (s : Stall) (k : Channel) : Type 0 where
  pub to : Channel
  pub row : Row k to
  pub is : IsStallOf files s to
  pub named : to.name ≡ k.name
