-- What changes of a hall as one of its topics or of its channels does.
use Rattle.std.specs.Prelude.{◌≡◌, ◌≢◌, ◌⊎◌, ◌≤◌, ℕ, Bool, true, false, List, ◌∷◌, [], ◌++◌, All, if◌then◌else◌, Option, Some, None, IfSome, IsSome, slice_get, slice_set, option_and_then}
use Rattle.nsq_outside.specs.Files.{Files}
use Rattle.queue_image.specs.FileNames.{IsOwnFile, IsQueueName}
use Rattle.path_image.specs.Found.{Pairwise}
use Rattle.channel_core.specs.Backlogs.{SameQueue}
use Rattle.topic_core.specs.Laws.{OwnFilesStay}
use Rattle.topic_core.specs.Seen.{IsSettled, owed_of}
use Rattle.channel_core.specs.Clients.{client_of}
use Rattle.channel_core.specs.Seen.{queue_name}
use Rattle.channel_core.specs.declared.drawn.Drawn.TheVariants.{Nothing}
use Rattle.floor_rooms.specs.declared.stall.Stall.{Stall}
use Rattle.floor_rooms.specs.declared.room.Room.{Room}
use Rattle.floor_rooms.specs.declared.hall.Hall.{Hall}
use Rattle.floor_rooms.specs.Rooms.{channel_name, topic_name, stall_names, room_in, stall_in, stall_at, put_room, put_stall}
use Rattle.floor_rooms.specs.Sound.{IsSound, rests}

-- the files of all queues but the one of this name are as they were
abbrev pub OthersStay : (changed : List ℕ) → Files → Files → Type 0
OthersStay changed old new = (name : List ℕ) → name ≢ changed → OwnFilesStay name old new

-- one channel of the hall became another of its name, of a topic whose queue stays, with nothing else but marks and facts for speed; and on disk
-- nothing but the channel's queue changed
pub record StallChange (h h' : Hall) (old new : Files) (topic channel : List ℕ) (stall to : Stall) : Type 0 where
  pub room : Room
  pub after : Room
  pub there : room_in h.rooms.items topic ≡ Some room
  pub has : stall_in room.stalls.items channel ≡ Some stall
  pub named : channel_name to ≡ channel
  pub stalls : after.stalls.items ≡ put_stall room.stalls.items to
  pub queue : after.queue ≡ room.queue
  pub rooms : h'.rooms.items ≡ put_room h.rooms.items after
  pub options : h'.options ≡ h.options
  pub epoch : h'.epoch ≡ h.epoch
  pub ids_used : h'.ids_used ≡ h.ids_used
  pub moment : h.moment ≤ h'.moment
  pub stopped : h'.stopped ≡ h.stopped
  pub clients : h'.clients.items ≡ h.clients.items
  pub others : OthersStay (queue_name topic channel) old new

-- the room at a place became another one
pub record AtRoom (i : ℕ) (Does : Room → Room → Type 0) (old new : List Room) : Type 0 where
  pub room : Room
  pub after : Room
  pub there : slice_get old i ≡ Some room
  pub is : new ≡ slice_set old i after
  pub does : Does room after

-- the stall at a place of a room became another one, and nothing else of the room
pub record InRoom (j : ℕ) (Does : Stall → Stall → Type 0) (old new : Room) : Type 0 where
  pub stall : Stall
  pub after : Stall
  pub there : slice_get old.stalls.items j ≡ Some stall
  pub is : new ≡ record old { stalls = new.stalls }
  pub stalls : new.stalls.items ≡ slice_set old.stalls.items j after
  pub does : Does stall after

abbrev pub AtStall : (i j : ℕ) → (Stall → Stall → Type 0) → (old new : List Room) → Type 0
AtStall i j Does old new = AtRoom i (InRoom j Does) old new

-- since when a queue may be unsaved, where it may be from this moment on
abbrev pub marked : Option ℕ → (at : ℕ) → Option ℕ
marked None at = Some at
marked (Some since) at = Some since

-- calls of its channel leave of a stall its name, its queue's name, its clients and its mark, nothing is drawn afterwards, and where it isn't
-- marked the queue stays
pub record TouchesStall (old new : Stall) : Type 0 where
  pub about : new.channel.about ≡ old.channel.about
  pub drawn : new.channel.drawn ≡ Nothing
  pub queue : SameQueue old.channel.backlog.queue new.channel.backlog.queue
  pub clients : (n : ℕ) → client_of new.channel.clients n ≡ client_of old.channel.clients n
  pub members : new.members.items ≡ old.members.items
  pub since : new.since ≡ old.since
  pub marked : IsSome old.since ⊎ (new.channel.backlog.queue ≡ old.channel.backlog.queue)

-- calls of its queue leave of a room its name, its queue's name and room, its channels and its mark, nothing is drawn afterwards, each channel that
-- is owed a copy is there, where it isn't marked the queue on disk stays, and where it isn't listed it rests
pub record TouchesRoom (old new : Room) : Type 0 where
  pub name : new.queue.name ≡ old.queue.name
  pub settled : IsSettled new.queue
  pub queue : SameQueue old.queue.backlog.queue new.queue.backlog.queue
  pub capacity : new.queue.backlog.capacity ≡ old.queue.backlog.capacity
  pub names : IfSome new.names (λ names. names ≡ (topic_name old, stall_names old) ∷ [])
  pub stalls : new.stalls.items ≡ old.stalls.items
  pub owed : All (λ name. IsSome (stall_in old.stalls.items name)) (owed_of new.queue.head)
  pub since : new.since ≡ old.since
  pub marked : IsSome old.since ⊎ (new.queue.backlog.queue ≡ old.queue.backlog.queue)
  pub listed : new.listed ≡ true → old.listed ≡ true
  pub rests : new.listed ≡ false → rests new ≡ true

-- so one channel of a sound hall was touched, and nothing else
pub record Touches (i j : ℕ) (old new : Hall) : Type 0 where
  pub sound : IsSound old
  pub rest : new ≡ record old { rooms = new.rooms }
  pub stall : AtStall i j TouchesStall old.rooms.items new.rooms.items

-- the names of topics that may have something to do, with this one at the end unless it is among them already
abbrev pub listed_with : List (List ℕ) → (listed : Bool) → (name : List ℕ) → List (List ℕ)
listed_with pending listed name = if listed then pending else pending ++ name ∷ []

-- since when a queue may be unsaved: a mark stays, and one that is new is of this moment
abbrev pub SinceStays : (at : ℕ) → Option ℕ → Option ℕ → Type 0
SinceStays at (Some moment) since = since ≡ Some moment
SinceStays at None since = IfSome since (λ moment. moment ≡ at)

-- what a move leaves of a channel: what options and names made it, its pause, its clients' numbers and its mark
pub record KeepsStall (at : ℕ) (old new : Stall) : Type 0 where
  pub about : new.channel.about ≡ old.channel.about
  pub paused : new.channel.paused ≡ old.channel.paused
  pub members : new.members.items ≡ old.members.items
  pub since : SinceStays at old.since new.since

-- and of a topic with its channels, which stay at their places
pub record KeepsRoom (at : ℕ) (old new : Room) : Type 0 where
  pub name : topic_name new ≡ topic_name old
  pub paused : new.queue.paused ≡ old.queue.paused
  pub since : SinceStays at old.since new.since
  pub stalls : Pairwise (KeepsStall at) old.stalls.items new.stalls.items

-- and of all topics, which stay at their places
abbrev pub KeepsRooms : (at : ℕ) → (old new : List Room) → Type 0
KeepsRooms at old new = Pairwise (KeepsRoom at) old new

-- since when a topic's queue, and a channel's, may be unsaved, where it is there
abbrev pub room_since : List Room → (topic : List ℕ) → Option ℕ
room_since rooms topic = option_and_then (λ (r : Room). r.since) (room_in rooms topic)

abbrev pub stall_since : List Room → (topic channel : List ℕ) → Option ℕ
stall_since rooms topic channel = option_and_then (λ (s : Stall). s.since) (stall_at rooms topic channel)

-- no mark of a queue that is there begins anew, whatever topics and channels come and go
pub record KeepsSince (at : ℕ) (old new : List Room) : Type 0 where
  pub topics : (topic : List ℕ) → IfSome (room_in new topic) (λ r. SinceStays at (room_since old topic) r.since)
  pub channels : (topic channel : List ℕ) → IfSome (stall_at new topic channel) (λ s. SinceStays at (stall_since old topic channel) s.since)

-- no file changed but those of queues
abbrev pub OnlyQueueFiles : Files → Files → Type 0
OnlyQueueFiles old new = (file : List ℕ) → ((name : List ℕ) → IsQueueName name → IsOwnFile name file → ⊥) → new file ≡ old file
