-- A hall, a topic and a channel as they are made.
use Rattle.std.specs.Prelude.{◌≡◌, ℕ, ◌||◌, true, false, not, List, [], ◌∷◌, Some, None}
use Rattle.nsq_base.specs.Name.{IsName, is_ephemeral}
use Rattle.nsq_base.specs.declared.options.Options.{Options}
use Rattle.nsq_outside.specs.Files.{Files}
use Rattle.queue_image.specs.FileNames.{meta_file}
use Rattle.queue_image.specs.Metas.{IsIdle}
use Rattle.broker_history.specs.State.{State, is_ephemeral_channel}
use Rattle.topic_core.specs.Seen.{fresh_topic}
use Rattle.channel_core.specs.Made.{IsFresh}
use Rattle.channel_core.specs.Seen.{queue_name}
use Rattle.floor_rooms.specs.declared.stall.Stall.{Stall}
use Rattle.floor_rooms.specs.declared.room.Room.{Room}
use Rattle.floor_rooms.specs.declared.hall.Hall.{Hall}
use Rattle.floor_rooms.specs.Rooms.{topic_name, room_in, put_room, put_stall}
use Rattle.floor_rooms.specs.Standing.{IsDurableTopic, IsDurableChannel}
use Rattle.floor_rooms.specs.Changes.{listed_with}

-- the state of a daemon that has no topic and no client yet
abbrev pub empty_state : Options → (epoch moment : ℕ) → State
empty_state options epoch moment = record { options = options; epoch = epoch; ids_used = 0; moment = moment; stopped = false; began = []; clients = []; topics = [] }

-- no queue that a topic or a channel could have would begin with a message
pub record IsUnused (files : Files) : Type 0 where
  pub topics : (name : List ℕ) → IsDurableTopic name → IsIdle (files (meta_file name))
  pub channels : (topic channel : List ℕ) → IsName topic → IsDurableChannel topic channel → IsIdle (files (meta_file (queue_name topic channel)))

-- where there is a queue of this topic, or of this channel, it would begin with nothing
abbrev pub BeginsIdle : Files → (topic : List ℕ) → Type 0
BeginsIdle files topic = is_ephemeral topic ≡ false → IsIdle (files (meta_file topic))

abbrev pub ChannelBeginsIdle : Files → (topic name : List ℕ) → Type 0
ChannelBeginsIdle files topic name = is_ephemeral_channel topic name ≡ false → IsIdle (files (meta_file (queue_name topic name)))

-- a hall with no topic and no client
pub record IsEmptyHall (with_options : Options) (of_epoch at : ℕ) (h : Hall) : Type 0 where
  pub options : h.options ≡ with_options
  pub epoch : h.epoch ≡ of_epoch
  pub began_at : h.began_at ≡ at
  pub ids_used : h.ids_used ≡ 0
  pub moment : h.moment ≡ at
  pub stopped : h.stopped ≡ false
  pub stuck : h.stuck ≡ false
  pub unsaved_names : h.unsaved_names ≡ false
  pub clients : h.clients.items ≡ []
  pub rooms : h.rooms.items ≡ []
  pub pending : h.pending.items ≡ []

-- a topic as it is made: it has no channel, and its queue is saved
pub record IsFreshRoom (topic : List ℕ) (options : Options) (r : Room) : Type 0 where
  pub named : IsName topic
  pub queue : r.queue ≡ fresh_topic topic options
  pub since : r.since ≡ None
  pub listed : r.listed ≡ false
  pub names : r.names ≡ None
  pub stalls : r.stalls.items ≡ []

-- a channel as it is made: it has no client, and its queue is saved
pub record IsFreshStall (topic name : List ℕ) (options : Options) (s : Stall) : Type 0 where
  pub named : IsName name
  pub channel : IsFresh topic name options s.channel
  pub since : s.since ≡ None
  pub members : s.members.items ≡ []

-- a topic with one channel, as both are made
pub record IsRoomWith (topic name : List ℕ) (options : Options) (r : Room) : Type 0 where
  pub named : IsName topic
  pub queue : r.queue ≡ fresh_topic topic options
  pub since : r.since ≡ None
  pub listed : r.listed ≡ false
  pub names : r.names ≡ None
  pub stall : Stall
  pub stalls : r.stalls.items ≡ stall ∷ []
  pub fresh : IsFreshStall topic name options stall

-- making a topic leaves one of that name as it is, and else puts a new one in, which changes durable names
pub data MakesRoom (topic : List ℕ) (old new : Hall) : Type 0 where
  was_there : (room : Room) → room_in old.rooms.items topic ≡ Some room → new.rooms.items ≡ old.rooms.items → new.unsaved_names ≡ old.unsaved_names → MakesRoom topic old new
  is_new : (room : Room) → room_in old.rooms.items topic ≡ None → IsFreshRoom topic old.options room → new.rooms.items ≡ put_room old.rooms.items room → new.unsaved_names ≡ (old.unsaved_names || not (is_ephemeral topic)) → MakesRoom topic old new

-- after want of memory a hall has the topics that it had
pub record IsUnmade (old new : Hall) : Type 0 where
  pub rooms : new.rooms.items ≡ old.rooms.items
  pub unsaved_names : new.unsaved_names ≡ old.unsaved_names

-- a channel was put into a topic, which is among those that may have something to do from then on
pub record AddsStall (stall : Stall) (before after : List (List ℕ)) (old new : Room) : Type 0 where
  pub is : new ≡ record old { listed = true; names = None; stalls = new.stalls }
  pub stalls : new.stalls.items ≡ put_stall old.stalls.items stall
  pub pending : after ≡ listed_with before old.listed (topic_name old)

-- a topic's list of channels has more room, and nothing else changed of it
pub record SameStalls (old new : Room) : Type 0 where
  pub is : new ≡ record old { stalls = new.stalls }
  pub stalls : new.stalls.items ≡ old.stalls.items
