-- What is seen of a channel, and which channel of the broker's state that is.
use Rattle.std.specs.Prelude.{ℕ, ◌+◌, ◌≤◌, Bool, List, ◌++◌, map, length, codes}
use Rattle.v2_frame.specs.declared.message.Message.{Message}
use Rattle.backlog.specs.Seen.{Seen as Backlog}
use Rattle.backlog.specs.Lists.{list_with}
use Rattle.broker_history.specs.State.{Queued, InFlight, Deferred, Copy, Channel, is_ephemeral_channel}
use Rattle.broker_history.specs.Channels.{Room, copy_at}
use Rattle.channel_copies.specs.declared.clients.Client.{Client}
use Rattle.channel_copies.specs.declared.flight.Flight.{Flight}
use Rattle.channel_copies.specs.Deferred.{Waiting}
use Rattle.channel_core.specs.declared.about.About.{About}
use Rattle.channel_core.specs.declared.drawn.Drawn.{Drawn}

-- a channel: what it was told at its making, whether it is paused, its counts, what waits in it, its copies in flight, its clients, its deferred
-- copies, for how many more in flight and deferred there is room, and what was drawn and isn't settled yet
pub record Seen : Type 0 where
  pub about : About
  pub paused : Bool
  pub message_count : ℕ
  pub requeue_count : ℕ
  pub timeout_count : ℕ
  pub backlog : Backlog
  pub flights : List Flight
  pub clients : List (ℕ × Client)
  pub deferred : List Waiting
  pub spare : ℕ
  pub deferred_spare : ℕ
  pub drawn : Drawn

-- messages as copies at their places
abbrev pub queued_copy : Message → Copy
queued_copy m = copy_at m Queued

abbrev pub flying_copy : Flight → Copy
flying_copy f = copy_at f.message (InFlight f.client f.due f.sent)

abbrev pub deferred_copy : Waiting → Copy
deferred_copy w = copy_at w.message (Deferred w.due)

-- all copies that aren't done with, where these messages are queued
abbrev pub copies_of : (queued : List Message) → List Flight → List Waiting → List Copy
copies_of queued flights deferred = map queued_copy queued ++ (map flying_copy flights ++ map deferred_copy deferred)

-- the channel of the state, where these messages are queued
abbrev pub channel_with : Seen → (queued : List Message) → Channel
channel_with v queued = record {
  name = v.about.name;
  paused = v.paused;
  message_count = v.message_count;
  requeue_count = v.requeue_count;
  timeout_count = v.timeout_count;
  copies = copies_of queued v.flights v.deferred;
}

-- what is queued where these messages are on disk: nothing is drawn; or this message is, and it is still the first
abbrev pub queued_in : Seen → (disk : List Message) → List Message
queued_in v disk = v.backlog.ring ++ disk

abbrev pub drawn_in : (first : Message) → Seen → (disk : List Message) → List Message
drawn_in first v disk = list_with v.backlog first disk

-- the channel where nothing is drawn and these messages are on disk
abbrev pub seen_channel : Seen → (disk : List Message) → Channel
seen_channel v disk = channel_with v (queued_in v disk)

-- how much room the channel has, by what it was told at its making: what finds it full is dropped where the channel is ephemeral
abbrev pub room_of : Seen → Room
room_of v = record { ephemeral = is_ephemeral_channel v.about.topic v.about.name; mem = v.about.mem_queue_size }

-- the name of a channel's queue: the topic, a colon and the channel
abbrev pub queue_name : (topic name : List ℕ) → List ℕ
queue_name topic name = topic ++ (codes ":" ++ name)

-- there is room for one more in flight, and to defer it later
pub record HasRoom (v : Seen) : Type 0 where
  pub flying : 1 ≤ v.spare
  pub deferred : length v.flights + 1 ≤ v.deferred_spare
