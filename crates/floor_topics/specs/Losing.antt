-- What a channel's deletion makes of a hall, and of a state.
use Rattle.std.specs.Prelude.{◌≡◌, ℕ, suc, Bool, nat_eq, if◌then◌else◌, List, ◌++◌, map, take, drop, Option, Some, None, IsSome, IsTrue, slice_get}
use Rattle.std.specs.List.{list_any}
use Rattle.std.specs.Global.{Vec}
use Rattle.nsq_outside.specs.Files.{Files}
use Rattle.nsq_outside.specs.Causes.{Rose}
use Rattle.v2_frame.specs.declared.message.Message.{Message}
use Rattle.backlog.specs.Lists.{OnDisk, Stands}
use Rattle.broker_history.specs.State.{Client, State, Topic, channel_of, topic_of, with_topic}
use Rattle.broker_history.specs.Changes.{lost, without_channel}
use Rattle.broker_history.specs.Topics.{owed_no_more}
use Rattle.channel_core.specs.Deleting.{DeleteFinds, HasAll, IsKeptBack}
use Rattle.channel_core.specs.declared.answers.DropChannel.TheVariants.{Done as IsDropped}
use Rattle.floor_rooms.specs.declared.stall.Stall.{Stall}
use Rattle.floor_rooms.specs.declared.room.Room.{Room}
use Rattle.floor_rooms.specs.Rooms.{channel_name}
use Rattle.floor_rooms.specs.Changes.{AtRoom, InRoom, KeepsRooms}
use Rattle.floor_topics.specs.declared.lost.Lost.{Lost}
use Rattle.floor_topics.specs.declared.lost.Lost.TheVariants.{Done, Fault}

-- the channel at a place of a topic went, nothing is owed to it any more, and nothing else changed of the topic
pub record LosesStall (j : ℕ) (channel : List ℕ) (old new : Room) : Type 0 where
  pub stall : Stall
  pub there : slice_get old.stalls.items j ≡ Some stall
  pub named : channel_name stall ≡ channel
  pub is : new ≡ record old { queue = record old.queue { head = owed_no_more old.queue.head channel }; names = None; stalls = new.stalls }
  pub left : new.stalls.items ≡ take j old.stalls.items ++ drop (suc j) old.stalls.items

-- of all topics one lost the channel, or all are as they were but for marks
abbrev pub LosesFrom : Lost → (at i j : ℕ) → (channel : List ℕ) → (old new : List Room) → Type 0
LosesFrom Done at i j channel old new = AtRoom i (LosesStall j channel) old new
LosesFrom Fault at i j channel old new = KeepsRooms at old new

-- the channel's clients lost it, or all are as they were
abbrev pub LosesClients : Lost → (topic channel : List ℕ) → (old new : List Client) → Type 0
LosesClients Done topic channel old new = new ≡ map (lost topic channel) old
LosesClients Fault topic channel old new = new ≡ old

-- the channel is gone from the state, and lost to its clients; its topic stays
pub record LosesChannel (topic channel : List ℕ) (s t : State) : Type 0 where
  pub of : Topic
  pub there : topic_of s topic ≡ Some of
  pub has : IsSome (channel_of of channel)
  pub is : t ≡ with_topic (record s { clients = map (lost topic channel) s.clients }) (without_channel of channel)

abbrev pub DropsChannel : Lost → (topic channel : List ℕ) → State → State → Type 0
DropsChannel Done topic channel s t = LosesChannel topic channel s t
DropsChannel Fault topic channel s t = t ≡ s

-- the client of a number, or of some numbers, lost a channel
abbrev pub lost_one : (number : ℕ) → (topic channel : List ℕ) → List Client → List Client
lost_one number topic channel clients = map (λ c. if nat_eq c.number number then lost topic channel c else c) clients

abbrev pub lost_among : (numbers : List ℕ) → (topic channel : List ℕ) → List Client → List Client
lost_among numbers topic channel clients = map (λ c. if list_any (nat_eq c.number) numbers then lost topic channel c else c) clients

-- a topic owes a channel nothing any more
abbrev pub Forgets : (channel : List ℕ) → Room → Room → Type 0
Forgets channel old new = new ≡ record old { queue = record old.queue { head = owed_no_more old.queue.head channel }; names = None }

-- a channel that could not be deleted is put back as it was
pub record StaysBack (tells : Bool) (before after : Files) (old new : Stall) : Type 0 where
  pub is : new ≡ record old { channel = new.channel }
  pub seen : IsKeptBack old.channel new.channel
  pub row : IsTrue tells → (disk : List Message) → OnDisk old.channel.backlog.queue before disk → HasAll old.channel new.channel disk after
  pub stands : IsTrue tells → Stands old.channel.backlog.queue before → Stands new.channel.backlog.queue after

-- it went from its topic, and these were its clients; an opening finds nothing in its queue
pub record TakesOut (j : ℕ) (tells : Bool) (after : Files) (answer : List ℕ) (old new : Room) : Type 0 where
  pub stall : Stall
  pub there : slice_get old.stalls.items j ≡ Some stall
  pub is : new ≡ record old { stalls = new.stalls }
  pub left : new.stalls.items ≡ take j old.stalls.items ++ drop (suc j) old.stalls.items
  pub members : answer ≡ stall.members.items
  pub found : IsTrue tells → DeleteFinds stall.channel.backlog.queue after IsDropped

abbrev pub TakesFrom : (j : ℕ) → (tells : Bool) → (before after : Files) → (old new : Room) → Option (Vec ℕ) → Type 0
TakesFrom j tells before after old new None = InRoom j (StaysBack tells before after) old new
TakesFrom j tells before after old new (Some members) = TakesOut j tells after members.items old new

abbrev pub TakeFails : (before now : ℕ) → Option (Vec ℕ) → Type 0
TakeFails before now None = Rose before now
TakeFails before now (Some members) = Unit {0}
