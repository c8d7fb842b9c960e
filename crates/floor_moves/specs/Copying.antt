-- What becomes of a topic and of its channel as the channel gets its copy of the message that was taken.
use Rattle.std.specs.Prelude.{◌≡◌, ℕ, min, Bool, true, IsTrue, IsSome, List, Option, Some, None, slice_get}
use Rattle.nsq_outside.specs.Causes.{Rose}
use Rattle.nsq_outside.specs.Files.{Files}
use Rattle.v2_frame.specs.declared.message.Message.{Message}
use Rattle.backlog.specs.Lists.{OnDisk}
use Rattle.broker_history.specs.declared.entry.Act.{Act}
use Rattle.broker_history.specs.declared.entry.Act.TheVariants.{Copied}
use Rattle.broker_history.specs.Channels.{Joins, JoinsLive, Gets}
use Rattle.broker_history.specs.Changes.{AtChannel, AtTopic}
use Rattle.broker_history.specs.State.{State, Taken}
use Rattle.broker_history.specs.Step.{room_of}
use Rattle.broker_history.specs.Topics.{is_owed, owed_no_more}
use Rattle.topic_core.specs.Rows.{Becomes, paid_in}
use Rattle.channel_copies.specs.Putting.{KeepsDisk, around}
use Rattle.channel_core.specs.Drawing.{IsAsBefore, Leads}
use Rattle.channel_core.specs.Seen.{queued_in}
use Rattle.channel_core.specs.Seen as core
use Rattle.channel_core.specs.declared.answers.Offer.{Offer}
use Rattle.channel_core.specs.declared.answers.Offer.TheVariants as offer
use Rattle.floor_rooms.specs.declared.stall.Stall.{Stall}
use Rattle.floor_rooms.specs.declared.room.Room.{Room}
use Rattle.floor_rooms.specs.declared.hall.Hall.{Hall}
use Rattle.floor_rooms.specs.Rooms.{channel_name, topic_name}
use Rattle.floor_rooms.specs.Standing.{HoldsFor, longest_delay}
use Rattle.floor_moves.specs.Due.{HasStall}
use Rattle.floor_moves.specs.Moves.{Moves, Sight}
use Rattle.floor_moves.specs.Pending.{BeginsWith}
use Rattle.floor_moves.specs.declared.due.Place.{Place}
use Rattle.floor_moves.specs.declared.made.Made.{Made}
use Rattle.floor_moves.specs.declared.made.Made.TheVariants as made
use Rattle.floor_moves.specs.declared.owed.Owed.{Owed}

-- a message is taken, of which channels are owed copies
abbrev pub OwesNext : Room → Type 0
OwesNext r = IsSome r.queue.head

-- the channel of this name is the first that is owed a copy of what the topic took, and stands at this place
pub record IsOwedFirst (r : Room) (o : Owed) : Type 0 where
  pub topic : o.topic ≡ topic_name r
  pub taken : Taken
  pub head : r.queue.head ≡ Some taken
  pub first : BeginsWith taken.owed o.channel
  pub stall : HasStall o.stall (λ s. channel_name s ≡ o.channel) r.stalls.items

-- so the copying of the message that the topic at a place took, to the first channel that is owed a copy, ended
pub record CopiesFirst (tells_notes tells_files : Bool) (i : ℕ) (old new : Sight) (answer : Made) : Type 0 where
  pub room : Room
  pub there : slice_get old.hall.rooms.items i ≡ Some room
  pub owed : Owed
  pub is : IsOwedFirst room owed
  pub moves : Moves tells_notes tells_files (Copied owed.topic owed.channel is.taken.message) old new answer

-- the message of a move by which a channel gets its copy
abbrev pub copied_of : Act → Option Message
copied_of (Copied topic channel m) = Some m
copied_of act = None

-- the message with no longer a delay than any options allow
abbrev pub bounded : Message → Message
bounded m = record m { delay = min m.delay longest_delay }

-- how it ended that a copy was offered to a channel
abbrev pub made_of : Offer → Made
made_of offer.Done = made.Done
made_of (offer.Fault back) = made.Stuck
made_of (offer.Memory back) = made.Memory

-- the copy joined, or the channel is as it was
abbrev pub Offered : (now : ℕ) → Message → (old : core.Seen) → (disk : List Message) → core.Seen → Files → Made → Type 0
Offered now m old disk new files made.Done = Leads (Gets JoinsLive (core.room_of old) now m) old (queued_in old disk) new files
Offered now m old disk new files made.Stuck = Leads IsAsBefore old (queued_in old disk) new files
Offered now m old disk new files made.Memory = Leads IsAsBefore old (queued_in old disk) new files

-- a fault comes only with a rise
abbrev pub GiveFails : (before after : ℕ) → Made → Type 0
GiveFails before after made.Done = Unit {0}
GiveFails before after made.Stuck = Rose before after
GiveFails before after made.Memory = Unit {0}

-- what one call of `offer` made of a channel, of the folder's files and of its count of faults
pub record OffersStall (tells : Bool) (now : ℕ) (m : Message) (answer : Made) (old new : Files) (before after : ℕ) (a b : Stall) : Type 0 where
  pub row : IsTrue tells → (disk : List Message) → OnDisk a.channel.backlog.queue old disk → Offered now m a.channel disk b.channel new answer
  pub rest : b.channel ≡ record a.channel { message_count = b.channel.message_count; backlog = b.channel.backlog; deferred = b.channel.deferred; deferred_spare = b.channel.deferred_spare }
  pub disk : KeepsDisk tells (around a.channel.backlog old before) (around b.channel.backlog new after)
  pub cause : GiveFails before after answer
  pub same : b ≡ record a { channel = b.channel }

-- a channel of a state can get the copy
abbrev pub CanGet : (now : ℕ) → (topic channel : List ℕ) → Message → State → Type 0
CanGet now topic channel m s = (t : State) × AtChannel topic channel (Gets Joins (room_of s topic channel) now m) s t

-- a channel got its copy in each state that the hall stood for; or it could have, and the hall stands for the same state; or that alone
abbrev pub Gives : (now : ℕ) → (topic channel : List ℕ) → Message → (h : Hall) → (old : Files) → (h' : Hall) → (new : Files) → Made → Type 0
Gives now topic channel m h old h' new made.Done = (s : State) → HoldsFor h old s → (t : State) × AtChannel topic channel (Gets Joins (room_of s topic channel) now m) s t × HoldsFor h' new t
Gives now topic channel m h old h' new made.Stuck = (s : State) → HoldsFor h old s → CanGet now topic channel m s × HoldsFor h' new s
Gives now topic channel m h old h' new made.Memory = (s : State) → HoldsFor h old s → HoldsFor h' new s

-- the topic and the channel that stand at a place have these names
pub record IsNamedAt (rooms : List Room) (place : Place) (topic channel : List ℕ) : Type 0 where
  pub room : Room
  pub there : slice_get rooms place.room ≡ Some room
  pub topic_is : topic ≡ topic_name room
  pub stall : HasStall place.stall (λ s. channel ≡ channel_name s) room.stalls.items

-- nothing of a topic but its channels changed
abbrev pub KeepsQueue : Room → Room → Type 0
KeepsQueue a b = b ≡ record a { stalls = b.stalls }

-- a channel is owed a copy of what the topic took
abbrev pub Owes : (channel : List ℕ) → Room → Type 0
Owes channel r = is_owed r.queue.head channel ≡ true

-- it is owed none any more
pub record PaysRoom (channel : List ℕ) (a b : Room) : Type 0 where
  pub same : b ≡ record a { queue = b.queue }
  pub seen : b.queue ≡ record (a.queue) { head = owed_no_more a.queue.head channel }
  pub row : (files : Files) → Becomes a.queue files b.queue files (paid_in channel)

-- so it is of the topic of this name in each state that the hall stood for
abbrev pub PaysTopic : (topic channel : List ℕ) → (h h' : Hall) → (files : Files) → Type 0
PaysTopic topic channel h h' files = (s : State) → HoldsFor h files s → (t : State) × AtTopic topic (λ a b. b ≡ paid_in channel a) s t × HoldsFor h' files t
