-- What emptying a topic or a channel makes of a state.
use Rattle.std.specs.Prelude.{◌≡◌, ℕ, Bool, IsTrue, List, Option}
use Rattle.nsq_outside.specs.Causes.{Rose}
use Rattle.nsq_outside.specs.Files.{Files}
use Rattle.v2_frame.specs.declared.message.Message.{Message}
use Rattle.disk_queue.specs.declared.answers.Emptied.{Emptied}
use Rattle.disk_queue.specs.declared.answers.Emptied.TheVariants.{Done, Fault}
use Rattle.backlog.specs.Seen.{EmptySeen, SameQueue}
use Rattle.backlog.specs.Lists.{DiskChanges, OnDisk, Stands}
use Rattle.broker_history.specs.State.{State}
use Rattle.broker_history.specs.Changes.{emptied}
use Rattle.channel_copies.specs.Putting.{KeepsDisk, around}
use Rattle.channel_core.specs.Storing.{Empties}
use Rattle.topic_core.specs.Rows.{Becomes, emptied_where}
use Rattle.topic_core.specs.Seen.{IsSettled}
use Rattle.floor_rooms.specs.declared.room.Room.{Room}
use Rattle.floor_rooms.specs.declared.stall.Stall.{Stall}

-- the topic, or the channel of it, was emptied, or all stays as it was
abbrev pub EmptiesBy : Emptied → (topic : List ℕ) → (channel : Option (List ℕ)) → State → State → Type 0
EmptiesBy Done topic channel s t = t ≡ emptied s topic channel
EmptiesBy Fault topic channel s t = t ≡ s

-- a fault comes only with a rise
abbrev pub EmptyingFails : (before now : ℕ) → Emptied → Type 0
EmptyingFails before now Done = Unit {0}
EmptyingFails before now Fault = Rose before now

-- what one call of `empty` made of a topic's queue
pub record EmptiesRoom (tells : Bool) (answer : Emptied) (old new : Files) (a b : Room) : Type 0 where
  pub same : b ≡ record a { queue = b.queue }
  pub settled : IsSettled b.queue
  pub queue : SameQueue a.queue.backlog.queue b.queue.backlog.queue
  pub seen : b.queue ≡ record (a.queue) { backlog = b.queue.backlog }
  pub backlog : EmptySeen a.queue.backlog b.queue.backlog answer
  pub row : IsTrue tells → Becomes a.queue old b.queue new (emptied_where answer)
  pub stands : IsTrue tells → Stands a.queue.backlog.queue old → Stands b.queue.backlog.queue new
  pub others : IsTrue tells → DiskChanges a.queue.backlog.queue old new

-- and of a channel
pub record EmptiesStall (tells : Bool) (answer : Emptied) (old new : Files) (before after : ℕ) (a b : Stall) : Type 0 where
  pub same : b ≡ record a { channel = b.channel }
  pub rest : b.channel ≡ record (a.channel) { backlog = b.channel.backlog; flights = b.channel.flights; deferred = b.channel.deferred; spare = b.channel.spare; deferred_spare = b.channel.deferred_spare }
  pub row : IsTrue tells → (disk : List Message) → OnDisk a.channel.backlog.queue old disk → Empties a.channel disk b.channel new answer
  pub disk : KeepsDisk tells (around a.channel.backlog old before) (around b.channel.backlog new after)
