-- What joins a channel, and what becomes of all its copies.
use Rattle.std.specs.Prelude.{◌≡◌, ℕ, ◌+◌, ◌<◌, false, List, [], map}
use Rattle.nsq_outside.specs.Files.{Files}
use Rattle.nsq_outside.specs.Causes.{Rose}
use Rattle.v2_frame.specs.Written.{message_bytes}
use Rattle.v2_frame.specs.declared.message.Message.{Message}
use Rattle.queue_image.specs.Finds.{IsFound, Records}
use Rattle.backlog.specs.Emptied.{Emptied}
use Rattle.backlog.specs.Emptied.TheVariants as emptying
use Rattle.backlog.specs.Seen.{QueueIsSaved, longest_body}
use Rattle.backlog.specs.Lists.{OnDisk}
use Rattle.backlog.specs.declared.answers.Flushed.{Flushed}
use Rattle.backlog.specs.declared.answers.Flushed.TheVariants as flushing
use Rattle.broker_history.specs.State.{counted, is_ephemeral_channel}
use Rattle.broker_history.specs.Channels.{JoinsLive, Gets}
use Rattle.broker_history.specs.Left.{SameMessages}
use Rattle.channel_copies.specs.Flights.{Leaves}
use Rattle.channel_core.specs.declared.answers.Offer.{Offer}
use Rattle.channel_core.specs.declared.answers.Offer.TheVariants.{Done, Fault, Memory as WantsMemory}
use Rattle.channel_core.specs.Drawing.{Leads, IsAsBefore}
use Rattle.channel_core.specs.declared.about.About.{About}
use Rattle.channel_core.specs.Seen.{Seen, queue_name, queued_in, room_of}

-- a copy of the message joined the channel, or all is as it was
abbrev pub Offers : (now : ℕ) → Message → (old : Seen) → (disk : List Message) → Seen → Files → Offer → Type 0
Offers now message old disk new files Done = Leads (Gets JoinsLive (room_of old) now message) old (queued_in old disk) new files
Offers now message old disk new files (Fault back) = Leads IsAsBefore old (queued_in old disk) new files
Offers now message old disk new files (WantsMemory back) = Leads IsAsBefore old (queued_in old disk) new files

-- a message that didn't join comes back as it was
abbrev pub OfferBack : Message → Offer → Type 0
OfferBack message Done = Unit {0}
OfferBack message (Fault back) = back ≡ message
OfferBack message (WantsMemory back) = back ≡ message

-- a fault comes only with a rise, where the message has no delay; want of memory only where it has one
abbrev pub OfferFails : (delay before now : ℕ) → Offer → Type 0
OfferFails delay before now Done = Unit {0}
OfferFails delay before now (Fault back) = (delay ≡ 0) × Rose before now
OfferFails delay before now (WantsMemory back) = 0 < delay

-- a copy with a delay joined those that wait, and is counted; or all is as it was but for room
pub record Joined (now : ℕ) (message : Message) (old new : Seen) : Type 0 where
  pub joins : Leaves (record { due = now + message.delay; message = message }) new.deferred old.deferred
  pub count : new.message_count ≡ counted old.message_count

abbrev pub Defers : (now : ℕ) → Message → (old new : Seen) → Offer → Type 0
Defers now message old new Done = Joined now message old new
Defers now message old new (Fault back) = ⊥
Defers now message old new (WantsMemory back) = (back ≡ message) × (new ≡ record old { deferred_spare = new.deferred_spare })

-- all copies are gone, or all is as it was
abbrev pub Empties : (old : Seen) → (disk : List Message) → Seen → Files → Emptied → Type 0
Empties old disk new files emptying.Done = Leads (λ k k'. k' ≡ record k { copies = [] }) old (queued_in old disk) new files
Empties old disk new files emptying.Fault = Leads (λ k k'. k' ≡ k) old (queued_in old disk) new files

-- these messages are what an opening of the queue of this name finds, each as often, and no bad file
pub record FindsAll (left : List Message) (name : List ℕ) (files : Files) : Type 0 where
  pub messages : List Message
  pub found : IsFound 26 (26 + longest_body) files name (Records (map message_bytes messages) [])
  pub same : SameMessages left messages

abbrev pub FlushLeaves : (left : List Message) → About → Files → Flushed → Type 0
FlushLeaves left about files flushing.Done = is_ephemeral_channel about.topic about.name ≡ false → FindsAll left (queue_name about.topic about.name) files
FlushLeaves left about files flushing.Fault = Unit {0}

-- a channel has nothing in memory: all that it has is on disk, and saved
pub record IsFlushed (v : Seen) : Type 0 where
  pub ring : v.backlog.ring ≡ []
  pub flights : v.flights ≡ []
  pub deferred : v.deferred ≡ []
  pub saved : QueueIsSaved v.backlog.queue

-- so it is with a durable channel after a flush that is Done
abbrev pub FlushEmpties : About → (new : Seen) → Flushed → Type 0
FlushEmpties about new flushing.Done = is_ephemeral_channel about.topic about.name ≡ false → IsFlushed new
FlushEmpties about new flushing.Fault = Unit {0}

-- what is on disk of a channel is these messages, each as often
pub record HasStored (left : List Message) (v : Seen) (files : Files) : Type 0 where
  pub messages : List Message
  pub on_disk : OnDisk v.backlog.queue files messages
  pub same : SameMessages left messages

abbrev pub FlushStores : (left : List Message) → About → (new : Seen) → Files → Flushed → Type 0
FlushStores left about new files flushing.Done = is_ephemeral_channel about.topic about.name ≡ false → HasStored left new files
FlushStores left about new files flushing.Fault = Unit {0}
