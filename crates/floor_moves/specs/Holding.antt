-- What is held back of a channel.
use Rattle.std.specs.Prelude.{◌≡◌, ℕ, ◌+◌, Bool, true, IsTrue, IsSome, List, Some, slice_get}
use Rattle.nsq_outside.specs.Files.{Files}
use Rattle.nsq_outside.specs.declared.journal.End.{End}
use Rattle.nsq_outside.specs.declared.journal.End.TheVariants.{Done}
use Rattle.v2_frame.specs.declared.message.Message.{Message}
use Rattle.backlog.specs.Lists.{OnDisk}
use Rattle.broker_history.specs.declared.entry.Act.{Act}
use Rattle.broker_history.specs.declared.entry.Act.TheVariants.{HeldBack}
use Rattle.broker_history.specs.declared.entry.Entry.{Entry}
use Rattle.broker_history.specs.Channels.{MovesLive, HoldsBack}
use Rattle.broker_history.specs.Entries.{is_held}
use Rattle.channel_copies.specs.Putting.{KeepsDisk, around}
use Rattle.channel_core.specs.Seen.{drawn_in, queued_in}
use Rattle.channel_core.specs.Drawing.{DrawsToHold, IsHeldOf, IsFirstDrawn, Leads}
use Rattle.channel_core.specs.declared.drawn.Drawn.TheVariants.{Nothing, ToHold}
use Rattle.floor_rooms.specs.declared.stall.Stall.{Stall}
use Rattle.floor_rooms.specs.declared.room.Room.{Room}
use Rattle.floor_rooms.specs.declared.hall.Hall.{Hall}
use Rattle.floor_rooms.specs.Rooms.{channel_name, topic_name}
use Rattle.floor_rooms.specs.Sound.{IsSound}
use Rattle.floor_rooms.specs.Changes.{AtStall}
use Rattle.floor_moves.specs.declared.due.Place.{Place}
use Rattle.floor_moves.specs.Moves.{Sight}

-- a copy of this id came up in the channel at this moment, while the id is in flight
abbrev pub HasHeld : (id : List ℕ) → (now : ℕ) → Stall → Type 0
HasHeld id now s = IsHeldOf id now s.channel.drawn

-- what `next` leaves of a channel where such a copy came up
pub record DrawsHeld (tells : Bool) (now : ℕ) (id : List ℕ) (old new : Files) (before after : ℕ) (a b : Stall) : Type 0 where
  pub drawn : HasHeld id now b
  pub gives : IsTrue tells → (disk : List Message) → OnDisk a.channel.backlog.queue old disk → DrawsToHold a.channel b.channel disk id
  pub list : IsTrue tells → (disk : List Message) → OnDisk a.channel.backlog.queue old disk → OnDisk b.channel.backlog.queue new disk
  pub rest : b.channel ≡ record a.channel { backlog = b.channel.backlog; drawn = b.channel.drawn; spare = b.channel.spare; deferred_spare = b.channel.deferred_spare }
  pub disk : KeepsDisk tells (around a.channel.backlog old before) (around b.channel.backlog new after)
  pub same : b ≡ record a { channel = b.channel }
  pub marked : IsSome a.since

-- such a copy came up in the channel at a place of a hall that was sound, and of which that channel is marked; nothing else happened
pub record IsDrawnFrom (tells : Bool) (place : Place) (id : List ℕ) (before after : Sight) : Type 0 where
  pub sound : IsSound before.hall
  pub rest : after.hall ≡ record (before.hall) { rooms = after.hall.rooms }
  pub noted : after.noted ≡ before.noted
  pub at : AtStall place.room place.stall (DrawsHeld tells before.hall.moment id before.files after.files before.faults after.faults) before.hall.rooms.items after.hall.rooms.items

-- what settling that copy makes of a channel: it is deferred
pub record SettlesHeld (tells : Bool) (now : ℕ) (old new : Files) (before after : ℕ) (a b : Stall) : Type 0 where
  pub nothing : b.channel.drawn ≡ Nothing
  pub row : IsTrue tells → (disk : List Message) (held : Message) → a.channel.drawn ≡ ToHold held now → OnDisk a.channel.backlog.queue old disk → IsFirstDrawn held a.channel disk
      → Leads (HoldsBack MovesLive held.id (now + a.channel.about.msg_timeout)) a.channel (drawn_in held a.channel disk) b.channel new
  pub rest : b.channel ≡ record a.channel { backlog = b.channel.backlog; deferred = b.channel.deferred; drawn = Nothing; deferred_spare = b.channel.deferred_spare }
  pub disk : KeepsDisk tells (around a.channel.backlog old before) (around b.channel.backlog new after)
  pub same : b ≡ record a { channel = b.channel }

-- what putting it back makes of the channel
pub record UndoesHeld (a b : Stall) : Type 0 where
  pub nothing : b.channel.drawn ≡ Nothing
  pub back : (disk : List Message) (held : Message) (now : ℕ) → a.channel.drawn ≡ ToHold held now → queued_in b.channel disk ≡ drawn_in held a.channel disk
  pub queue : b.channel.backlog.queue ≡ a.channel.backlog.queue
  pub rest : b.channel ≡ record a.channel { backlog = b.channel.backlog; drawn = Nothing }
  pub same : b ≡ record a { channel = b.channel }

-- the act holds the copy of an id back in the channel that stands at a place
pub record IsActOf (place : Place) (id : List ℕ) (rooms : List Room) (act : Act) : Type 0 where
  pub room : Room
  pub stall : Stall
  pub there : slice_get rooms place.room ≡ Some room
  pub has : slice_get room.stalls.items place.stall ≡ Some stall
  pub is : act ≡ HeldBack (topic_name room) (channel_name stall) id

-- the entry is that act at the hall's moment, which is never due, and it was made
pub record IsHeldAt (place : Place) (id : List ℕ) (h : Hall) (e : Entry × End) : Type 0 where
  pub of : IsActOf place id h.rooms.items e.0.act
  pub held : is_held e.0.act ≡ true
  pub now : e.0.at ≡ h.moment
  pub done : e.1 ≡ Done
