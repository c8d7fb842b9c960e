-- What is drawn for a client, and what is sent to it.
use Rattle.std.specs.Prelude.{◌≡◌, ℕ, min, Bool, IsTrue, IsSome, List}
use Rattle.nsq_outside.specs.Files.{Files, SameFiles}
use Rattle.v2_frame.specs.declared.message.Message.{Message}
use Rattle.backlog.specs.Lists.{OnDisk}
use Rattle.broker_history.specs.State.{State}
use Rattle.broker_history.specs.Channels.{MovesLive, Sends}
use Rattle.channel_copies.specs.Clients.{client_of}
use Rattle.channel_copies.specs.Putting.{KeepsDisk, around}
use Rattle.channel_core.specs.declared.answers.Next.{Next}
use Rattle.channel_core.specs.declared.answers.Next.TheVariants as next
use Rattle.channel_core.specs.declared.drawn.Drawn.{Drawn}
use Rattle.channel_core.specs.declared.drawn.Drawn.TheVariants.{Nothing}
use Rattle.channel_core.specs.Drawing.{DrawFails, Draws, IsDrawnFor, IsFirstDrawn, Leads, NextLeaves, NextWhere, first_drawn, ready_of, timeout_of}
use Rattle.channel_core.specs.Seen.{channel_with, drawn_in, queued_in}
use Rattle.floor_rooms.specs.declared.stall.Stall.{Stall}
use Rattle.floor_rooms.specs.declared.hall.Hall.{Hall}
use Rattle.floor_rooms.specs.Changes.{AtStall, KeepsRooms}
use Rattle.floor_rooms.specs.Sound.{IsSound}
use Rattle.floor_rooms.specs.Standing.{HoldsFor}

-- what one call of `next` made of a channel, of the folder's files and of its count of faults
pub record DrawsStall (tells : Bool) (client now : ℕ) (answer : Next) (old new : Files) (before after : ℕ) (a b : Stall) : Type 0 where
  pub cause : (queued : List Message) → NextWhere client (ready_of client a.channel) (channel_with a.channel queued) answer
  pub drawn : NextLeaves client now b.channel.drawn answer
  pub gives : IsTrue tells → (disk : List Message) → OnDisk a.channel.backlog.queue old disk → Draws a.channel b.channel disk answer
  pub list : IsTrue tells → (disk : List Message) → OnDisk a.channel.backlog.queue old disk → OnDisk b.channel.backlog.queue new disk
  pub rest : b.channel ≡ record a.channel { backlog = b.channel.backlog; drawn = b.channel.drawn; spare = b.channel.spare; deferred_spare = b.channel.deferred_spare }
  pub files : IsTrue tells → SameFiles old new
  pub disk : KeepsDisk tells (around a.channel.backlog old before) (around b.channel.backlog new after)
  pub fault : DrawFails before after answer
  pub same : b ≡ record a { channel = b.channel }

-- the channel at a place was marked, and gave this answer for a client
pub record HasDrawn (tells : Bool) (i j client : ℕ) (answer : Next) (old new : Files) (before after : ℕ) (h h' : Hall) : Type 0 where
  pub marked : Hall
  pub sound : IsSound marked
  pub marks : marked ≡ record h { rooms = marked.rooms; unsaved_from = min h.unsaved_from h.moment }
  pub stands : (files : Files) (s : State) → HoldsFor h files s → HoldsFor marked files s
  pub keeps : KeepsRooms h.moment h.rooms.items marked.rooms.items
  pub rest : h' ≡ record marked { rooms = h'.rooms }
  pub at : AtStall i j (DrawsStall tells client marked.moment answer old new before after) marked.rooms.items h'.rooms.items
  pub is_marked : IsSome at.does.stall.since

-- nothing is drawn behind the answer
abbrev pub IsUndrawn : Next → Type 0
IsUndrawn (next.Send message) = ⊥
IsUndrawn (next.Held id) = ⊥
IsUndrawn answer = Unit {0}

-- the message was drawn for a client of the channel
pub record IsToSend (now client : ℕ) (message : Message) (s : Stall) : Type 0 where
  pub drawn : IsDrawnFor client message now s.channel.drawn
  pub member : IsSome (client_of s.channel.clients client)

-- what settling the copy that was drawn makes of the channel: it is in flight
pub record SendsStall (tells : Bool) (client now : ℕ) (message : Message) (old new : Files) (before after : ℕ) (a b : Stall) : Type 0 where
  pub nothing : b.channel.drawn ≡ Nothing
  pub row : IsTrue tells → (disk : List Message) → OnDisk a.channel.backlog.queue old disk → IsFirstDrawn (first_drawn a.channel.drawn message) a.channel disk
      → Leads (Sends MovesLive client now (timeout_of client a.channel) message) a.channel (drawn_in (first_drawn a.channel.drawn message) a.channel disk) b.channel new
  pub rest : b.channel ≡ record a.channel { backlog = b.channel.backlog; flights = b.channel.flights; drawn = Nothing; spare = b.channel.spare }
  pub disk : KeepsDisk tells (around a.channel.backlog old before) (around b.channel.backlog new after)
  pub same : b ≡ record a { channel = b.channel }

-- the message was drawn for some client
abbrev pub IsDrawnForSome : Message → Drawn → Type 0
IsDrawnForSome message d = (client : ℕ) × (now : ℕ) × IsDrawnFor client message now d

-- what putting it back makes of the channel
pub record UnsendsStall (message : Message) (a b : Stall) : Type 0 where
  pub nothing : b.channel.drawn ≡ Nothing
  pub back : (disk : List Message) → queued_in b.channel disk ≡ drawn_in (first_drawn a.channel.drawn message) a.channel disk
  pub queue : b.channel.backlog.queue ≡ a.channel.backlog.queue
  pub rest : b.channel ≡ record a.channel { backlog = b.channel.backlog; drawn = Nothing }
  pub same : b ≡ record a { channel = b.channel }
