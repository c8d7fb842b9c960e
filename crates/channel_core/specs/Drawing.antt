-- What is drawn for a client.
use Rattle.std.specs.Prelude.{◌≡◌, ℕ, ◌+◌, ◌≤◌, ◌<◌, min, true, false, List, Result, Ok, Err, option_map, unwrap_or}
use Rattle.nsq_outside.specs.Files.{Files}
use Rattle.nsq_outside.specs.Causes.{Rose}
use Rattle.v2_frame.specs.declared.message.Message.{Message}
use Rattle.backlog.specs.Seen.{FitsLimit}
use Rattle.backlog.specs.Lists.{OnDisk, IsFirstMessage}
use Rattle.backlog.specs.declared.answers.Drawn.{Drawn as FromBacklog}
use Rattle.backlog.specs.declared.answers.Drawn.TheVariants as drawing
use Rattle.broker_history.specs.State.{Channel, raised, queued, flying}
use Rattle.broker_history.specs.Channels.{AsOften, has_credit, is_free}
use Rattle.channel_copies.specs.Clients.{client_of}
use Rattle.channel_core.specs.declared.answers.Next.{Next}
use Rattle.channel_core.specs.declared.answers.Next.TheVariants as next
use Rattle.channel_core.specs.declared.drawn.Drawn.{Drawn}
use Rattle.channel_core.specs.declared.drawn.Drawn.TheVariants.{Nothing, ToSend, ToHold}
use Rattle.channel_core.specs.Seen.{Seen, channel_with, seen_channel, queued_in, drawn_in}

-- how many copies a client may have in flight, and how long it has for one
abbrev pub ready_of : (client : ℕ) → Seen → ℕ
ready_of client v = unwrap_or (option_map (λ c. c.ready) (client_of v.clients client)) 0

abbrev pub timeout_of : (client : ℕ) → Seen → ℕ
timeout_of client v = unwrap_or (option_map (λ c. c.timeout) (client_of v.clients client)) 0

-- the channel with these messages queued becomes, by a row, what the files tell of it afterwards
pub record Leads (Row : Channel → Channel → Type 0) (old : Seen) (waits : List Message) (new : Seen) (files : Files) : Type 0 where
  pub disk : List Message
  pub on_disk : OnDisk new.backlog.queue files disk
  pub row : Row (channel_with old waits) (seen_channel new disk)

-- the channel becomes another by a row, whatever is queued
pub record Does (Row : Channel → Channel → Type 0) (old new : Seen) : Type 0 where
  pub row : (waits : List Message) → Row (channel_with old waits) (channel_with new waits)

-- the channel is as it was: each copy is there as often, and all else is the same
pub record IsAsBefore (old new : Channel) : Type 0 where
  pub often : AsOften old.copies new.copies
  pub is : new ≡ record old { copies = new.copies }

-- the message as it was drawn, with the attempts that it had
abbrev pub first_drawn : Drawn → Message → Message
first_drawn Nothing message = message
first_drawn (ToSend s) message = record message { attempts = s.attempts }
first_drawn (ToHold held now) message = held

-- the message stands first of what is queued, with these on disk
abbrev pub IsFirstDrawn : (first : Message) → Seen → (disk : List Message) → Type 0
IsFirstDrawn first v disk = IsFirstMessage (drawn_in first v disk) first

-- the message was drawn for this client at this moment, and has one more attempt since
pub record IsDrawnFor (client : ℕ) (message : Message) (now : ℕ) (d : Drawn) : Type 0 where
  pub attempts : ℕ
  pub is : d ≡ ToSend (record { client = client; id = message.id; attempts = attempts; now = now })
  pub raised : message.attempts ≡ min (attempts + 1) 65535

-- a copy was drawn at this moment that is to be held back
pub record IsHeld (now : ℕ) (d : Drawn) : Type 0 where
  pub held : Message
  pub is : d ≡ ToHold held now

-- the same of one of this id
pub record IsHeldOf (id : List ℕ) (now : ℕ) (d : Drawn) : Type 0 where
  pub held : Message
  pub of : held.id ≡ id
  pub is : d ≡ ToHold held now

-- when `next` gives which answer, as far as credit and pause go, for a client that may have `ready` copies in flight
abbrev pub NextWhere : (client ready : ℕ) → Channel → Next → Type 0
NextWhere client ready k next.NoCredit = ready ≤ flying client k.copies
NextWhere client ready k next.Paused = (flying client k.copies < ready) × (k.paused ≡ true)
NextWhere client ready k answer = has_credit ready client k ≡ true

-- what is drawn after it; a message to be sent is short
abbrev pub NextLeaves : (client now : ℕ) → Drawn → Next → Type 0
NextLeaves client now d (next.Send message) = IsDrawnFor client message now d × FitsLimit message
NextLeaves client now d (next.Held id) = IsHeldOf id now d
NextLeaves client now d answer = d ≡ Nothing

-- a copy was drawn to be sent: the first one queued, with one more attempt, and its id isn't in flight
pub record DrawsToSend (old new : Seen) (disk : List Message) (message : Message) : Type 0 where
  pub first : IsFirstDrawn (first_drawn new.drawn message) new disk
  pub raised : message ≡ raised (first_drawn new.drawn message)
  pub free : is_free message.id (seen_channel old disk).copies ≡ true
  pub same : drawn_in (first_drawn new.drawn message) new disk ≡ queued_in old disk

-- a copy was drawn to be held back: the first one queued, and its id is in flight
pub record DrawsToHold (old new : Seen) (disk : List Message) (id : List ℕ) : Type 0 where
  pub held : Message
  pub now : ℕ
  pub is : new.drawn ≡ ToHold held now
  pub of : held.id ≡ id
  pub first : IsFirstDrawn held new disk
  pub flies : is_free id (seen_channel old disk).copies ≡ false
  pub same : drawn_in held new disk ≡ queued_in old disk

-- an answer of a drawing, which credit and pause don't keep from it
abbrev pub IsOfDrawing : Next → Type 0
IsOfDrawing next.NoCredit = ⊥
IsOfDrawing next.Paused = ⊥
IsOfDrawing answer = Unit {0}

-- what a drawing gives of the channel of which these messages are on disk; no file is damaged
abbrev pub Drew : (old new : Seen) → (disk : List Message) → Next → Type 0
Drew old new disk (next.Send message) = DrawsToSend old new disk message
Drew old new disk (next.Held id) = DrawsToHold old new disk id
Drew old new disk next.NoneQueued = (queued (seen_channel old disk).copies ≡ 0) × (queued_in new disk ≡ queued_in old disk)
Drew old new disk next.Damaged = ⊥
Drew old new disk answer = queued_in new disk ≡ queued_in old disk

-- what `next` gives of the channel of which these messages are on disk. NoneQueued exactly where none is queued; a fault or want of memory only
-- where one is; no file is damaged
abbrev pub Draws : (old new : Seen) → (disk : List Message) → Next → Type 0
Draws old new disk (next.Send message) = DrawsToSend old new disk message
Draws old new disk (next.Held id) = DrawsToHold old new disk id
Draws old new disk next.NoCredit = queued_in new disk ≡ queued_in old disk
Draws old new disk next.Paused = queued_in new disk ≡ queued_in old disk
Draws old new disk next.NoneQueued = (queued (seen_channel old disk).copies ≡ 0) × (queued_in new disk ≡ queued_in old disk)
Draws old new disk next.Fault = (0 < queued (seen_channel old disk).copies) × (queued_in new disk ≡ queued_in old disk)
Draws old new disk next.Damaged = ⊥
Draws old new disk next.Memory = (0 < queued (seen_channel old disk).copies) × (queued_in new disk ≡ queued_in old disk)

-- a fault comes only with a rise
abbrev pub DrawFails : (before now : ℕ) → Next → Type 0
DrawFails before now next.Fault = Rose before now
DrawFails before now answer = Unit {0}

-- the message that a backlog drew, or the answer where it drew none
abbrev pub message_of : FromBacklog → Result Message Next
message_of (drawing.Got message) = Ok message
message_of drawing.Empty = Err next.NoneQueued
message_of drawing.Fault = Err next.Fault
message_of drawing.Damaged = Err next.Damaged
message_of drawing.Memory = Err next.Memory
