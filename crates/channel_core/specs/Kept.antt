-- What every channel keeps.
use Rattle.std.specs.Prelude.{◌≡◌, ◌≢◌, ℕ, ◌+◌, ◌^◌, ◌≤◌, not, length, is_some, IfSome}
use Rattle.v2_frame.specs.declared.message.Message.{Message}
use Rattle.backlog.specs.Seen.{Seen as Backlog, FitsLimit}
use Rattle.backlog.specs.declared.backlog.Lent.{Lent}
use Rattle.backlog.specs.declared.backlog.Lent.TheVariants as lending
use Rattle.broker_history.specs.State.{is_ephemeral_channel}
use Rattle.channel_copies.specs.Flights.{Flying, flights_of_id}
use Rattle.channel_copies.specs.Deferred.{Deferring}
use Rattle.channel_core.specs.declared.about.About.{About}
use Rattle.channel_core.specs.declared.drawn.Sending.{Sending}
use Rattle.channel_core.specs.declared.drawn.Drawn.{Drawn}
use Rattle.channel_core.specs.declared.drawn.Drawn.TheVariants.{Nothing, ToSend, ToHold}
use Rattle.channel_core.specs.Seen.{queue_name}

-- a copy that is to be sent: its id isn't in flight, and there is room for it in flight, and to defer it later
pub record CanSend (of : Lent) (flights : Flying) (spare : ℕ) (s : Sending) : Type 0 where
  pub lent : of ≢ lending.Nothing
  pub free : flights_of_id s.id flights.flights ≡ 0
  pub flying : 1 ≤ flights.spare
  pub deferred : length flights.flights + 1 ≤ spare

-- a copy that is to be held back: its id is in flight, and there is room to defer it
pub record CanHold (of : Lent) (flights : Flying) (spare : ℕ) (message : Message) : Type 0 where
  pub lent : of ≢ lending.Nothing
  pub flies : flights_of_id message.id flights.flights ≡ 1
  pub short : FitsLimit message
  pub deferred : length flights.flights + 1 ≤ spare

-- the backlog has lent a message exactly where one is drawn, and what was drawn can be settled without memory
abbrev pub CanSettle : Drawn → Lent → Flying → (spare : ℕ) → Type 0
CanSettle Nothing of flying spare = of ≡ lending.Nothing
CanSettle (ToSend s) of flying spare = CanSend of flying spare s
CanSettle (ToHold message now) of flying spare = CanHold of flying spare message

-- a channel's backlog: its ring holds as many messages as the channel was told, and exactly a durable channel has a queue on disk, which is
-- named after its topic and it
pub record IsBacklogOf (about : About) (b : Backlog) : Type 0 where
  pub capacity : b.capacity ≡ about.mem_queue_size
  pub durable : is_some b.queue ≡ not (is_ephemeral_channel about.topic about.name)
  pub queue : IfSome b.queue (λ q. q.name ≡ queue_name about.topic about.name)

-- the backlog is the channel's, there is room to defer all copies in flight, times are in range, and what was drawn can be settled
pub record IsWhole (about : About) (backlog : Backlog) (flying : Flying) (deferring : Deferring) (drawn : Drawn) : Type 0 where
  pub named : IsBacklogOf about backlog
  pub room : length flying.flights ≤ deferring.spare
  pub msg_timeout : about.msg_timeout ≤ 2 ^ 62
  pub max_msg_timeout : about.max_msg_timeout ≤ 2 ^ 62
  pub settles : CanSettle drawn backlog.lent flying deferring.spare
