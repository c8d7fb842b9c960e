-- What the calls make of a channel's copies.
use Rattle.std.specs.Prelude.{◌≡◌, ℕ, ◌+◌, ◌<◌, Bool, true, false, List, Option, Some, None}
use Rattle.nsq_outside.specs.Files.{Files}
use Rattle.nsq_outside.specs.Causes.{Rose}
use Rattle.v2_frame.specs.declared.message.Message.{Message}
use Rattle.backlog.specs.Lists.{OnDisk}
use Rattle.broker_history.specs.State.{Channel}
use Rattle.broker_history.specs.Channels.{MovesLive, GivesBack, TimesOut, ComesDue}
use Rattle.channel_copies.specs.declared.flight.Flight.{Flight}
use Rattle.channel_copies.specs.Flights.{first_due}
use Rattle.channel_copies.specs.Deferred.{Waiting, first_waiting}
use Rattle.channel_core.specs.declared.answers.Moved.{Moved}
use Rattle.channel_core.specs.declared.answers.Moved.TheVariants as moved
use Rattle.channel_core.specs.declared.answers.Requeue.{Requeue}
use Rattle.channel_core.specs.declared.answers.Requeue.TheVariants.{Done, Fault}
use Rattle.channel_core.specs.Answers.{all_due, flying_due, deferred_due}
use Rattle.channel_core.specs.Drawing.{Leads, IsAsBefore}
use Rattle.channel_core.specs.Seen.{Seen, queued_in, room_of, seen_channel}

-- REQ: the copy was given back, or all is as it was
abbrev pub Requeues : (client : ℕ) → (id : List ℕ) → (now delay : ℕ) → (old : Seen) → (disk : List Message) → Seen → Files → Requeue → Type 0
Requeues client id now delay old disk new files Done = Leads (GivesBack MovesLive (room_of old) client id now delay) old (queued_in old disk) new files
Requeues client id now delay old disk new files Fault = Leads IsAsBefore old (queued_in old disk) new files

-- the copy that is due first: its id, and whether it is in flight. Of those in flight, or else of the deferred ones, it is the one that is due
-- soonest
abbrev pub due_first : Option Flight → Option Waiting → Option (List ℕ × Bool)
due_first (Some f) w = Some (f.message.id, true)
due_first None (Some w) = Some (w.message.id, false)
due_first None None = None

abbrev pub due_in : (now : ℕ) → Seen → Option (List ℕ × Bool)
due_in now v = due_first (first_due now v.flights) (first_waiting now v.deferred)

-- the answer is about the copy that is due first
abbrev pub IsTold : Option (List ℕ × Bool) → Moved → Type 0
IsTold due (moved.TimedOut id) = due ≡ Some (id, true)
IsTold due (moved.CameDue id) = due ≡ Some (id, false)
IsTold due (moved.Fault id) = (flies : Bool) × (due ≡ Some (id, flies))
IsTold due moved.Nothing = due ≡ None

-- a copy of this id is due
pub record IsDueOf (now : ℕ) (id : List ℕ) (k : Channel) : Type 0 where
  pub some : 0 < flying_due now id k + deferred_due now id k

-- a due copy was put back; or the folder failed, a copy of the id is due, and all is as it was; or none is due
abbrev pub MovesDue : (now : ℕ) → (old : Seen) → (disk : List Message) → Seen → Files → Moved → Type 0
MovesDue now old disk new files (moved.TimedOut id) = Leads (TimesOut MovesLive (room_of old) id now) old (queued_in old disk) new files
MovesDue now old disk new files (moved.CameDue id) = Leads (ComesDue MovesLive (room_of old) id now) old (queued_in old disk) new files
MovesDue now old disk new files (moved.Fault id) = IsDueOf now id (seen_channel old disk) × Leads IsAsBefore old (queued_in old disk) new files
MovesDue now old disk new files moved.Nothing = (all_due now (seen_channel old disk) ≡ 0) × (new ≡ old) × OnDisk new.backlog.queue files disk

-- a fault comes only with a rise
abbrev pub MoveFails : (before now : ℕ) → Moved → Type 0
MoveFails before now (moved.TimedOut id) = Unit {0}
MoveFails before now (moved.CameDue id) = Unit {0}
MoveFails before now (moved.Fault id) = Rose before now
MoveFails before now moved.Nothing = now ≡ before
