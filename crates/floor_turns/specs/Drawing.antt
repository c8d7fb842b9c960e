-- What one drawing for a client makes of a hall, and of what is noted.
use Rattle.std.specs.Prelude.{◌≡◌, ℕ, Bool, true, [], ◌∷◌, ◌++◌, IsTrue, Option, Some, None, slice_get}
use Rattle.nsq_outside.specs.declared.journal.End.{End}
use Rattle.nsq_outside.specs.declared.journal.End.TheVariants.{Faulted}
use Rattle.v2_frame.specs.declared.message.Message.{Message}
use Rattle.broker_history.specs.declared.entry.Act.{Act}
use Rattle.broker_history.specs.declared.entry.Act.TheVariants.{Sent, Stuck}
use Rattle.broker_history.specs.declared.entry.Entry.{Entry}
use Rattle.broker_history.specs.State.{Client}
use Rattle.broker_history.specs.Credit.{is_quiet}
use Rattle.broker_history.specs.Entries.{History}
use Rattle.broker_history.specs.declared.call.Call.TheVariants as call
use Rattle.broker_history.specs.declared.turned.Turned.{Turned}
use Rattle.broker_history.specs.declared.turned.Turned.TheVariants as turned
use Rattle.floor_rooms.specs.declared.stall.Stall.{Stall}
use Rattle.floor_rooms.specs.declared.room.Room.{Room}
use Rattle.floor_rooms.specs.declared.hall.Hall.{Hall}
use Rattle.floor_rooms.specs.Rooms.{channel_name, client_in, topic_name}
use Rattle.floor_moves.specs.declared.due.Place.{Place}
use Rattle.floor_moves.specs.Moves.{Keeps, Notes, Sight}
use Rattle.floor_acts.specs.Spots.{GetsOf}
use Rattle.floor_laws.specs.Laid.{IsHeld}
use Rattle.floor_turns.specs.Acting.{Acts}
use Rattle.floor_turns.specs.declared.drawing.Round.{Round}
use Rattle.floor_turns.specs.declared.drawing.Round.TheVariants as round

-- the entry of a client's act
abbrev pub entry_of : (number at : ℕ) → Act → Entry
entry_of number at act = record { conn = number; at = at; act = act }

-- the message that an act sent
abbrev pub sent_of : Act → Option Message
sent_of (Sent message) = Some message
sent_of act = None

-- a client that is quiet gets messages of the channel that stands at a place
pub record IsServedAt (h : Hall) (number : ℕ) (place : Place) : Type 0 where
  pub client : Client
  pub there : client_in h.clients.items number ≡ Some client
  pub quiet : is_quiet h.moment client ≡ true
  pub from : GetsOf h.rooms.items (record { room = place.room; stall = place.stall }) client

-- the entry was noted, and its call is answered Idle; or memory was wanting, and nothing was noted
abbrev pub IsIdleBy : (tells : Bool) → Entry × End → (old new : History) → Turned → Type 0
IsIdleBy tells e old new turned.Idle = IsTrue tells → new ≡ old ++ e ∷ []
IsIdleBy tells e old new turned.Memory = IsTrue tells → new ≡ old
IsIdleBy tells e old new answer = ⊥

-- so it was noted that a disk fault kept a client from a message of the channel at a place
pub record SticksAt (tells : Bool) (number : ℕ) (place : Place) (h : Hall) (old new : History) (answer : Turned) : Type 0 where
  pub room : Room
  pub stall : Stall
  pub there : slice_get h.rooms.items place.room ≡ Some room
  pub has : slice_get room.stalls.items place.stall ≡ Some stall
  pub is : IsIdleBy tells (entry_of number h.moment (Stuck (topic_name room) (Some (channel_name stall))), Faulted 0) old new answer

-- one drawing held a copy back, which was noted, and left all else; or it answered the client's call by one act, or for want of memory by none
abbrev pub Rounds : (tells_notes tells_files : Bool) → (number : ℕ) → (old new : Sight) → Round → Type 0
Rounds tells_notes tells_files number old new round.HeldBack = Notes tells_notes tells_files (IsHeld old.hall.moment) old new × Keeps old.hall new.hall
Rounds tells_notes tells_files number old new (round.Answered answer) = Acts tells_notes tells_files number call.Next answer old new
