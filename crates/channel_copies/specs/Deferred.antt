-- Deferred copies, in the order in which they came to wait.
use Rattle.std.specs.Prelude.{◌≡◌, ℕ, ◌+◌, ◌≤◌, Bool, List, map, All, Option, Some}
use Rattle.v2_frame.specs.declared.message.Message.{Message}
use Rattle.broker_history.specs.Channels.{AsOften}
use Rattle.backlog.specs.Seen.{FitsLimit}
use Rattle.backlog.specs.declared.answers.PutOne.{PutOne}
use Rattle.backlog.specs.declared.answers.PutOne.TheVariants.{Fault as Refused}
use Rattle.due_heap.specs.Heap.{Entry}
use Rattle.channel_copies.specs.Flights.{Leaves, soonest, due_by}
use Rattle.channel_copies.specs.Putting.{Around, Puts, IsTaken}
use Rattle.channel_copies.specs.declared.putting.Back.{Back}
use Rattle.channel_copies.specs.declared.putting.Back.TheVariants.{Done, Fault}

-- a message that waits until a moment
pub record Waiting : Type 0 where
  pub due : ℕ
  pub message : Message

-- those that wait, and for how many more there is room
pub record Deferring : Type 0 where
  pub waiting : List Waiting
  pub spare : ℕ

abbrev pub waiting_in : Entry Message → Waiting
waiting_in e = record { due = e.due; message = e.item }

abbrev pub waiting_of : List (Entry Message) → List Waiting
waiting_of es = map waiting_in es

-- bodies are short
abbrev pub AreShort : List (Entry Message) → Type 0
AreShort es = All (λ e. FitsLimit e.item) es

-- the one that is due soonest, and where it is due
abbrev pub soonest_waiting : List Waiting → Option Waiting
soonest_waiting ws = soonest (λ w. w.due) ws

abbrev pub first_waiting : (now : ℕ) → List Waiting → Option Waiting
first_waiting now ws = due_by (λ w. w.due) now (soonest_waiting ws)

-- the one that is due soonest went, and its message was put into the backlog, which took it or dropped it
pub record FirstWentBack (tells : Bool) (old new : List Waiting) (before after : Around) : Type 0 where
  pub waiting : Waiting
  pub first : soonest_waiting old ≡ Some waiting
  pub leaves : Leaves waiting old new
  pub answer : PutOne
  pub taken : IsTaken answer
  pub puts : Puts tells waiting.message answer before after

-- the backlog refused it, and it waits as before
pub record WaitsAgain (tells : Bool) (old new : List Waiting) (before after : Around) : Type 0 where
  pub often : AsOften old new
  pub message : Message
  pub back : Message
  pub puts : Puts tells message (Refused back) before after

abbrev pub MovesFirst : (tells : Bool) → (old new : List Waiting) → (before after : Around) → Back → Type 0
MovesFirst tells old new before after Done = FirstWentBack tells old new before after
MovesFirst tells old new before after Fault = WaitsAgain tells old new before after

-- the room that is left
abbrev pub RoomAfter : (before now : ℕ) → Back → Type 0
RoomAfter before now Done = before + 1 ≤ now
RoomAfter before now Fault = before ≤ now
