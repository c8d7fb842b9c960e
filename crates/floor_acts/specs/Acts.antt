-- What clients' commands, and what is sent to clients, make of a hall.
use Rattle.std.specs.Prelude.{◌≡◌, ℕ, ℤ, Bool, true, false, List, HoldsAt, slice_set}
use Rattle.nsq_outside.specs.Files.{Files}
use Rattle.v2_frame.specs.declared.command.Command.{Command}
use Rattle.v2_frame.specs.declared.command.Command.TheVariants.{Req}
use Rattle.broker_history.specs.State.{Client, counted}
use Rattle.broker_history.specs.Reply.{requeue_delay}
use Rattle.broker_history.specs.Step.{DoesCommand}
use Rattle.channel_core.specs.declared.answers.Requeue.{Requeue}
use Rattle.channel_core.specs.declared.answers.Requeue.TheVariants as requeue
use Rattle.floor_rooms.specs.declared.hall.Hall.{Hall}
use Rattle.floor_rooms.specs.Standing.{Carries}
use Rattle.floor_acts.specs.Replies.{flies_in}

-- the client at a place became another one, and all others stay, each at its place
abbrev pub ChangesAt : (k : ℕ) → (Client → Client) → (old new : List Client) → Type 0
ChangesAt k f old new = HoldsAt (λ c. new ≡ slice_set old k (f c)) old k

-- what a command of the client at a place makes of each state that the hall stood for: it is carried out, or it is refused or kept off
abbrev pub DoesAt : (k : ℕ) → Command → (refused : Bool) → (old : Hall) → (before : Files) → (new : Hall) → (after : Files) → Type 0
DoesAt k command refused old before new after = HoldsAt (λ c. Carries old before new after (λ s t. DoesCommand s old.moment c command refused t)) old.clients.items k

-- a copy of this id is in flight with the client at a place
abbrev pub FliesAt : (k : ℕ) → (id : List ℕ) → Hall → Type 0
FliesAt k id h = HoldsAt (λ c. flies_in h c id ≡ true) h.clients.items k

-- a client that gave a message back, or tried to
abbrev pub gave_back : Requeue → Client → Client
gave_back requeue.Done c = record c { requeue_count = counted c.requeue_count }
gave_back requeue.Fault c = c

-- what REQ of the client at a place makes of each state that the hall stood for, with each delay that is brought into range so: the message is given
-- back, or a disk fault kept that off
abbrev pub RequeuesAt : (k : ℕ) → (id : List ℕ) → (delay : ℕ) → (old : Hall) → (before : Files) → (new : Hall) → (after : Files) → Requeue → Type 0
RequeuesAt k id delay old before new after requeue.Done = (d : ℤ) → requeue_delay old.options d ≡ delay → DoesAt k (Req id d) false old before new after
RequeuesAt k id delay old before new after requeue.Fault = (d : ℤ) → DoesAt k (Req id d) true old before new after
