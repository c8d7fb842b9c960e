-- A command of a client that is accepted, and what carrying it out makes of a hall.
use Rattle.std.specs.Prelude.{◌≡◌, ◌<◌, ℕ, Bool, false, true, List, length, Option, Some, IsTrue, slice_index_or, Result, Ok, Err}
use Rattle.nsq_outside.specs.Causes.{Rose}
use Rattle.nsq_base.specs.declared.options.Options.{Options}
use Rattle.v2_frame.specs.declared.command.Command.{Command}
use Rattle.v2_frame.specs.declared.command.Command.TheVariants as command
use Rattle.v2_frame.specs.declared.frame.Frame.{Frame}
use Rattle.broker_history.specs.State.{Client, State, is_lost}
use Rattle.broker_history.specs.Changes.{published}
use Rattle.broker_history.specs.Reply.{disk_fault, disk_reply}
use Rattle.broker_history.specs.Step as step
use Rattle.broker_history.specs.Step.{is_error}
use Rattle.broker_history.specs.Calls.{IsWhole}
use Rattle.negotiation.specs.declared.identity.Identity.{Identity}
use Rattle.floor_rooms.specs.declared.hall.Hall.{Hall}
use Rattle.floor_calls.specs.Replies.{IsShortFrame, SaysOf, reply_in}
use Rattle.floor_calls.specs.Acts.{DoesAt}
use Rattle.floor_turns.specs.Acting.{SameClients}
use Rattle.floor_serving.specs.declared.commanded.Commanded.{Commanded}
use Rattle.floor_serving.specs.declared.commanded.Commanded.TheVariants.{Done, Fault}
use Rattle.floor_serving.specs.Carrying.{Around, Basis, Leads}

-- the client at a place gives the command, and its reply is no error
pub record IsAccepted (h : Hall) (k : ℕ) (c : Command) : Type 0 where
  pub client : Client
  pub within : k < length h.clients.items
  pub reads : (d : Client) → slice_index_or h.clients.items k d ≡ client
  pub stays : is_lost client.phase ≡ false
  pub accepted : is_error (reply_in h client c) ≡ false
  pub whole : IsWhole c

-- what an IDENTIFY that is accepted said is at hand
abbrev pub KnowsSaid : Options → Command → Option Identity → Type 0
KnowsSaid o (command.Identify body) found = SaysOf o body found
KnowsSaid o _ found = Unit {0}

-- the command is no IDENTIFY
abbrev pub IsNoIdentify : Command → Type 0
IsNoIdentify (command.Identify body) = ⊥
IsNoIdentify _ = Unit {0}

-- the command is a line alone, with no body behind it
abbrev pub IsLine : Command → Type 0
IsLine (command.Identify body) = ⊥
IsLine (command.Pub topic body) = ⊥
IsLine (command.Mpub topic bodies) = ⊥
IsLine (command.Dpub topic delay body) = ⊥
IsLine _ = Unit {0}

-- a disk fault kept the command off, and this frame says so
pub record KeepsOff (tells : Bool) (k : ℕ) (c : Command) (old new : Basis) (frame : Frame) : Type 0 where
  pub does : IsTrue tells → DoesAt k c true old.hall old.files new.hall new.files
  pub says : disk_reply c ≡ Some frame
  pub short : IsShortFrame frame
  pub rose : Rose old.faults new.faults

-- so the command of the client at a place ended
abbrev pub CommandsSo : (tells : Bool) → (k : ℕ) → Command → (old new : Basis) → Commanded → Type 0
CommandsSo tells k c old new Done = IsTrue tells → DoesAt k c false old.hall old.files new.hall new.files
CommandsSo tells k c old new (Fault frame) = KeepsOff tells k c old new frame

abbrev pub CommandsBy : {E : Type 0} → (tells : Bool) → (k : ℕ) → Command → (old new : Basis) → Result Commanded E → Type 0
CommandsBy tells k c old new (Ok ended) = CommandsSo tells k c old new ended
CommandsBy tells k c old new (Err e) = Leads tells old new (λ s t. t ≡ s)

pub record CarriesCommand {E : Type 0} (tells : Bool) (k : ℕ) (c : Command) (old new : Basis) (r : Result Commanded E) : Type 0 where
  pub around : Around tells old new
  pub same : SameClients old.hall new.hall
  pub ends : CommandsBy tells k c old new r

-- the command publishes these bodies to a topic with a delay, and its word names it where a disk fault keeps it off
pub record IsPublish (c : Command) (topic : List ℕ) (delay : ℕ) (bodies : List (List ℕ)) (word : List ℕ) : Type 0 where
  pub carries : (s : State) (at : ℕ) (d : Client) (t : State) → t ≡ published s at delay topic bodies → step.CarriesOut s at d c t
  pub says : disk_reply c ≡ Some (disk_fault word)
