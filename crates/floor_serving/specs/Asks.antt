-- What doing what is asked makes of a hall.
use Rattle.std.specs.Prelude.{◌≡◌, ℕ, Bool, true, false, IsTrue, List, Option, Result, Ok, Err}
use Rattle.nsq_outside.specs.Causes.{Rose}
use Rattle.broker_history.specs.declared.ask.Ask.{Ask}
use Rattle.broker_history.specs.declared.ask.Ask.TheVariants as ask
use Rattle.broker_history.specs.declared.ask.Said.TheVariants as said
use Rattle.broker_history.specs.State.{State}
use Rattle.broker_history.specs.Said.{Says}
use Rattle.broker_history.specs.Step.{CanFaultAsk, broken_off, carried_out}
use Rattle.floor_rooms.specs.Standing.{HoldsFor}
use Rattle.floor_turns.specs.Acting.{SameClients}
use Rattle.floor_serving.specs.declared.served.Served.{Served}
use Rattle.floor_serving.specs.declared.served.Served.TheVariants.{Done, Fault}
use Rattle.floor_serving.specs.Carrying.{Around, Basis, Leads}

-- from each state that the hall stood for and in which it is said to be done, the change leads to one that it stands for
abbrev pub Serves : (tells : Bool) → Ask → (old new : Basis) → (Does : State → State → Type 0) → Type 0
Serves tells a old new Does = IsTrue tells → (s : State) → HoldsFor old.hall old.files s → Says s a said.Done → (t : State) × Does s t × HoldsFor new.hall new.files t

-- a disk fault ended it, behind so many channels of a topic's deletion
pub record BreaksOff (tells : Bool) (a : Ask) (count : ℕ) (old new : Basis) : Type 0 where
  pub does : Serves tells a old new (λ s t. CanFaultAsk s a count × (t ≡ broken_off s a count))
  pub rose : Rose old.faults new.faults

-- so it ended
abbrev pub AsksSo : (tells : Bool) → Ask → (old new : Basis) → Served → Type 0
AsksSo tells a old new Done = Serves tells a old new (λ s t. t ≡ carried_out s old.hall.moment a)
AsksSo tells a old new (Fault count) = BreaksOff tells a count old new

abbrev pub AsksBy : {E : Type 0} → (tells : Bool) → Ask → (old new : Basis) → Result Served E → Type 0
AsksBy tells a old new (Ok ended) = AsksSo tells a old new ended
AsksBy tells a old new (Err e) = Leads tells old new (λ s t. t ≡ s)

pub record CarriesAsk {E : Type 0} (tells : Bool) (a : Ask) (old new : Basis) (r : Result Served E) : Type 0 where
  pub around : Around tells old new
  pub same : SameClients old.hall new.hall
  pub ends : AsksBy tells a old new r

-- a pause is asked for, or its end
abbrev pub pauses : (on : Bool) → (topic : List ℕ) → Option (List ℕ) → Ask
pauses true topic channel = ask.Pause topic channel
pauses false topic channel = ask.Unpause topic channel
