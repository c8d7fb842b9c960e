-- What carrying an act out makes of a hall and of a folder's files, and how that ends.
use Rattle.std.specs.Prelude.{◌≡◌, ◌≤◌, ℕ, Bool, true, IsTrue, Result, Ok, Err}
use Rattle.nsq_outside.specs.Causes.{Rose}
use Rattle.nsq_outside.specs.Files.{Files}
use Rattle.broker_history.specs.Entries.{is_faulted}
use Rattle.broker_history.specs.State.{State}
use Rattle.broker_history.specs.declared.entry.Act.{Act}
use Rattle.broker_history.specs.declared.entry.Act.TheVariants as act
use Rattle.broker_history.specs.Answers.{IsShortAnswer}
use Rattle.floor_rooms.specs.declared.hall.Hall.{Hall}
use Rattle.floor_rooms.specs.Changes.{OnlyQueueFiles}
use Rattle.floor_rooms.specs.Sound.{IsSound}
use Rattle.floor_rooms.specs.Standing.{Carries}
use Rattle.floor_turns.specs.Acting.{ActCarries, IsNoted, LeavesClients, SameClients, StaysSet, answer_of}
use Rattle.floor_serving.specs.declared.carried.Carried.{Carried}

-- a hall in a folder's files, and the folder's count of faults
pub record Basis : Type 0 where
  pub hall : Hall
  pub files : Files
  pub faults : ℕ

abbrev pub basis : Hall → Files → ℕ → Basis
basis h f n = record { hall = h; files = f; faults = n }

-- what carrying out leaves, however it ends
pub record Around (tells : Bool) (old new : Basis) : Type 0 where
  pub stays : StaysSet old.hall new.hall
  pub sound : IsSound new.hall
  pub files : IsTrue tells → OnlyQueueFiles old.files new.files
  pub faults : old.faults ≤ new.faults

-- from each state that the hall stood for, the change leads to one that it stands for
abbrev pub Leads : (tells : Bool) → (old new : Basis) → (Does : State → State → Type 0) → Type 0
Leads tells old new Does = IsTrue tells → Carries old.hall old.files new.hall new.files Does

-- an act of a number was carried out, ended and was answered so
pub record Ends (tells : Bool) (number : ℕ) (a : Act) (old new : Basis) (c : Carried) : Type 0 where
  pub does : IsTrue tells → ActCarries old.hall old.files new.hall new.files number a c.end
  pub answer : c.answer ≡ answer_of old.hall.moment a c.end
  pub noted : IsNoted c.end
  pub cause : is_faulted c.end ≡ true → Rose old.faults new.faults
  pub clients : LeavesClients a number old.hall new.hall
  pub short : IsShortAnswer c.answer

-- or memory was wanting, and all is as it was
pub record Rests (tells : Bool) (old new : Basis) : Type 0 where
  pub rests : Leads tells old new (λ s t. t ≡ s)
  pub same : SameClients old.hall new.hall

abbrev pub EndsBy : {E : Type 0} → (tells : Bool) → (number : ℕ) → Act → (old new : Basis) → Result Carried E → Type 0
EndsBy tells number a old new (Ok c) = Ends tells number a old new c
EndsBy tells number a old new (Err e) = Rests tells old new

pub record CarriesOut {E : Type 0} (tells : Bool) (number : ℕ) (a : Act) (old new : Basis) (r : Result Carried E) : Type 0 where
  pub around : Around tells old new
  pub ends : EndsBy tells number a old new r

-- the act is no command
abbrev pub IsNoCommand : Act → Type 0
IsNoCommand (act.Did command reply) = ⊥
IsNoCommand _ = Unit {0}

-- the act changes nothing but the moment, and no call leads to another one that the hall carries out so
abbrev pub IsLeft : Act → Type 0
IsLeft (act.Refused fault frame) = Unit {0}
IsLeft act.Idle = Unit {0}
IsLeft act.Silent = Unit {0}
IsLeft act.Dropped = Unit {0}
IsLeft (act.Listed names) = Unit {0}
IsLeft act.Ticked = Unit {0}
IsLeft _ = ⊥
