-- What the parts of a run do.
use Rattle.std.specs.Prelude.{◌≡◌, ◌≤◌, ℕ, Bool, true, IsTrue}
use Rattle.nsq_base.specs.declared.options.Options.{Options}
use Rattle.nsq_outside.specs.Causes.{Rose}
use Rattle.nsq_outside.specs.Files.{Files}
use Rattle.nsq_outside.specs.Hosts.{HostContent, HostState}
use Rattle.broker_history.specs.Entries.{has_stop, History, own}
use Rattle.broker_history.specs.State.{State}
use Rattle.broker_floor.specs.Standing.{HoldsFor}
use Rattle.broker_floor.specs.Leads.{Leads}
use Rattle.broker_floor.specs.Scenes.{Scene}
use Rattle.broker_floor.specs.Closings.{Leaves, ShutChanges, ShutFails, WhereClean}
use Rattle.daemon_endings.specs.declared.ends.ShutEnd.{ShutEnd}
use Rattle.daemon_main.specs.Rounds.{Rounds, WhyOver}
use Rattle.daemon_callers.specs.Served.{Views}
use Rattle.daemon_callers.specs.Stops.{AddsStop}
use Rattle.daemon_endings.specs.declared.ends.LoopEnd.{LoopEnd}
use Rattle.daemon_endings.specs.declared.ends.LoopEnd.TheVariants as loop
use Rattle.daemon_endings.specs.Endings.{ending_of}
use Rattle.daemon_endings.specs.declared.serving.ServeEnd.{ServeEnd}

-- of a host's counts that of the listeners alone may have risen, and whether callers get threads is as before
pub record KeepsFaults {F C J : Type 0} (old new : HostState F C J) : Type 0 where
  pub accept : old.accept_faults ≤ new.accept_faults
  pub beside : new.beside ≡ old.beside
  pub print : new.print_faults ≡ old.print_faults
  pub tell : new.tell_faults ≡ old.tell_faults

-- a floor that was opened served the callers, was stopped, and was shut, and what each of these did
pub record RunsOn {K : Type 0} (Told : Type 0) (tells_host tells_notes tells_files tells_readings : Bool) (seen : Views K) (o : Options) (began : ℕ) (ended : ServeEnd) (accept accept' : ℕ) (opened : Scene) (files : Files) (notes : History) (coming : ℕ → ℕ) (faults : ℕ)
    (content content' : HostContent K) : Type 0 where
  pub looped : LoopEnd
  pub stopped : Bool
  pub shutting : ShutEnd
  pub ended_is : ended ≡ ending_of looped stopped shutting
  pub number : ℕ
  pub middle : Scene
  pub rounds : Rounds Told tells_host tells_notes tells_files tells_readings seen o began number opened middle content content'
  pub why : Told → WhyOver looped number accept accept' middle.notes content'
  pub failed : looped ≡ loop.Failed → Rose accept accept'
  pub last : Scene
  pub leads : Leads tells_notes tells_files tells_readings 0 middle last
  pub adds : IsTrue tells_notes → AddsStop (own 0 middle.notes) (own 0 last.notes) stopped
  pub noted : stopped ≡ true → IsTrue tells_notes → has_stop last.notes ≡ true
  pub same_notes : notes ≡ last.notes
  pub same_coming : coming ≡ last.coming
  pub later : last.faults ≤ faults
  pub shut_fails : ShutFails last.hall.stuck last.faults faults shutting
  pub left : IsTrue tells_files → (s : State) → HoldsFor last.hall last.files s → WhereClean shutting (Leaves s files)
  pub changes : IsTrue tells_files → ShutChanges last.files files
