-- Rounds of the loop over the callers: each begins with a tick, then somebody may call.
use Rattle.std.specs.Prelude.{◌≡◌, ◌⊎◌, ℕ, ◌+◌, ◌-◌, ◌^◌, ◌≤◌, Bool, true, IsTrue, []}
use Rattle.nsq_base.specs.declared.options.Options.{Options}
use Rattle.nsq_outside.specs.Causes.{Rose}
use Rattle.nsq_outside.specs.Hosts.{HostContent}
use Rattle.broker_history.specs.Entries.{History, has_stop, own}
use Rattle.broker_floor.specs.Scenes.{Scene}
use Rattle.broker_floor.specs.Leads.{Leads}
pub use Rattle.broker_history.specs.Answers.{ticks_of}
use Rattle.daemon_tick.specs.Ticks.{IsTicked}
use Rattle.daemon_tick.specs.declared.ticking.Ticked.{Ticked}
use Rattle.daemon_main.specs.Going.{Went}
use Rattle.daemon_callers.specs.Served.{HasServed, OnlyCallersChange, UpTo, Views}
use Rattle.daemon_endings.specs.declared.ends.LoopEnd.{LoopEnd}
use Rattle.daemon_endings.specs.declared.ends.LoopEnd.TheVariants as loop

-- a turn of the daemon that ticked, and was answered so
pub record Ticks (tells_notes tells_files tells_readings : Bool) (old new : Scene) (answer : Ticked) : Type 0 where
  pub leads : Leads tells_notes tells_files tells_readings 0 old new
  pub nothing : IsTrue tells_notes → own 0 new.notes ≡ own 0 old.notes
  pub noted : IsTrue tells_notes → IsTicked answer old.notes new.notes

-- what is true of a run between two rounds: what the floor was led to; no entry names a number above the callers'; none is the daemon's own, so a Stop there is one
-- that a caller asked for; the daemon ticked once for each caller at least; each caller was served
pub record Rounds {K : Type 0} (Told : Type 0) (tells_host tells_notes tells_files tells_readings : Bool) (seen : Views K) (o : Options) (began number : ℕ) (old new : Scene) (content content' : HostContent K) : Type 0 where
  pub went : Went tells_notes tells_files tells_readings old new
  pub up_to : IsTrue tells_notes → UpTo number new.notes
  pub not_of_daemon : IsTrue tells_notes → own 0 new.notes ≡ []
  pub ticks : IsTrue tells_notes → number ≤ ticks_of new.notes
  pub served : Told → HasServed seen o began number new.notes content content'
  pub rest : IsTrue tells_host → OnlyCallersChange content content'

-- nobody will call any more, or as many called as there are numbers
abbrev pub IsHalted : {K : Type 0} → (number : ℕ) → HostContent K → Type 0
IsHalted number new = (new.halted ≡ true) ⊎ (number ≡ 2 ^ 64 - 1)

-- why no further caller is served, by how the loop ended: nobody will call any more, or as many called as there are numbers; the listeners failed; a Stop stands in
-- the history; memory was wanting
abbrev pub WhyOver : {K : Type 0} → LoopEnd → (number accept accept' : ℕ) → History → HostContent K → Type 0
WhyOver loop.Halted number accept accept' notes new = IsHalted number new
WhyOver loop.Failed number accept accept' notes new = Rose accept accept'
WhyOver loop.Stopped number accept accept' notes new = has_stop notes ≡ true
WhyOver loop.Memory number accept accept' notes new = Unit {0}

-- a loop over callers ended so
pub record LoopsOver {K : Type 0} (Told : Type 0) (tells_host tells_notes tells_files tells_readings : Bool) (seen : Views K) (o : Options) (began : ℕ) (ended : LoopEnd) (accept accept' : ℕ) (old new : Scene) (content content' : HostContent K) : Type 0 where
  pub number : ℕ
  pub rounds : Rounds Told tells_host tells_notes tells_files tells_readings seen o began number old new content content'
  pub why : Told → WhyOver ended number accept accept' new.notes content'
