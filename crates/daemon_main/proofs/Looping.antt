-- Steps of the loop over the callers beside its rounds: which ends are no failure, the next number, and a host that did nothing.
use mir.Syntax.{w64}
use mir.Val.{Fits}
use Rattle.std.proofs.Common.{◌≡◌, ◌≢◌, ◌<◌, ◌+◌, ◌-◌, ◌^◌, ℕ, arith, le_refl, refl}
use Rattle.nsq_outside.specs.Hosts.{HostContent, HostState, OnlyAcceptFaults}
use Rattle.daemon_callers.specs.Served.{OnlyCallersChange}
use Rattle.daemon_endings.specs.declared.ends.LoopEnd.TheVariants as loop

-- ends that aren't that of listeners which failed
pub halted_unfailed : (P : Type 0) → loop.Halted ≡ loop.Failed → P
halted_unfailed P is = let never : ⊥ = cc in absurd never

pub stopped_unfailed : (P : Type 0) → loop.Stopped ≡ loop.Failed → P
stopped_unfailed P is = let never : ⊥ = cc in absurd never

pub memory_unfailed : (P : Type 0) → loop.Memory ≡ loop.Failed → P
memory_unfailed P is = let never : ⊥ = cc in absurd never

-- a number that isn't the last one has a next
pub next_fits : (n : ℕ) → Fits w64 n → n ≢ 2 ^ 64 - 1 → Fits w64 (n + 1)
next_fits n fits below = omega (arith, fits, below)

-- numbers begin at 1
pub above_none : (n : ℕ) → 0 < n + 1
above_none n = omega arith

-- the status of a run whose listeners failed isn't that of a clean one
pub unclean : (status : ℕ) → status ≡ 4 → status ≢ 0
unclean status four none = absurd (omega (arith, four, none))

-- a host that did nothing
pub accepted_nobody : {F C J : Type 0} (s : HostState F C J) → OnlyAcceptFaults s s
accepted_nobody s = (le_refl s.accept_faults, refl)

pub no_callers_change : {K : Type 0} (c : HostContent K) → OnlyCallersChange c c
no_callers_change c = record { starts = refl; printed = refl; lines = refl }
