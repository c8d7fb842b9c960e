-- How a run that serves ends, and its status.
use Rattle.std.specs.Prelude.{ℕ, Bool, true, false}
use Rattle.daemon_endings.specs.declared.ends.LoopEnd.{LoopEnd}
use Rattle.daemon_endings.specs.declared.ends.LoopEnd.TheVariants as loop
use Rattle.daemon_endings.specs.declared.ends.ShutEnd.{ShutEnd}
use Rattle.daemon_endings.specs.declared.ends.ShutEnd.TheVariants as shut
use Rattle.daemon_endings.specs.declared.ends.Why.{Why}
use Rattle.daemon_endings.specs.declared.ends.Why.TheVariants as why
use Rattle.daemon_endings.specs.declared.serving.ServeEnd.{ServeEnd}
use Rattle.daemon_endings.specs.declared.serving.ServeEnd.TheVariants as end

-- the status of a run that serves
abbrev pub status_of : ServeEnd → ℕ
status_of end.Clean = 0
status_of end.BadData = 2
status_of end.EpochSpent = 2
status_of end.OpeningFault = 2
status_of end.StopFault = 3
status_of end.AcceptFailed = 4
status_of end.Memory = 5

-- how a run ends whose loop ended so, whose Stop was noted or not, and whose floor was shut so: of want of memory, a fault of the folder at the stop and a fault
-- of the listeners the first counts
abbrev pub ending_of : LoopEnd → (stopped : Bool) → ShutEnd → ServeEnd
ending_of looped false shutting = end.Memory
ending_of loop.Memory true shutting = end.Memory
ending_of looped true shut.Memory = end.Memory
ending_of looped true shut.Fault = end.StopFault
ending_of loop.Failed true shut.Clean = end.AcceptFailed
ending_of loop.Halted true shut.Clean = end.Clean
ending_of loop.Stopped true shut.Clean = end.Clean

-- how a run ends whose folder was not opened
abbrev pub refusal_of : Why → ServeEnd
refusal_of why.BadData = end.BadData
refusal_of why.EpochSpent = end.EpochSpent
refusal_of why.Fault = end.OpeningFault
refusal_of why.Memory = end.Memory
