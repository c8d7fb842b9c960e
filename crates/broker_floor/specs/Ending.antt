-- How a flush ends.
use Rattle.std.specs.Prelude.{◌≡◌, ◌⊎◌, ℕ, Bool, true, false}
use Rattle.nsq_outside.specs.Causes.{Rose}
use Rattle.backlog.specs.declared.answers.Flushed.{Flushed}
use Rattle.backlog.specs.declared.answers.Flushed.TheVariants.{Done, Fault}

-- a flush answers Fault only where the folder's count rose in it, or rose in the Stop's turn, which a disk fault kept from paying all that was owed
abbrev pub FloorFlushFails : (stuck : Bool) → (before now : ℕ) → Flushed → Type 0
FloorFlushFails stuck before now Done = stuck ≡ false
FloorFlushFails stuck before now Fault = Rose before now ⊎ (stuck ≡ true)

-- the answer of a flush by that of its queues
abbrev pub flushed_at : (stuck : Bool) → Flushed → Flushed
flushed_at true flushed = Fault
flushed_at false flushed = flushed
