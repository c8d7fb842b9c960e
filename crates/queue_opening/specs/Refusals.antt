-- Why a queue was not opened.
use Rattle.std.specs.Prelude.{ℕ, Result, Ok, Err, true, false}
use Rattle.nsq_outside.specs.Causes.{Rose, CountsFault}
use Rattle.queue_opening.specs.declared.refusal.Open.{Open}
use Rattle.queue_opening.specs.declared.refusal.Open.TheVariants.{Fault, BadMeta as IsBadMeta, Memory}

-- a fault comes only with a rise
abbrev pub OpenFails : ℕ → ℕ → Open → Type 0
OpenFails before now Fault = Rose before now
OpenFails before now IsBadMeta = Unit {0}
OpenFails before now Memory = Unit {0}

-- the count of faults behind an opening or a part of one: one more, up to the end of its type, where it ended by a fault, and else as before
abbrev pub OpenCounts : {T : Type 0} → ℕ → ℕ → Result T Open → Type 0
OpenCounts before now (Ok _) = CountsFault before now false
OpenCounts before now (Err Fault) = CountsFault before now true
OpenCounts before now (Err IsBadMeta) = CountsFault before now false
OpenCounts before now (Err Memory) = CountsFault before now false

-- any other error than BadMeta
abbrev pub NotBadMeta : Open → Type 0
NotBadMeta Fault = Unit {0}
NotBadMeta IsBadMeta = ⊥
NotBadMeta Memory = Unit {0}
