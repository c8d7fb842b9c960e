-- What a count of faults shows: it never falls, and a call that answers a fault has raised it.
use Rattle.std.specs.Prelude.{ℕ, ◌≡◌, ◌+◌, ◌-◌, ◌^◌, ◌≤◌, min, Bool, true, false}
use Rattle.nsq_outside.specs.declared.did.Did.{Did}
use Rattle.nsq_outside.specs.declared.did.Did.TheVariants.{Done, Failed}

-- the count rose, or stands at the end of its type
abbrev pub Rose : ℕ → ℕ → Type 0
Rose before now = min (before + 1) (2 ^ 64 - 1) ≤ now

-- Failed comes only with a rise
abbrev pub DidFails : ℕ → ℕ → Did → Type 0
DidFails before now Failed = Rose before now
DidFails before now Done = Unit {0}

-- the count of faults after a call that failed, or didn't: one more, up to the end of its type, or as before
abbrev pub CountsFault : ℕ → ℕ → Bool → Type 0
CountsFault before now true = now ≡ min (before + 1) (2 ^ 64 - 1)
CountsFault before now false = now ≡ before

-- Failed is counted, and nothing else
abbrev pub DidCounts : ℕ → ℕ → Did → Type 0
DidCounts before now Failed = CountsFault before now true
DidCounts before now Done = CountsFault before now false
