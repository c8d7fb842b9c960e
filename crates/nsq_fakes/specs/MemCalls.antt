-- Which calls on a fake in memory fail.
use Rattle.std.specs.Prelude.{ℕ, ◌≡◌, ◌+◌, ◌-◌, ◌^◌, List, min, Contains}
use Rattle.nsq_fakes.specs.declared.calls.Calls.{Calls}

-- none came yet, and those of these numbers fail
abbrev pub FailsAt : List ℕ → Calls → Type 0
FailsAt numbers calls = (calls.fails.items ≡ numbers) × (calls.next ≡ 0)

-- the call that comes is one of those that fail
abbrev pub IsFailing : Calls → Type 0
IsFailing calls = Contains calls.fails.items calls.next

-- one call came
abbrev pub Counts : Calls → Calls → Type 0
Counts old new = (new.fails.items ≡ old.fails.items) × (new.next ≡ min (old.next + 1) (2 ^ 64 - 1))

-- the faults are forgotten: none is counted any more. Which calls fail stays, and so does the number of the next one
pub record ForgetsFaults (old new : Calls) : Type 0 where
  pub none : new.faults.count ≡ 0
  pub rest : new ≡ record old { faults = new.faults }
