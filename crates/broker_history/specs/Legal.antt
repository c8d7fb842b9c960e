-- Legal histories.
use Rattle.std.specs.Prelude.{[], ◌∷◌, ◌++◌}
use Rattle.nsq_outside.specs.declared.journal.End.{End}
use Rattle.broker_history.specs.declared.entry.Entry.{Entry}
use Rattle.broker_history.specs.State.{State}
use Rattle.broker_history.specs.Entries.{History}
use Rattle.broker_history.specs.Before.{IsPaid}
use Rattle.broker_history.specs.Step.{Step}

-- the history leads from the first state to the second, a step an entry, and what is due is moved first
pub data Legal : State → History → State → Type 0 where
  none : {s : State} → Legal s [] s
  more : {s t u : State} {h : History} {e : Entry × End} → Legal s h t → IsPaid h t e → Step t e u → Legal s (h ++ e ∷ []) u

-- the history leads from the state to none
abbrev pub IsIllegal : State → History → Type 0
IsIllegal s h = (u : State) → Legal s h u → ⊥
