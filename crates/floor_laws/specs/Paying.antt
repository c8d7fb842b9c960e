-- What stands before a turn's act, by how the turn's entries are laid out: due moves of the turn's moment, perhaps a stuck entry, and then moves that
-- are never due.
use Rattle.std.specs.Prelude.{◌≡◌, ℕ, true, [], ◌∷◌, ◌++◌, length}
use Rattle.std.specs.List.{AllByRecursion}
use Rattle.nsq_outside.specs.declared.journal.End.{End}
use Rattle.broker_history.specs.declared.entry.Entry.{Entry}
use Rattle.broker_history.specs.Entries.{History, is_held}
use Rattle.broker_history.specs.Before.{is_moved_at, is_stuck_at, moves_before, stuck_before, stuck_last}

-- due moves of this moment
abbrev pub AreMoves : (at : ℕ) → History → Type 0
AreMoves at h = AllByRecursion (λ e. is_moved_at at e ≡ true) h

-- moves that are never due
abbrev pub AreHeld : History → Type 0
AreHeld h = AllByRecursion (λ e. is_held e.0.act ≡ true) h

-- moves of this moment are all counted, also behind what was held back
abbrev pub MovesAreCounted : Type 0
MovesAreCounted = (at : ℕ) (moves held : History) → AreMoves at moves → AreHeld held → moves_before at (moves ++ held) ≡ length moves

-- a stuck entry of this moment is seen behind moves and before what was held back
abbrev pub StuckIsSeen : Type 0
StuckIsSeen = (at : ℕ) (moves held : History) (e : Entry × End) → is_stuck_at at e ≡ true → AreHeld held → stuck_before at ((moves ++ e ∷ []) ++ held) ≡ true

-- and it is the last one where nothing was held back
abbrev pub StuckIsLast : Type 0
StuckIsLast = (at : ℕ) (moves : History) (e : Entry × End) → is_stuck_at at e ≡ true → stuck_last at (moves ++ e ∷ []) ≡ true
