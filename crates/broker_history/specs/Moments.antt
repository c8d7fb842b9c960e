-- When entries are: each has the greatest of the first readings of a clock.
use Rattle.std.specs.Prelude.{◌≡◌, ℕ, zero, suc, ◌+◌, ◌≤◌, min, max, true, not, [], ◌∷◌, ◌++◌, length, filter}
use Rattle.std.specs.List.{AllByRecursion}
use Rattle.nsq_outside.specs.declared.journal.End.{End}
use Rattle.broker_history.specs.declared.entry.Entry.{Entry}
use Rattle.broker_history.specs.Entries.{History, is_free_act}
use Rattle.broker_history.specs.Step.{last_moment}

-- the greatest of the first so many readings, 0 where there are none
abbrev pub greatest : (coming : ℕ → ℕ) → (readings : ℕ) → ℕ
greatest coming zero = 0
greatest coming (suc readings) = max (greatest coming readings) (coming readings)

-- the moment behind the first so many readings: the greatest of them, and no later than the greatest moment
abbrev pub moment_of : (coming : ℕ → ℕ) → (readings : ℕ) → ℕ
moment_of coming readings = min (greatest coming readings) last_moment

-- how many entries are neither moves nor the daemon's Stuck: at most one a turn
abbrev pub acts_of : History → ℕ
acts_of h = length (filter (λ e. not (is_free_act e.0.act)) h)

-- the entry is a move or the daemon's Stuck
abbrev pub IsFree : Entry × End → Type 0
IsFree e = is_free_act e.0.act ≡ true

-- the entry has the moment behind so many readings
abbrev pub IsAt : (coming : ℕ → ℕ) → (readings : ℕ) → Entry × End → Type 0
IsAt coming readings e = e.0.at ≡ moment_of coming readings

-- the entries were noted in turns: before the first one so many readings were made, behind the last one so many; each turn makes one reading, and
-- notes moves and the daemon's Stuck, and behind them one act at most, all at the moment behind that reading
pub data IsTimed (coming : ℕ → ℕ) (first : ℕ) : History → ℕ → Type 0 where
  starts : IsTimed coming first [] first
  turn : {h : History} {readings : ℕ} (moves acts : History) → IsTimed coming first h readings → AllByRecursion IsFree moves → length acts ≤ 1 → AllByRecursion (IsAt coming (readings + 1)) (moves ++ acts)
      → IsTimed coming first (h ++ (moves ++ acts)) (readings + 1)

-- each entry has the moment behind a number of readings, which never falls along them, and is above the number before the first of them by one at
-- least for each act before the entry, and by one more
pub data HasReadings (coming : ℕ → ℕ) (first : ℕ) : History → ℕ → Type 0 where
  none : HasReadings coming first [] first
  next : {h : History} {earlier readings : ℕ} (e : Entry × End) → HasReadings coming first h earlier → earlier ≤ readings → first + acts_of h + 1 ≤ readings → IsAt coming readings e → HasReadings coming first (h ++ e ∷ []) readings
