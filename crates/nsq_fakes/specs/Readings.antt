-- The readings that a list stands for.
use Rattle.std.specs.Prelude.{ℕ, ◌-◌, List, length, min, unwrap_or, slice_get}

-- the reading of a number, counted from 0: the last one repeats, and an empty list gives 0
abbrev pub reading_at : List ℕ → ℕ → ℕ
reading_at readings n = unwrap_or (slice_get readings (min n (length readings - 1))) 0
