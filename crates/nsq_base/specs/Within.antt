-- Ranges of numbers.
use Rattle.std.specs.Prelude.{ℕ, ◌≤◌}

-- from a least to a greatest number
pub record IsWithin (least greatest n : ℕ) : Type 0 where
  pub at_least : least ≤ n
  pub at_most : n ≤ greatest
