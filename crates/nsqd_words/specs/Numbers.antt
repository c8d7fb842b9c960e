-- Numbers as words write them.
use Rattle.std.specs.Prelude.{ℕ, ◌≡◌, ◌<◌, ◌≤◌, List, Option, Some, None, length}
use Rattle.std.specs.Char.{is_ascii_digit}
use Rattle.std.specs.List.{AllPass}
use Rattle.std.specs.Str.Parse.{digits_value}

-- one or more decimal digits, and no more than so many; zeros in front count as digits
pub record AreDigits (most : ℕ) (text : List ℕ) : Type 0 where
  pub all_digits : AllPass is_ascii_digit text
  pub at_least : 1 ≤ length text
  pub at_most : length text ≤ most

-- the text writes the number in 1 to 18 decimal digits
pub record IsNumber (text : List ℕ) (n : ℕ) : Type 0 where
  pub digits : AreDigits 18 text
  pub value : n ≡ digits_value 10 text

-- what a reader of numbers below a limit answers: a number with the property; none exactly where no number below the
-- limit has it
abbrev pub FindsBelow : ℕ → (ℕ → Type 0) → Option ℕ → Type 0
FindsBelow limit P None = (n : ℕ) → n < limit → P n → ⊥
FindsBelow limit P (Some n) = P n
