-- Decimal numbers as the wire and the files spell them.
use Rattle.std.specs.Prelude.{◌≡◌, ℕ, ◌≤◌, List, length}
use Rattle.std.specs.Str.Parse.{IsNumeral, digits_value}

-- decimal digits that spell a number, one at least and at most so many; leading zeros are allowed
pub record IsDecimal (most : ℕ) (digits : List ℕ) (n : ℕ) : Type 0 where
  pub numeral : IsNumeral 10 digits
  pub bound : length digits ≤ most
  pub value : n ≡ digits_value 10 digits
