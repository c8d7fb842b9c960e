-- What counts as an address.
use Rattle.std.specs.Prelude.{◌≡◌, ◌≢◌, ℕ, ◌<◌, ◌≤◌, ◌-◌, nat_eq, false, List, ◌∷◌, ◌++◌, length, drop, slice_index}
use Rattle.std.specs.Char.{is_ascii_digit}
use Rattle.std.specs.List.{AllPass, after_last}
use Rattle.std.specs.Str.Parse.{digits_value}

-- decimal digits that write a port, from 1 to 65535, without a zero in front
pub record IsPort (digits : List ℕ) : Type 0 where
  pub all_digits : AllPass is_ascii_digit digits
  pub no_zero : slice_index digits 0 ≢ 48
  pub at_least : 1 ≤ digits_value 10 digits
  pub at_most : digits_value 10 digits ≤ 65535

-- a host, a colon and a port's digits: so the colon is the text's last one. The host may be empty: `:4150` is an address
pub record IsAddress (text : List ℕ) : Type 0 where
  pub host : List ℕ
  pub digits : List ℕ
  pub whole : text ≡ host ++ 58 ∷ digits
  pub port : IsPort digits

-- the bytes behind the last colon: of an address, its port's digits
abbrev pub port_digits : List ℕ → List ℕ
port_digits text = after_last (nat_eq 58) text

-- digits stand from a place on to the text's end, and no digit before the place
pub record BeginDigits (text : List ℕ) (start : ℕ) : Type 0 where
  pub in_range : start ≤ length text
  pub all_digits : AllPass is_ascii_digit (drop start text)
  pub before : 0 < start → is_ascii_digit (slice_index text (start - 1)) ≡ false
