-- Digits that are read from the front.
use Rattle.std.proofs.Common.{nat_le, ◌≡◌, ℕ, ◌+◌, ◌-◌, ◌*◌, ◌^◌, ◌<◌, ◌≤◌, true, List, length, take, get_or, subst, arith}
use Rattle.std.specs.List.{AllPass}
use Rattle.std.specs.Char.{is_ascii_digit}
use Rattle.std.specs.Str.Parse.{digits_value}
use Rattle.std.proofs.Math.Nat.{pow-le-pow_right}
use Rattle.std.proofs.lemmas.Bool.{and_parts, leb-true}
use Rattle.std.proofs.lemmas.Grind.{pow_more}
use Rattle.std.proofs.lemmas.Int.Digits.{digits_value_more}
use Rattle.std.proofs.lemmas.List.{take_all}
use Rattle.std.proofs.lemmas.Str.{digit_value_digit}
use Rattle.nsqd_words.specs.Numbers.{AreDigits}

-- the value of a digit
pub digit_bounds : (byte : ℕ) → is_ascii_digit byte ≡ true → (48 ≤ byte) × (byte ≤ 57)
digit_bounds byte h =
    let parts = and_parts (nat_le 48 byte) (nat_le byte 57) h in (leb-true _ _ parts.0, leb-true _ _ parts.1)

-- one digit more: its value, behind ten times that of those before it
pub value_more : (digits : List ℕ) (i n digit : ℕ) → is_ascii_digit (get_or digits i 0) ≡ true → i < length digits → n ≡ digits_value 10 (take i digits) → digit ≡ get_or digits i 0 - 48 → n * 10 + digit ≡ digits_value 10 (take (i + 1) digits)
value_more digits i n digit h l e f =
    omega (arith, digits_value_more 10 digits i l, digit_value_digit (get_or digits i 0) (digit_bounds (get_or digits i 0) h))

-- 17 digits or fewer are small
pub power_small : (i : ℕ) → i ≤ 17 → 10 ^ i ≤ 100000000000000000
power_small i l = let ten : 0 < 10 = omega arith in pow-le-pow_right ten l

-- a number of one digit more
pub small_more : (i n byte digit : ℕ) → n < 10 ^ i → is_ascii_digit byte ≡ true → digit ≡ byte - 48 → n * 10 + digit < 10 ^ (i + 1)
small_more i n byte digit l h f = omega (arith, pow_more 10 i, digit_bounds byte h)

-- all digits are read
pub whole : (most n : ℕ) (text : List ℕ) (i : ℕ) → length text ≤ i → 1 ≤ length text → length text ≤ most → AllPass is_ascii_digit (take i text) → n ≡ digits_value 10 (take i text) → AreDigits most text × (n ≡ digits_value 10 text)
whole most n text i end some few all e =
    let same : take i text ≡ text = take_all i text end in
    (record { all_digits = subst (λ (t : List ℕ). AllPass is_ascii_digit t) same all; at_least = some; at_most = few }, rw same at e)
