-- Lemmas on decimal digits.
use Rattle.std.proofs.Common.{rules, ◌≡◌, ◌≢◌, ◌<◌, ◌^◌, ℕ, ℤ, ◌-ℤ◌, w64, to_z, of_z, SFits, ◌&&◌, ◌==◌, nat_le, Bool, true, false, List, length, drop, Option, Some, None, option_map, pos, neg_ℤ, refl, sym, ap, ◌∙◌, arith}
use Rattle.std.specs.Prelude.{slice_index}
use Rattle.std.specs.Bool.{Decides}
use Rattle.std.specs.Str.{all_ascii_digits}
use Rattle.std.specs.Str.Parse.{digits_value, starts_with_minus}
use Rattle.std.proofs.lemmas.Bool.{cond-true, cond-false, eqb-true, ne_eqb, false_from_ne_true, leb-true, le-leb}
use Rattle.std.proofs.lemmas.List.{nil_from_length}
use Rattle.std.proofs.lemmas.Bool.Decides.{Decides-and, Decides-like}
use Rattle.std.proofs.lemmas.Str.Parse.{numerals_by_value, tells_all_ascii_digits}
use Rattle.std.proofs.lemmas.Int.{to_z-of_z, to_z_pos}
use Rattle.nsq_base.specs.Decimal.{IsDecimal}
use Rattle.http_calls.specs.Delay.{decimal_in, number_in}

-- the test for decimal digits
abbrev is_decimal : List ℕ → Bool
is_decimal digits = nat_le 1 (length digits) && nat_le (length digits) 18 && all_ascii_digits digits

tested : (digits : List ℕ) → Decides (is_decimal digits) (IsDecimal 18 digits (digits_value 10 digits))
tested digits =
    let own = numerals_by_value (λ ds. all_ascii_digits ds ≡ true) tells_all_ascii_digits in
    let some : Decides (nat_le 1 (length digits)) _ = (leb-true 1 (length digits), le-leb 1 (length digits)) in
    let short : Decides (nat_le (length digits) 18) _ = (leb-true (length digits) 18, le-leb (length digits) 18) in
    let each : Decides (all_ascii_digits digits) _ = (own.to digits, own.from digits) in
    Decides-like (is_decimal digits) (λ p. record { numeral = (omega (arith, p.0.0), p.1); bound = p.0.1; value = refl }) (λ d. ((omega (arith, d.numeral.0), d.bound), d.numeral.1)) (Decides-and _ _ (Decides-and _ _ some short) each)

pub decimal_none : (digits : List ℕ) → ((n : ℕ) → IsDecimal 18 digits n → ⊥) → None ≡ decimal_in digits
decimal_none digits never = sym (cond-false _ _ _ (false_from_ne_true (is_decimal digits) (λ e. never (digits_value 10 digits) ((tested digits).0 e))))

pub decimal_some : (digits : List ℕ) (n : ℕ) → IsDecimal 18 digits n → Some n ≡ decimal_in digits
decimal_some digits n d = ap Some d.value ∙ sym (cond-true _ _ _ ((tested digits).1 (record { numeral = d.numeral; bound = d.bound; value = refl })))

-- a number behind a minus sign
pub minus_number : (word rest : List ℕ) (found : Option ℕ) → starts_with_minus word ≡ true → rest ≡ drop 1 word → found ≡ decimal_in rest → option_map (λ n. neg_ℤ (pos n)) found ≡ number_in word
minus_number word rest found minus is value = ap (option_map (λ n. neg_ℤ (pos n))) (value ∙ ap decimal_in is) ∙ sym (cond-true _ _ _ minus)

-- and one with no sign
pub plain_number : (word : List ℕ) (found : Option ℕ) → starts_with_minus word ≡ false → found ≡ decimal_in word → option_map (λ n. pos n) found ≡ number_in word
plain_number word found plain value = ap (option_map (λ n. pos n)) value ∙ sym (cond-false _ _ _ plain)

-- whether a word begins with a minus sign
pub minus_first : (word : List ℕ) → slice_index word 0 ≡ 45 → starts_with_minus word ≡ true
minus_first word is = ap (λ (n : ℕ). n == 45) is

pub other_first : (word : List ℕ) → slice_index word 0 ≢ 45 → starts_with_minus word ≡ false
other_first word other = ne_eqb (slice_index word 0) 45 other

pub none_first : (word : List ℕ) → true ≡ (length word == 0) → starts_with_minus word ≡ false
none_first word none = ap starts_with_minus (nil_from_length word (eqb-true (length word) 0 (sym none)))

-- a small number as a signed one, and turned
as_signed : (n : ℕ) → n < 10 ^ 18 → to_z w64 n ≡ pos n
as_signed n small = search (rules, to_z_pos)

from_none : (n : ℕ) → pos 0 -ℤ pos n ≡ neg_ℤ (pos n)
from_none n = search rules

pub turned_fits : (n : ℕ) → n < 10 ^ 18 → SFits w64 (pos 0 -ℤ to_z w64 n)
turned_fits n small = search (rules, to_z_pos)

turned : (n : ℕ) → n < 10 ^ 18 → to_z w64 (of_z w64 (pos 0 -ℤ to_z w64 n)) ≡ neg_ℤ (pos n)
turned n small = to_z-of_z w64 (pos 0 -ℤ to_z w64 n) (turned_fits n small) ∙ ap (λ (z : ℤ). pos 0 -ℤ z) (as_signed n small) ∙ from_none n

pub minus_found : (word rest : List ℕ) (n : ℕ) → starts_with_minus word ≡ true → rest ≡ drop 1 word → Some n ≡ decimal_in rest → n < 10 ^ 18 → Some (to_z w64 (of_z w64 (pos 0 -ℤ to_z w64 n))) ≡ number_in word
minus_found word rest n minus is value small = ap (λ (z : ℤ). Some z) (turned n small) ∙ minus_number word rest (Some n) minus is value

pub plain_found : (word : List ℕ) (n : ℕ) → starts_with_minus word ≡ false → Some n ≡ decimal_in word → n < 10 ^ 18 → Some (to_z w64 n) ≡ number_in word
plain_found word n plain value small = ap (λ (z : ℤ). Some z) (as_signed n small) ∙ plain_number word (Some n) plain value
