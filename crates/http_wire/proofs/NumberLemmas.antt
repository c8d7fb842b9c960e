-- Lemmas on numbers that digits spell.
use Rattle.std.proofs.Common.{◌≡◌, ℕ, ◌^◌, ◌<◌, ◌≤◌, List, length, take, get_or, ap, ◌∙◌, subst, arith}
use Rattle.std.specs.Int.{IsInRange}
use Rattle.std.specs.Str.Parse.{AllDigits, digits_value}
use Rattle.std.proofs.lemmas.List.{take_all}
use Rattle.std.proofs.lemmas.Str.Parse.{digit_at, digits_value_short, numerals_by_value, tells_digits}
use Rattle.nsq_base.specs.Decimal.{IsDecimal}

-- so many digits are below that power of ten
pub digits_small : (k : ℕ) (digits : List ℕ) → AllDigits 10 digits → length digits ≤ k → digits_value 10 digits < 10 ^ k
digits_small k digits all l = digits_value_short (numerals_by_value (AllDigits 10) tells_digits) digits k all l

-- a decimal has digits alone
pub decimal_digit_at : (most : ℕ) (digits : List ℕ) (n i : ℕ) → IsDecimal most digits n → i < length digits → IsInRange 48 57 (get_or digits i 0)
decimal_digit_at most digits n i d l = digit_at digits i d.numeral.1 l

-- digits that were all read
pub decimal_is : (digits : List ℕ) (i number : ℕ) → AllDigits 10 (take i digits) → number ≡ digits_value 10 (take i digits) → length digits ≤ i → 0 < length digits → length digits ≤ 18
    → IsDecimal 18 digits number × (number < 10 ^ 18)
decimal_is digits i number all value done some short =
    let whole : take i digits ≡ digits = take_all i digits done in
    let each : AllDigits 10 digits = subst (λ (x : List ℕ). AllDigits 10 x) whole all in
    let same : number ≡ digits_value 10 digits = value ∙ ap (digits_value 10) whole in
    (record { numeral = (some, each); bound = short; value = same }, omega (arith, digits_small 18 digits each short))
