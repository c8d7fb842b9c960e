use Rattle.std.proofs.Common.{◌≡◌, ◌≤◌, ◌<◌, ◌+◌, length, take, get_or, arith, length-take}
use Rattle.std.specs.Char.{digit_value}
use Rattle.std.specs.Int.{IsInRange}
use Rattle.std.proofs.lemmas.Bool.Decides.{nat_tests}
use Rattle.std.proofs.lemmas.Str.{digit_value_digit}
use Rattle.std.proofs.lemmas.Int.Digits.{digits_more, digits_value_more}
use Rattle.v2_frame.proofs.PlaceLemmas.{decimal_digit_at, digits_small, decimal_is}
use Rattle.http_calls.proofs.DelayLemmas.{decimal_none, decimal_some}
use Rattle.http_calls.proofs.delay.decimal_of.Goals as goal

pub returns-then-not-is_ascii_digit-clause-value : goal.returns-then-not-is_ascii_digit-clause-value
returns-then-not-is_ascii_digit-clause-value c =
    decimal_none c.args.digits.now (λ n d. omega (arith, decimal_digit_at 18 c.args.digits.now n c.loop-digit.digit-index d (omega arith), c.if-not-is_ascii_digit.ensures.cases))

pub overflow_mul-number : goal.overflow_mul-number
overflow_mul-number c =
    let short : length (take c.loop-digit.digit-index c.args.digits.now) ≤ 17 = simp length-take (omega arith) in
    omega (arith, digits_small 17 (take c.loop-digit.digit-index c.args.digits.now) c.loop-digit.invariant.digits short, c.loop-digit.invariant.value)

pub overflow_add-number : goal.overflow_add-number
overflow_add-number c =
    let short : length (take c.loop-digit.digit-index c.args.digits.now) ≤ 17 = simp length-take (omega arith) in
    omega (arith, digits_small 17 (take c.loop-digit.digit-index c.args.digits.now) c.loop-digit.invariant.digits short, c.loop-digit.invariant.value, c.from.ensures)

pub loop-digit-preserved : goal.loop-digit-preserved
loop-digit-preserved c =
    let i = c.loop-digit.digit-index in
    let digits = c.args.digits.now in
    let within : i < length digits = omega arith in
    let range : IsInRange 48 57 (get_or digits i 0) = omega (arith, c.if-not-is_ascii_digit.ensures.cases) in
    let digit : digit_value (get_or digits i 0) + 48 ≡ get_or digits i 0 = digit_value_digit (get_or digits i 0) range in
    record {
      digits = digits_more 10 digits i within c.loop-digit.invariant.digits (omega arith);
      value = omega (arith, digits_value_more 10 digits i within, c.loop-digit.invariant.value, c.from.ensures);
    }

pub returns-clause-value : goal.returns-clause-value
returns-clause-value c =
    decimal_some c.args.digits.now c.loop-digit.number
    (decimal_is c.args.digits.now c.loop-digit.digit-index c.loop-digit.number c.loop-digit.invariant.digits c.loop-digit.invariant.value (omega arith)
    (grind (arith, nat_tests)) (omega arith)).0

pub returns-clause-small : goal.returns-clause-small
returns-clause-small c =
    (decimal_is c.args.digits.now c.loop-digit.digit-index c.loop-digit.number c.loop-digit.invariant.digits c.loop-digit.invariant.value (omega arith)
    (grind (arith, nat_tests)) (omega arith)).1
