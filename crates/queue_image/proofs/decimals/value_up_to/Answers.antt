use Rattle.std.proofs.Common.{refl, ◌+◌, ◌*◌, ◌-◌, get_or, drop, arith}
use Rattle.std.proofs.lemmas.Str.Parse.{digit_at}
use Rattle.std.specs.Str.Parse.{digits_value}
use Rattle.queue_image.proofs.Digits.{one_digit, digits_value_after-ge}
use Rattle.queue_image.proofs.decimals.value_up_to.Goals as goal

pub overflow_sub-value : goal.overflow_sub-value
overflow_sub-value c = (digit_at c.args.digits.now c.loop-digit.digit-index (c.if-not-is_numeral.ensures.0 refl).1 c.loop-digit-test.true).0

pub returns-then-value-most : goal.returns-then-value-most
returns-then-value-most c = λ h.
    let i = c.loop-digit.digit-index in
    let ds = c.args.digits.now in
    let whole = one_digit c.loop-digit.value i (digits_value 10 ds) ds h.0.1 c.loop-digit-test.true c.loop-digit.invariant.value in
    let more = digits_value_after-ge (c.loop-digit.value * 10 + (get_or ds i 0 - 48)) (drop (i + 1) ds) in
    omega (arith, h.1)

pub loop-digit-preserved : goal.loop-digit-preserved
loop-digit-preserved c = record {
  bound = omega arith;
  value = one_digit c.loop-digit.value c.loop-digit.digit-index (digits_value 10 c.args.digits.now) c.args.digits.now (c.if-not-is_numeral.ensures.0 refl).1 c.loop-digit-test.true c.loop-digit.invariant.value;
}
