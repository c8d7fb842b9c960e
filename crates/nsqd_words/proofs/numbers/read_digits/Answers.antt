use Rattle.std.proofs.Common.{◌≡◌, ℕ, true, get_or, sym, arith}
use Rattle.std.specs.Char.{is_ascii_digit}
use Rattle.std.proofs.lemmas.List.Elements.{All-more}
use Rattle.nsqd_words.proofs.NumberLemmas.{power_small, small_more, value_more}
use Rattle.nsqd_words.proofs.numbers.read_digits.Goals as goal

pub overflow_mul-n : goal.overflow_mul-n
overflow_mul-n c = omega (arith, power_small c.loop-digit.digit-index (omega arith))

pub overflow_add-n : goal.overflow_add-n
overflow_add-n c =
    omega (arith, power_small c.loop-digit.digit-index (omega arith), c.if-not-is_ascii_digit.ensures.cases.1, c.from.ensures)

pub loop-digit-preserved : goal.loop-digit-preserved
loop-digit-preserved c =
    let text = c.args.text.now in
    let i = c.loop-digit.digit-index in
    let digit : is_ascii_digit (get_or text i 0) ≡ true = sym c.if-not-is_ascii_digit.ensures.value in
    record {
      some = c.loop-digit.invariant.some;
      few = c.loop-digit.invariant.few;
      value = value_more text i c.loop-digit.n c.from.result digit c.loop-digit-test.true c.loop-digit.invariant.value c.from.ensures;
      small = small_more i c.loop-digit.n (get_or text i 0) c.from.result c.loop-digit.invariant.small digit c.from.ensures;
      digits = All-more (λ (byte : ℕ). is_ascii_digit byte ≡ true) text i 0 c.loop-digit-test.true c.loop-digit.invariant.digits digit;
    }
