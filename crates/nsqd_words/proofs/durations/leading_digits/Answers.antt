use Rattle.std.proofs.Common.{◌≡◌, ℕ, true, get_or, sym, arith}
use Rattle.std.specs.Char.{is_ascii_digit}
use Rattle.std.proofs.lemmas.List.Elements.{All-more}
use Rattle.nsqd_words.proofs.durations.leading_digits.Goals as goal

pub loop-count-preserved : goal.loop-count-preserved
loop-count-preserved c =
    let digit : is_ascii_digit (get_or c.args.text.now c.loop-count.count 0) ≡ true = sym c.if-is_ascii_digit.ensures.value in
    record {
      in_range = omega arith;
      digits = All-more (λ (byte : ℕ). is_ascii_digit byte ≡ true) c.args.text.now c.loop-count.count 0 c.loop-count-test.true c.loop-count.invariant.digits digit;
    }
