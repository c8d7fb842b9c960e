use Rattle.std.proofs.Common.{None, arith}
use Rattle.std.proofs.lemmas.List.{take_rest}
use Rattle.http_calls.proofs.DelayLemmas.{minus_number, plain_number, minus_found, plain_found, turned_fits, minus_first, other_first, none_first}
use Rattle.http_calls.proofs.delay.number_of.Goals.{else-not-is_empty-via-then-not-is_empty+else-word-eq45, else-not-is_empty-via-else-not-is_empty}
use Rattle.http_calls.proofs.delay.number_of.Goals as goal

pub returns-in_default : goal.returns-in_default
returns-in_default c = minus_number c.args.word.now _ None (minus_first c.args.word.now c.if-word-eq45.true) (take_rest c.args.word.now 1) c.in_default.ensures.value

pub returns-then-word-eq45 : goal.returns-then-word-eq45
returns-then-word-eq45 c = minus_found c.args.word.now _ c.in-Some.size (minus_first c.args.word.now c.if-word-eq45.true) (take_rest c.args.word.now 1) c.in-Some.ensures.value c.in-Some.ensures.small

pub returns-in_default-decimal_of : goal.returns-in_default-decimal_of
returns-in_default-decimal_of c =
    elim c.else-not-is_empty.branch [
      | else-not-is_empty-via-then-not-is_empty+else-word-eq45 w ↦ plain_number c.args.word.now None (other_first c.args.word.now w.if-word-eq45.false) c.in_default-decimal_of.ensures.value
      | else-not-is_empty-via-else-not-is_empty w ↦ plain_number c.args.word.now None (none_first c.args.word.now w.if-not-is_empty.ensures) c.in_default-decimal_of.ensures.value
    ]

pub returns : goal.returns
returns c =
    elim c.else-not-is_empty.branch [
      | else-not-is_empty-via-then-not-is_empty+else-word-eq45 w ↦ plain_found c.args.word.now c.in-Some-decimal_of.size (other_first c.args.word.now w.if-word-eq45.false) c.in-Some-decimal_of.ensures.value c.in-Some-decimal_of.ensures.small
      | else-not-is_empty-via-else-not-is_empty w ↦ plain_found c.args.word.now c.in-Some-decimal_of.size (none_first c.args.word.now w.if-not-is_empty.ensures) c.in-Some-decimal_of.ensures.value c.in-Some-decimal_of.ensures.small
    ]

pub overflow_cast-result : goal.overflow_cast-result
overflow_cast-result c = omega (arith, c.in-Some.ensures.small)

pub overflow_cast-result-2 : goal.overflow_cast-result-2
overflow_cast-result-2 c = omega (arith, c.in-Some-decimal_of.ensures.small)

pub overflow_sub-result : goal.overflow_sub-result
overflow_sub-result c = turned_fits c.in-Some.size c.in-Some.ensures.small
