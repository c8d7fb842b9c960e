use Rattle.std.proofs.Common.{◌<◌, length, arith}
use Rattle.std.proofs.lemmas.Bool.Decides.{nat_tests}
use Rattle.queue_image.proofs.Digits.{AllDigits-from_tests, tests_from_AllDigits}
use Rattle.queue_image.proofs.decimals.is_numeral.Goals as goal

pub returns-then-not-is_empty : goal.returns-then-not-is_empty
returns-then-not-is_empty c =
    let some : 0 < length c.args.digits.now = grind (arith, nat_tests) in
    (λ t. (some, AllDigits-from_tests c.args.digits.now (c.all_digits.ensures.0 t)), λ n. c.all_digits.ensures.1 (tests_from_AllDigits c.args.digits.now n.1))
