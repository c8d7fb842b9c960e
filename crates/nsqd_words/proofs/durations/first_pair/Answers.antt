use Rattle.std.proofs.Common.{List, ℕ, None, ◌≡◌, ◌*◌, ap₂, subst, ◌∙◌, arith}
use Rattle.std.specs.Prelude.{◌^◌, ◌+◌}
use Rattle.std.proofs.lemmas.List.{take_rest}
use Rattle.nsqd_words.specs.Parts.{BeginsUnit}
use Rattle.nsqd_words.proofs.PairLemmas.{begun, first_of_begins, front_time, no_pairs_by_count, no_pairs_by_unit, too_long}
use Rattle.nsqd_words.proofs.durations.first_pair.Goals as goal

pub returns-in_default : goal.returns-in_default
returns-in_default c = λ n small a. no_pairs_by_count _ _ c.leading_digits-digits.ensures c.requires c.in_default.ensures n a

pub returns-in_default-unit_at : goal.returns-in_default-unit_at
returns-in_default-unit_at c =
    λ n small a. no_pairs_by_unit _ _ c.leading_digits-digits.ensures c.requires (subst (λ (t : List ℕ). BeginsUnit t None) (take_rest c.args.text.now c.leading_digits-digits.result) c.in_default-unit_at.ensures) n a

pub returns-in_default-checked_mul : goal.returns-in_default-checked_mul
returns-in_default-checked_mul c =
    let text = c.args.text.now in
    let k = c.leading_digits-digits.result in
    let unit = c.in-Some-unit_at.unit in
    let b = begun text k unit c.leading_digits-digits.ensures c.in-Some.ensures.0 c.in-Some-unit_at.ensures in
    let time : c.in-Some.count * c.nanoseconds.result ≡ front_time text k unit = ap₂ (λ (x y : ℕ). x * y) c.in-Some.ensures.1 c.nanoseconds.ensures in
    λ n small a. too_long text k unit b.0 b.1 (2 ^ 64) (omega (arith, c.in_default-checked_mul.ensures, time)) n small a

pub returns : goal.returns
returns c =
    let text = c.args.text.now in
    let k = c.leading_digits-digits.result in
    let unit = c.in-Some-unit_at.unit in
    let b = begun text k unit c.leading_digits-digits.ensures c.in-Some.ensures.0 c.in-Some-unit_at.ensures in
    let time : c.in-Some-checked_mul.nanoseconds ≡ front_time text k unit = c.in-Some-checked_mul.ensures.1 ∙ ap₂ (λ (x y : ℕ). x * y) c.in-Some.ensures.1 c.nanoseconds.ensures in
    first_of_begins text k unit b.0 b.1 (record { nanoseconds = c.in-Some-checked_mul.nanoseconds; length = k + c.name_length.result }) time (omega (arith, c.name_length.ensures))
