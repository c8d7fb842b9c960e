use Rattle.std.proofs.Common.{List, ℕ, ◌<◌, subst, drop, sym, arith}
use Rattle.std.specs.Prelude.{◌^◌}
use Rattle.std.proofs.lemmas.List.{length-drop, take_rest}
use borrow.Author.Tests.{eqb-true}
use Rattle.nsqd_words.specs.Parts.{ArePairs, IsFirst}
use Rattle.nsqd_words.proofs.PairLemmas.{at_end, no_duration, one_pair_more, overflow, stuck}
use Rattle.nsqd_words.proofs.durations.read_duration.Goals as goal

pub returns-then-is_empty : goal.returns-then-is_empty
returns-then-is_empty c = λ n small d. no_duration c.args.text.now n (eqb-true _ _ (sym c.if-is_empty.ensures)) d

pub returns-in_default : goal.returns-in_default
returns-in_default c =
    let text = c.args.text.now in
    let start = c.loop-start.start in
    let none = subst (λ (t : List ℕ). (n : ℕ) → n < 2 ^ 64 → ArePairs t n → ⊥) (take_rest text start) c.in_default.ensures in
    stuck text (drop start text) c.loop-start.total (2 ^ 64) c.loop-start.invariant.goes_on none

pub returns-in_default-checked_add : goal.returns-in_default-checked_add
returns-in_default-checked_add c =
    let text = c.args.text.now in
    let start = c.loop-start.start in
    let first = subst (λ (t : List ℕ). IsFirst t c.in-Some.first) (take_rest text start) c.in-Some.ensures in
    overflow text (drop start text) c.loop-start.total (2 ^ 64) c.in-Some.first c.loop-start.invariant.goes_on first (omega (arith, c.in_default-checked_add.ensures))

pub loop-start-preserved : goal.loop-start-preserved
loop-start-preserved c =
    let text = c.args.text.now in
    let start = c.loop-start.start in
    let first = subst (λ (t : List ℕ). IsFirst t c.in-Some.first) (take_rest text start) c.in-Some.ensures in
    record {
      some = c.loop-start.invariant.some;
      in_range = omega (arith, first.at_most, length-drop start text);
      goes_on = one_pair_more text start c.loop-start.total c.in-Some-checked_add.sum c.in-Some.first c.loop-start.invariant.goes_on first c.in-Some-checked_add.ensures.1;
    }

pub returns : goal.returns
returns c = at_end _ _ _ c.loop-start.invariant.some c.loop-start-test.false c.loop-start.invariant.goes_on
