use Rattle.std.proofs.Common.{sym}
use Rattle.std.proofs.lemmas.Bool.{eqb-true}
use Rattle.v2_frame.proofs.PlaceLemmas.{behind_place}
use Rattle.v2_frame.proofs.NumberLemmas.{not_minus, none_minus, minus_nothing, minus_number, plain_nothing, plain_number, size_as, size_less}
use Rattle.v2_frame.proofs.number.number_of.Goals.{else-not-is_empty-via-then-not-is_empty+else-word-eq45, else-not-is_empty-via-else-not-is_empty}
use Rattle.v2_frame.proofs.number.number_of.Goals as goal

pub returns-in_default : goal.returns-in_default
returns-in_default c = minus_nothing c.args.word.now _ c.if-word-eq45.true (behind_place c.args.word.now 1) c.in_default.ensures

pub returns-then-word-eq45 : goal.returns-then-word-eq45
returns-then-word-eq45 c = minus_number c.args.word.now _ c.if-word-eq45.true (behind_place c.args.word.now 1) c.in-Some.size c.in-Some.ensures.0 _ (size_less c.in-Some.size c.in-Some.ensures.1)

pub returns-in_default-decimal_of : goal.returns-in_default-decimal_of
returns-in_default-decimal_of c =
    let word = c.args.word.now in
    plain_nothing word
    (elim c.else-not-is_empty.branch [
      | else-not-is_empty-via-then-not-is_empty+else-word-eq45 w ↦ not_minus word w.if-word-eq45.false
      | else-not-is_empty-via-else-not-is_empty w ↦ none_minus word (eqb-true _ _ (sym w.if-not-is_empty.ensures))
    ])
    c.in_default-decimal_of.ensures

pub returns : goal.returns
returns c =
    let word = c.args.word.now in
    plain_number word
    (elim c.else-not-is_empty.branch [
      | else-not-is_empty-via-then-not-is_empty+else-word-eq45 w ↦ not_minus word w.if-word-eq45.false
      | else-not-is_empty-via-else-not-is_empty w ↦ none_minus word (eqb-true _ _ (sym w.if-not-is_empty.ensures))
    ])
    c.in-Some-decimal_of.size c.in-Some-decimal_of.ensures.0 _ (size_as c.in-Some-decimal_of.size c.in-Some-decimal_of.ensures.1)
