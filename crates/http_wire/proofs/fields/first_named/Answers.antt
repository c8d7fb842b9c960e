use Rattle.std.proofs.Common.{◌∙◌, map, arith}
use Rattle.std.proofs.lemmas.List.{length-map}
use Rattle.httparse.specs.Spans.{header_bytes}
use Rattle.http_wire.proofs.FieldLemmas.{named_here, named_other, named_never}
use Rattle.http_wire.proofs.fields.first_named.Goals as goal

pub returns-then-eq_ignore_ascii_case-clause-values : goal.returns-then-eq_ignore_ascii_case-clause-values
returns-then-eq_ignore_ascii_case-clause-values c =
    c.loop-place.invariant ∙ named_here c.args.name.now c.args.head.now c.args.fields.now c.loop-place.place _ c.of.result.now c.of-then-eq_ignore_ascii_case.result.now c.loop-place-test.true c.of.ensures c.of-then-eq_ignore_ascii_case.ensures
    (c.eq_ignore_ascii_case.ensures.test.0 c.if-eq_ignore_ascii_case.true)

pub loop-place-preserved : goal.loop-place-preserved
loop-place-preserved c =
    c.loop-place.invariant ∙ named_other c.args.name.now c.args.head.now c.args.fields.now c.loop-place.place _ c.of.result.now c.loop-place-test.true c.of.ensures
    (λ same. let yes = c.eq_ignore_ascii_case.ensures.test.1 same in let unset = c.if-eq_ignore_ascii_case.false in cc)

pub returns-clause-values : goal.returns-clause-values
returns-clause-values c =
    c.loop-place.invariant ∙ named_never c.args.name.now (map (header_bytes c.args.head.now) c.args.fields.now) c.loop-place.place (omega (arith, length-map c.args.fields.now (header_bytes c.args.head.now)))
