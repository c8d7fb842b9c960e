use Rattle.std.proofs.Common.{◌≡◌, ◌∙◌, sym, ap, subst, List, length, get_or, arith}
use Rattle.std.specs.Cmp.Lexicographic.{same_text, other_text}
use Rattle.nsq_base.specs.declared.pairs.Pair.{Pair}
use Rattle.http_wire.proofs.ArgumentLemmas.{argument_here, argument_more, argument_never}
use Rattle.http_wire.proofs.request.Request.argument.Goals as goal

pub returns-then-eq : goal.returns-then-eq
returns-then-eq c =
    argument_here c.args.self.now.query c.loop-pair.pair-index c.pair-item.result c.args.name.now c.bytes-then-eq.result.now (omega (arith, ap length c.as_slice-pair-items.ensures, c.loop-pair-test.true)) (subst (λ (x : List Pair). c.pair-item.result ≡ get_or x c.loop-pair.pair-index c.pair-item.result) c.as_slice-pair-items.ensures c.pair-item.is) c.loop-pair.invariant
    (sym c.bytes.ensures ∙ same_text c.bytes.result.now c.args.name.now (sym c.if-eq.true ∙ c.eq.ensures)) c.bytes-then-eq.ensures

pub loop-pair-preserved : goal.loop-pair-preserved
loop-pair-preserved c =
    argument_more c.args.self.now.query c.loop-pair.pair-index c.pair-item.result c.args.name.now (omega (arith, ap length c.as_slice-pair-items.ensures, c.loop-pair-test.true)) (subst (λ (x : List Pair). c.pair-item.result ≡ get_or x c.loop-pair.pair-index c.pair-item.result) c.as_slice-pair-items.ensures c.pair-item.is) c.loop-pair.invariant
    (λ same. other_text c.bytes.result.now c.args.name.now (sym c.if-eq.false ∙ c.eq.ensures) (c.bytes.ensures ∙ same))

pub returns : goal.returns
returns c = argument_never c.args.self.now.query c.loop-pair.pair-index c.args.name.now (omega (arith, ap length c.as_slice-pair-items.ensures, c.loop-pair-test.false)) c.loop-pair.invariant
