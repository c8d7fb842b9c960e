use Rattle.std.proofs.Common.{sym, ◌∙◌}
use Rattle.broker_state.proofs.Order.{put_before, put_after, put_neither}
use Rattle.broker_state.proofs.in_order.split.Goals as goal

pub loop-other-preserved-in-Continue-1 : goal.loop-other-preserved-in-Continue-1
loop-other-preserved-in-Continue-1 g c =
    put_before g.X.Ordered.before g.met.X.Ordered.once c.args.one.now c.loop-other.yielded _ _ _ c.in-Some.other c.loop-other.invariant.0 c.loop-other.invariant.1 (sym c.precedes.ensures ∙ c.if-precedes.true) c.in_ok-push.ensures.items

pub loop-other-preserved-in-Continue-branch-2 : goal.loop-other-preserved-in-Continue-branch-2
loop-other-preserved-in-Continue-branch-2 g c =
    let before = g.X.Ordered.before in
    let one = c.args.one.now in
    put_after (λ o. before o one) (λ o. before one o) c.loop-other.yielded _ _ _ c.in-Some.other c.loop-other.invariant.0 c.loop-other.invariant.1 (sym c.precedes.ensures ∙ c.if-precedes.false) (sym c.precedes-else-precedes.ensures ∙ c.if-precedes-2.true) c.in_ok-push-2.ensures.items

pub loop-other-preserved : goal.loop-other-preserved
loop-other-preserved g c =
    let before = g.X.Ordered.before in
    let one = c.args.one.now in
    put_neither (λ o. before o one) (λ o. before one o) c.loop-other.yielded _ _ c.in-Some.other c.loop-other.invariant.0 c.loop-other.invariant.1 (sym c.precedes.ensures ∙ c.if-precedes.false) (sym c.precedes-else-precedes.ensures ∙ c.if-precedes-2.false)
