use Rattle.std.proofs.Common.{sym, ◌∙◌}
use Rattle.nsq_base.specs.Names.{is_before}
use Rattle.path_plain.proofs.NameLists.{put_before, put_after, put_neither}
use Rattle.path_plain.proofs.by_name.split.Goals as goal

pub loop-other-preserved-in-Continue-1 : goal.loop-other-preserved-in-Continue-1
loop-other-preserved-in-Continue-1 g c =
    put_before g.X.Named.name_of (g.X.Named.name_of c.args.one.now) c.loop-other.yielded _ _ _ c.in-Some.other c.loop-other.invariant.0 c.loop-other.invariant.1 (sym c.is_before.ensures ∙ c.if-is_before.true) c.in_ok-push.ensures.items

pub loop-other-preserved-in-Continue-branch-2 : goal.loop-other-preserved-in-Continue-branch-2
loop-other-preserved-in-Continue-branch-2 g c =
    let key = g.X.Named.name_of in
    let k = key c.args.one.now in
    put_after (λ o. is_before (key o) k) (λ o. is_before k (key o)) c.loop-other.yielded _ _ _ c.in-Some.other c.loop-other.invariant.0 c.loop-other.invariant.1 (sym c.is_before.ensures ∙ c.if-is_before.false) (sym c.is_before-else-is_before.ensures ∙ c.if-is_before-2.true) c.in_ok-push-2.ensures.items

pub loop-other-preserved : goal.loop-other-preserved
loop-other-preserved g c =
    let key = g.X.Named.name_of in
    let k = key c.args.one.now in
    put_neither (λ o. is_before (key o) k) (λ o. is_before k (key o)) c.loop-other.yielded _ _ c.in-Some.other c.loop-other.invariant.0 c.loop-other.invariant.1 (sym c.is_before.ensures ∙ c.if-is_before.false) (sym c.is_before-else-is_before.ensures ∙ c.if-is_before-2.false)
