use Rattle.std.proofs.Common.{ap, ◌∙◌}
use Rattle.std.proofs.lemmas.List.{take_all}
use Rattle.std.proofs.lemmas.Result.{IfOk-from_err}
use Rattle.drill_parts.specs.Callers.{those_to}
use Rattle.drill_parts.proofs.Picking.{passed, picked}
use Rattle.drill_parts.proofs.callers.those_to.Goals.{then-publish-topic+in_ok-push, else-publish-topic}
use Rattle.drill_parts.proofs.callers.those_to.Goals as goal

pub loop-publish-init : goal.loop-publish-init
loop-publish-init c = c.new-those.ensures.items

pub loop-publish-preserved : goal.loop-publish-preserved
loop-publish-preserved c =
    elim c.if-publish-topic.branch [
      | then-publish-topic+in_ok-push w ↦
          rw w.those-is
          (picked c.args.topic c.args.publishes.now c.loop-publish.publish-index _ _ _ c.loop-publish-test.true c.loop-publish.invariant w.if-publish-topic.true w.in_ok-push.ensures.items)
      | else-publish-topic w ↦
          rw w.those-is
          (passed c.args.topic c.args.publishes.now c.loop-publish.publish-index _ _ c.loop-publish-test.true c.loop-publish.invariant w.if-publish-topic.false)
    ]

pub returns-in_err-push : goal.returns-in_err-push
returns-in_err-push c = IfOk-from_err c.from_residual.result _ c.from_residual.ensures.0

pub returns : goal.returns
returns c = c.loop-publish.invariant ∙ ap (those_to c.args.topic) (take_all c.loop-publish.publish-index c.args.publishes.now c.loop-publish-test.false)
