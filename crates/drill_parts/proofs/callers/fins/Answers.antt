use Rattle.std.proofs.Common.{ap, flat_map, ◌∙◌}
use Rattle.std.proofs.lemmas.List.{take_all}
use Rattle.std.proofs.lemmas.Result.{IfOk-from_err}
use Rattle.drill_parts.specs.Callers.{fin}
use Rattle.drill_parts.proofs.Lists.{flat_next}
use Rattle.drill_parts.proofs.callers.fins.Goals as goal

pub loop-publish-init : goal.loop-publish-init
loop-publish-init c = c.new-bytes.ensures.items

pub loop-publish-preserved : goal.loop-publish-preserved
loop-publish-preserved c = flat_next fin c.args.publishes.now c.loop-publish.publish-index _ _ _ c.loop-publish-test.true c.loop-publish.invariant c.in_ok-add_fin.ensures

pub returns-in_err-add_fin : goal.returns-in_err-add_fin
returns-in_err-add_fin c = IfOk-from_err c.from_residual.result _ c.from_residual.ensures.0

pub returns : goal.returns
returns c = c.of.ensures ∙ c.loop-publish.invariant ∙ ap (flat_map fin) (take_all c.loop-publish.publish-index c.args.publishes.now c.loop-publish-test.false)
