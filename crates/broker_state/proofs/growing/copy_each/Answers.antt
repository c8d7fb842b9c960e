use Rattle.std.proofs.Common.{◌∙◌}
use Rattle.std.proofs.lemmas.List.{take_all}
use Rattle.broker_state.proofs.Lists.{copied_more}
use Rattle.broker_state.proofs.growing.copy_each.Goals as goal

pub loop-item-preserved : goal.loop-item-preserved
loop-item-preserved g c = copied_more c.args.items.now c.loop-item.item-index _ _ _ _ _ c.loop-item-test.true c.item-item.is c.loop-item.invariant c.in_ok-copied.ensures c.in_ok-put_last.ensures

pub returns : goal.returns
returns g c = c.loop-item.invariant ∙ take_all c.loop-item.item-index c.args.items.now c.loop-item-test.false
