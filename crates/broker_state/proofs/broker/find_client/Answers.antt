use Rattle.std.proofs.Common.{sym, ◌∙◌}
use Rattle.broker_state.proofs.Lists.{find_hit, find_miss}
use Rattle.broker_state.proofs.broker.find_client.Goals as goal

pub returns-then-is_numbered : goal.returns-then-is_numbered
returns-then-is_numbered c = sym (find_hit _ _ _ _ _ c.loop-client-test.true c.loop-client.invariant c.client-item.is (sym c.is_numbered.ensures ∙ c.if-is_numbered.true))

pub loop-client-preserved : goal.loop-client-preserved
loop-client-preserved c = find_miss _ _ _ _ _ c.loop-client-test.true c.loop-client.invariant c.client-item.is (sym c.is_numbered.ensures ∙ c.if-is_numbered.false)
