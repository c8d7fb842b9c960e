use Rattle.std.proofs.Common.{sym, ◌∙◌}
use Rattle.broker_state.proofs.Lists.{find_hit, find_miss}
use Rattle.broker_state.proofs.topic.find_channel.Goals as goal

pub returns-then-is_named : goal.returns-then-is_named
returns-then-is_named c = sym (find_hit _ _ _ _ _ c.loop-channel-test.true c.loop-channel.invariant c.channel-item.is (sym c.is_named.ensures ∙ c.if-is_named.true))

pub loop-channel-preserved : goal.loop-channel-preserved
loop-channel-preserved c = find_miss _ _ _ _ _ c.loop-channel-test.true c.loop-channel.invariant c.channel-item.is (sym c.is_named.ensures ∙ c.if-is_named.false)
