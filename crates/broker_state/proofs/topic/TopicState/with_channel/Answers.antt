use Rattle.std.proofs.Common.{refl}
use Rattle.broker_state.proofs.topic.TopicState.with_channel.Goals as goal

pub returns : goal.returns
returns c = rw (c.in_ok-channels.ensures, ← c.self.view_is) refl
