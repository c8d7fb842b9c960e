use Rattle.std.proofs.Common.{refl}
use Rattle.broker_state.proofs.broker.State.with_topic.Goals as goal

pub returns : goal.returns
returns c = rw (c.in_ok-topics.ensures, ← c.self.view_is) refl
