use Rattle.std.proofs.Common.{◌≡◌, take, None}
use Rattle.std.specs.List.{find}
use Rattle.std.specs.Str.{bytes_eq}
use Rattle.broker_history.specs.State.{Topic}
use Rattle.broker_state.proofs.broker.find_topic.Given as goal

abbrev pub invariant-loop-topic : goal.invariant-loop-topic
invariant-loop-topic l = find (λ (t : Topic). bytes_eq l.name t.name) (take l.topic-index l.topics) ≡ None
