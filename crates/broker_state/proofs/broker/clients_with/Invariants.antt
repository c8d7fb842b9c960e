use Rattle.std.proofs.Common.{◌≡◌, take}
use Rattle.std.specs.List.{filter}
use Rattle.broker_history.specs.State.{has_channel}
use Rattle.broker_state.proofs.broker.clients_with.Given as goal

abbrev pub invariant-loop-client : goal.invariant-loop-client
invariant-loop-client l = l.kept.items ≡ filter (has_channel l.topic l.channel) (take l.client-index l.clients)
