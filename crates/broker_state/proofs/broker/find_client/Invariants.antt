use Rattle.std.proofs.Common.{◌≡◌, ◌==◌, take, None}
use Rattle.std.specs.List.{find}
use Rattle.broker_history.specs.State.{Client}
use Rattle.broker_state.proofs.broker.find_client.Given as goal

abbrev pub invariant-loop-client : goal.invariant-loop-client
invariant-loop-client l = find (λ (c : Client). c.number == l.number) (take l.client-index l.clients) ≡ None
