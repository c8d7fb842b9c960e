use Rattle.floor_turns.proofs.Clearing.{paid_may_act, paid_may_stop}
use Rattle.floor_turns.proofs.laws.payments.Goals as goal

pub returns : goal.returns
returns c = record { act = paid_may_act; stop = paid_may_stop }
