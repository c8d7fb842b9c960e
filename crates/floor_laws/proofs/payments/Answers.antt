use Rattle.floor_laws.proofs.Paying.{moves_counted, stuck_seen, stuck_ends}
use Rattle.floor_laws.proofs.payments.Goals as goal

pub returns : goal.returns
returns c = record { moves = moves_counted; stuck = stuck_seen; last = stuck_ends }
