use Rattle.floor_laws.proofs.Lifting.{can_time_out, can_come_due, can_join}
use Rattle.floor_laws.proofs.possible.Goals as goal

pub returns : goal.returns
returns c = record { times_out = can_time_out; comes_due = can_come_due; joins = can_join }
