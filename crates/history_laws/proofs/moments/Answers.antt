use Rattle.broker_history.proofs.Timing.{turns_read}
use Rattle.history_laws.proofs.moments.Goals as goal

pub returns : goal.returns
returns c = turns_read
