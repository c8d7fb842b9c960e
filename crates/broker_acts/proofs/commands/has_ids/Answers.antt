use Rattle.broker_acts.proofs.Ids.{left_iff}
use Rattle.broker_acts.proofs.commands.has_ids.Goals as goal

pub returns : goal.returns
returns c = left_iff _ _ _ c.are_left.ensures
