use Rattle.broker_floor.proofs.Named.{kept_same}
use Rattle.broker_floor.proofs.path.laws.names_are_kept.Goals as goal

pub returns : goal.returns
returns c = kept_same
