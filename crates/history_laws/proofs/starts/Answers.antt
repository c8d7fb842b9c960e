use Rattle.history_laws.proofs.Starting.{starts_found}
use Rattle.history_laws.proofs.starts.Goals as goal

pub returns : goal.returns
returns c = starts_found
