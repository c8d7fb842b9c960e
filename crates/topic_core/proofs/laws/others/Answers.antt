use Rattle.topic_core.proofs.Keeping.{opening_stays, change_stays}
use Rattle.topic_core.proofs.laws.others.Goals as goal

pub returns : goal.returns
returns c = record { openings = opening_stays; changes = change_stays }
