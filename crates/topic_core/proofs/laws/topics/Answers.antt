use Rattle.topic_core.proofs.Keeping.{topic_stays, save_stays, finding_stays, left_stays, name_tells}
use Rattle.topic_core.proofs.laws.topics.Goals as goal

pub returns : goal.returns
returns c = record { same = topic_stays; saved = save_stays; found = finding_stays; left = left_stays; names = name_tells }
