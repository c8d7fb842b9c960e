use Rattle.drill_parts.proofs.Publishing.{publishers_publish, pubs_accepted}
use Rattle.drill_parts.proofs.laws.publishes.Goals as goal

pub returns : goal.returns
returns c = record { accepted = pubs_accepted; all = publishers_publish }
