use Rattle.floor_turns.proofs.Following.{leads_follow, leads_stay}
use Rattle.floor_turns.proofs.laws.leads.Goals as goal

pub returns : goal.returns
returns c = record { stay = leads_stay; follow = leads_follow }
