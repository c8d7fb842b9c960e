use Rattle.floor_turns.proofs.Leading.{turn_leads}
use Rattle.floor_turns.proofs.Tying.{turn_ties}
use Rattle.floor_turns.proofs.laws.once.Goals as goal

pub returns : goal.returns
returns c = record { leads = turn_leads; ties = turn_ties }
