use Rattle.floor_laws.proofs.Beginning.{legal_begins}
use Rattle.floor_laws.proofs.turns.beginnings.Goals as goal

pub returns : goal.returns
returns c = record { begins = λ s t h number a. legal_begins number a }
