use Rattle.floor_laws.proofs.Allowing.{moves_allow, stuck_allows, stuck_stops, held_calm}
use Rattle.floor_laws.proofs.turns.payments.Goals as goal

pub returns : goal.returns
returns c = record { moves = moves_allow; stuck = stuck_allows; stops = stuck_stops; held = held_calm }
