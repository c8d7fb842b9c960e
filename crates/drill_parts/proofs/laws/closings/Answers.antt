use Rattle.drill_parts.proofs.Closing.{closed_by_stop}
use Rattle.drill_parts.proofs.Staying.{nobody_closed}
use Rattle.drill_parts.proofs.laws.closings.Goals as goal

pub returns : goal.returns
returns c = record { nobody = nobody_closed; stop = closed_by_stop }
