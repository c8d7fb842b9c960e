use Rattle.drill_parts.proofs.Conserved.{conserved, ones_stay}
use Rattle.drill_parts.proofs.laws.conservation.Goals as goal

pub returns : goal.returns
returns c = record { sum = conserved; ones = ones_stay }
