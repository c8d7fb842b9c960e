use Rattle.floor_laws.proofs.Faulting.{rises_add, faults-append, apart_adds}
use Rattle.floor_laws.proofs.turns.faults.Goals as goal

pub returns : goal.returns
returns c = record { rises = rises_add; faults = faults-append; apart = apart_adds }
