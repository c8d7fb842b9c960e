use Rattle.std.proofs.Common.{le_of_eq, refl}
use Rattle.std.proofs.lemmas.Bool.{false≢true}
use Rattle.nsqd_host.proofs.host.SysHostHostEntry.print.Goals as goal

pub returns-in-Ok : goal.returns-in-Ok
returns-in-Ok g c = record { content = λ told. absurd (false≢true told); state = (le_of_eq refl, refl); cause = tt; dials = refl; dial_faults = refl }

pub returns-in-Err : goal.returns-in-Err
returns-in-Err g c = record { content = λ told. absurd (false≢true told); state = (c.add.ensures.faults, refl); cause = c.add.ensures.rose; dials = refl; dial_faults = refl }
