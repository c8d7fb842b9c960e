use Rattle.std.proofs.Common.{le_of_eq, refl}
use Rattle.std.proofs.lemmas.Bool.{false≢true}
use Rattle.nsqd_host.proofs.host.SysHostHostEntry.tell.Goals as goal

pub returns-then-is_err : goal.returns-then-is_err
returns-then-is_err g c = record { content = λ told. absurd (false≢true told); state = (c.add.ensures.faults, refl); dials = refl; dial_faults = refl }

pub returns-else-is_err : goal.returns-else-is_err
returns-else-is_err g c = record { content = λ told. absurd (false≢true told); state = (le_of_eq refl, refl); dials = refl; dial_faults = refl }
