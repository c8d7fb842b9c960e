use Rattle.std.proofs.Common.{refl}
use Rattle.nsq_fakes.proofs.host.MemHostHost.lend.Goals as goal

pub returns-clause-content : goal.returns-clause-content
returns-clause-content g c = refl

pub returns-clause-dials : goal.returns-clause-dials
returns-clause-dials g c = refl

pub returns-clause-dial_faults : goal.returns-clause-dial_faults
returns-clause-dial_faults g c = refl

pub returns-clause-callers : goal.returns-clause-callers
returns-clause-callers g c = refl

pub returns-clause-to_link : goal.returns-clause-to_link
returns-clause-to_link g c = refl

pub returns-clause-calls : goal.returns-clause-calls
returns-clause-calls g c = record { accepts = refl; prints = refl; tells = refl }
