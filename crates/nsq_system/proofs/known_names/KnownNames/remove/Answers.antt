use Rattle.std.proofs.Common.{false}
use Rattle.nsq_system.proofs.KnownTexts.{sets-name, only-changes}
use Rattle.nsq_system.proofs.known_names.KnownNames.remove.Goals as goal

pub returns-in-Some-clause-others : goal.returns-in-Some-clause-others
returns-in-Some-clause-others c = rw c.in-Some.is (only-changes c.in-Some.names c.remove.new.self c.args.name.now false (sets-name c.args.name.now c.in-Some.names c.remove.new.self false c.remove.ensures.updates))
