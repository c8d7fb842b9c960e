use Rattle.daemon_callers.specs.Outputs.{memory_bytes}
use Rattle.daemon_callers.proofs.Writing.{some_first}
use Rattle.daemon_callers.proofs.Warning.{warned_all}
use Rattle.daemon_callers.proofs.v2.output.give_up.Goals as goal

pub returns-clause-told : goal.returns-clause-told
returns-clause-told g c = λ told. some_first memory_bytes _ _ c.write_all.result (c.write_all.ensures.told told)

pub returns-clause-warned : goal.returns-clause-warned
returns-clause-warned g c = λ told. warned_all _ _ c.write_all.result _ _ (c.write_all.ensures.told told) c.write_all.ensures.cause
