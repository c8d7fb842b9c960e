use Rattle.std.specs.Fmt.{digits}
use Rattle.daemon_callers.specs.Written.{memory_bytes}
use Rattle.daemon_callers.proofs.WriteLemmas.{some_first, all_unless_fault}
use Rattle.daemon_callers.proofs.http.writing.write_memory_answer.Goals as goal

pub returns-clause-told : goal.returns-clause-told
unfolding digits
returns-clause-told g c = λ told. some_first memory_bytes _ _ c.write_all.result (c.write_all.ensures.told told)

pub returns-clause-whole : goal.returns-clause-whole
unfolding digits
returns-clause-whole g c = λ told. all_unless_fault memory_bytes _ _ c.write_all.result _ _ (c.write_all.ensures.told told) c.write_all.ensures.cause
