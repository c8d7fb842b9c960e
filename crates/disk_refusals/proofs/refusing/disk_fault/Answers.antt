use Rattle.std.proofs.Common.{ap, codes, ◌++◌, ◌∙◌}
use Rattle.broker_history.specs.Reply.{error}
use Rattle.disk_refusals.proofs.refusing.disk_fault.Goals as goal

pub returns-clause-value : goal.returns-clause-value
returns-clause-value c = ap error (c.of.ensures ∙ c.in_ok-extend_from_slice.ensures.items ∙ ap (λ xs. xs ++ codes " disk fault") c.in_ok-bytes.ensures.items)
