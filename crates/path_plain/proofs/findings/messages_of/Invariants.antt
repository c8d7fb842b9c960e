use Rattle.std.proofs.Common.{take}
use Rattle.path_image.specs.Found.{Pairwise, IsRecordOf}
use Rattle.path_plain.proofs.findings.messages_of.Given as goal

abbrev pub invariant-loop-body : goal.invariant-loop-body
invariant-loop-body l = Pairwise IsRecordOf (take l.body-index l.bodies) l.messages.items
