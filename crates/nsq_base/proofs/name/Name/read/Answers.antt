use Rattle.std.proofs.Common.{refl}
use Rattle.nsq_base.proofs.HeldNames.{holds_name}
use Rattle.nsq_base.proofs.name.Name.read.Goals as goal

pub invariant_of-result : goal.invariant_of-result
invariant_of-result c = holds_name c.args.bytes.now c.buffer_of.result _ (c.is_name.ensures.0 c.if-not-is_name.false) c.buffer_of.ensures refl
