use Rattle.std.proofs.Common.{arith}
use Rattle.v2_frame.proofs.PlaceLemmas.{HasNo_more}
use Rattle.v2_frame.proofs.line.place_of.Goals as goal

pub loop-n-preserved : goal.loop-n-preserved
loop-n-preserved c = HasNo_more c.args.byte c.args.bytes.now c.loop-n.n (omega arith) c.loop-n.invariant c.if-b-byte.false
