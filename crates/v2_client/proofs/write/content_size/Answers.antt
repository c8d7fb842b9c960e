use Rattle.std.proofs.Common.{arith, ap, length}
use Rattle.v2_client.proofs.WritingLemmas.{batch_fits, batch_size}
use Rattle.v2_client.proofs.write.content_size.Goals as goal

pub overflow_add-size-in-bodies : goal.overflow_add-size-in-bodies
overflow_add-size-in-bodies c =
    omega (arith, c.bodies.invariant, c.requires, ap length c.bytes.ensures, batch_fits c.args.bodies.now c.bodies.i c.get.result.now c.get.ensures)

pub bodies-preserved : goal.bodies-preserved
bodies-preserved c = omega (arith, c.bodies.invariant, ap length c.bytes.ensures, batch_size c.args.bodies.now c.bodies.i c.get.result.now c.get.ensures)
