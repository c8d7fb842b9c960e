use Rattle.std.proofs.Common.{arith, ap, sym, ◌∙◌, ◌++◌, length, take, List, ℕ}
use Rattle.std.specs.List.{flat_map}
use Rattle.v2_frame.specs.Command.{sized}
use Rattle.v2_client.proofs.WritingLemmas.{batch_fits, batch_next, batch_push, not_err}
use Rattle.v2_client.proofs.write.append_bodies.Goals as goal

pub size_bytes-requires : goal.size_bytes-requires
size_bytes-requires c = omega (arith, c.requires, ap length c.bytes-body.ensures, batch_fits c.args.bodies.now c.bodies.i c.get.result.now c.get.ensures)

pub bodies-preserved : goal.bodies-preserved
bodies-preserved c =
    let bodies = c.args.bodies.now in
    let body = c.get.result.now in
    let added = not_err c.append_all.result (sym c.is_err.ensures.value ∙ c.if-is_err.false) c.append_all.ensures.ok in
    batch_push _ c.bodies.out.items c.args.out.now.items (flat_map sized (take c.bodies.i bodies)) c.size_bytes.result c.bytes-body.result.now body added c.bodies.invariant c.size_bytes.ensures c.bytes-body.ensures
    ∙ ap (λ (x : List ℕ). c.args.out.now.items ++ x) (sym (batch_next bodies c.bodies.i body c.get.ensures))
