use Rattle.std.proofs.Common.{[], ◌∷◌, ◌++◌, ap, ◌∙◌, arith}
use Rattle.nsq_fakes.specs.declared.script.Piece.TheVariants.{Bytes}
use Rattle.drill_parts.specs.Callers.{fin_piece, greeting}
use Rattle.drill_parts.proofs.Lists.{pieces_next}
use Rattle.drill_parts.proofs.callers.consumer.Goals as goal

pub loop-k-init : goal.loop-k-init
loop-k-init c = record {
  pieces = c.in_ok-add_piece.ensures (greeting c.args.topic) c.greeting.ensures ∙ ap (λ ps. ps ++ Bytes (greeting c.args.topic) ∷ []) c.new-pieces.ensures.items;
  high = omega arith;
}

pub loop-k-preserved : goal.loop-k-preserved
loop-k-preserved c = record {
  pieces = pieces_next (λ b. Bytes b) _ c.in_ok-those.those.items c.loop-k.k _ _ _ (ap (λ ps. fin_piece ps c.loop-k.k) c.deref.ensures.value) c.loop-k.invariant.pieces (c.in_ok-add_piece-2.ensures _ c.fin_piece.ensures);
  high = omega (arith, c.loop-k-test.true);
}
