use Rattle.std.proofs.Common.{◌≡◌, ◌≤◌, ◌-◌, ◌∷◌, map}
use Rattle.nsq_fakes.specs.declared.script.Piece.TheVariants.{Bytes}
use Rattle.drill_parts.specs.Callers.{fin_pieces, greeting}
use Rattle.drill_parts.proofs.callers.consumer.Given as goal

abbrev pub invariant-loop-k : goal.invariant-loop-k
invariant-loop-k l = record {
  pieces : l.pieces.items ≡ map Bytes (greeting l.topic ∷ fin_pieces l.those.items l.k);
  high : l.k ≤ l.count;
}

abbrev pub decreases-loop-k : goal.decreases-loop-k
decreases-loop-k l = l.count - l.k
