use Rattle.std.proofs.Common.{◌≡◌, map, take}
use Rattle.nsq_fakes.specs.declared.script.Piece.TheVariants.{Bytes}
use Rattle.drill_parts.specs.Callers.{publisher}
use Rattle.drill_parts.proofs.callers.publisher.Given as goal

abbrev pub invariant-loop-publish : goal.invariant-loop-publish
invariant-loop-publish l = l.pieces.items ≡ map Bytes (publisher (take l.publish-index l.publishes))
