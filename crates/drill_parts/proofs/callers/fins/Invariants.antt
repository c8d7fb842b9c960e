use Rattle.std.proofs.Common.{◌≡◌, flat_map, take}
use Rattle.drill_parts.specs.Callers.{fin}
use Rattle.drill_parts.proofs.callers.fins.Given as goal

abbrev pub invariant-loop-publish : goal.invariant-loop-publish
invariant-loop-publish l = l.bytes.items ≡ flat_map fin (take l.publish-index l.publishes)
