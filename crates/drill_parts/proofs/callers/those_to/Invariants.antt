use Rattle.std.proofs.Common.{◌≡◌, take}
use Rattle.drill_parts.specs.Callers.{those_to}
use Rattle.drill_parts.proofs.callers.those_to.Given as goal

abbrev pub invariant-loop-publish : goal.invariant-loop-publish
invariant-loop-publish l = l.those.items ≡ those_to l.topic (take l.publish-index l.publishes)
