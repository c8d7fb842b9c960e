use Rattle.std.proofs.Common.{◌≢◌}
use Rattle.std.specs.List.{AllAdjacentBelow}
use Rattle.names_reading.proofs.sorted.are_apart.Given as goal

abbrev pub invariant-next : goal.invariant-next
invariant-next g l = AllAdjacentBelow (λ a b. g.X.Named.name_of a ≢ g.X.Named.name_of b) l.list l.next
