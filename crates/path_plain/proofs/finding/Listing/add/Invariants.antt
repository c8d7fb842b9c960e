use Rattle.std.proofs.Common.{◌≡◌, ◌++◌}
use Rattle.path_plain.proofs.finding.Listing.add.Given as goal

abbrev pub invariant-loop-body : goal.invariant-loop-body
invariant-loop-body l = record {
  bodies : l.self.bodies ≡ l.initial.self.bodies ++ l.yielded;
  bad : l.self.bad.items ≡ l.initial.self.bad.items;
}
