use Rattle.std.proofs.Common.{◌≡◌, ◌++◌, map}
use Rattle.form_urlencoded.specs.Parse.{owned_pairs_left}
use Rattle.http_wire.specs.Target.{pair_of, pairs_of}
use Rattle.http_wire.proofs.query.read_query.Given as goal

abbrev pub invariant-loop-pair : goal.invariant-loop-pair
invariant-loop-pair l = l.pairs ++ map pair_of (owned_pairs_left l.pair-iterator) ≡ pairs_of l.query
