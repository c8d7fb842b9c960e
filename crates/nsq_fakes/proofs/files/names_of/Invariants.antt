use Rattle.std.proofs.Common.{◌≡◌, ◌++◌, map, filter, string_bytes}
use Rattle.std.specs.BTreeMap.{keys}
use Rattle.nsq_fakes.proofs.Listings.{begins}
use Rattle.nsq_fakes.proofs.files.names_of.Given as goal

abbrev pub invariant-loop-name : goal.invariant-loop-name
invariant-loop-name l = map string_bytes l.names.items ++ filter (begins l.beginning) (map string_bytes l.name-iterator) ≡ filter (begins l.beginning) (map string_bytes (keys l.files))
