use Rattle.std.proofs.Common.{◌≡◌, ◌++◌, map, string_bytes}
use Rattle.std.specs.List.{filter}
use Rattle.nsq_system.proofs.KnownTexts.{begins, front}
use Rattle.nsq_system.proofs.known_names.part_of.Given as goal

abbrev pub invariant-loop-name : goal.invariant-loop-name
invariant-loop-name l = map string_bytes l.found.items ++ front (begins l.beginning) (map string_bytes l.name-iterator) ≡ filter (begins l.beginning) (map string_bytes l.names.keys)
