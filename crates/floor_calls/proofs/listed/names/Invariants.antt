use Rattle.std.proofs.Common.{◌≡◌, map, take}
use Rattle.floor_calls.proofs.Naming.{entry_of}
use Rattle.floor_calls.proofs.listed.names.Given as goal

abbrev pub invariant-rooms : goal.invariant-rooms
invariant-rooms l = l.names ≡ map entry_of (take l.room-index l.room-items)
