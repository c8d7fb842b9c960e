use Rattle.std.proofs.Common.{◌≡◌, ◌∷◌, ◌++◌, [], map, take}
use Rattle.floor_rooms.specs.Rooms.{channel_name, topic_name}
use Rattle.floor_calls.proofs.listed.add_room.Given as goal

abbrev pub invariant-stalls : goal.invariant-stalls
invariant-stalls l = l.names ≡ l.fn.names ++ (topic_name l.room, map channel_name (take l.stall-index l.stall-items)) ∷ []
