use Rattle.std.proofs.Common.{◌≡◌, map, take}
use Rattle.path_image.specs.Data.{durable}
use Rattle.floor_rooms.specs.Rooms.{topic_name}
use Rattle.floor_rooms.specs.Kept.{room_kept}
use Rattle.floor_calls.proofs.durable.kept.Given as goal

abbrev pub invariant-rooms : goal.invariant-rooms
invariant-rooms l = l.kept.items ≡ map room_kept (durable topic_name (take l.room-index l.room-items))
