use Rattle.std.proofs.Common.{◌≡◌, map, take}
use Rattle.path_image.specs.Data.{durable}
use Rattle.floor_rooms.specs.Rooms.{channel_name}
use Rattle.floor_rooms.specs.Kept.{stall_kept}
use Rattle.floor_calls.proofs.durable.kept_channels.Given as goal

abbrev pub invariant-stalls : goal.invariant-stalls
invariant-stalls l = l.channels.items ≡ map stall_kept (durable channel_name (take l.stall-index l.stall-items))
