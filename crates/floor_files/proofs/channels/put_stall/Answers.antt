use Rattle.floor_rooms.specs.Rooms.{channel_name}
use Rattle.floor_files.proofs.Parting.{no_place}
use Rattle.floor_files.proofs.channels.put_stall.Goals as goal

pub unreachable-requires : goal.unreachable-requires
unreachable-requires c = no_place channel_name c.args.room.now.stalls.items (channel_name c.args.stall) c.name.result c.in-Ok.field-0 c.args.stall c.name.ensures c.requires.new c.in-Ok.ensures
