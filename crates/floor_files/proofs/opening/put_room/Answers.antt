use Rattle.floor_rooms.specs.Rooms.{topic_name}
use Rattle.floor_files.proofs.Parting.{no_place}
use Rattle.floor_files.proofs.opening.put_room.Goals as goal

pub unreachable-requires : goal.unreachable-requires
unreachable-requires c = no_place topic_name c.args.hall.now.rooms.items (topic_name c.args.room) c.name.result c.in-Ok.field-0 c.args.room c.name.ensures c.requires.new c.in-Ok.ensures
