use Rattle.floor_rooms.specs.Rooms.{topic_name}
use Rattle.floor_rooms.proofs.Placing.{none_belonging, there_standing}
use Rattle.floor_rooms.proofs.hall.Hall.room_place.Goals as goal

pub returns-in-Ok : goal.returns-in-Ok
returns-in-Ok c = there_standing topic_name c.args.self.now.rooms.items c.args.topic c.in-Ok.i c.in-Ok.ensures

pub returns-in-Err : goal.returns-in-Err
returns-in-Err c = none_belonging topic_name c.args.self.now.rooms.items c.args.topic _ c.in-Err.ensures
