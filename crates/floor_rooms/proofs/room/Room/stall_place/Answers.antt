use Rattle.floor_rooms.specs.Rooms.{channel_name}
use Rattle.floor_rooms.proofs.Placing.{none_belonging, there_standing}
use Rattle.floor_rooms.proofs.room.Room.stall_place.Goals as goal

pub returns-in-Ok : goal.returns-in-Ok
returns-in-Ok c = there_standing channel_name c.args.self.now.stalls.items c.args.channel c.in-Ok.j c.in-Ok.ensures

pub returns-in-Err : goal.returns-in-Err
returns-in-Err c = none_belonging channel_name c.args.self.now.stalls.items c.args.channel _ c.in-Err.ensures
