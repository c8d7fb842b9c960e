use Rattle.floor_acts.proofs.Found.{none_at}
use Rattle.floor_acts.proofs.finding.find_stall.Goals as goal

pub returns-in_default-stall_place : goal.returns-in_default-stall_place
returns-in_default-stall_place c = none_at c.args.hall.now.rooms.items c.args.topic c.args.channel c.in-Some.i c.in-Some.ensures c.in_default-stall_place.ensures
