use Rattle.floor_acts.proofs.Spotting.{lost_stall, spot_found}
use Rattle.floor_acts.proofs.spots.spot_of.Goals as goal

pub returns-in_default-stall_place : goal.returns-in_default-stall_place
returns-in_default-stall_place c =
    absurd (lost_stall c.args.hall.now c.args.k c.index.result.now c.in-Some.names c.requires.sound c.requires.client c.index.ensures c.in-Some.ensures c.in-Some-room_place.i c.in-Some-room_place.ensures c.in_default-stall_place.ensures)

pub returns : goal.returns
returns c =
    spot_found c.args.hall.now c.args.k c.index.result.now c.in-Some.names c.requires.sound c.requires.client c.index.ensures c.in-Some.ensures c.in-Some-room_place.i c.in-Some-stall_place.j c.in-Some-room_place.ensures c.in-Some-stall_place.ensures
