use Rattle.std.proofs.Common.{◌<◌, sym, subst}
use Rattle.nsq_base.specs.Places.{StandsAt}
use Rattle.floor_rooms.specs.declared.room.Room.{Room}
use Rattle.floor_rooms.specs.Rooms.{channel_name}
use Rattle.floor_rooms.proofs.Spacing.{order_read, place_read}
use Rattle.floor_acts.proofs.Putting.{holds_read}
use Rattle.floor_calls.proofs.subscribing.join.Goals as goal

pub place_of-requires : goal.place_of-requires
place_of-requires c = c.requires.sound

pub place_of-requires-in-Ok : goal.place_of-requires-in-Ok
place_of-requires-in-Ok c = order_read c.args.hall.now c.in-Ok.i c.args.topic c.index.result.now c.requires.sound c.in-Ok.ensures c.index.ensures

pub index-requires : goal.index-requires
index-requires c = subst (λ n. c.in-Ok.i < n) (sym c.args.hall.now.rooms.ok.0) c.in-Ok.ensures.in_range

pub join_stall-requires-clause-there : goal.join_stall-requires-clause-there
join_stall-requires-clause-there c = c.in-Ok.ensures

pub join_stall-requires-clause-stall : goal.join_stall-requires-clause-stall
join_stall-requires-clause-stall c =
    holds_read (λ (r : Room). StandsAt channel_name r.stalls.items c.args.channel c.in-Ok-place_of.j) c.args.hall.now.rooms.items c.in-Ok.i c.index.result.now c.in-Ok.ensures.in_range c.index.ensures c.in-Ok-place_of.ensures

pub join_room-requires-clause-there : goal.join_room-requires-clause-there
join_room-requires-clause-there c = c.in-Ok.ensures

pub join_room-requires-clause-place : goal.join_room-requires-clause-place
join_room-requires-clause-place c = place_read c.args.hall.now c.in-Ok.i c.in-Err-place_of.j c.args.topic c.args.channel c.index.result.now c.in-Ok.ensures c.index.ensures c.in-Err-place_of.ensures

pub join_hall-requires-clause-place : goal.join_hall-requires-clause-place
join_hall-requires-clause-place c = c.in-Err.ensures

pub returns-in-Ok-place_of : goal.returns-in-Ok-place_of
returns-in-Ok-place_of c = record {
  rest = c.join_stall.ensures.rest;
  joins = c.join_stall.ensures.joins;
  remains = c.join_stall.ensures.remains;
}

pub returns-in-Err-place_of : goal.returns-in-Err-place_of
returns-in-Err-place_of c = record {
  rest = c.join_room.ensures.rest;
  joins = c.join_room.ensures.joins;
  remains = c.join_room.ensures.remains;
}

pub returns-in-Err : goal.returns-in-Err
returns-in-Err c = record {
  rest = c.join_hall.ensures.rest;
  joins = c.join_hall.ensures.joins;
  remains = c.join_hall.ensures.remains;
}
