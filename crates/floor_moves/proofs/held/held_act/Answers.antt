use Rattle.std.proofs.Common.{◌∙◌, ◌<◌, ap, subst, sym}
use Rattle.broker_history.specs.declared.entry.Act.TheVariants.{HeldBack}
use Rattle.floor_rooms.specs.Rooms.{topic_name}
use Rattle.floor_moves.specs.Holding.{HasHeld}
use Rattle.floor_rooms.proofs.Marked.{range_of}
use Rattle.floor_moves.proofs.Joining.{room_range, stall_range}
use Rattle.floor_moves.proofs.HoldingBack.{act_found}
use Rattle.floor_moves.proofs.held.held_act.Goals as goal

pub returns : goal.returns
returns c =
    act_found c.args.place c.args.id c.args.hall.now.rooms.items _ (HasHeld c.args.id c.args.hall.now.moment) c.index-room.result.now c.index.result.now c.requires c.index-room.ensures c.index.ensures
    (ap (λ t. HeldBack t c.name-2.result c.args.id) c.name.ensures.value ∙ ap (λ k. HeldBack (topic_name c.index-room.result.now) k c.args.id) c.name-2.ensures.value)

pub index-room-requires : goal.index-room-requires
index-room-requires c = subst (λ n. c.args.place.room < n) (sym c.args.hall.now.rooms.ok.0) (room_range c.args.place.room c.args.place.stall (HasHeld c.args.id c.args.hall.now.moment) c.args.hall.now.rooms.items c.requires)

pub index-requires : goal.index-requires
index-requires c =
    let room = c.index-room.result.now in
    subst (λ n. c.args.place.stall < n) (sym room.stalls.ok.0)
    (range_of c.args.place.stall c.args.hall.now.rooms.items c.args.place.room room c.index-room.ensures (stall_range c.args.place.room c.args.place.stall (HasHeld c.args.id c.args.hall.now.moment) c.args.hall.now.rooms.items c.requires))
