use Rattle.std.proofs.Common.{◌<◌, subst, sym}
use Rattle.floor_moves.specs.Due.{IsDueNow}
use Rattle.floor_rooms.proofs.Marked.{range_of}
use Rattle.floor_moves.proofs.Joining.{room_range, stall_range}
use Rattle.floor_moves.proofs.PuttingBack.{due_found}
use Rattle.floor_moves.proofs.moving.due_at.Goals as goal

pub returns : goal.returns
returns c =
    due_found c.args.hall.now c.args.place _ (IsDueNow c.args.hall.now.moment) c.index-room.result.now c.index.result.now c.requires c.index-room.ensures c.index.ensures c.name.ensures.value c.name-2.ensures.value (sym c.in-Some.ensures.is)

pub index-room-requires : goal.index-room-requires
index-room-requires c = subst (λ n. c.args.place.room < n) (sym c.args.hall.now.rooms.ok.0) (room_range c.args.place.room c.args.place.stall (IsDueNow c.args.hall.now.moment) c.args.hall.now.rooms.items c.requires)

pub index-requires : goal.index-requires
index-requires c =
    let room = c.index-room.result.now in
    subst (λ n. c.args.place.stall < n) (sym room.stalls.ok.0)
    (range_of c.args.place.stall c.args.hall.now.rooms.items c.args.place.room room c.index-room.ensures (stall_range c.args.place.room c.args.place.stall (IsDueNow c.args.hall.now.moment) c.args.hall.now.rooms.items c.requires))
