use Rattle.std.proofs.Common.{◌<◌, refl, subst, sym}
use Rattle.floor_rooms.specs.Changes.{InRoom}
use Rattle.floor_rooms.proofs.Marked.{at_room_read, in_room_read, range_of}
use Rattle.floor_acts.specs.Flights.{ReadiesStall}
use Rattle.floor_acts.proofs.ready.ready_at.Goals as goal

pub index_mut-requires : goal.index_mut-requires
index_mut-requires c = subst (λ n. c.args.spot.room < n) (sym c.args.hall.now.rooms.ok.0) c.requires.room

pub index_mut-requires-2 : goal.index_mut-requires-2
index_mut-requires-2 c =
    let room = c.index_mut.result.now in
    subst (λ n. c.args.spot.stall < n) (sym room.stalls.ok.0) (range_of c.args.spot.stall c.args.hall.now.rooms.items c.args.spot.room room c.index_mut.ensures.value c.requires.stall)

pub returns-clause-stall : goal.returns-clause-stall
returns-clause-stall c =
    let room = c.index_mut.result.now in
    let stall = c.index_mut-2.result.now in
    let Readies = ReadiesStall c.args.number c.args.count in
    at_room_read c.args.spot.room (InRoom c.args.spot.stall Readies) c.args.hall.now.rooms.items room _ c.requires.room c.index_mut.ensures.value
    (in_room_read c.args.spot.stall Readies room _ stall _ (range_of c.args.spot.stall c.args.hall.now.rooms.items c.args.spot.room room c.index_mut.ensures.value c.requires.stall) c.index_mut-2.ensures.value refl refl
    (record { clients = c.ready.ensures.clients; rest = c.ready.ensures.rest; same = refl }))
