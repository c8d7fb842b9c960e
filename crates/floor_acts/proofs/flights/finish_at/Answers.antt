use Rattle.std.proofs.Common.{◌<◌, refl, subst, sym}
use Rattle.broker_history.specs.Channels.{Finishes, MovesLive}
use Rattle.floor_rooms.specs.declared.stall.Stall.{Stall}
use Rattle.floor_rooms.specs.Changes.{InRoom}
use Rattle.floor_rooms.proofs.Marked.{at_room_read, in_room_read, range_of}
use Rattle.floor_acts.specs.Flights.{FliesStall}
use Rattle.floor_acts.proofs.flights.finish_at.Goals as goal

pub index_mut-requires : goal.index_mut-requires
index_mut-requires g c = subst (λ n. c.args.spot.room < n) (sym c.args.hall.now.rooms.ok.0) c.requires.room

pub index_mut-requires-2 : goal.index_mut-requires-2
index_mut-requires-2 g c =
    let room = c.index_mut.result.now in
    subst (λ n. c.args.spot.stall < n) (sym room.stalls.ok.0) (range_of c.args.spot.stall c.args.hall.now.rooms.items c.args.spot.room room c.index_mut.ensures.value c.requires.stall)

pub returns-clause-stall : goal.returns-clause-stall
returns-clause-stall g c =
    let room = c.index_mut.result.now in
    let stall = c.index_mut-2.result.now in
    let Flies = FliesStall (λ (a : Stall). Finishes MovesLive c.args.number c.args.id) in
    at_room_read c.args.spot.room (InRoom c.args.spot.stall Flies) c.args.hall.now.rooms.items room _ c.requires.room c.index_mut.ensures.value
    (in_room_read c.args.spot.stall Flies room _ stall _ (range_of c.args.spot.stall c.args.hall.now.rooms.items c.args.spot.room room c.index_mut.ensures.value c.requires.stall) c.index_mut-2.ensures.value refl refl
    (record { row = c.finish.ensures.row; rest = c.finish.ensures.rest; same = refl }))
