use Rattle.std.proofs.Common.{◌≡◌, Some, sym, subst}
use Rattle.std.specs.List.{slice_get}
use Rattle.std.proofs.lemmas.Option.{get_or_from_slice_get}
use Rattle.broker_history.specs.State.{Client}
use Rattle.floor_rooms.specs.Seen.{route_named}
use Rattle.floor_rooms.proofs.Placing.{at_place}
use Rattle.floor_topics.specs.Seating.{HasSeat}
use Rattle.floor_topics.proofs.SeatLeaves.{its_seat, no_stall}
use Rattle.floor_topics.proofs.seating.seat_of.Goals as goal

pub returns-in_default-stall_place : goal.returns-in_default-stall_place
returns-in_default-stall_place c = λ d.
    let h = c.args.hall.now in
    let client = c.index.result.now in
    let has : slice_get h.clients.items c.args.k ≡ Some client = at_place h.clients.items c.args.k client c.requires.client c.index.ensures in
    absurd (no_stall h c.args.k client c.requires.sound has (route_named c.in-Some.names) (sym c.in-Some.ensures) c.in-Some-room_place.i c.in-Some-room_place.ensures c.in_default-stall_place.ensures)

pub returns : goal.returns
returns c = λ d.
    let h = c.args.hall.now in
    let client = c.index.result.now in
    let has : slice_get h.clients.items c.args.k ≡ Some client = at_place h.clients.items c.args.k client c.requires.client c.index.ensures in
    subst (λ (x : Client). HasSeat h.rooms.items x c.in-Some-room_place.i c.in-Some-stall_place.j) (sym (get_or_from_slice_get h.clients.items c.args.k client d has))
    (its_seat h c.args.k client c.requires.sound has (route_named c.in-Some.names) (sym c.in-Some.ensures) c.in-Some-room_place.i c.in-Some-room_place.ensures c.in-Some-stall_place.j c.in-Some-stall_place.ensures)
