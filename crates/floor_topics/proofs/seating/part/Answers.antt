use Rattle.std.proofs.Common.{◌≡◌, ◌<◌, ◌∙◌, ℕ, set, true, nat_eq, None, Some, get_or, length, refl, sym, ap, subst, arith}
use Rattle.std.specs.Prelude.{IsSome}
use Rattle.std.specs.List.{list_any, slice_get}
use Rattle.std.specs.Vec.{with_item}
use Rattle.std.proofs.lemmas.List.{length-set}
use Rattle.std.proofs.lemmas.Option.{get_or_from_slice_get, slice_get_within}
use Rattle.broker_history.specs.State.{Client, without_client}
use Rattle.channel_copies.specs.Clients.{client_of}
use Rattle.floor_rooms.specs.Seen.{held_channel}
use Rattle.floor_rooms.specs.declared.room.Room.{Room}
use Rattle.floor_rooms.specs.declared.hall.Hall.{Hall}
use Rattle.floor_rooms.proofs.Placing.{at_place}
use Rattle.floor_rooms.proofs.Forming.{some_at}
use Rattle.floor_rooms.proofs.Dating.{keeps_lists, keeps_same, since_kept, since_then_kept}
use Rattle.floor_rooms.proofs.Naming.{names_kept, names_then}
use Rattle.floor_topics.specs.Seating.{HasSeat, Seats}
use Rattle.floor_topics.proofs.LostPlaces.{read_same}
use Rattle.floor_topics.proofs.SeatLeaves.{free_clients, free_sound, free_stands, left_clients, left_names, left_since, left_sound, left_stands, reseated, seat_known, seat_listed, seat_order}
use Rattle.floor_topics.proofs.seating.part.Goals as goal

pub leave_in-requires-clause-there : goal.leave_in-requires-clause-there
leave_in-requires-clause-there c =
    let h = c.args.hall.now in
    let k = c.args.k in
    let i = c.in-Some.places.0 in
    let j = c.in-Some.places.1 in
    let client = c.index.result.now in
    let room = c.index_mut.result.now in
    let stall = c.index_mut-in-Some.result.now in
    let has : slice_get h.clients.items k ≡ Some client = at_place h.clients.items k client c.requires.client c.index.ensures in
    let first : HasSeat h.rooms.items client i j = subst (λ (x : Client). HasSeat h.rooms.items x i j) (get_or_from_slice_get h.clients.items k client client has) (c.in-Some.ensures client) in
    let seat : HasSeat h.rooms.items client i j = reseated h.rooms.items client i j first room stall c.index_mut.ensures.value c.index_mut-in-Some.ensures.value in
    subst (λ (n : ℕ). IsSome (client_of stall.channel.clients n)) (sym c.number-number.ensures) (seat_known h k i j client c.requires.sound has seat)

pub leave_in-requires-clause-listed : goal.leave_in-requires-clause-listed
leave_in-requires-clause-listed c =
    let h = c.args.hall.now in
    let k = c.args.k in
    let i = c.in-Some.places.0 in
    let j = c.in-Some.places.1 in
    let client = c.index.result.now in
    let room = c.index_mut.result.now in
    let stall = c.index_mut-in-Some.result.now in
    let has : slice_get h.clients.items k ≡ Some client = at_place h.clients.items k client c.requires.client c.index.ensures in
    let first : HasSeat h.rooms.items client i j = subst (λ (x : Client). HasSeat h.rooms.items x i j) (get_or_from_slice_get h.clients.items k client client has) (c.in-Some.ensures client) in
    let seat : HasSeat h.rooms.items client i j = reseated h.rooms.items client i j first room stall c.index_mut.ensures.value c.index_mut-in-Some.ensures.value in
    subst (λ (n : ℕ). list_any (nat_eq n) stall.members.items ≡ true) (sym c.number-number.ensures) (seat_listed h k i j client c.requires.sound has seat)

pub leave_in-requires-clause-order : goal.leave_in-requires-clause-order
leave_in-requires-clause-order c =
    let h = c.args.hall.now in
    let k = c.args.k in
    let i = c.in-Some.places.0 in
    let j = c.in-Some.places.1 in
    let client = c.index.result.now in
    let room = c.index_mut.result.now in
    let stall = c.index_mut-in-Some.result.now in
    let has : slice_get h.clients.items k ≡ Some client = at_place h.clients.items k client c.requires.client c.index.ensures in
    let first : HasSeat h.rooms.items client i j = subst (λ (x : Client). HasSeat h.rooms.items x i j) (get_or_from_slice_get h.clients.items k client client has) (c.in-Some.ensures client) in
    let seat : HasSeat h.rooms.items client i j = reseated h.rooms.items client i j first room stall c.index_mut.ensures.value c.index_mut-in-Some.ensures.value in
    seat_order h k i j client c.requires.sound has seat

pub list_room-requires-clause-room : goal.list_room-requires-clause-room
list_room-requires-clause-room c =
    let h = c.args.hall.now in
    let k = c.args.k in
    let i = c.in-Some.places.0 in
    let j = c.in-Some.places.1 in
    let client = c.index.result.now in
    let room = c.index_mut.result.now in
    let stall = c.index_mut-in-Some.result.now in
    let has : slice_get h.clients.items k ≡ Some client = at_place h.clients.items k client c.requires.client c.index.ensures in
    let first : HasSeat h.rooms.items client i j = subst (λ (x : Client). HasSeat h.rooms.items x i j) (get_or_from_slice_get h.clients.items k client client has) (c.in-Some.ensures client) in
    let seat : HasSeat h.rooms.items client i j = reseated h.rooms.items client i j first room stall c.index_mut.ensures.value c.index_mut-in-Some.ensures.value in
    let within : i < length h.rooms.items = slice_get_within h.rooms.items i room seat.at in
    let room1 = record room { stalls = with_item room.stalls j c.leave_in.new.stall } in
    let same : length (set h.rooms.items i room1) ≡ length h.rooms.items = length-set h.rooms.items i room1 in
    omega (arith, within, same)

pub returns-in-None : goal.returns-in-None
returns-in-None c =
    let h = c.args.hall.now in
    let k = c.args.k in
    let x = some_at h.clients.items k c.requires.client in
    let read : (d : Client) → get_or h.clients.items k d ≡ x.0 = λ d. get_or_from_slice_get h.clients.items k x.0 d x.1 in
    let none : held_channel x.0.phase x.0.route ≡ None = subst (λ (y : Client). held_channel y.phase y.route ≡ None) (read x.0) (c.in-None.ensures x.0) in
    record {
      rest = refl;
      clients = λ d. free_clients h c.drop_at.new.items k x.0 c.requires.sound x.1 none c.drop_at.ensures ∙ ap (λ (y : Client). without_client h.clients.items y.number) (sym (read d));
      sound = free_sound h c.drop_at.new.items k x.0 c.requires.sound x.1 none c.drop_at.ensures;
      stands = λ files d u holds. (record u { clients = without_client u.clients x.0.number }, ap (λ (y : Client). record u { clients = without_client u.clients y.number }) (sym (read d)), free_stands h c.drop_at.new.items k x.0 c.requires.sound x.1 none c.drop_at.ensures files u holds);
      names = record { before = λ e. e; same = λ e. refl };
      since = since_kept h.moment h.rooms.items h.rooms.items (keeps_same h.moment h.rooms.items);
    }

pub returns-in-Some : goal.returns-in-Some
returns-in-Some c =
    let h = c.args.hall.now in
    let k = c.args.k in
    let i = c.in-Some.places.0 in
    let j = c.in-Some.places.1 in
    let client = c.index.result.now in
    let room = c.index_mut.result.now in
    let stall = c.index_mut-in-Some.result.now in
    let has : slice_get h.clients.items k ≡ Some client = at_place h.clients.items k client c.requires.client c.index.ensures in
    let first : HasSeat h.rooms.items client i j = subst (λ (x : Client). HasSeat h.rooms.items x i j) (get_or_from_slice_get h.clients.items k client client has) (c.in-Some.ensures client) in
    let seat : HasSeat h.rooms.items client i j = reseated h.rooms.items client i j first room stall c.index_mut.ensures.value c.index_mut-in-Some.ensures.value in
    let room1 = record room { stalls = with_item room.stalls j c.leave_in.new.stall } in
    let h1 = record h { rooms = with_item h.rooms i room1; clients = c.drop_at-in-Some.new.items } in
    let seats : Seats client.number None stall c.leave_in.new.stall = subst (λ (n : ℕ). Seats n None stall c.leave_in.new.stall) c.number-number.ensures c.leave_in.ensures in
    let read : (d : Client) → client ≡ get_or h.clients.items k d = λ d. sym (get_or_from_slice_get h.clients.items k client d has) in
    record {
      rest = ap (λ (x : Hall). record x { clients = c.list_room.new.self.clients }) c.list_room.ensures.rest;
      clients = λ d. ap (λ (x : Hall). x.clients.items) c.list_room.ensures.rest ∙ left_clients h k i j client c.requires.sound has seat h1 room1 c.leave_in.new.stall refl refl refl refl refl seats c.drop_at-in-Some.ensures ∙ ap (λ (y : Client). without_client h.clients.items y.number) (read d);
      sound = c.list_room.ensures.sound (left_sound h k i j client c.requires.sound has seat h1 room1 c.leave_in.new.stall refl refl refl refl refl seats c.drop_at-in-Some.ensures);
      stands = λ files d u holds. (record u { clients = without_client u.clients client.number }, ap (λ (y : Client). record u { clients = without_client u.clients y.number }) (read d), c.list_room.ensures.stands files (record u { clients = without_client u.clients client.number }) (left_stands h k i j client c.requires.sound has seat h1 room1 c.leave_in.new.stall refl refl refl refl refl seats c.drop_at-in-Some.ensures files u holds));
      names = names_then h h1 c.list_room.new.self (left_names h k i j client c.requires.sound has seat h1 room1 c.leave_in.new.stall refl refl refl refl refl seats c.drop_at-in-Some.ensures) (names_kept h.moment h1 c.list_room.new.self (ap (λ (x : Hall). x.unsaved_names) c.list_room.ensures.rest) (keeps_lists h.moment i h1.pending.items c.list_room.new.self.pending.items h1.rooms.items c.list_room.new.self.rooms.items c.list_room.ensures.room));
      since = since_then_kept h.moment h.rooms.items h1.rooms.items c.list_room.new.self.rooms.items (left_since h k i j client c.requires.sound has seat h1 room1 c.leave_in.new.stall refl refl refl refl refl seats c.drop_at-in-Some.ensures) (keeps_lists h.moment i h1.pending.items c.list_room.new.self.pending.items h1.rooms.items c.list_room.new.self.rooms.items c.list_room.ensures.room);
    }

pub index_mut-requires : goal.index_mut-requires
index_mut-requires c =
    let h = c.args.hall.now in
    let k = c.args.k in
    let i = c.in-Some.places.0 in
    let j = c.in-Some.places.1 in
    let client = c.index.result.now in
    let has : slice_get h.clients.items k ≡ Some client = at_place h.clients.items k client c.requires.client c.index.ensures in
    let first : HasSeat h.rooms.items client i j = subst (λ (x : Client). HasSeat h.rooms.items x i j) (get_or_from_slice_get h.clients.items k client client has) (c.in-Some.ensures client) in
    let within : i < length h.rooms.items = slice_get_within h.rooms.items i first.room first.at in
    omega (arith, within, h.rooms.ok.0)

pub index_mut-requires-in-Some : goal.index_mut-requires-in-Some
index_mut-requires-in-Some c =
    let h = c.args.hall.now in
    let k = c.args.k in
    let i = c.in-Some.places.0 in
    let j = c.in-Some.places.1 in
    let client = c.index.result.now in
    let has : slice_get h.clients.items k ≡ Some client = at_place h.clients.items k client c.requires.client c.index.ensures in
    let first : HasSeat h.rooms.items client i j = subst (λ (x : Client). HasSeat h.rooms.items x i j) (get_or_from_slice_get h.clients.items k client client has) (c.in-Some.ensures client) in
    let room = c.index_mut.result.now in
    let within : j < length room.stalls.items = subst (λ (r : Room). j < length r.stalls.items) (sym (read_same h.rooms.items i first.room c.index_mut.result.now first.at c.index_mut.ensures.value)) (slice_get_within first.room.stalls.items j first.stall first.there) in
    omega (arith, within, room.stalls.ok.0)

pub list_room-requires-clause-space : goal.list_room-requires-clause-space
list_room-requires-clause-space c = c.requires.space
