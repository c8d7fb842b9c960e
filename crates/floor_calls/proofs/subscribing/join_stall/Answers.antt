use Rattle.std.proofs.Common.{◌≡◌, ◌<◌, ◌∙◌, ℕ, set, nat_eq, Some, refl, sym, ap, subst}
use Rattle.std.specs.List.{list_any, slice_get}
use Rattle.std.specs.Vec.{with_item}
use Rattle.nsq_base.specs.Places.{StandsAt}
use Rattle.broker_history.specs.State.{Client}
use Rattle.broker_history.specs.Step.{subscribed}
use Rattle.channel_copies.specs.Clients.{client_of}
use Rattle.floor_rooms.specs.Rooms.{channel_name, topic_name}
use Rattle.floor_rooms.specs.Changes.{AtStall}
use Rattle.floor_rooms.proofs.Forming.{some_at}
use Rattle.floor_rooms.specs.Sound.{IsRoomSound, IsStallSound}
use Rattle.floor_rooms.proofs.Placing.{at_place}
use Rattle.floor_rooms.proofs.Sounding.{at_all}
use Rattle.floor_topics.specs.Seating.{IsFree, SameSeats, Seats}
use Rattle.floor_topics.proofs.LostPlaces.{read_same}
use Rattle.floor_topics.proofs.SeatPlaces.{Sits, on_err, seat_absent, seat_new}
use Rattle.floor_acts.proofs.Putting.{holds_read, read_holds}
use Rattle.floor_calls.specs.Subscribing.{Joins}
use Rattle.floor_calls.proofs.Joining.{joins_stall, stall_within, unseated, waits}
use Rattle.floor_calls.proofs.subscribing.join_stall.Goals as goal

pub seat_in-requires-clause-new : goal.seat_in-requires-clause-new
seat_in-requires-clause-new c =
    let h = c.args.hall.now in
    let k = c.args.k in
    let client = c.index.result.now in
    let room = c.index_mut.result.now in
    let stall = c.index_mut-2.result.now in
    let within : StandsAt channel_name room.stalls.items c.args.channel c.args.j = stall_within h.rooms.items c.args.i c.args.j room c.args.channel c.index_mut.ensures.value c.requires.stall in
    ap (client_of stall.channel.clients) c.number-number.ensures
    ∙ seat_new h k c.args.i c.args.j client room stall c.requires.sound (at_place h.clients.items k client c.requires.client c.index.ensures) (read_holds IsFree h.clients.items k client c.requires.client c.index.ensures c.requires.free)
    (at_place h.rooms.items c.args.i room c.requires.there.in_range c.index_mut.ensures.value) (at_place room.stalls.items c.args.j stall within.in_range c.index_mut-2.ensures.value)

pub seat_in-requires-clause-absent : goal.seat_in-requires-clause-absent
seat_in-requires-clause-absent c =
    let h = c.args.hall.now in
    let k = c.args.k in
    let client = c.index.result.now in
    let room = c.index_mut.result.now in
    let stall = c.index_mut-2.result.now in
    let within : StandsAt channel_name room.stalls.items c.args.channel c.args.j = stall_within h.rooms.items c.args.i c.args.j room c.args.channel c.index_mut.ensures.value c.requires.stall in
    ap (λ (n : ℕ). list_any (nat_eq n) stall.members.items) c.number-number.ensures
    ∙ seat_absent h k c.args.i c.args.j client room stall c.requires.sound (at_place h.clients.items k client c.requires.client c.index.ensures) (read_holds IsFree h.clients.items k client c.requires.client c.index.ensures c.requires.free)
    (at_place h.rooms.items c.args.i room c.requires.there.in_range c.index_mut.ensures.value) (at_place room.stalls.items c.args.j stall within.in_range c.index_mut-2.ensures.value)

pub returns-in_err-reserve-clause-remains : goal.returns-in_err-reserve-clause-remains
returns-in_err-reserve-clause-remains c =
    let h = c.args.hall.now in
    let room = some_at h.rooms.items c.args.i c.requires.there.in_range in
    on_err _ _ (waits h (record h { pending = c.reserve.new.self }) c.args.i room.0 room.1 refl c.reserve.ensures.items c.requires.sound)

pub returns-in_err-seat_in-clause-remains : goal.returns-in_err-seat_in-clause-remains
returns-in_err-seat_in-clause-remains c =
    let h = c.args.hall.now in
    let i = c.args.i in
    let j = c.args.j in
    let room = c.index_mut.result.now in
    let stall = c.index_mut-2.result.now in
    let within : StandsAt channel_name room.stalls.items c.args.channel j = stall_within h.rooms.items i j room c.args.channel c.index_mut.ensures.value c.requires.stall in
    let h1 = record h { rooms = with_item h.rooms i (record room { stalls = with_item room.stalls j c.seat_in.new.stall }); pending = c.reserve.new.self } in
    let back : AtStall i j SameSeats h.rooms.items h1.rooms.items = record {
      room = room;
      after = record room { stalls = with_item room.stalls j c.seat_in.new.stall };
      there = at_place h.rooms.items i room c.requires.there.in_range c.index_mut.ensures.value;
      is = refl;
      does = record { stall = stall; after = c.seat_in.new.stall; there = at_place room.stalls.items j stall within.in_range c.index_mut-2.ensures.value; is = refl; stalls = refl; does = c.in_err-seat_in.ensures.refused };
    } in
    on_err _ _ (unseated h h1 i j c.requires.sound refl refl refl refl refl c.reserve.ensures.items back)

pub returns-clause-joins : goal.returns-clause-joins
returns-clause-joins c =
    let h = c.args.hall.now in
    let i = c.args.i in
    let j = c.args.j in
    let k = c.args.k in
    let client = c.index.result.now in
    let room = c.index_mut.result.now in
    let stall = c.index_mut-2.result.now in
    let after = c.seat_in.new.stall in
    let within : StandsAt channel_name room.stalls.items c.args.channel j = stall_within h.rooms.items i j room c.args.channel c.index_mut.ensures.value c.requires.stall in
    let has : slice_get h.clients.items k ≡ Some client = at_place h.clients.items k client c.requires.client c.index.ensures in
    let h3 = record h { rooms = with_item h.rooms i (record room { stalls = with_item room.stalls j after }); clients = with_item h.clients k c.subscribe.new.self; pending = c.reserve.new.self } in
    let same : c.index_mut-3.result.now ≡ client = read_same h.clients.items k client c.index_mut-3.result.now has c.index_mut-3.ensures.value in
    let timeout : c.timeout-timeout.result ≡ client.timeout = c.timeout-timeout.ensures.value ∙ ap (λ (d : Client). d.timeout) (read_same h.clients.items k client c.index-2.result.now has c.index-2.ensures) in
    let sits : Sits h h3 i j k client room (record room { stalls = with_item room.stalls j after }) stall after c.args.topic c.args.channel = record {
      sound = c.requires.sound;
      free = read_holds IsFree h.clients.items k client c.requires.client c.index.ensures c.requires.free;
      client = has;
      at = at_place h.rooms.items i room c.requires.there.in_range c.index_mut.ensures.value;
      there = at_place room.stalls.items j stall within.in_range c.index_mut-2.ensures.value;
      called = sym (ap topic_name c.index_mut.ensures.value ∙ c.requires.there.is_key room);
      named = sym (ap channel_name c.index_mut-2.ensures.value ∙ within.is_key stall);
      rest = refl;
      pending = c.reserve.ensures.items;
      rooms = refl;
      is = refl;
      stalls = refl;
      seats = subst (λ (n : ℕ). Seats n (Some (record { timeout = client.timeout; ready = 0 })) stall after) c.number-number.ensures
          (subst (λ (t : ℕ). Seats c.number-number.result (Some (record { timeout = t; ready = 0 })) stall after) timeout c.in_ok-seat_in.ensures.seats);
      clients = ap (λ (d : Client). set h.clients.items k d) (c.subscribe.ensures ∙ ap (subscribed c.args.topic c.args.channel) same);
    } in
    holds_read (Joins c.args.topic c.args.channel k h c.list_room.new.self) h.clients.items k client c.requires.client c.index.ensures
    (joins_stall h h3 c.list_room.new.self i j k c.args.topic c.args.channel room (record room { stalls = with_item room.stalls j after }) stall after client sits c.requires.there within c.list_room.ensures.rest c.list_room.ensures.room c.list_room.ensures.sound c.list_room.ensures.stands)

pub index-requires : goal.index-requires
index-requires c = subst (λ n. c.args.k < n) (sym c.args.hall.now.clients.ok.0) c.requires.client

pub index-requires-2 : goal.index-requires-2
index-requires-2 c = subst (λ n. c.args.k < n) (sym c.args.hall.now.clients.ok.0) c.requires.client

pub index_mut-requires : goal.index_mut-requires
index_mut-requires c = subst (λ n. c.args.i < n) (sym c.args.hall.now.rooms.ok.0) c.requires.there.in_range

pub index_mut-requires-2 : goal.index_mut-requires-2
index_mut-requires-2 c =
    let room = c.index_mut.result.now in
    subst (λ n. c.args.j < n) (sym room.stalls.ok.0) (stall_within c.args.hall.now.rooms.items c.args.i c.args.j room c.args.channel c.index_mut.ensures.value c.requires.stall).in_range

pub index_mut-requires-3 : goal.index_mut-requires-3
index_mut-requires-3 c = subst (λ n. c.args.k < n) (sym c.args.hall.now.clients.ok.0) c.requires.client

pub seat_in-requires-clause-order : goal.seat_in-requires-clause-order
seat_in-requires-clause-order c =
    let room = c.index_mut.result.now in
    let stall = c.index_mut-2.result.now in
    let within : StandsAt channel_name room.stalls.items c.args.channel c.args.j = stall_within c.args.hall.now.rooms.items c.args.i c.args.j room c.args.channel c.index_mut.ensures.value c.requires.stall in
    let h = c.args.hall.now in
    let at = at_all (IsRoomSound h) h.rooms.items c.args.i room c.requires.sound.rooms (at_place h.rooms.items c.args.i room c.requires.there.in_range c.index_mut.ensures.value) in
    (at_all (IsStallSound h.options (topic_name room) h.quiet_until h.unsaved_from) room.stalls.items c.args.j stall at.stalls (at_place room.stalls.items c.args.j stall within.in_range c.index_mut-2.ensures.value)).members
