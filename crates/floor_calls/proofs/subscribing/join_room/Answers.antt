use Rattle.std.proofs.Common.{◌≡◌, ◌∙◌, ◌<◌, ℕ, List, Some, length, get_or, refl, sym, ap, subst, arith}
use Rattle.std.specs.Prelude.{HoldsAt}
use Rattle.std.specs.List.{slice_get}
use Rattle.std.specs.Vec.{with_item}
use Rattle.std.proofs.lemmas.Option.{slice_get-get_or}
use Rattle.nsq_base.specs.Places.{BelongsAt}
use Rattle.broker_history.specs.State.{Client}
use Rattle.broker_history.specs.Step.{subscribed}
use Rattle.floor_rooms.specs.declared.hall.Hall.{Hall}
use Rattle.floor_rooms.specs.declared.room.Room.{Room}
use Rattle.floor_rooms.specs.Rooms.{channel_name}
use Rattle.floor_rooms.proofs.Growing.{reserved_place}
use Rattle.floor_topics.proofs.LostPlaces.{read_same}
use Rattle.floor_topics.proofs.SeatPlaces.{on_err}
use Rattle.floor_calls.specs.Subscribing.{IsSeated}
use Rattle.floor_calls.proofs.Joining.{joins_room, remains_reserved, reserved_rest, room_rest, seated_named}
use Rattle.floor_calls.proofs.subscribing.join_room.Goals as goal

pub seated_stall-requires-clause-client : goal.seated_stall-requires-clause-client
seated_stall-requires-clause-client c = subst (λ (x : Hall). c.args.k < length x.clients.items) (sym c.reserve_stall.ensures.rest) c.requires.client

pub add_stall-requires-clause-place : goal.add_stall-requires-clause-place
add_stall-requires-clause-place c =
    let h1 = c.reserve_stall.new.self in
    let within : c.args.k < length h1.clients.items = subst (λ (x : Hall). c.args.k < length x.clients.items) (sym c.reserve_stall.ensures.rest) c.requires.client in
    subst (λ (n : List ℕ). HoldsAt (λ (r : Room). BelongsAt channel_name r.stalls.items n c.args.j) h1.rooms.items c.args.i)
    (sym (seated_named c.args.topic c.args.channel h1.options c.in_ok-stall.stall h1.clients.items c.args.k within c.in_ok-stall.ensures)) (reserved_place c.args.hall.now.rooms.items h1.rooms.items c.args.i c.args.j c.args.channel c.reserve_stall.ensures.room c.requires.place)

pub index_mut-requires : goal.index_mut-requires
index_mut-requires c =
    let l : c.args.k < length c.add_stall.new.self.clients.items = subst (λ (x : Hall). c.args.k < length x.clients.items) (sym c.add_stall.ensures.rest) (subst (λ (x : Hall). c.args.k < length x.clients.items) (sym c.reserve_stall.ensures.rest) c.requires.client) in
    omega (arith, l, c.add_stall.new.self.clients.ok.0)

pub returns-in_err-reserve_stall-clause-remains : goal.returns-in_err-reserve_stall-clause-remains
returns-in_err-reserve_stall-clause-remains c =
    on_err _ _ (remains_reserved c.args.hall.now c.reserve_stall.new.self c.args.i c.reserve_stall.ensures.rest c.reserve_stall.ensures.room c.reserve_stall.ensures.pending (c.reserve_stall.ensures.sound c.requires.sound) c.reserve_stall.ensures.stands)

pub returns-in_err-stall-clause-remains : goal.returns-in_err-stall-clause-remains
returns-in_err-stall-clause-remains c =
    on_err _ _ (remains_reserved c.args.hall.now c.reserve_stall.new.self c.args.i c.reserve_stall.ensures.rest c.reserve_stall.ensures.room c.reserve_stall.ensures.pending (c.reserve_stall.ensures.sound c.requires.sound) c.reserve_stall.ensures.stands)

pub returns-clause-joins : goal.returns-clause-joins
returns-clause-joins c = λ d.
    let h0 = c.args.hall.now in
    let h1 = c.reserve_stall.new.self in
    let h2 = c.add_stall.new.self in
    let k = c.args.k in
    let client : Client = get_or h0.clients.items k d in
    let has : slice_get h0.clients.items k ≡ Some client = slice_get-get_or h0.clients.items k d c.requires.client in
    let now : h1.clients.items ≡ h0.clients.items = ap (λ (x : Hall). x.clients.items) c.reserve_stall.ensures.rest in
    let last : h2.clients.items ≡ h0.clients.items = ap (λ (x : Hall). x.clients.items) c.add_stall.ensures.rest ∙ now in
    let same : c.index_mut.result.now ≡ client = read_same h2.clients.items k client c.index_mut.result.now (ap (λ (cs : List Client). slice_get cs k) last ∙ has) c.index_mut.ensures.value in
    joins_room h0 h1 h2 c.args.i c.args.j k c.args.topic c.args.channel c.in_ok-stall.stall client c.subscribe.new.self (c.reserve_stall.ensures.sound c.requires.sound) c.reserve_stall.ensures.stands c.reserve_stall.ensures.rest c.reserve_stall.ensures.room
    c.add_stall.ensures.rest c.add_stall.ensures.room c.add_stall.ensures.unsaved c.requires.there c.requires.place (subst (λ (cs : List Client). IsSeated c.args.topic c.args.channel h1.options c.in_ok-stall.stall (get_or cs k d)) now (c.in_ok-stall.ensures d)) has (c.requires.free d)
    (c.subscribe.ensures ∙ ap (subscribed c.args.topic c.args.channel) same)

pub returns-in_err-reserve_stall-clause-rest : goal.returns-in_err-reserve_stall-clause-rest
returns-in_err-reserve_stall-clause-rest c = reserved_rest c.args.hall.now c.reserve_stall.new.self c.reserve_stall.ensures.rest

pub returns-in_err-stall-clause-rest : goal.returns-in_err-stall-clause-rest
returns-in_err-stall-clause-rest c = reserved_rest c.args.hall.now c.reserve_stall.new.self c.reserve_stall.ensures.rest

pub returns-clause-rest : goal.returns-clause-rest
returns-clause-rest c =
    let h = c.add_stall.new.self in
    room_rest c.args.hall.now c.reserve_stall.new.self h (record h { clients = with_item h.clients c.args.k c.subscribe.new.self }) c.reserve_stall.ensures.rest c.add_stall.ensures.rest refl
