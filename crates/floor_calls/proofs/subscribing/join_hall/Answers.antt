use Rattle.std.proofs.Common.{◌≡◌, ◌∙◌, ◌<◌, List, Some, length, get_or, refl, sym, ap, subst, arith}
use Rattle.std.specs.List.{slice_get}
use Rattle.std.specs.Vec.{with_item}
use Rattle.std.proofs.lemmas.Option.{slice_get-get_or, slice_get_within}
use Rattle.nsq_base.specs.Places.{BelongsAt}
use Rattle.broker_history.specs.State.{Client}
use Rattle.broker_history.specs.Step.{subscribed}
use Rattle.floor_rooms.specs.declared.hall.Hall.{Hall}
use Rattle.floor_rooms.specs.declared.room.Room.{Room}
use Rattle.floor_rooms.specs.Rooms.{topic_name}
use Rattle.floor_topics.proofs.LostPlaces.{read_same}
use Rattle.floor_topics.proofs.SeatPlaces.{on_err}
use Rattle.floor_calls.specs.Subscribing.{IsPeopled}
use Rattle.floor_calls.proofs.Joining.{hall_rest, joins_hall, peopled_place, remains_alike, reserved_rest}
use Rattle.floor_calls.proofs.Exchanged.{put_there}
use Rattle.floor_calls.proofs.subscribing.join_hall.Goals as goal

pub peopled_room-requires-clause-client : goal.peopled_room-requires-clause-client
peopled_room-requires-clause-client c = subst (λ (x : Hall). c.args.k < length x.clients.items) (sym c.reserve_room.ensures.rest) c.requires.client

pub add_room-requires-clause-place : goal.add_room-requires-clause-place
add_room-requires-clause-place c =
    let h1 = c.reserve_room.new.self in
    let within : c.args.k < length h1.clients.items = subst (λ (x : Hall). c.args.k < length x.clients.items) (sym c.reserve_room.ensures.rest) c.requires.client in
    peopled_place c.args.topic c.args.channel h1.options c.in_ok-room.room h1.clients.items c.args.k within c.in_ok-room.ensures c.args.hall.now.rooms.items h1.rooms.items c.args.i c.reserve_room.ensures.rooms c.requires.place

pub index_mut-requires : goal.index_mut-requires
index_mut-requires c =
    let l : c.args.k < length c.add_room.new.self.clients.items = subst (λ (x : Hall). c.args.k < length x.clients.items) (sym c.add_room.ensures.rest) (subst (λ (x : Hall). c.args.k < length x.clients.items) (sym c.reserve_room.ensures.rest) c.requires.client) in
    omega (arith, l, c.add_room.new.self.clients.ok.0)

pub list_room-requires-clause-room : goal.list_room-requires-clause-room
list_room-requires-clause-room c =
    let h1 = c.reserve_room.new.self in
    let h2 = c.add_room.new.self in
    let within : c.args.k < length h1.clients.items = subst (λ (x : Hall). c.args.k < length x.clients.items) (sym c.reserve_room.ensures.rest) c.requires.client in
    let place : BelongsAt topic_name h1.rooms.items (topic_name c.in_ok-room.room) c.args.i =
    peopled_place c.args.topic c.args.channel h1.options c.in_ok-room.room h1.clients.items c.args.k within c.in_ok-room.ensures c.args.hall.now.rooms.items h1.rooms.items c.args.i c.reserve_room.ensures.rooms c.requires.place in
    slice_get_within h2.rooms.items c.args.i c.in_ok-room.room (ap (λ (zs : List Room). slice_get zs c.args.i) c.add_room.ensures.rooms ∙ put_there topic_name h1.rooms.items c.args.i c.in_ok-room.room place)

pub returns-in_err-reserve_room-clause-remains : goal.returns-in_err-reserve_room-clause-remains
returns-in_err-reserve_room-clause-remains c =
    on_err _ _ (remains_alike c.args.hall.now c.reserve_room.new.self c.reserve_room.ensures.rest c.reserve_room.ensures.rooms c.reserve_room.ensures.pending (c.reserve_room.ensures.sound c.requires.sound) c.reserve_room.ensures.stands)

pub returns-in_err-room-clause-remains : goal.returns-in_err-room-clause-remains
returns-in_err-room-clause-remains c =
    on_err _ _ (remains_alike c.args.hall.now c.reserve_room.new.self c.reserve_room.ensures.rest c.reserve_room.ensures.rooms c.reserve_room.ensures.pending (c.reserve_room.ensures.sound c.requires.sound) c.reserve_room.ensures.stands)

pub returns-clause-joins : goal.returns-clause-joins
returns-clause-joins c = λ d.
    let h0 = c.args.hall.now in
    let h1 = c.reserve_room.new.self in
    let h2 = c.add_room.new.self in
    let k = c.args.k in
    let client : Client = get_or h0.clients.items k d in
    let has : slice_get h0.clients.items k ≡ Some client = slice_get-get_or h0.clients.items k d c.requires.client in
    let now : h1.clients.items ≡ h0.clients.items = ap (λ (x : Hall). x.clients.items) c.reserve_room.ensures.rest in
    let last : h2.clients.items ≡ h0.clients.items = ap (λ (x : Hall). x.clients.items) c.add_room.ensures.rest ∙ now in
    let same : c.index_mut.result.now ≡ client = read_same h2.clients.items k client c.index_mut.result.now (ap (λ (cs : List Client). slice_get cs k) last ∙ has) c.index_mut.ensures.value in
    joins_hall h0 h1 h2 c.list_room.new.self c.args.i k c.args.topic c.args.channel c.in_ok-room.room client c.subscribe.new.self (c.reserve_room.ensures.sound c.requires.sound) c.reserve_room.ensures.stands c.reserve_room.ensures.rest c.reserve_room.ensures.rooms c.add_room.ensures.rest
    c.add_room.ensures.rooms c.requires.place (subst (λ (cs : List Client). IsPeopled c.args.topic c.args.channel h1.options c.in_ok-room.room (get_or cs k d)) now (c.in_ok-room.ensures d)) has (c.requires.free d) (c.subscribe.ensures ∙ ap (subscribed c.args.topic c.args.channel) same) c.list_room.ensures.rest
    c.list_room.ensures.room c.list_room.ensures.sound c.list_room.ensures.stands

pub returns-in_err-reserve_room-clause-rest : goal.returns-in_err-reserve_room-clause-rest
returns-in_err-reserve_room-clause-rest c = reserved_rest c.args.hall.now c.reserve_room.new.self c.reserve_room.ensures.rest

pub returns-in_err-room-clause-rest : goal.returns-in_err-room-clause-rest
returns-in_err-room-clause-rest c = reserved_rest c.args.hall.now c.reserve_room.new.self c.reserve_room.ensures.rest

pub returns-clause-rest : goal.returns-clause-rest
returns-clause-rest c =
    let h = c.add_room.new.self in
    hall_rest c.args.hall.now c.reserve_room.new.self h (record h { clients = with_item h.clients c.args.k c.subscribe.new.self }) c.list_room.new.self _ c.reserve_room.ensures.rest c.add_room.ensures.rest refl c.list_room.ensures.rest
