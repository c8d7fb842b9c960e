use Rattle.std.proofs.Common.{refl}
use Rattle.broker_history.specs.State.{Channel}
use Rattle.broker_history.specs.Channels.{MovesLive, Touches}
use Rattle.channel_core.specs.Drawing.{timeout_of}
use Rattle.floor_rooms.specs.declared.stall.Stall.{Stall}
use Rattle.floor_acts.proofs.Flying.{flown_touches, range_behind, stall_range_behind}
use Rattle.floor_acts.proofs.Acting.{Spoke, clients_same, flight_keeps, member_at, no_spot, room_at, spoken_in, spoken_rest, stall_at, touch_told, yours_at}
use Rattle.floor_acts.proofs.flights.touch.Goals as goal

pub unreachable-requires : goal.unreachable-requires
unreachable-requires g c = no_spot c.args.hall.now c.args.k c.index.result.now c.args.id c.requires.client c.index.ensures c.in_default.ensures c.requires.flies

pub touch_at-requires-clause-room : goal.touch_at-requires-clause-room
touch_at-requires-clause-room g c =
    let p : Spoke c.args.hall.now c.speak.new.hall c.args.k c.index.result.now c.in-Some.spot = record { sound = c.requires.sound; within = c.requires.client; read = c.index.ensures; of = c.in-Some.ensures; rest = c.speak.ensures.rest; changed = c.speak.ensures.clients; nop = c.speak.ensures.nop } in
    room_at c.args.hall.now c.speak.new.hall c.args.k c.index.result.now c.in-Some.spot p

pub touch_at-requires-clause-stall : goal.touch_at-requires-clause-stall
touch_at-requires-clause-stall g c =
    let p : Spoke c.args.hall.now c.speak.new.hall c.args.k c.index.result.now c.in-Some.spot = record { sound = c.requires.sound; within = c.requires.client; read = c.index.ensures; of = c.in-Some.ensures; rest = c.speak.ensures.rest; changed = c.speak.ensures.clients; nop = c.speak.ensures.nop } in
    stall_at c.args.hall.now c.speak.new.hall c.args.k c.index.result.now c.in-Some.spot p

pub touch_at-requires-clause-yours : goal.touch_at-requires-clause-yours
touch_at-requires-clause-yours g c =
    let p : Spoke c.args.hall.now c.speak.new.hall c.args.k c.index.result.now c.in-Some.spot = record { sound = c.requires.sound; within = c.requires.client; read = c.index.ensures; of = c.in-Some.ensures; rest = c.speak.ensures.rest; changed = c.speak.ensures.clients; nop = c.speak.ensures.nop } in
    yours_at c.args.hall.now c.speak.new.hall c.args.k c.index.result.now c.in-Some.spot p c.args.id c.number-number.result c.number-number.ensures c.requires.flies

pub touch_at-requires-clause-client : goal.touch_at-requires-clause-client
touch_at-requires-clause-client g c =
    let p : Spoke c.args.hall.now c.speak.new.hall c.args.k c.index.result.now c.in-Some.spot = record { sound = c.requires.sound; within = c.requires.client; read = c.index.ensures; of = c.in-Some.ensures; rest = c.speak.ensures.rest; changed = c.speak.ensures.clients; nop = c.speak.ensures.nop } in
    member_at c.args.hall.now c.speak.new.hall c.args.k c.index.result.now c.in-Some.spot p c.number-number.result c.number-number.ensures

pub settle_stall-requires-clause-room : goal.settle_stall-requires-clause-room
settle_stall-requires-clause-room g c = range_behind c.in-Some.spot.room c.in-Some.spot.stall _ c.speak.new.hall.rooms.items c.touch_at.new.hall.rooms.items c.touch_at.ensures.stall

pub settle_stall-requires-clause-stall : goal.settle_stall-requires-clause-stall
settle_stall-requires-clause-stall g c = stall_range_behind c.in-Some.spot.room c.in-Some.spot.stall _ c.speak.new.hall.rooms.items c.touch_at.new.hall.rooms.items c.touch_at.ensures.stall

pub returns-clause-rest : goal.returns-clause-rest
returns-clause-rest g c = spoken_rest c.args.hall.now c.speak.new.hall c.touch_at.new.hall c.settle_stall.new.self c.speak.ensures.rest c.touch_at.ensures.rest c.settle_stall.ensures.rest

pub returns-clause-clients : goal.returns-clause-clients
returns-clause-clients g c =
    let p : Spoke c.args.hall.now c.speak.new.hall c.args.k c.index.result.now c.in-Some.spot = record { sound = c.requires.sound; within = c.requires.client; read = c.index.ensures; of = c.in-Some.ensures; rest = c.speak.ensures.rest; changed = c.speak.ensures.clients; nop = c.speak.ensures.nop } in
    let Row : Stall → Channel → Channel → Type 0 = λ (a : Stall). Touches MovesLive c.number-number.result c.args.id c.speak.new.hall.moment (timeout_of c.number-number.result a.channel) a.channel.about.max_msg_timeout in
    spoken_in c.args.hall.now c.speak.new.hall c.args.k c.index.result.now c.in-Some.spot p c.settle_stall.new.self (clients_same c.args.hall.now c.speak.new.hall c.args.k c.index.result.now c.in-Some.spot p Row c.touch_at.new.hall c.settle_stall.new.self c.speak.ensures.sound c.touch_at.ensures.rest c.touch_at.ensures.stall c.settle_stall.ensures.rest)

pub returns-clause-sound : goal.returns-clause-sound
returns-clause-sound g c =
    let Row : Stall → Channel → Channel → Type 0 = λ (a : Stall). Touches MovesLive c.number-number.result c.args.id c.speak.new.hall.moment (timeout_of c.number-number.result a.channel) a.channel.about.max_msg_timeout in
    c.settle_stall.ensures.sound c.speak.new.hall (flown_touches Row c.speak.new.hall c.touch_at.new.hall c.in-Some.spot c.speak.ensures.sound c.touch_at.ensures.rest c.touch_at.ensures.stall)

pub returns-clause-told : goal.returns-clause-told
returns-clause-told g c = λ files.
    let p : Spoke c.args.hall.now c.speak.new.hall c.args.k c.index.result.now c.in-Some.spot = record { sound = c.requires.sound; within = c.requires.client; read = c.index.ensures; of = c.in-Some.ensures; rest = c.speak.ensures.rest; changed = c.speak.ensures.clients; nop = c.speak.ensures.nop } in
    let Row : Stall → Channel → Channel → Type 0 = λ (a : Stall). Touches MovesLive c.number-number.result c.args.id c.speak.new.hall.moment (timeout_of c.number-number.result a.channel) a.channel.about.max_msg_timeout in
    touch_told c.args.hall.now c.speak.new.hall c.args.k c.index.result.now c.in-Some.spot p Row c.touch_at.new.hall c.settle_stall.new.self c.speak.ensures.sound c.touch_at.ensures.rest c.touch_at.ensures.stall c.settle_stall.ensures.rest c.number-number.result c.args.id files c.number-number.ensures refl (c.settle_stall.ensures.sound c.speak.new.hall (flown_touches Row c.speak.new.hall c.touch_at.new.hall c.in-Some.spot c.speak.ensures.sound c.touch_at.ensures.rest c.touch_at.ensures.stall)) (λ s holds. c.settle_stall.ensures.stands files s holds)

pub returns-clause-keeps : goal.returns-clause-keeps
returns-clause-keeps g c =
    let p : Spoke c.args.hall.now c.speak.new.hall c.args.k c.index.result.now c.in-Some.spot = record { sound = c.requires.sound; within = c.requires.client; read = c.index.ensures; of = c.in-Some.ensures; rest = c.speak.ensures.rest; changed = c.speak.ensures.clients; nop = c.speak.ensures.nop } in
    let Row : Stall → Channel → Channel → Type 0 = λ (a : Stall). Touches MovesLive c.number-number.result c.args.id c.speak.new.hall.moment (timeout_of c.number-number.result a.channel) a.channel.about.max_msg_timeout in
    flight_keeps c.args.hall.now c.speak.new.hall c.args.k c.index.result.now c.in-Some.spot p Row c.touch_at.new.hall c.settle_stall.new.self c.speak.ensures.sound c.touch_at.ensures.rest c.touch_at.ensures.stall c.settle_stall.ensures.rest
