use Rattle.std.proofs.Common.{◌<◌, length, refl, subst, sym}
use Rattle.broker_history.specs.State.{Channel, Client, counted}
use Rattle.broker_history.specs.Channels.{Finishes, MovesLive}
use Rattle.broker_history.specs.Step.{spoke}
use Rattle.floor_rooms.specs.declared.stall.Stall.{Stall}
use Rattle.floor_acts.proofs.Putting.{changed_range, changed_twice, sound_client}
use Rattle.floor_acts.proofs.Flying.{counts_same, flown_touches, range_behind, stall_range_behind}
use Rattle.floor_acts.proofs.Acting.{Spoke, clients_same, counted_rest, finish_told, flight_keeps, no_spot, room_at, spoken_in, spoken_range, stall_at, yours_at}
use Rattle.floor_acts.proofs.flights.finish.Goals as goal

pub unreachable-requires : goal.unreachable-requires
unreachable-requires g c = no_spot c.args.hall.now c.args.k c.index.result.now c.args.id c.requires.client c.index.ensures c.in_default.ensures c.requires.flies

pub finish_at-requires-clause-room : goal.finish_at-requires-clause-room
finish_at-requires-clause-room g c =
    let p : Spoke c.args.hall.now c.speak.new.hall c.args.k c.index.result.now c.in-Some.spot = record { sound = c.requires.sound; within = c.requires.client; read = c.index.ensures; of = c.in-Some.ensures; rest = c.speak.ensures.rest; changed = c.speak.ensures.clients; nop = c.speak.ensures.nop } in
    room_at c.args.hall.now c.speak.new.hall c.args.k c.index.result.now c.in-Some.spot p

pub finish_at-requires-clause-stall : goal.finish_at-requires-clause-stall
finish_at-requires-clause-stall g c =
    let p : Spoke c.args.hall.now c.speak.new.hall c.args.k c.index.result.now c.in-Some.spot = record { sound = c.requires.sound; within = c.requires.client; read = c.index.ensures; of = c.in-Some.ensures; rest = c.speak.ensures.rest; changed = c.speak.ensures.clients; nop = c.speak.ensures.nop } in
    stall_at c.args.hall.now c.speak.new.hall c.args.k c.index.result.now c.in-Some.spot p

pub finish_at-requires-clause-yours : goal.finish_at-requires-clause-yours
finish_at-requires-clause-yours g c =
    let p : Spoke c.args.hall.now c.speak.new.hall c.args.k c.index.result.now c.in-Some.spot = record { sound = c.requires.sound; within = c.requires.client; read = c.index.ensures; of = c.in-Some.ensures; rest = c.speak.ensures.rest; changed = c.speak.ensures.clients; nop = c.speak.ensures.nop } in
    yours_at c.args.hall.now c.speak.new.hall c.args.k c.index.result.now c.in-Some.spot p c.args.id c.number-number.result c.number-number.ensures c.requires.flies

pub settle_stall-requires-clause-room : goal.settle_stall-requires-clause-room
settle_stall-requires-clause-room g c = range_behind c.in-Some.spot.room c.in-Some.spot.stall _ c.speak.new.hall.rooms.items c.finish_at.new.hall.rooms.items c.finish_at.ensures.stall

pub settle_stall-requires-clause-stall : goal.settle_stall-requires-clause-stall
settle_stall-requires-clause-stall g c = stall_range_behind c.in-Some.spot.room c.in-Some.spot.stall _ c.speak.new.hall.rooms.items c.finish_at.new.hall.rooms.items c.finish_at.ensures.stall

pub index_mut-requires : goal.index_mut-requires
index_mut-requires g c =
    let p : Spoke c.args.hall.now c.speak.new.hall c.args.k c.index.result.now c.in-Some.spot = record { sound = c.requires.sound; within = c.requires.client; read = c.index.ensures; of = c.in-Some.ensures; rest = c.speak.ensures.rest; changed = c.speak.ensures.clients; nop = c.speak.ensures.nop } in
    let Row : Stall → Channel → Channel → Type 0 = λ (a : Stall). Finishes MovesLive c.number-number.result c.args.id in
    let there : c.args.k < length c.settle_stall.new.self.clients.items = spoken_range c.args.hall.now c.speak.new.hall c.args.k c.index.result.now c.in-Some.spot p c.settle_stall.new.self (clients_same c.args.hall.now c.speak.new.hall c.args.k c.index.result.now c.in-Some.spot p Row c.finish_at.new.hall c.settle_stall.new.self c.speak.ensures.sound c.finish_at.ensures.rest c.finish_at.ensures.stall c.settle_stall.ensures.rest) in
    subst (λ n. c.args.k < n) (sym c.settle_stall.new.self.clients.ok.0) there

pub returns-clause-rest : goal.returns-clause-rest
returns-clause-rest g c = counted_rest c.args.hall.now c.speak.new.hall c.finish_at.new.hall c.settle_stall.new.self _ c.speak.ensures.rest c.finish_at.ensures.rest c.settle_stall.ensures.rest refl

pub returns-clause-clients : goal.returns-clause-clients
returns-clause-clients g c =
    let p : Spoke c.args.hall.now c.speak.new.hall c.args.k c.index.result.now c.in-Some.spot = record { sound = c.requires.sound; within = c.requires.client; read = c.index.ensures; of = c.in-Some.ensures; rest = c.speak.ensures.rest; changed = c.speak.ensures.clients; nop = c.speak.ensures.nop } in
    let Row : Stall → Channel → Channel → Type 0 = λ (a : Stall). Finishes MovesLive c.number-number.result c.args.id in
    changed_twice (spoke c.args.hall.now.moment) (λ (d : Client). record d { finish_count = counted d.finish_count }) c.args.k c.args.hall.now.clients.items c.settle_stall.new.self.clients.items c.index_mut.result.now c.finish.new.self c.requires.client
    (spoken_in c.args.hall.now c.speak.new.hall c.args.k c.index.result.now c.in-Some.spot p c.settle_stall.new.self (clients_same c.args.hall.now c.speak.new.hall c.args.k c.index.result.now c.in-Some.spot p Row c.finish_at.new.hall c.settle_stall.new.self c.speak.ensures.sound c.finish_at.ensures.rest c.finish_at.ensures.stall c.settle_stall.ensures.rest)) c.index_mut.ensures.value c.finish.ensures

pub returns-clause-sound : goal.returns-clause-sound
returns-clause-sound g c =
    let p : Spoke c.args.hall.now c.speak.new.hall c.args.k c.index.result.now c.in-Some.spot = record { sound = c.requires.sound; within = c.requires.client; read = c.index.ensures; of = c.in-Some.ensures; rest = c.speak.ensures.rest; changed = c.speak.ensures.clients; nop = c.speak.ensures.nop } in
    let Row : Stall → Channel → Channel → Type 0 = λ (a : Stall). Finishes MovesLive c.number-number.result c.args.id in
    sound_client c.settle_stall.new.self _ c.args.k c.index_mut.result.now c.finish.new.self (c.settle_stall.ensures.sound c.speak.new.hall (flown_touches Row c.speak.new.hall c.finish_at.new.hall c.in-Some.spot c.speak.ensures.sound c.finish_at.ensures.rest c.finish_at.ensures.stall))
    (changed_range (spoke c.args.hall.now.moment) c.args.k c.args.hall.now.clients.items c.settle_stall.new.self.clients.items c.requires.client (spoken_in c.args.hall.now c.speak.new.hall c.args.k c.index.result.now c.in-Some.spot p c.settle_stall.new.self (clients_same c.args.hall.now c.speak.new.hall c.args.k c.index.result.now c.in-Some.spot p Row c.finish_at.new.hall c.settle_stall.new.self c.speak.ensures.sound c.finish_at.ensures.rest c.finish_at.ensures.stall c.settle_stall.ensures.rest))) c.index_mut.ensures.value
    (counts_same c.index_mut.result.now c.finish.new.self _ _ _ c.finish.ensures) refl refl

pub returns-clause-told : goal.returns-clause-told
returns-clause-told g c = λ files.
    let p : Spoke c.args.hall.now c.speak.new.hall c.args.k c.index.result.now c.in-Some.spot = record { sound = c.requires.sound; within = c.requires.client; read = c.index.ensures; of = c.in-Some.ensures; rest = c.speak.ensures.rest; changed = c.speak.ensures.clients; nop = c.speak.ensures.nop } in
    let Row : Stall → Channel → Channel → Type 0 = λ (a : Stall). Finishes MovesLive c.number-number.result c.args.id in
    finish_told c.args.hall.now c.speak.new.hall c.args.k c.index.result.now c.in-Some.spot p Row c.finish_at.new.hall c.settle_stall.new.self c.speak.ensures.sound c.finish_at.ensures.rest c.finish_at.ensures.stall c.settle_stall.ensures.rest c.number-number.result c.args.id _ c.index_mut.result.now c.finish.new.self files c.number-number.ensures refl (c.settle_stall.ensures.sound c.speak.new.hall (flown_touches Row c.speak.new.hall c.finish_at.new.hall c.in-Some.spot c.speak.ensures.sound c.finish_at.ensures.rest c.finish_at.ensures.stall)) (λ s holds. c.settle_stall.ensures.stands files s holds)
    c.index_mut.ensures.value c.finish.ensures refl refl

pub returns-clause-keeps : goal.returns-clause-keeps
returns-clause-keeps g c =
    let p : Spoke c.args.hall.now c.speak.new.hall c.args.k c.index.result.now c.in-Some.spot = record { sound = c.requires.sound; within = c.requires.client; read = c.index.ensures; of = c.in-Some.ensures; rest = c.speak.ensures.rest; changed = c.speak.ensures.clients; nop = c.speak.ensures.nop } in
    let Row : Stall → Channel → Channel → Type 0 = λ (a : Stall). Finishes MovesLive c.number-number.result c.args.id in
    flight_keeps c.args.hall.now c.speak.new.hall c.args.k c.index.result.now c.in-Some.spot p Row c.finish_at.new.hall c.settle_stall.new.self c.speak.ensures.sound c.finish_at.ensures.rest c.finish_at.ensures.stall c.settle_stall.ensures.rest
