use Rattle.std.proofs.Common.{◌<◌, IsSome, ap, length, refl, subst, sym}
use Rattle.broker_history.specs.State.{Client}
use Rattle.broker_history.specs.Step.{ready_for}
use Rattle.channel_copies.specs.Clients.{client_of}
use Rattle.floor_rooms.specs.declared.stall.Stall.{Stall}
use Rattle.floor_rooms.specs.declared.hall.Hall.{Hall}
use Rattle.floor_acts.specs.Spots.{GetsOf}
use Rattle.floor_acts.proofs.Putting.{changed_again, read_holds}
use Rattle.floor_acts.proofs.Flying.{spot_holds, spot_range, spot_stall_range}
use Rattle.floor_acts.proofs.Readying.{both_rest, knows_at, ready_keeps, ready_sound, ready_told}
use Rattle.floor_acts.proofs.ready.ready_both.Goals as goal

pub ready_at-requires-clause-room : goal.ready_at-requires-clause-room
ready_at-requires-clause-room c =
    let gets = (read_holds (λ (d : Client). GetsOf c.args.hall.now.rooms.items c.args.spot d) c.args.hall.now.clients.items c.args.k c.index.result.now c.requires.client c.index.ensures c.requires.gets) in
    spot_range c.args.hall.now.rooms.items c.args.spot gets.route gets.stands

pub ready_at-requires-clause-stall : goal.ready_at-requires-clause-stall
ready_at-requires-clause-stall c =
    let gets = (read_holds (λ (d : Client). GetsOf c.args.hall.now.rooms.items c.args.spot d) c.args.hall.now.clients.items c.args.k c.index.result.now c.requires.client c.index.ensures c.requires.gets) in
    spot_stall_range c.args.hall.now.rooms.items c.args.spot gets.route gets.stands

pub ready_at-requires-clause-client : goal.ready_at-requires-clause-client
ready_at-requires-clause-client c =
    let gets = (read_holds (λ (d : Client). GetsOf c.args.hall.now.rooms.items c.args.spot d) c.args.hall.now.clients.items c.args.k c.index.result.now c.requires.client c.index.ensures c.requires.gets) in
    spot_holds c.args.hall.now.rooms.items c.args.spot gets.route (λ (s : Stall). IsSome (client_of s.channel.clients c.number-number.result)) gets.stands
    (subst IsSome (sym (knows_at c.args.hall.now c.args.k c.args.spot c.number-number.result c.index.result.now c.requires.sound c.requires.client c.index.ensures gets c.number-number.ensures)) refl)

pub index_mut-requires : goal.index_mut-requires
index_mut-requires c =
    let there : c.args.k < length c.ready_at.new.hall.clients.items = subst (λ cs. c.args.k < length cs) (sym (ap (λ (h : Hall). h.clients.items) c.ready_at.ensures.rest)) c.requires.client in
    subst (λ n. c.args.k < n) (sym c.ready_at.new.hall.clients.ok.0) there

pub returns-clause-rest : goal.returns-clause-rest
returns-clause-rest c = both_rest c.args.hall.now c.ready_at.new.hall _ c.ready_at.ensures.rest refl

pub returns-clause-clients : goal.returns-clause-clients
returns-clause-clients c =
    changed_again (λ (d : Client). record d { ready = ready_for d.phase c.args.count d.ready }) c.args.k c.args.hall.now.clients.items c.ready_at.new.hall.clients.items c.index.result.now c.index_mut.result.now c.set_ready.new.self c.requires.client c.index.ensures
    (ap (λ (h : Hall). h.clients.items) c.ready_at.ensures.rest) c.index_mut.ensures.value c.set_ready.ensures

pub returns-clause-sound : goal.returns-clause-sound
returns-clause-sound c = ready_sound c.args.hall.now c.ready_at.new.hall _ c.args.k c.args.spot c.number-number.result c.args.count c.index.result.now c.index_mut.result.now c.set_ready.new.self c.requires.sound c.requires.client c.index.ensures (read_holds (λ (d : Client). GetsOf c.args.hall.now.rooms.items c.args.spot d) c.args.hall.now.clients.items c.args.k c.index.result.now c.requires.client c.index.ensures c.requires.gets) c.number-number.ensures c.ready_at.ensures.rest c.ready_at.ensures.stall c.index_mut.ensures.value c.set_ready.ensures refl refl

pub returns-clause-told : goal.returns-clause-told
returns-clause-told c = λ files. ready_told c.args.hall.now c.ready_at.new.hall _ c.args.k c.args.spot c.number-number.result c.args.count c.index.result.now c.index_mut.result.now c.set_ready.new.self c.requires.sound c.requires.client c.index.ensures (read_holds (λ (d : Client). GetsOf c.args.hall.now.rooms.items c.args.spot d) c.args.hall.now.clients.items c.args.k c.index.result.now c.requires.client c.index.ensures c.requires.gets) c.number-number.ensures c.ready_at.ensures.rest c.ready_at.ensures.stall c.index_mut.ensures.value c.set_ready.ensures refl refl files

pub returns-clause-keeps : goal.returns-clause-keeps
returns-clause-keeps c = ready_keeps c.args.hall.now.moment c.args.spot c.number-number.result c.args.count c.args.hall.now.rooms.items c.ready_at.new.hall.rooms.items c.ready_at.ensures.stall
