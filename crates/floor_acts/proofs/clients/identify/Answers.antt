use Rattle.std.proofs.Common.{◌∙◌, ap, arith, refl}
use Rattle.broker_history.specs.State.{Client}
use Rattle.broker_history.specs.Step.{known_as, spoke}
use Rattle.negotiation.specs.Said.{said}
use Rattle.floor_rooms.specs.Seen.{held_channel}
use Rattle.floor_acts.proofs.Putting.{carries_twice, changed_length, changed_range, changed_read, changed_twice, clients_rest, identifies, introduced, sound_client}
use Rattle.floor_acts.proofs.clients.identify.Goals as goal

pub index_mut-requires : goal.index_mut-requires
index_mut-requires c =
    let same = changed_length (spoke c.args.hall.now.moment) c.args.k c.args.hall.now.clients.items c.speak.new.hall.clients.items c.requires.client c.speak.ensures.clients in
    let there = c.requires.client in
    omega (arith, same, there, c.speak.new.hall.clients.ok.0)

pub returns-clause-rest : goal.returns-clause-rest
returns-clause-rest c = clients_rest c.args.hall.now c.speak.new.hall _ c.speak.ensures.rest refl

pub returns-clause-clients : goal.returns-clause-clients
returns-clause-clients c =
    changed_twice (spoke c.args.hall.now.moment) (known_as c.args.hall.now.moment (said c.args.identity)) c.args.k c.args.hall.now.clients.items c.speak.new.hall.clients.items c.index_mut.result.now c.introduce.new.self c.requires.client c.speak.ensures.clients c.index_mut.ensures.value
    (c.introduce.ensures c.args.identity.negotiates)

pub returns-clause-sound : goal.returns-clause-sound
returns-clause-sound c =
    sound_client c.speak.new.hall _ c.args.k c.index_mut.result.now c.introduce.new.self c.speak.ensures.sound
    (changed_range (spoke c.args.hall.now.moment) c.args.k c.args.hall.now.clients.items c.speak.new.hall.clients.items c.requires.client c.speak.ensures.clients) c.index_mut.ensures.value
    (introduced c.args.hall.now.moment (said c.args.identity) c.index_mut.result.now c.introduce.new.self (c.introduce.ensures c.args.identity.negotiates)
    (ap (λ (d : Client). held_channel d.phase d.route) (changed_read (spoke c.args.hall.now.moment) c.args.k c.args.hall.now.clients.items c.speak.new.hall.clients.items c.index_mut.result.now c.index_mut.result.now c.requires.client c.speak.ensures.clients c.index_mut.ensures.value)
    ∙ c.requires.none c.index_mut.result.now)) refl refl

pub returns-clause-told : goal.returns-clause-told
returns-clause-told c = λ files body is.
    identifies c.args.hall.now _ c.args.k (said c.args.identity) body files is
    (carries_twice c.args.hall.now c.speak.new.hall _ c.args.k (spoke c.args.hall.now.moment) (known_as c.args.hall.now.moment (said c.args.identity)) c.index_mut.result.now c.introduce.new.self files c.speak.ensures.sound c.requires.client c.speak.ensures.clients
    (c.speak.ensures.nop files) c.index_mut.ensures.value (c.introduce.ensures c.args.identity.negotiates) (λ d. refl) refl refl)
