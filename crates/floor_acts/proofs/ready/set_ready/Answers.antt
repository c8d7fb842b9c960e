use Rattle.broker_history.specs.State.{Client}
use Rattle.broker_history.specs.Step.{ready_for, spoke}
use Rattle.std.proofs.Common.{◌∙◌, ap, subst}
use Rattle.floor_rooms.specs.declared.hall.Hall.{Hall}
use Rattle.floor_rooms.specs.Changes.{KeepsRooms}
use Rattle.floor_rooms.proofs.Dating.{keeps_equal}
use Rattle.floor_acts.proofs.Putting.{carries_then, changed_range, changes_then}
use Rattle.floor_acts.proofs.Readying.{alone_rest, readies}
use Rattle.floor_acts.proofs.ready.set_ready.Goals as goal

pub spot_for-requires-clause-client : goal.spot_for-requires-clause-client
spot_for-requires-clause-client c = changed_range (spoke c.args.hall.now.moment) c.args.k c.args.hall.now.clients.items c.speak.new.hall.clients.items c.requires.client c.speak.ensures.clients

pub ready_both-requires-clause-client : goal.ready_both-requires-clause-client
ready_both-requires-clause-client c = changed_range (spoke c.args.hall.now.moment) c.args.k c.args.hall.now.clients.items c.speak.new.hall.clients.items c.requires.client c.speak.ensures.clients

pub ready_alone-requires-clause-client : goal.ready_alone-requires-clause-client
ready_alone-requires-clause-client c = changed_range (spoke c.args.hall.now.moment) c.args.k c.args.hall.now.clients.items c.speak.new.hall.clients.items c.requires.client c.speak.ensures.clients

pub returns-in-Some-clause-rest : goal.returns-in-Some-clause-rest
returns-in-Some-clause-rest c = c.ready_both.ensures.rest ∙ ap (λ (h : Hall). record h { clients = c.ready_both.new.hall.clients; rooms = c.ready_both.new.hall.rooms }) c.speak.ensures.rest

pub returns-in-Some-clause-clients : goal.returns-in-Some-clause-clients
returns-in-Some-clause-clients c = changes_then (spoke c.args.hall.now.moment) (λ (d : Client). record d { ready = ready_for d.phase c.args.count d.ready }) c.args.k c.args.hall.now.clients.items c.speak.new.hall.clients.items c.ready_both.new.hall.clients.items c.requires.client c.speak.ensures.clients c.ready_both.ensures.clients

pub returns-in-Some-clause-told : goal.returns-in-Some-clause-told
returns-in-Some-clause-told c = λ files n is.
    readies c.args.hall.now c.ready_both.new.hall c.args.k n c.args.count files is
    (carries_then c.args.hall.now c.speak.new.hall c.ready_both.new.hall c.args.k (spoke c.args.hall.now.moment) (λ (d : Client). record d { ready = ready_for d.phase c.args.count d.ready }) files c.requires.client c.speak.ensures.clients (c.speak.ensures.nop files) (c.ready_both.ensures.told files))

pub returns-in-Some-clause-keeps : goal.returns-in-Some-clause-keeps
returns-in-Some-clause-keeps c = subst (λ (h : Hall). KeepsRooms h.moment h.rooms.items c.ready_both.new.hall.rooms.items) c.speak.ensures.rest c.ready_both.ensures.keeps

pub returns-in-None-clause-rest : goal.returns-in-None-clause-rest
returns-in-None-clause-rest c = alone_rest c.args.hall.now c.speak.new.hall c.ready_alone.new.hall c.speak.ensures.rest c.ready_alone.ensures.rest

pub returns-in-None-clause-clients : goal.returns-in-None-clause-clients
returns-in-None-clause-clients c = changes_then (spoke c.args.hall.now.moment) (λ (d : Client). record d { ready = ready_for d.phase c.args.count d.ready }) c.args.k c.args.hall.now.clients.items c.speak.new.hall.clients.items c.ready_alone.new.hall.clients.items c.requires.client c.speak.ensures.clients c.ready_alone.ensures.clients

pub returns-in-None-clause-told : goal.returns-in-None-clause-told
returns-in-None-clause-told c = λ files n is.
    readies c.args.hall.now c.ready_alone.new.hall c.args.k n c.args.count files is
    (carries_then c.args.hall.now c.speak.new.hall c.ready_alone.new.hall c.args.k (spoke c.args.hall.now.moment) (λ (d : Client). record d { ready = ready_for d.phase c.args.count d.ready }) files c.requires.client c.speak.ensures.clients (c.speak.ensures.nop files) (c.ready_alone.ensures.told files))

pub returns-in-None-clause-keeps : goal.returns-in-None-clause-keeps
returns-in-None-clause-keeps c =
    keeps_equal c.args.hall.now.moment c.args.hall.now.rooms.items c.ready_alone.new.hall.rooms.items (ap (λ (h : Hall). h.rooms.items) c.ready_alone.ensures.rest ∙ ap (λ (h : Hall). h.rooms.items) c.speak.ensures.rest)
