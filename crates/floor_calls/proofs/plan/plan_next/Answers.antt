use Rattle.floor_calls.proofs.Planning.{beat_next, draws_next, idle_next, lost_next, silent_next}
use Rattle.floor_calls.proofs.plan.plan_next.Goals as goal

pub returns-in-Dropped : goal.returns-in-Dropped
returns-in-Dropped c =
    let all = lost_next c.args.hall.now c.args.number c.client_of-client.result.now c.client_of-client.ensures c.requires.running c.plain.result c.in-Dropped.ensures c.plain.ensures in
    record { shape = all.shape; stands = all.stands; knows = all.knows; short = all.short }

pub returns-in-Silent : goal.returns-in-Silent
returns-in-Silent c =
    let all = silent_next c.args.hall.now c.args.number c.client_of-client.result.now c.client_of-client.ensures c.requires.running c.plain-in-Silent.result c.in-Silent.ensures c.plain-in-Silent.ensures in
    record { shape = all.shape; stands = all.stands; knows = all.knows; short = all.short }

pub returns-in-Beat : goal.returns-in-Beat
returns-in-Beat c =
    let all = beat_next c.args.hall.now c.args.number c.client_of-client.result.now c.client_of-client.ensures c.requires.running c.plain-in-Beat.result c.in-Beat.ensures c.plain-in-Beat.ensures in
    record { shape = all.shape; stands = all.stands; knows = all.knows; short = all.short }

pub returns-in-Nothing : goal.returns-in-Nothing
returns-in-Nothing c =
    let all = idle_next c.args.hall.now c.args.number c.client_of-client.result.now c.client_of-client.ensures c.requires.running c.plain-in-Nothing.result c.in-Nothing.ensures c.plain-in-Nothing.ensures in
    record { shape = all.shape; stands = all.stands; knows = all.knows; short = all.short }

pub returns-in-Message : goal.returns-in-Message
returns-in-Message c =
    let all = draws_next c.args.hall.now c.args.number c.client_of-client.result.now c.client_of-client.ensures c.requires.running c.in-Message.i c.in-Message.j c.in-Message.ensures in
    record { shape = all.shape; stands = all.stands; knows = all.knows; short = all.short }
