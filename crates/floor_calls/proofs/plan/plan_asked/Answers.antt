use Rattle.floor_calls.proofs.Planning.{asked_leads}
use Rattle.floor_calls.proofs.plan.plan_asked.Goals as goal

pub returns-in-Ok : goal.returns-in-Ok
returns-in-Ok c =
    let all = asked_leads c.args.hall.now c.args.number c.args.ask c.in-Ok.said c.certain.result c.requires.running c.in-Ok.ensures c.certain.ensures in
    record { shape = all.shape; stands = all.stands; knows = all.knows; short = all.short }

pub returns-in-Err : goal.returns-in-Err
returns-in-Err c = record { shape = tt; stands = tt; knows = tt; short = tt }
