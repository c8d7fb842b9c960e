use Rattle.std.proofs.Common.{sym, ◌∙◌}
use Rattle.floor_calls.proofs.Planning.{did_leads, lost_leads}
use Rattle.floor_calls.proofs.plan.plan_command.Goals as goal

pub returns-then-is_lost : goal.returns-then-is_lost
returns-then-is_lost c =
    let all = lost_leads c.args.hall.now c.args.number c.client_of-client.result.now c.client_of-client.ensures c.requires.running c.args.command c.certain.result (sym c.is_lost.ensures ∙ c.if-is_lost.true) c.certain.ensures in
    record { shape = all.shape; stands = all.stands; knows = all.knows; short = all.short }

pub returns-in-Ok : goal.returns-in-Ok
returns-in-Ok c =
    let all = did_leads c.args.hall.now c.args.number c.client_of-client.result.now c.client_of-client.ensures c.requires.running c.args.command c.in-Ok.replied.reply c.in-Ok.replied.said (sym c.is_lost.ensures ∙ c.if-is_lost.false) c.in-Ok.ensures.value c.in-Ok.ensures.told c.in-Ok.ensures.said c.in-Ok.ensures.short in
    record { shape = all.shape; stands = all.stands; knows = all.knows; short = all.short }

pub returns-in-Err : goal.returns-in-Err
returns-in-Err c = record { shape = tt; stands = tt; knows = tt; short = tt }
