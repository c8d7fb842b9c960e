use Rattle.floor_calls.proofs.Planning.{refused_leads}
use Rattle.floor_calls.proofs.plan.plan_refusal.Goals as goal

pub returns : goal.returns
returns c =
    let all = refused_leads c.args.hall.now c.args.number c.client_of-client.result.now c.client_of-client.ensures c.requires.running c.args.fault c.in_ok-frame.frame c.certain.result c.in_ok-frame.ensures.value c.in_ok-frame.ensures.short c.certain.ensures in
    record { shape = all.shape; stands = all.stands; knows = all.knows; short = all.short }
