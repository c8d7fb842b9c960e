use Rattle.floor_calls.proofs.Planning.{names_leads}
use Rattle.floor_calls.proofs.plan.plan_names.Goals as goal

pub returns : goal.returns
returns c =
    let all = names_leads c.args.hall.now c.args.number c.in_ok-names.names c.certain.result c.in_ok-names.ensures.value c.in_ok-names.ensures.told c.certain.ensures in
    record { shape = all.shape; stands = all.stands; knows = all.knows; short = all.short }
