use Rattle.std.proofs.Common.{IfOk, refl, sym, subst}
use Rattle.broker_history.specs.declared.call.Call.{Call}
use Rattle.broker_history.specs.declared.call.Call.TheVariants as call
use Rattle.floor_acts.specs.Plans.{IsAllowedPlan, IsPlanOf}
use Rattle.floor_calls.proofs.Planning.{there_at, running_at, begin_leads, gone_leads, tick_leads, stop_leads}
use Rattle.floor_calls.proofs.plan.plan_call.Goals as goal

pub plan_command-requires : goal.plan_command-requires
plan_command-requires c = record {
  sound = c.requires.sound;
  there = there_at c.args.hall.now c.args.number c.args.call _ c.in-Command.is refl c.requires.serves;
  running = running_at c.args.hall.now c.args.number c.args.call _ c.in-Command.is tt c.requires.serves;
}

pub plan_refusal-requires : goal.plan_refusal-requires
plan_refusal-requires c = record {
  sound = c.requires.sound;
  there = there_at c.args.hall.now c.args.number c.args.call _ c.in-Bad.is refl c.requires.serves;
  running = running_at c.args.hall.now c.args.number c.args.call _ c.in-Bad.is tt c.requires.serves;
}

pub plan_next-requires : goal.plan_next-requires
plan_next-requires c = record {
  sound = c.requires.sound;
  there = there_at c.args.hall.now c.args.number c.args.call call.Next c.in-Next.is refl c.requires.serves;
  running = running_at c.args.hall.now c.args.number c.args.call call.Next c.in-Next.is tt c.requires.serves;
}

pub plan_asked-requires : goal.plan_asked-requires
plan_asked-requires c = record {
  sound = c.requires.sound;
  running = running_at c.args.hall.now c.args.number c.args.call _ c.in-Ask.is tt c.requires.serves;
}

pub returns-in-Begin : goal.returns-in-Begin
returns-in-Begin c =
    let all = begin_leads c.args.hall.now c.args.number c.args.call c.certain.result c.in-Begin.is c.certain.ensures in
    record { shape = all.shape; stands = all.stands; knows = all.knows; short = all.short }

pub returns-in-Command : goal.returns-in-Command
returns-in-Command c = record {
  shape = subst (λ (d : Call). IfOk c.plan_command.result (IsPlanOf c.args.hall.now c.args.number d)) (sym c.in-Command.is) c.plan_command.ensures.shape;
  stands = subst (λ (d : Call). IfOk c.plan_command.result (IsAllowedPlan c.args.hall.now c.args.number d)) (sym c.in-Command.is) c.plan_command.ensures.stands;
  knows = c.plan_command.ensures.knows;
  short = c.plan_command.ensures.short;
}

pub returns-in-Bad : goal.returns-in-Bad
returns-in-Bad c = record {
  shape = subst (λ (d : Call). IfOk c.plan_refusal.result (IsPlanOf c.args.hall.now c.args.number d)) (sym c.in-Bad.is) c.plan_refusal.ensures.shape;
  stands = subst (λ (d : Call). IfOk c.plan_refusal.result (IsAllowedPlan c.args.hall.now c.args.number d)) (sym c.in-Bad.is) c.plan_refusal.ensures.stands;
  knows = c.plan_refusal.ensures.knows;
  short = c.plan_refusal.ensures.short;
}

pub returns-in-Next : goal.returns-in-Next
returns-in-Next c = record {
  shape = subst (λ (d : Call). IsPlanOf c.args.hall.now c.args.number d c.plan_next.result) (sym c.in-Next.is) c.plan_next.ensures.shape;
  stands = subst (λ (d : Call). IsAllowedPlan c.args.hall.now c.args.number d c.plan_next.result) (sym c.in-Next.is) c.plan_next.ensures.stands;
  knows = c.plan_next.ensures.knows;
  short = c.plan_next.ensures.short;
}

pub returns-in-Gone : goal.returns-in-Gone
returns-in-Gone c =
    let all = gone_leads c.args.hall.now c.args.number c.args.call c.certain-in-Gone.result c.in-Gone.is c.certain-in-Gone.ensures c.requires.serves in
    record { shape = all.shape; stands = all.stands; knows = all.knows; short = all.short }

pub returns-in-Ask : goal.returns-in-Ask
returns-in-Ask c = record {
  shape = subst (λ (d : Call). IfOk c.plan_asked.result (IsPlanOf c.args.hall.now c.args.number d)) (sym c.in-Ask.is) c.plan_asked.ensures.shape;
  stands = subst (λ (d : Call). IfOk c.plan_asked.result (IsAllowedPlan c.args.hall.now c.args.number d)) (sym c.in-Ask.is) c.plan_asked.ensures.stands;
  knows = c.plan_asked.ensures.knows;
  short = c.plan_asked.ensures.short;
}

pub returns-in-Names : goal.returns-in-Names
returns-in-Names c = record {
  shape = subst (λ (d : Call). IfOk c.plan_names.result (IsPlanOf c.args.hall.now c.args.number d)) (sym c.in-Names.is) c.plan_names.ensures.shape;
  stands = subst (λ (d : Call). IfOk c.plan_names.result (IsAllowedPlan c.args.hall.now c.args.number d)) (sym c.in-Names.is) c.plan_names.ensures.stands;
  knows = c.plan_names.ensures.knows;
  short = c.plan_names.ensures.short;
}

pub returns-in-Tick : goal.returns-in-Tick
returns-in-Tick c =
    let all = tick_leads c.args.hall.now c.args.number c.args.call c.certain-in-Tick.result c.in-Tick.is c.certain-in-Tick.ensures c.requires.serves in
    record { shape = all.shape; stands = all.stands; knows = all.knows; short = all.short }

pub returns-in-Stop : goal.returns-in-Stop
returns-in-Stop c =
    let all = stop_leads c.args.hall.now c.args.number c.args.call c.certain-in-Stop.result c.in-Stop.is c.certain-in-Stop.ensures c.requires.serves in
    record { shape = all.shape; stands = all.stands; knows = all.knows; short = all.short }
