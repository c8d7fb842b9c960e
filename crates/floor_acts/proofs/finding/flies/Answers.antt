use Rattle.std.proofs.Common.{subst, List, ℕ}
use Rattle.v2_frame.specs.declared.message.Message.{Message}
use Rattle.channel_core.specs.Answers.{Looks}
use Rattle.channel_core.specs.Seen.{channel_with}
use Rattle.channel_core.specs.declared.answers.Look.TheVariants.{Yours, NotYours, NotInFlight}
use Rattle.floor_acts.proofs.Found.{looked}
use Rattle.floor_acts.proofs.finding.flies.Goals as goal

pub returns-in-Yours : goal.returns-in-Yours
returns-in-Yours c =
    looked c.args.hall.now c.args.client.now c.args.id c.in-Some.stall.now Yours c.in-Some.ensures
    (subst (λ (n : ℕ). (waits : List Message) → Looks n c.args.id (channel_with c.in-Some.stall.now.channel waits) Yours) c.number.ensures c.in-Yours.ensures)

pub returns-in-NotYours : goal.returns-in-NotYours
returns-in-NotYours c =
    looked c.args.hall.now c.args.client.now c.args.id c.in-Some.stall.now NotYours c.in-Some.ensures
    (subst (λ (n : ℕ). (waits : List Message) → Looks n c.args.id (channel_with c.in-Some.stall.now.channel waits) NotYours) c.number.ensures c.in-NotYours.ensures)

pub returns-in-NotInFlight : goal.returns-in-NotInFlight
returns-in-NotInFlight c =
    looked c.args.hall.now c.args.client.now c.args.id c.in-Some.stall.now NotInFlight c.in-Some.ensures
    (subst (λ (n : ℕ). (waits : List Message) → Looks n c.args.id (channel_with c.in-Some.stall.now.channel waits) NotInFlight) c.number.ensures c.in-NotInFlight.ensures)
