use Rattle.floor_acts.proofs.Replying.{told_reply}
use Rattle.floor_acts.proofs.command.reply_to.Goals as goal

pub returns-clause-told : goal.returns-clause-told
returns-clause-told c = told_reply c.args.hall.now c.args.client.now c.args.command.now c.in_ok-answer.field-0.reply c.in_ok-answer.ensures.value
