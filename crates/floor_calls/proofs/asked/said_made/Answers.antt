use Rattle.std.proofs.Common.{◌∙◌}
use Rattle.floor_calls.proofs.Saying.{made_is}
use Rattle.floor_calls.proofs.asked.said_made.Goals as goal

pub returns : goal.returns
returns c files s holds = c.made_where.ensures ∙ made_is c.args.hall.now c.args.topic c.args.channel files s holds
