use Rattle.std.proofs.Common.{◌∙◌}
use Rattle.floor_calls.proofs.Saying.{said_is}
use Rattle.floor_calls.proofs.asked.said_of.Goals as goal

pub returns : goal.returns
returns c files s holds = c.found_where.ensures ∙ said_is c.args.hall.now c.args.topic c.args.channel files s holds
