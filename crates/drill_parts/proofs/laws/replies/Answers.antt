use Rattle.drill_parts.proofs.Replying.{replied, stays}
use Rattle.drill_parts.proofs.laws.replies.Goals as goal

pub returns : goal.returns
returns c = record { commands = replied; stay = stays }
