use Rattle.daemon_endings.specs.Prints.{part, whole}
use Rattle.daemon_endings.proofs.printing.print.Goals as goal

pub returns-in-Done-clause-prints : goal.returns-in-Done-clause-prints
returns-in-Done-clause-prints g c = record { prints = whole c.in-Done.ensures.content; state = c.print.ensures.state }

pub returns-in-Failed-clause-prints : goal.returns-in-Failed-clause-prints
returns-in-Failed-clause-prints g c = record { prints = part c.in-Failed.ensures.content c.in-Failed.ensures.cause; state = c.print.ensures.state }
