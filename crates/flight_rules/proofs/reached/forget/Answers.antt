use Rattle.flight_rules.proofs.reached.forget.Goals as goal

pub returns : goal.returns
returns c = c.remove.ensures.updates.0
