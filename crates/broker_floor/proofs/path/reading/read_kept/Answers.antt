use Rattle.broker_floor.proofs.path.reading.read_kept.Goals as goal

pub returns-in-Err-Bad-clause-why : goal.returns-in-Err-Bad-clause-why
returns-in-Err-Bad-clause-why c = c.in-Err-Bad.ensures.bad c.in-Err-Bad.field-0-is
