use Rattle.std.proofs.Common.{refl}
use Rattle.queue_opening.proofs.Plans.{plan_sound}
use Rattle.queue_opening.proofs.plan.arranged.Goals as goal

pub returns-clause-sound : goal.returns-clause-sound
returns-clause-sound c = plan_sound c.args.positions c.args.found c.requires.usable c.requires.fits _ refl refl refl refl c.settle-settled.ensures
