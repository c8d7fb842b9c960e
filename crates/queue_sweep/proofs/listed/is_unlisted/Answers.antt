use Rattle.queue_sweep.proofs.Listing.{unlisted_tells}
use Rattle.queue_sweep.proofs.listed.is_unlisted.Goals as goal

pub returns-in-Some : goal.returns-in-Some
returns-in-Some c = unlisted_tells c.args.listed.now c.args.file.now c.in-Some.queue c.is_listed.result c.in-Some.ensures.0 c.in-Some.ensures.1 c.is_listed.ensures
