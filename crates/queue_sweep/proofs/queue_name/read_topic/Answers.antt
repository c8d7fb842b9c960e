use Rattle.queue_sweep.proofs.Colons.{no_colon}
use Rattle.queue_sweep.proofs.queue_name.read_topic.Goals as goal

pub returns-in_default : goal.returns-in_default
returns-in_default c = no_colon c.args.name.now c.requires c.in_default.ensures
