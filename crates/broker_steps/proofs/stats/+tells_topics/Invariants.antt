use Rattle.std.proofs.Common.{length}
use Rattle.broker_steps.proofs.stats.+tells_topics.Given as goal

abbrev pub decreases-tells_topics : goal.decreases-tells_topics
decreases-tells_topics l = length l.topics.now
