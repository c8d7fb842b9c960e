use Rattle.std.proofs.Common.{length}
use Rattle.broker_files.proofs.left.+are_left_topics.Given as goal

abbrev pub decreases-are_left_topics : goal.decreases-are_left_topics
decreases-are_left_topics l = length l.topics.now
