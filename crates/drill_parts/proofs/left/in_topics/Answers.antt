use Rattle.nsq_fakes.specs.MemFolders.{files_in}
use Rattle.path_image.specs.Found.{FindsTopic}
use Rattle.drill_parts.specs.Left.{messages_of}
use Rattle.drill_parts.proofs.Lefts.{counts_next, none_at}
use Rattle.drill_parts.proofs.left.in_topics.Goals as goal

pub returns-in_default : goal.returns-in_default
returns-in_default c =
    none_at (FindsTopic (files_in c.args.folder.now)) c.args.topics.now c.loop-topic.topic-index _ c.topic-item.result c.loop-topic-test.true c.topic-item.is (rw c.in_default.is at c.in_ok-more.ensures)

pub loop-topic-preserved : goal.loop-topic-preserved
loop-topic-preserved c =
    counts_next (FindsTopic (files_in c.args.folder.now)) messages_of c.args.topics.now c.loop-topic.topic-index _ c.topic-item.result c.loop-topic.sum c.in-Some.more c.in_ok-sum.sum
    c.loop-topic-test.true c.topic-item.is c.loop-topic.invariant (rw c.in-Some.is at c.in_ok-more.ensures) c.in_ok-sum.ensures
