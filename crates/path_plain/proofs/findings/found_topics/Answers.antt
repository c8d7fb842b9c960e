use Rattle.path_plain.specs.Folders.{files_of}
use Rattle.path_image.specs.Found.{FindsTopic}
use Rattle.path_plain.proofs.FindingLemmas.{pairwise_next, pairwise_all, bad_topic_at}
use Rattle.path_plain.proofs.findings.found_topics.Goals as goal

pub loop-topic-preserved : goal.loop-topic-preserved
loop-topic-preserved c =
    pairwise_next (FindsTopic (files_of c.args.files.now)) c.args.kept.now c.loop-topic.topic-index _ c.topic-item.result c.loop-topic.topics.items c.push.new.self.items c.in-Some.found
    c.loop-topic-test.true c.topic-item.is c.loop-topic.invariant (rw c.in-Some.is at c.in_ok-found.ensures) c.in_ok-push.ensures.items

pub returns-in_default : goal.returns-in_default
returns-in_default c = bad_topic_at (files_of c.args.files.now) c.args.kept.now c.loop-topic.topic-index _ c.topic-item.result c.loop-topic-test.true c.topic-item.is (rw c.in_default.is at c.in_ok-found.ensures)

pub returns : goal.returns
returns c = pairwise_all (FindsTopic (files_of c.args.files.now)) c.args.kept.now c.loop-topic.topic-index c.loop-topic.topics.items c.loop-topic-test.false c.loop-topic.invariant
