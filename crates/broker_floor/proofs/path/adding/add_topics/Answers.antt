use Rattle.std.proofs.Common.{◌≡◌, ◌∙◌, false, refl, le_trans}
use Rattle.std.specs.List.{All}
use Rattle.nsq_base.specs.Name.{is_ephemeral}
use Rattle.path_image.specs.Data.{KeptChannel, KeptTopic}
use Rattle.broker_floor.specs.Floors.{faults_of, files_of, hall_of, held_of}
use Rattle.broker_floor.proofs.Joining.{added_first, at_next, still_unflushed, topic_added, topic_new, topic_order, topic_refused, topics_added}
use Rattle.broker_floor.proofs.path.adding.add_topics.Goals as goal

pub topics-init : goal.topics-init
topics-init g c = (added_first g.F.Folder.tells_files (held_of c.args.floor.now) (files_of c.args.floor.now) (faults_of c.args.floor.now) c.requires.empty, refl, refl)

pub add_topic-requires-clause-unflushed : goal.add_topic-requires-clause-unflushed
add_topic-requires-clause-unflushed g c = still_unflushed (held_of c.args.floor.now) (held_of c.topics.floor) c.topics.invariant.0.rest c.requires.unflushed

pub add_topic-requires-clause-durable : goal.add_topic-requires-clause-durable
add_topic-requires-clause-durable g c = at_next (λ (t : KeptTopic). is_ephemeral t.name ≡ false) c.args.topics.now c.topics.topic-index c.topic-item.result c.topics-test.true c.topic-item.is c.requires.durable.topics

pub add_topic-requires-clause-channels : goal.add_topic-requires-clause-channels
add_topic-requires-clause-channels g c =
    at_next (λ (t : KeptTopic). All (λ (k : KeptChannel). is_ephemeral k.name ≡ false) t.channels) c.args.topics.now c.topics.topic-index c.topic-item.result c.topics-test.true c.topic-item.is c.requires.durable.channels

pub add_topic-requires-clause-order : goal.add_topic-requires-clause-order
add_topic-requires-clause-order g c = topic_order c.args.topics.now c.topics.topic-index c.topic-item.result c.topics-test.true c.topic-item.is c.requires.can

pub add_topic-requires-clause-new : goal.add_topic-requires-clause-new
add_topic-requires-clause-new g c = topic_new c.args.topics.now c.topics.topic-index c.topic-item.result c.topics-test.true c.topic-item.is c.requires.can (hall_of c.topics.floor) c.topics.invariant.0.names

pub topics-preserved : goal.topics-preserved
topics-preserved g c = (
  topic_added c.args.topics.now c.topics.topic-index c.topic-item.result c.topics-test.true c.topic-item.is c.requires.can g.F.Folder.tells_files (held_of c.args.floor.now) (held_of c.topics.floor) (held_of c.add_topic.new.floor) (files_of c.args.floor.now) (files_of c.topics.floor)
      (files_of c.add_topic.new.floor) (faults_of c.args.floor.now) (faults_of c.topics.floor) (faults_of c.add_topic.new.floor) c.topics.invariant.0 c.add_topic.ensures.held c.in-Ok.ensures.puts c.in-Ok.ensures.adds c.add_topic.ensures.faults,
  c.add_topic.ensures.clock ∙ c.topics.invariant.1,
  c.add_topic.ensures.journal ∙ c.topics.invariant.2,
)

pub returns-in-Err : goal.returns-in-Err
returns-in-Err g c = record {
  added = tt;
  refused =
      topic_refused c.args.topics.now c.topics.topic-index c.topic-item.result c.topics-test.true c.topic-item.is c.requires.can g.F.Folder.tells_files (held_of c.args.floor.now) (held_of c.topics.floor) (held_of c.add_topic.new.floor) (files_of c.args.floor.now) (files_of c.topics.floor)
      (files_of c.add_topic.new.floor) (faults_of c.args.floor.now) (faults_of c.topics.floor) (faults_of c.add_topic.new.floor) c.topics.invariant.0 c.in-Err.why c.in-Err.ensures.refused;
  clock = c.add_topic.ensures.clock ∙ c.topics.invariant.1;
  journal = c.add_topic.ensures.journal ∙ c.topics.invariant.2;
  faults = le_trans c.topics.invariant.0.faults c.add_topic.ensures.faults;
}

pub returns : goal.returns
returns g c = record {
  added =
      topics_added g.F.Folder.tells_files c.args.topics.now c.topics.topic-index (held_of c.args.floor.now) (held_of c.topics.floor) (files_of c.args.floor.now) (files_of c.topics.floor) (faults_of c.args.floor.now) (faults_of c.topics.floor) c.topics-test.false c.topics.invariant.0;
  refused = tt;
  clock = c.topics.invariant.1;
  journal = c.topics.invariant.2;
  faults = c.topics.invariant.0.faults;
}
