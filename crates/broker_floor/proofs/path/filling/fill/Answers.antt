use Rattle.std.proofs.Common.{◌∙◌, le_trans}
use Rattle.broker_floor.specs.Floors.{faults_of, files_of, hall_of, held_of}
use Rattle.broker_floor.proofs.PathEnding.{fill_err, fill_ok, unfilled_added}
use Rattle.broker_floor.proofs.path.filling.fill.Goals as goal

pub add_topics-requires-clause-unflushed : goal.add_topics-requires-clause-unflushed
add_topics-requires-clause-unflushed g c = c.requires.unflushed

pub add_topics-requires-clause-empty : goal.add_topics-requires-clause-empty
add_topics-requires-clause-empty g c = c.requires.empty

pub add_topics-requires-clause-can : goal.add_topics-requires-clause-can
add_topics-requires-clause-can g c = c.requires.can

pub add_topics-requires-clause-durable : goal.add_topics-requires-clause-durable
add_topics-requires-clause-durable g c = c.requires.durable

pub save-requires : goal.save-requires
save-requires g c = record { can = c.requires.can }

pub returns-in-Ok : goal.returns-in-Ok
returns-in-Ok g c = record {
  filled =
      fill_ok c.save.result g.F.Folder.tells_files c.args.topics.now (held_of c.args.floor.now) (held_of c.add_topics.new.floor) (held_of c.save.new.floor) (files_of c.args.floor.now) (files_of c.add_topics.new.floor) (files_of c.save.new.floor) (faults_of c.args.floor.now)
      (faults_of c.add_topics.new.floor) c.in-Ok.ensures.added c.save.ensures.others c.requires.can c.requires.unflushed c.save.ensures.held c.save.ensures.saved c.save.ensures.stands;
  refused =
      fill_err c.save.result g.F.Folder.tells_files c.args.topics.now (held_of c.args.floor.now) (held_of c.add_topics.new.floor) (files_of c.args.floor.now) (files_of c.add_topics.new.floor) (files_of c.save.new.floor) (faults_of c.args.floor.now)
      (faults_of c.add_topics.new.floor) (faults_of c.save.new.floor) c.in-Ok.ensures.added c.save.ensures.others c.save.ensures.refused;
  clock = c.save.ensures.clock ∙ c.add_topics.ensures.clock;
  journal = c.save.ensures.journal ∙ c.add_topics.ensures.journal;
  faults = le_trans c.add_topics.ensures.faults c.save.ensures.faults;
}

pub returns-in-Err : goal.returns-in-Err
returns-in-Err g c = record {
  filled = tt;
  refused =
      unfilled_added c.in-Err.why g.F.Folder.tells_files c.args.topics.now (hall_of c.args.floor.now).epoch (files_of c.args.floor.now) (files_of c.add_topics.new.floor) (faults_of c.args.floor.now) (faults_of c.add_topics.new.floor) c.in-Err.ensures.refused;
  clock = c.add_topics.ensures.clock;
  journal = c.add_topics.ensures.journal;
  faults = c.add_topics.ensures.faults;
}
