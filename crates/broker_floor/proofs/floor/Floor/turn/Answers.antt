use Rattle.broker_floor.proofs.Answering.{scene_adds, scene_answers, scene_grows, scene_stopping, scene_told}
use Rattle.broker_floor.proofs.floor.Floor.turn.Goals as goal

pub returns-clause-timely : goal.returns-clause-timely
returns-clause-timely g c = c.turn_in.ensures.turn.takes.timely

pub returns-clause-grows : goal.returns-clause-grows
returns-clause-grows g c = λ told. scene_grows c.turn_in.ensures.turn told

pub returns-clause-adds : goal.returns-clause-adds
returns-clause-adds g c = λ told. scene_adds c.turn_in.ensures.turn told

pub returns-clause-stopping : goal.returns-clause-stopping
returns-clause-stopping g c = λ told. scene_stopping c.turn_in.ensures.turn (c.turn_in.new.self.tied told)

pub returns-clause-told : goal.returns-clause-told
returns-clause-told g c = λ told. scene_told c.turn_in.ensures.turn (c.args.self.now.tied told) (c.requires.may told)

pub returns-clause-answer : goal.returns-clause-answer
returns-clause-answer g c = scene_answers c.turn_in.ensures.turn

pub returns-clause-short : goal.returns-clause-short
returns-clause-short g c = c.turn_in.ensures.turn.takes.short
