use Rattle.std.proofs.Common.{refl}
use Rattle.broker_history.specs.Step.{spoke}
use Rattle.floor_acts.proofs.Putting.{carries_at, sound_client, spoken}
use Rattle.floor_acts.proofs.clients.speak.Goals as goal

pub returns-clause-sound : goal.returns-clause-sound
returns-clause-sound c =
    sound_client c.args.hall.now _ c.args.k c.index_mut.result.now c.speak.new.self c.requires.sound c.requires.client c.index_mut.ensures.value (spoken c.args.hall.now.moment c.index_mut.result.now c.speak.new.self c.speak.ensures) refl refl

pub returns-clause-told : goal.returns-clause-told
returns-clause-told c = λ files command.
    carries_at c.args.hall.now _ c.args.k (spoke c.args.hall.now.moment) c.index_mut.result.now c.speak.new.self c.requires.sound c.requires.client c.index_mut.ensures.value c.speak.ensures refl refl refl files

pub returns-clause-nop : goal.returns-clause-nop
returns-clause-nop c = λ files.
    carries_at c.args.hall.now _ c.args.k (spoke c.args.hall.now.moment) c.index_mut.result.now c.speak.new.self c.requires.sound c.requires.client c.index_mut.ensures.value c.speak.ensures refl refl refl files
