use Rattle.std.proofs.Common.{refl, ap}
use Rattle.broker_floor.specs.Held.{Held}
use Rattle.broker_floor.proofs.Holding.{tied_kept}
use Rattle.broker_floor.proofs.floor.Floor.add.Goals as goal

pub returns-clause-opens : goal.returns-clause-opens
returns-clause-opens g c = c.add.ensures.opens

pub returns-clause-told : goal.returns-clause-told
returns-clause-told g c = c.add.ensures.told

pub returns-clause-again : goal.returns-clause-again
returns-clause-again g c = c.add.ensures.again

pub returns-clause-good : goal.returns-clause-good
returns-clause-good g c = c.add.ensures.good

pub returns-clause-theirs : goal.returns-clause-theirs
returns-clause-theirs g c = c.add.ensures.theirs

pub returns-clause-bad : goal.returns-clause-bad
returns-clause-bad g c = c.add.ensures.bad

pub returns-clause-finds : goal.returns-clause-finds
returns-clause-finds g c = c.add.ensures.finds

pub returns-clause-back : goal.returns-clause-back
returns-clause-back g c = c.add.ensures.back

pub returns-clause-same : goal.returns-clause-same
returns-clause-same g c = c.add.ensures.same

pub returns-clause-refused : goal.returns-clause-refused
returns-clause-refused g c = c.add.ensures.refused

pub returns-clause-files : goal.returns-clause-files
returns-clause-files g c = c.add.ensures.files

pub returns-clause-faults : goal.returns-clause-faults
returns-clause-faults g c = c.add.ensures.faults

pub returns-clause-cause : goal.returns-clause-cause
returns-clause-cause g c = c.add.ensures.cause

pub returns-clause-held : goal.returns-clause-held
returns-clause-held g c = c.add.ensures.rest

pub returns-clause-clock : goal.returns-clause-clock
returns-clause-clock g c = refl

pub returns-clause-journal : goal.returns-clause-journal
returns-clause-journal g c = refl

pub invariant_of-self : goal.invariant_of-self
invariant_of-self g c = record {
  calm = c.args.self.now.calm;
  tied = λ told. tied_kept c.args.self.now.held.hall c.add.new.self.hall (g.J.Journal.notes c.args.self.now.journal) (ap (λ (x : Held). x.hall.clients.items) c.add.ensures.rest) (ap (λ (x : Held). x.hall.stopped) c.add.ensures.rest) (c.args.self.now.tied told);
  room = c.args.self.now.room;
}

pub add-requires-clause-unflushed : goal.add-requires-clause-unflushed
add-requires-clause-unflushed g c = c.requires.unflushed

pub add-requires-clause-durable : goal.add-requires-clause-durable
add-requires-clause-durable g c = c.requires.durable

pub add-requires-clause-channels : goal.add-requires-clause-channels
add-requires-clause-channels g c = c.requires.channels

pub add-requires-clause-apart : goal.add-requires-clause-apart
add-requires-clause-apart g c = c.requires.apart

pub add-requires-clause-new : goal.add-requires-clause-new
add-requires-clause-new g c = c.requires.new
