use Rattle.std.proofs.Common.{◌≡◌, ◌∙◌, ◌<◌, ◌^◌, ap, subst, sym}
use Rattle.std.specs.Prelude.{OnErr, OnOk}
use Rattle.floor_rooms.specs.declared.hall.Hall.{Hall}
use Rattle.floor_files.specs.Opened.{OpensRoom, OpensTo}
use Rattle.broker_floor.specs.Held.{Held}
use Rattle.broker_floor.proofs.sound.SoundHall.add.Goals as goal

pub open_topic-requires-clause-sound : goal.open_topic-requires-clause-sound
open_topic-requires-clause-sound g c = c.self.invariant.sound (ap (λ (x : Held). x.flushed) c.self.view_is ∙ c.requires.unflushed)

pub returns-clause-told : goal.returns-clause-told
returns-clause-told g c = λ told.
    subst (λ (x : Held). OnOk c.open_topic.result (OpensTo c.args.topic c.args.paused c.args.channels.now x.hall (g.F.Folder.files c.args.folder.now) c.open_topic.new.hall (g.F.Folder.files c.open_topic.new.folder))) c.self.view_is (c.open_topic.ensures.told told)

pub returns-clause-opens : goal.returns-clause-opens
returns-clause-opens g c =
    subst (λ (x : Held). OnOk c.open_topic.result (OpensRoom x.hall.options c.args.topic c.args.paused x.hall.rooms.items c.open_topic.new.hall.rooms.items)) c.self.view_is c.open_topic.ensures.opens

pub returns-clause-same : goal.returns-clause-same
returns-clause-same g c = subst (λ (x : Held). OnErr c.open_topic.result (c.open_topic.new.hall.rooms.items ≡ x.hall.rooms.items)) c.self.view_is c.open_topic.ensures.same

pub returns-clause-again : goal.returns-clause-again
returns-clause-again g c = c.open_topic.ensures.again

pub returns-clause-good : goal.returns-clause-good
returns-clause-good g c = c.open_topic.ensures.good

pub returns-clause-theirs : goal.returns-clause-theirs
returns-clause-theirs g c = c.open_topic.ensures.theirs

pub returns-clause-bad : goal.returns-clause-bad
returns-clause-bad g c = c.open_topic.ensures.bad

pub returns-clause-finds : goal.returns-clause-finds
returns-clause-finds g c = c.open_topic.ensures.finds

pub returns-clause-back : goal.returns-clause-back
returns-clause-back g c = c.open_topic.ensures.back

pub returns-clause-refused : goal.returns-clause-refused
returns-clause-refused g c = c.open_topic.ensures.refused

pub returns-clause-files : goal.returns-clause-files
returns-clause-files g c = c.open_topic.ensures.files

pub returns-clause-faults : goal.returns-clause-faults
returns-clause-faults g c = c.open_topic.ensures.faults

pub returns-clause-cause : goal.returns-clause-cause
returns-clause-cause g c = c.open_topic.ensures.cause

pub invariant_of-self : goal.invariant_of-self
invariant_of-self g c = record { sound = λ still. c.open_topic.ensures.sound; epoch = subst (λ e. e < 2 ^ 24) (sym (ap (λ (x : Hall). x.epoch) c.open_topic.ensures.rest)) c.self.invariant.epoch }
