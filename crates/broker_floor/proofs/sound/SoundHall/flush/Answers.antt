use Rattle.std.proofs.Common.{◌∙◌, ◌<◌, ◌^◌, ap, subst, sym}
use Rattle.std.proofs.lemmas.Bool.{false≢true}
use Rattle.floor_rooms.specs.declared.hall.Hall.{Hall}
use Rattle.floor_rooms.specs.Kept.{hall_kept}
use Rattle.floor_rooms.specs.Standing.{HoldsFor}
use Rattle.floor_serving.specs.Flushing.{LeavesOthers}
use Rattle.broker_floor.specs.Held.{Held}
use Rattle.broker_floor.proofs.sound.SoundHall.flush.Goals as goal

pub flush_all-flushed-requires-clause-sound : goal.flush_all-flushed-requires-clause-sound
flush_all-flushed-requires-clause-sound g c = c.self.invariant.sound (ap (λ (x : Held). x.flushed) c.self.view_is ∙ c.requires.unflushed)

pub returns-clause-left : goal.returns-clause-left
returns-clause-left g c = λ told s holds. c.flush_all-flushed.ensures.left told s (subst (λ (x : Held). HoldsFor x.hall (g.F.Folder.files c.args.folder.now) s) (sym c.self.view_is) holds)

pub returns-clause-others : goal.returns-clause-others
returns-clause-others g c = λ told. subst (λ (x : Held). LeavesOthers c.flush_all-flushed.result (g.F.Folder.folder_faults c.args.folder.now) (g.F.Folder.folder_faults c.flush_all-flushed.new.folder) x.hall (g.F.Folder.files c.args.folder.now) (g.F.Folder.files c.flush_all-flushed.new.folder)) c.self.view_is (c.flush_all-flushed.ensures.others told)

pub invariant_of-self : goal.invariant_of-self
invariant_of-self g c = record { sound = λ still. absurd (false≢true (sym still)); epoch = subst (λ e. e < 2 ^ 24) (sym (ap (λ (x : Hall). x.epoch) c.flush_all-flushed.ensures.rest)) c.self.invariant.epoch }

pub flush_all-flushed-requires-clause-scratch : goal.flush_all-flushed-requires-clause-scratch
flush_all-flushed-requires-clause-scratch g c = c.requires.scratch

pub returns-clause-files : goal.returns-clause-files
returns-clause-files g c = c.flush_all-flushed.ensures.files

pub returns-clause-faults : goal.returns-clause-faults
returns-clause-faults g c = c.flush_all-flushed.ensures.faults

pub returns-clause-cause : goal.returns-clause-cause
returns-clause-cause g c = c.flush_all-flushed.ensures.cause

pub returns-clause-kept : goal.returns-clause-kept
returns-clause-kept g c = c.flush_all-flushed.ensures.kept ∙ ap (λ (x : Held). hall_kept x.hall) c.self.view_is

pub new-steps-requires-clause-name : goal.new-steps-requires-clause-name
new-steps-requires-clause-name g c = c.requires.name

pub new-steps-requires-clause-parts : goal.new-steps-requires-clause-parts
new-steps-requires-clause-parts g c = c.requires.parts

pub new-steps-requires-clause-some : goal.new-steps-requires-clause-some
new-steps-requires-clause-some g c = c.requires.some
