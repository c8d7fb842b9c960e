use Rattle.std.proofs.Common.{◌≡◌, subst, sym, ap}
use Rattle.nsq_outside.specs.Files.{Files}
use Rattle.std.specs.Prelude.{IsTrue}
use Rattle.floor_rooms.specs.Standing.{Carries}
use Rattle.floor_calls.specs.Publishing.{PublishFails, Publishes}
use Rattle.floor_calls.specs.Published.{Published}
use Rattle.floor_serving.proofs.Bodies.{in_range, not_refused, publish_done, publish_fault, publish_not, refused_with, was_kept_off, was_put}
use Rattle.floor_serving.proofs.publishing.publish_as.Goals as goal

pub speak-requires-clause-client : goal.speak-requires-clause-client
speak-requires-clause-client g c = in_range g.F.Folder.tells_files c.args.k c.args.hall.now c.publish.new.hall (g.F.Folder.files c.args.folder.now) (g.F.Folder.files c.publish.new.folder) (g.F.Folder.folder_faults c.args.folder.now) (g.F.Folder.folder_faults c.publish.new.folder) c.publish.ensures.rest c.publish.ensures.sound c.publish.ensures.names c.publish.ensures.since c.publish.ensures.files c.publish.ensures.faults c.requires.client

pub returns-in-None : goal.returns-in-None
returns-in-None g c = λ command is.
    publish_done g.F.Folder.tells_files c.args.k c.args.hall.now c.publish.new.hall (g.F.Folder.files c.args.folder.now) (g.F.Folder.files c.publish.new.folder) (g.F.Folder.folder_faults c.args.folder.now) (g.F.Folder.folder_faults c.publish.new.folder) c.publish.ensures.rest c.publish.ensures.sound c.publish.ensures.names c.publish.ensures.since c.publish.ensures.files c.publish.ensures.faults
    c.speak.new.hall c.requires.client c.speak.ensures.rest c.speak.ensures.clients c.speak.ensures.sound c.speak.ensures.told command c.args.topic c.args.delay c.args.bodies.items c.args.word.now is
    (subst (λ (p : Published). IsTrue g.F.Folder.tells_files → Carries c.args.hall.now (g.F.Folder.files c.args.folder.now) c.publish.new.hall (g.F.Folder.files c.publish.new.folder) (Publishes c.args.hall.now.moment c.args.delay c.args.topic c.args.bodies.items p)) (was_put _ _ c.is_put.ensures (not_refused _ _ _ c.in-Ok-publish_refusal.ensures.value c.in-None.is)) c.in-Ok.ensures.told)

pub returns-in_default : goal.returns-in_default
returns-in_default g c = λ command is.
    publish_not g.F.Folder.tells_files c.args.k c.args.hall.now c.publish.new.hall (g.F.Folder.files c.args.folder.now) (g.F.Folder.files c.publish.new.folder) (g.F.Folder.folder_faults c.args.folder.now) (g.F.Folder.folder_faults c.publish.new.folder) c.publish.ensures.rest c.publish.ensures.sound c.publish.ensures.names c.publish.ensures.since c.publish.ensures.files c.publish.ensures.faults _ command
    (λ told. subst (λ (f : Files). Carries c.args.hall.now (g.F.Folder.files c.args.folder.now) c.publish.new.hall f (λ s t. t ≡ s)) (ap g.F.Folder.files (sym c.in_default.ensures.none.1)) (c.in_default.ensures.stays (g.F.Folder.files c.args.folder.now)))

pub returns-in_default-publish_refusal : goal.returns-in_default-publish_refusal
returns-in_default-publish_refusal g c = λ command is. publish_not g.F.Folder.tells_files c.args.k c.args.hall.now c.publish.new.hall (g.F.Folder.files c.args.folder.now) (g.F.Folder.files c.publish.new.folder) (g.F.Folder.folder_faults c.args.folder.now) (g.F.Folder.folder_faults c.publish.new.folder) c.publish.ensures.rest c.publish.ensures.sound c.publish.ensures.names c.publish.ensures.since c.publish.ensures.files c.publish.ensures.faults _ command
    (subst (λ (p : Published). IsTrue g.F.Folder.tells_files → Carries c.args.hall.now (g.F.Folder.files c.args.folder.now) c.publish.new.hall (g.F.Folder.files c.publish.new.folder) (Publishes c.args.hall.now.moment c.args.delay c.args.topic c.args.bodies.items p)) (was_kept_off _ _ c.is_put.ensures c.in_default-publish_refusal.ensures.memory) c.in-Ok.ensures.told)

pub returns-in-Some : goal.returns-in-Some
returns-in-Some g c = λ command is.
    let told = refused_with _ _ _ _ c.in-Ok-publish_refusal.ensures.value c.in-Some.is in
    let off = was_kept_off _ _ c.is_put.ensures told.0 in
    publish_fault g.F.Folder.tells_files c.args.k c.args.hall.now c.publish.new.hall (g.F.Folder.files c.args.folder.now) (g.F.Folder.files c.publish.new.folder) (g.F.Folder.folder_faults c.args.folder.now) (g.F.Folder.folder_faults c.publish.new.folder) c.publish.ensures.rest c.publish.ensures.sound c.publish.ensures.names c.publish.ensures.since c.publish.ensures.files c.publish.ensures.faults
    c.speak.new.hall c.requires.client c.speak.ensures.rest c.speak.ensures.clients c.speak.ensures.sound c.speak.ensures.told command c.args.topic c.args.delay c.args.bodies.items c.args.word.now c.in-Some.frame is told.1 told.2
    (subst (λ (p : Published). PublishFails (g.F.Folder.folder_faults c.args.folder.now) (g.F.Folder.folder_faults c.publish.new.folder) p) off c.in-Ok.ensures.cause)
    (subst (λ (p : Published). IsTrue g.F.Folder.tells_files → Carries c.args.hall.now (g.F.Folder.files c.args.folder.now) c.publish.new.hall (g.F.Folder.files c.publish.new.folder) (Publishes c.args.hall.now.moment c.args.delay c.args.topic c.args.bodies.items p)) off c.in-Ok.ensures.told)
