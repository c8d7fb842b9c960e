use Rattle.std.proofs.Common.{rules, ◌≡◌, SFits, w64, to_z, of_z, min, subst}
use Rattle.std.proofs.lemmas.Int.{to_z-of_z}
use Rattle.broker_history.specs.Reply.{span_of}
use Rattle.floor_serving.proofs.Conditions.{req_flies}
use Rattle.floor_serving.proofs.Returning.{requeue_done, requeue_fault, requeue_not, span_within, no_refusal}
use Rattle.floor_serving.proofs.flights.requeue_own.Goals as goal

pub returns-in_default : goal.returns-in_default
returns-in_default g c =
    (requeue_not g.F.Folder.tells_files c.args.k c.args.id c.args.delay c.args.hall.now (g.F.Folder.files c.args.folder.now) (g.F.Folder.folder_faults c.args.folder.now) _ c.requires.sound)

pub requeue-requires-clause-client : goal.requeue-requires-clause-client
requeue-requires-clause-client g c = c.requires.accepted.within

pub requeue-requires-clause-flies : goal.requeue-requires-clause-flies
requeue-requires-clause-flies g c = req_flies c.args.hall.now c.args.k c.args.id c.args.delay c.requires.accepted

pub requeue-requires-clause-delay : goal.requeue-requires-clause-delay
requeue-requires-clause-delay g c =
    let small : SFits w64 c.args.delay = search rules in
    let whole : to_z w64 (of_z w64 c.args.delay) ≡ c.args.delay = to_z-of_z w64 c.args.delay small in
    span_within c.span_of-span.result c.args.delay c.args.hall.now.options.max_req_timeout (subst (λ z. c.span_of-span.result ≡ min (span_of z) c.args.hall.now.options.max_req_timeout) whole c.span_of-span.ensures)

pub returns-in-Done : goal.returns-in-Done
returns-in-Done g c =
    let small : SFits w64 c.args.delay = search rules in
    let whole : to_z w64 (of_z w64 c.args.delay) ≡ c.args.delay = to_z-of_z w64 c.args.delay small in
    requeue_done g.F.Folder.tells_files c.args.k c.args.id c.args.delay c.span_of-span.result c.args.hall.now c.requeue.new.hall (g.F.Folder.files c.args.folder.now) (g.F.Folder.files c.requeue.new.folder) (g.F.Folder.folder_faults c.args.folder.now) (g.F.Folder.folder_faults c.requeue.new.folder) c.requires.sound c.requires.accepted (subst (λ z. c.span_of-span.result ≡ min (span_of z) c.args.hall.now.options.max_req_timeout) whole c.span_of-span.ensures) c.requeue.ensures.rest c.requeue.ensures.keeps c.requeue.ensures.sound c.requeue.ensures.files c.requeue.ensures.faults c.in-Done.ensures.clients c.in-Done.ensures.told

pub unreachable-requires : goal.unreachable-requires
unreachable-requires g c = no_refusal c.span_of-span.result c.in-Ok.refusal (g.F.Folder.folder_faults c.args.folder.now) (g.F.Folder.folder_faults c.requeue.new.folder) c.in-Ok.ensures.value c.in-Fault.ensures.cause c.in_default-refusal.is

pub returns-in-Some : goal.returns-in-Some
returns-in-Some g c =
    let small : SFits w64 c.args.delay = search rules in
    let whole : to_z w64 (of_z w64 c.args.delay) ≡ c.args.delay = to_z-of_z w64 c.args.delay small in
    requeue_fault g.F.Folder.tells_files c.args.k c.args.id c.args.delay c.span_of-span.result c.args.hall.now c.requeue.new.hall (g.F.Folder.files c.args.folder.now) (g.F.Folder.files c.requeue.new.folder) (g.F.Folder.folder_faults c.args.folder.now) (g.F.Folder.folder_faults c.requeue.new.folder) c.requires.sound c.requires.accepted (subst (λ z. c.span_of-span.result ≡ min (span_of z) c.args.hall.now.options.max_req_timeout) whole c.span_of-span.ensures) c.requeue.ensures.rest c.requeue.ensures.keeps c.requeue.ensures.sound c.requeue.ensures.files c.requeue.ensures.faults c.in-Fault.ensures.clients c.in-Fault.ensures.told
    c.in-Ok.refusal c.in-Some.frame c.in-Ok.ensures.value c.in-Ok.ensures.short c.in-Some.is c.in-Fault.ensures.cause
