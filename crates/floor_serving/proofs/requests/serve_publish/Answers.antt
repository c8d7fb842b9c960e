use Rattle.std.proofs.Common.{◌≡◌, ◌+◌, ◌≤◌, ◌^◌, List, ℕ, length, refl, sym, ap, subst, ◌∙◌}
use Rattle.std.specs.List.{All}
use Rattle.nsq_outside.specs.Files.{Files}
use Rattle.broker_history.specs.declared.ask.Ask.TheVariants as ask
use Rattle.broker_history.specs.Changes.{published}
use Rattle.broker_history.specs.Reply.{are_left}
use Rattle.std.specs.Prelude.{IsTrue}
use Rattle.floor_rooms.specs.Standing.{Carries}
use Rattle.floor_calls.specs.Publishing.{PublishFails, Publishes}
use Rattle.floor_calls.specs.Published.{Published}
use Rattle.floor_serving.proofs.Asking.{ask_done, ask_fault, ask_not, ids_within, no_ids, publish_breaks}
use Rattle.floor_serving.proofs.Conditions.{asked_short}
use Rattle.floor_serving.proofs.Staying.{around_by, same_equal}
use Rattle.floor_serving.proofs.requests.serve_publish.Goals as goal

pub returns-then-not-are_left : goal.returns-then-not-are_left
returns-then-not-are_left g c =
    no_ids g.F.Folder.tells_files c.args.topic c.args.delay c.args.bodies c.args.hall.now (g.F.Folder.files c.args.folder.now) (g.F.Folder.folder_faults c.args.folder.now) c.requires.sound (ap (are_left c.args.hall.now.ids_used) (sym c.count.ensures) ∙ sym c.are_left.ensures ∙ c.if-not-are_left.true)

pub publish-requires-clause-ids : goal.publish-requires-clause-ids
publish-requires-clause-ids g c =
    subst (λ (xs : List (List ℕ)). c.args.hall.now.ids_used + length xs ≤ 2 ^ 40) (sym c.spend.ensures) (ids_within c.args.hall.now.ids_used (length c.args.bodies) (ap (are_left c.args.hall.now.ids_used) (sym c.count.ensures) ∙ sym c.are_left.ensures ∙ c.if-not-are_left.false))

pub publish-requires-clause-short : goal.publish-requires-clause-short
publish-requires-clause-short g c = subst (All (λ (b : List ℕ). length b ≤ 16777216)) (sym c.spend.ensures) (asked_short c.args.bodies c.requires.can.1)

pub publish-requires-clause-delay : goal.publish-requires-clause-delay
publish-requires-clause-delay g c = c.requires.can.2

pub returns-in-Ok-Done : goal.returns-in-Ok-Done
returns-in-Ok-Done g c =
    ask_done g.F.Folder.tells_files (ask.Publish c.args.topic c.args.delay c.args.bodies) c.args.hall.now c.publish.new.hall (g.F.Folder.files c.args.folder.now) (g.F.Folder.files c.publish.new.folder) (g.F.Folder.folder_faults c.args.folder.now) (g.F.Folder.folder_faults c.publish.new.folder) (around_by g.F.Folder.tells_files c.args.hall.now c.publish.new.hall _ (g.F.Folder.files c.args.folder.now) (g.F.Folder.files c.publish.new.folder) (g.F.Folder.folder_faults c.args.folder.now) (g.F.Folder.folder_faults c.publish.new.folder) c.publish.ensures.rest refl refl refl refl refl c.publish.ensures.names c.publish.ensures.since c.publish.ensures.sound c.publish.ensures.files c.publish.ensures.faults)
    (same_equal c.args.hall.now c.publish.new.hall _ c.publish.ensures.rest refl refl)
    (λ told. subst (λ (xs : List (List ℕ)). Carries c.args.hall.now (g.F.Folder.files c.args.folder.now) c.publish.new.hall (g.F.Folder.files c.publish.new.folder) (λ s t. t ≡ published s c.args.hall.now.moment c.args.delay c.args.topic xs)) c.spend.ensures ((subst (λ (p : Published). IsTrue g.F.Folder.tells_files → Carries c.args.hall.now (g.F.Folder.files c.args.folder.now) c.publish.new.hall (g.F.Folder.files c.publish.new.folder) (Publishes c.args.hall.now.moment c.args.delay c.args.topic c.spend.result.items p)) c.in-Ok-Done.field-0-is c.in-Ok-Done.ensures.told) told))

pub returns-in-Ok-Fault : goal.returns-in-Ok-Fault
returns-in-Ok-Fault g c =
    ask_fault g.F.Folder.tells_files (ask.Publish c.args.topic c.args.delay c.args.bodies) c.args.hall.now c.publish.new.hall (g.F.Folder.files c.args.folder.now) (g.F.Folder.files c.publish.new.folder) (g.F.Folder.folder_faults c.args.folder.now) (g.F.Folder.folder_faults c.publish.new.folder) (around_by g.F.Folder.tells_files c.args.hall.now c.publish.new.hall _ (g.F.Folder.files c.args.folder.now) (g.F.Folder.files c.publish.new.folder) (g.F.Folder.folder_faults c.args.folder.now) (g.F.Folder.folder_faults c.publish.new.folder) c.publish.ensures.rest refl refl refl refl refl c.publish.ensures.names c.publish.ensures.since c.publish.ensures.sound c.publish.ensures.files c.publish.ensures.faults)
    (same_equal c.args.hall.now c.publish.new.hall _ c.publish.ensures.rest refl refl) 0
    (publish_breaks g.F.Folder.tells_files c.args.topic c.args.delay c.args.bodies c.args.hall.now c.publish.new.hall (g.F.Folder.files c.args.folder.now) (g.F.Folder.files c.publish.new.folder) (g.F.Folder.folder_faults c.args.folder.now) (g.F.Folder.folder_faults c.publish.new.folder) (subst (λ (p : Published). IsTrue g.F.Folder.tells_files → Carries c.args.hall.now (g.F.Folder.files c.args.folder.now) c.publish.new.hall (g.F.Folder.files c.publish.new.folder) (Publishes c.args.hall.now.moment c.args.delay c.args.topic c.spend.result.items p)) c.in-Ok-Fault.field-0-is c.in-Ok-Fault.ensures.told)
    (subst (λ (p : Published). PublishFails (g.F.Folder.folder_faults c.args.folder.now) (g.F.Folder.folder_faults c.publish.new.folder) p) c.in-Ok-Fault.field-0-is c.in-Ok-Fault.ensures.cause))

pub returns-in-Err : goal.returns-in-Err
returns-in-Err g c =
    ask_not g.F.Folder.tells_files (ask.Publish c.args.topic c.args.delay c.args.bodies) c.args.hall.now c.publish.new.hall (g.F.Folder.files c.args.folder.now) (g.F.Folder.files c.publish.new.folder) (g.F.Folder.folder_faults c.args.folder.now) (g.F.Folder.folder_faults c.publish.new.folder) (around_by g.F.Folder.tells_files c.args.hall.now c.publish.new.hall _ (g.F.Folder.files c.args.folder.now) (g.F.Folder.files c.publish.new.folder) (g.F.Folder.folder_faults c.args.folder.now) (g.F.Folder.folder_faults c.publish.new.folder) c.publish.ensures.rest refl refl refl refl refl c.publish.ensures.names c.publish.ensures.since c.publish.ensures.sound c.publish.ensures.files c.publish.ensures.faults)
    (same_equal c.args.hall.now c.publish.new.hall _ c.publish.ensures.rest refl refl) _
    (λ told. subst (λ (f : Files). Carries c.args.hall.now (g.F.Folder.files c.args.folder.now) c.publish.new.hall f (λ s t. t ≡ s)) (ap g.F.Folder.files (sym c.in-Err.ensures.none.1)) (c.in-Err.ensures.stays (g.F.Folder.files c.args.folder.now)))
