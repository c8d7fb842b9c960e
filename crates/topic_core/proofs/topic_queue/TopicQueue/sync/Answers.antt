use Rattle.std.proofs.Common.{◌≡◌, List, ap, subst, ◌∙◌}
use Rattle.v2_frame.specs.declared.message.Message.{Message}
use Rattle.backlog.specs.Seen.{Seen as Backlog, SameQueue, SyncSeen}
use Rattle.backlog.specs.Lists.{DiskChanges, OnDisk, Stands, SyncFinds}
use Rattle.topic_core.specs.Seen.{Seen, with_owed}
use Rattle.topic_core.proofs.Heads.{same_topic}
use Rattle.topic_core.proofs.Keeping.{still_sound}
use Rattle.topic_core.proofs.topic_queue.TopicQueue.sync.Goals as goal

pub sync-requires : goal.sync-requires
sync-requires g c = ap (λ (q : Seen). q.backlog.lent) c.self.view_is ∙ c.requires

pub invariant_of-self : goal.invariant_of-self
invariant_of-self g c = still_sound c.sync.new.self c.self.invariant c.sync.ensures.queue c.sync.ensures.nothing_now

pub returns-clause-queue : goal.returns-clause-queue
returns-clause-queue g c = subst (λ (q : Seen). SameQueue q.backlog.queue c.sync.new.self.queue) c.self.view_is c.sync.ensures.queue

pub returns-clause-stands : goal.returns-clause-stands
returns-clause-stands g c = λ told.
    subst (λ (q : Seen). Stands q.backlog.queue (g.F.Folder.files c.args.folder.now) → Stands c.sync.new.self.queue (g.F.Folder.files c.sync.new.folder)) c.self.view_is (c.sync.ensures.stands told)

pub returns-clause-others : goal.returns-clause-others
returns-clause-others g c = λ told. subst (λ (q : Seen). DiskChanges q.backlog.queue (g.F.Folder.files c.args.folder.now) (g.F.Folder.files c.sync.new.folder)) c.self.view_is (c.sync.ensures.others told)

pub returns-clause-seen : goal.returns-clause-seen
returns-clause-seen g c =
    let inside = c.self.inside in
    ap (λ (b : Backlog). record { name = inside.name; paused = inside.paused; message_count = inside.message_count; backlog = b; head = with_owed inside.head inside.owed.items }) c.sync.ensures.rest
    ∙ ap (λ (q : Seen). record q { backlog = record (q.backlog) { queue = c.sync.new.self.queue } }) c.self.view_is

pub returns-clause-backlog : goal.returns-clause-backlog
returns-clause-backlog g c = subst (λ (q : Seen). SyncSeen q.backlog.queue c.sync.new.self.queue c.sync.result) c.self.view_is c.sync.ensures.seen

pub returns-clause-row : goal.returns-clause-row
returns-clause-row g c = λ told.
    let inside = c.self.inside in
    let before = g.F.Folder.files c.args.folder.now in
    let after = g.F.Folder.files c.sync.new.folder in
    let new : Seen = record { name = inside.name; paused = inside.paused; message_count = inside.message_count; backlog = c.sync.new.self; head = with_owed inside.head inside.owed.items } in
    let only : new ≡ record (c.args.self.now) { backlog = c.sync.new.self } = ap (λ (q : Seen). record q { backlog = c.sync.new.self }) c.self.view_is in
    let ring = ap (λ (b : Backlog). b.ring) c.sync.ensures.rest ∙ ap (λ (q : Seen). q.backlog.ring) c.self.view_is in
    let list = subst (λ (q : Seen). (disk : List Message) → OnDisk q.backlog.queue before disk → OnDisk c.sync.new.self.queue after disk) c.self.view_is (c.sync.ensures.list told) in
    same_topic c.args.self.now new before after c.requires c.sync.ensures.nothing_now only ring list

pub returns-clause-found : goal.returns-clause-found
returns-clause-found g c = λ told.
    let before = g.F.Folder.files c.args.folder.now in
    subst (λ (q : Seen). (disk : List Message) → OnDisk q.backlog.queue before disk → Stands q.backlog.queue before → SyncFinds c.sync.new.self.queue (g.F.Folder.files c.sync.new.folder) disk c.sync.result) c.self.view_is (c.sync.ensures.found told)
