use Rattle.std.proofs.Common.{◌≡◌, List, ap, subst, ◌∙◌}
use Rattle.v2_frame.specs.declared.message.Message.{Message}
use Rattle.backlog.specs.Seen.{EmptySeen, SameQueue}
use Rattle.backlog.specs.Lists.{DiskChanges, EmptyFinds, OnDisk, Stands, disk_emptied}
use Rattle.topic_core.specs.Seen.{Seen, with_owed}
use Rattle.topic_core.proofs.Heads.{emptied_topic}
use Rattle.topic_core.proofs.Keeping.{still_sound}
use Rattle.topic_core.proofs.topic_queue.TopicQueue.empty.Goals as goal

pub empty-requires : goal.empty-requires
empty-requires g c = ap (λ (q : Seen). q.backlog.lent) c.self.view_is ∙ c.requires

pub invariant_of-self : goal.invariant_of-self
invariant_of-self g c = still_sound c.empty.new.self c.self.invariant c.empty.ensures.queue c.empty.ensures.nothing_now

pub returns-clause-queue : goal.returns-clause-queue
returns-clause-queue g c = subst (λ (q : Seen). SameQueue q.backlog.queue c.empty.new.self.queue) c.self.view_is c.empty.ensures.queue

pub returns-clause-stands : goal.returns-clause-stands
returns-clause-stands g c = λ told.
    subst (λ (q : Seen). Stands q.backlog.queue (g.F.Folder.files c.args.folder.now) → Stands c.empty.new.self.queue (g.F.Folder.files c.empty.new.folder)) c.self.view_is (c.empty.ensures.stands told)

pub returns-clause-others : goal.returns-clause-others
returns-clause-others g c = λ told. subst (λ (q : Seen). DiskChanges q.backlog.queue (g.F.Folder.files c.args.folder.now) (g.F.Folder.files c.empty.new.folder)) c.self.view_is (c.empty.ensures.others told)

pub returns-clause-seen : goal.returns-clause-seen
returns-clause-seen g c = ap (λ (q : Seen). record q { backlog = c.empty.new.self }) c.self.view_is

pub returns-clause-backlog : goal.returns-clause-backlog
returns-clause-backlog g c = subst (λ (q : Seen). EmptySeen q.backlog c.empty.new.self c.empty.result) c.self.view_is c.empty.ensures.seen

pub returns-clause-row : goal.returns-clause-row
returns-clause-row g c = λ told.
    let inside = c.self.inside in
    let before = g.F.Folder.files c.args.folder.now in
    let after = g.F.Folder.files c.empty.new.folder in
    let new : Seen = record { name = inside.name; paused = inside.paused; message_count = inside.message_count; backlog = c.empty.new.self; head = with_owed inside.head inside.owed.items } in
    let only : new ≡ record (c.args.self.now) { backlog = c.empty.new.self } = ap (λ (q : Seen). record q { backlog = c.empty.new.self }) c.self.view_is in
    let seen = subst (λ (q : Seen). EmptySeen q.backlog c.empty.new.self c.empty.result) c.self.view_is c.empty.ensures.seen in
    let list = subst (λ (q : Seen). (disk : List Message) → OnDisk q.backlog.queue before disk → OnDisk c.empty.new.self.queue after (disk_emptied disk c.empty.result)) c.self.view_is (c.empty.ensures.list told) in
    emptied_topic c.args.self.now new before after c.empty.result c.requires c.empty.ensures.nothing_now only seen list

pub returns-clause-found : goal.returns-clause-found
returns-clause-found g c = λ told. subst (λ (q : Seen). EmptyFinds q.backlog.queue (g.F.Folder.files c.empty.new.folder) c.empty.result) c.self.view_is (c.empty.ensures.found told)
