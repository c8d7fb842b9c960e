use Rattle.std.proofs.Common.{◌≡◌, ◌≢◌, List, sym, ap, subst, ◌∙◌}
use Rattle.v2_frame.specs.declared.message.Message.{Message}
use Rattle.nsq_outside.specs.Files.{SameFiles}
use Rattle.backlog.specs.Seen.{SameQueue, SettleSeen}
use Rattle.backlog.specs.Lists.{DiskChanges, OnDisk, SettlesFirst, Stands, disk_settled}
use Rattle.backlog.specs.declared.backlog.Lent.TheVariants.{Nothing, OfRing}
use Rattle.topic_core.specs.Seen.{Seen, with_owed}
use Rattle.topic_core.proofs.Heads.{head_taken, head_took, if_head, owed_some}
use Rattle.topic_core.proofs.Keeping.{still_sound}
use Rattle.topic_core.proofs.topic_queue.TopicQueue.settle_head.Goals as goal

pub returns-clause-left : goal.returns-clause-left
returns-clause-left g c = λ told t is.
    let inside = c.self.inside in
    let before = g.F.Folder.files c.args.folder.now in
    let after = g.F.Folder.files c.settle.new.folder in
    let new : Seen = record { name = inside.name; paused = inside.paused; message_count = inside.message_count; backlog = c.settle.new.self; head = with_owed inside.head inside.owed.items } in
    let only : new ≡ record (c.args.self.now) { backlog = c.settle.new.self } = ap (λ (q : Seen). record q { backlog = c.settle.new.self }) c.self.view_is in
    let settles = subst (λ (q : Seen). (disk : List Message) → SettlesFirst q.backlog c.settle.new.self disk) c.self.view_is c.settle.ensures.first in
    let list = subst (λ (q : Seen). (disk : List Message) → OnDisk q.backlog.queue before disk → OnDisk c.settle.new.self.queue after (disk_settled q.backlog.lent disk)) c.self.view_is (c.settle.ensures.list told) in
    if_head c.args.self.now.head _ (λ head there. head_taken c.args.self.now new before after head there c.requires c.settle.ensures.nothing_now only settles list t is)

pub returns-clause-row : goal.returns-clause-row
returns-clause-row g c = λ told t is.
    let inside = c.self.inside in
    let before = g.F.Folder.files c.args.folder.now in
    let after = g.F.Folder.files c.settle.new.folder in
    let new : Seen = record { name = inside.name; paused = inside.paused; message_count = inside.message_count; backlog = c.settle.new.self; head = with_owed inside.head inside.owed.items } in
    let only : new ≡ record (c.args.self.now) { backlog = c.settle.new.self } = ap (λ (q : Seen). record q { backlog = c.settle.new.self }) c.self.view_is in
    let settles = subst (λ (q : Seen). (disk : List Message) → SettlesFirst q.backlog c.settle.new.self disk) c.self.view_is c.settle.ensures.first in
    let list = subst (λ (q : Seen). (disk : List Message) → OnDisk q.backlog.queue before disk → OnDisk c.settle.new.self.queue after (disk_settled q.backlog.lent disk)) c.self.view_is (c.settle.ensures.list told) in
    if_head c.args.self.now.head _ (λ head there may.
    let owed = owed_some inside.head inside.owed.items head (ap (λ (q : Seen). q.head) c.self.view_is ∙ there) c.self.invariant.owes.some in
    head_took head new after t owed (head_taken c.args.self.now new before after head there c.requires c.settle.ensures.nothing_now only settles list t is) may)

pub settle-requires : goal.settle-requires
settle-requires g c = subst (λ (q : Seen). q.backlog.lent ≢ Nothing) (sym c.self.view_is) c.requires

pub invariant_of-self : goal.invariant_of-self
invariant_of-self g c = still_sound c.settle.new.self c.self.invariant c.settle.ensures.queue c.settle.ensures.nothing_now

pub returns-clause-queue : goal.returns-clause-queue
returns-clause-queue g c = subst (λ (q : Seen). SameQueue q.backlog.queue c.settle.new.self.queue) c.self.view_is c.settle.ensures.queue

pub returns-clause-stands : goal.returns-clause-stands
returns-clause-stands g c = λ told.
    subst (λ (q : Seen). Stands q.backlog.queue (g.F.Folder.files c.args.folder.now) → Stands c.settle.new.self.queue (g.F.Folder.files c.settle.new.folder)) c.self.view_is (c.settle.ensures.stands told)

pub returns-clause-others : goal.returns-clause-others
returns-clause-others g c = λ told. subst (λ (q : Seen). DiskChanges q.backlog.queue (g.F.Folder.files c.args.folder.now) (g.F.Folder.files c.settle.new.folder)) c.self.view_is (c.settle.ensures.others told)

pub returns-clause-seen : goal.returns-clause-seen
returns-clause-seen g c = ap (λ (q : Seen). record q { backlog = c.settle.new.self }) c.self.view_is

pub returns-clause-backlog : goal.returns-clause-backlog
returns-clause-backlog g c = subst (λ (q : Seen). SettleSeen q.backlog.lent q.backlog c.settle.new.self) c.self.view_is c.settle.ensures.seen

pub returns-clause-of_ring : goal.returns-clause-of_ring
returns-clause-of_ring g c = λ told. subst (λ (q : Seen). q.backlog.lent ≡ OfRing → SameFiles (g.F.Folder.files c.args.folder.now) (g.F.Folder.files c.settle.new.folder)) c.self.view_is (c.settle.ensures.of_ring told)
