use Rattle.std.proofs.Common.{◌≡◌, List, ap, subst, ◌∙◌}
use Rattle.v2_frame.specs.declared.message.Message.{Message}
use Rattle.backlog.specs.Seen.{Seen as Backlog}
use Rattle.backlog.specs.Lists.{DiskChanges, OnDisk, Stands}
use Rattle.backlog.specs.Deleting.{DeleteFinds, DeleteGone, DeleteSeen}
use Rattle.backlog.specs.declared.answers.Gone.TheVariants.{Done, Fault}
use Rattle.topic_core.specs.Seen.{Seen, with_owed}
use Rattle.topic_core.proofs.Heads.{same_topic}
use Rattle.topic_core.proofs.Keeping.{still_sound}
use Rattle.topic_core.proofs.Saving.{kept_queue}
use Rattle.topic_core.proofs.topic_queue.TopicQueue.delete.Goals as goal

pub delete-requires : goal.delete-requires
delete-requires g c = ap (λ (q : Seen). q.backlog.lent) c.self.view_is ∙ c.requires

pub returns-in-Done : goal.returns-in-Done
returns-in-Done g c =
    let view = c.self.view_is in
    let before = g.F.Folder.files c.args.folder.now in
    let after = g.F.Folder.files c.delete.new.folder in
    record {
      seen = tt;
      row = λ told. tt;
      found = λ told. subst (λ (q : Seen). DeleteFinds q.backlog.queue after Done) view (c.in-Done.ensures.found told);
      gone = λ told. subst (λ (q : Seen). Stands q.backlog.queue before → DeleteGone q.backlog.queue after (g.F.Folder.folder_faults c.args.folder.now) (g.F.Folder.folder_faults c.delete.new.folder) Done) view (c.in-Done.ensures.gone told);
      stands = λ told stood. tt;
      others = λ told. subst (λ (q : Seen). DiskChanges q.backlog.queue before after) view (c.delete.ensures.others told);
      faults = c.delete.ensures.faults;
      cause = tt;
      exact = c.in-Done.ensures.exact;
    }

pub invariant_of-result : goal.invariant_of-result
invariant_of-result g c =
    still_sound c.in-Fault.backlog c.self.invariant (kept_queue c.self.inside.backlog.queue c.in-Fault.backlog.queue c.in-Fault.ensures.seen.1)
    (ap (λ (b : Backlog). b.lent) c.in-Fault.ensures.seen.0 ∙ (ap (λ (q : Seen). q.backlog.lent) c.self.view_is ∙ c.requires))

pub returns-in-Fault : goal.returns-in-Fault
returns-in-Fault g c =
    let inside = c.self.inside in
    let old = c.args.self in
    let view = c.self.view_is in
    let b = c.in-Fault.backlog in
    let before = g.F.Folder.files c.args.folder.now in
    let after = g.F.Folder.files c.delete.new.folder in
    let back : Seen = record { name = inside.name; paused = inside.paused; message_count = inside.message_count; backlog = b; head = with_owed inside.head inside.owed.items } in
    let is : back ≡ record old { backlog = b } = ap (λ (q : Seen). record q { backlog = b }) view in
    let seen : DeleteSeen old.backlog (Fault b) = subst (λ (q : Seen). DeleteSeen q.backlog (Fault b)) view c.in-Fault.ensures.seen in
    record {
      seen = (is, seen);
      row = λ told. same_topic old back before after c.requires (ap (λ (x : Backlog). x.lent) seen.0 ∙ c.requires) is (ap (λ (x : Backlog). x.ring) seen.0)
          (subst (λ (q : Seen). (disk : List Message) → OnDisk q.backlog.queue before disk → OnDisk b.queue after disk) view (c.in-Fault.ensures.list told));
      found = λ told. subst (λ (q : Seen). DeleteFinds q.backlog.queue after (Fault b)) view (c.in-Fault.ensures.found told);
      gone = λ told. subst (λ (q : Seen). Stands q.backlog.queue before → DeleteGone q.backlog.queue after (g.F.Folder.folder_faults c.args.folder.now) (g.F.Folder.folder_faults c.delete.new.folder) (Fault b)) view (c.in-Fault.ensures.gone told);
      stands = λ told. subst (λ (q : Seen). Stands q.backlog.queue before → Stands b.queue after) view (c.in-Fault.ensures.stands told);
      others = λ told. subst (λ (q : Seen). DiskChanges q.backlog.queue before after) view (c.delete.ensures.others told);
      faults = c.delete.ensures.faults;
      cause = c.in-Fault.ensures.cause;
      exact = c.in-Fault.ensures.exact;
    }
