use Rattle.std.proofs.Common.{rules, ℕ, ◌≡◌, ◌≤◌, ◌-◌, ◌^◌, true, false, List, length, ap, subst, ◌∙◌, arith}
use Rattle.v2_frame.specs.declared.message.Message.{Message}
use Rattle.nsq_base.specs.Name.{is_ephemeral}
use Rattle.nsq_outside.specs.Files.{SameFiles}
use Rattle.backlog.specs.Seen.{Seen as Backlog, PutAllSeen, SameQueue, room}
use Rattle.backlog.specs.Lists.{DiskChanges, OnDisk, Stands, disk_after_all}
use Rattle.backlog.specs.declared.answers.PutAll.TheVariants.{Done, Fault}
use Rattle.topic_core.specs.Seen.{Seen, with_owed, kept_of}
use Rattle.topic_core.specs.Kept.{IsNamed}
use Rattle.topic_core.specs.Answers.{PutsAll, put_count}
use Rattle.topic_core.proofs.Heads.{same_topic}
use Rattle.topic_core.proofs.Keeping.{still_sound}
use Rattle.topic_core.proofs.Putting.{put_done, kept_ephemeral, kept_durable, ring_grows}
use Rattle.topic_core.proofs.topic_queue.TopicQueue.put_all.Goals as goal
use Rattle.topic_core.proofs.topic_queue.TopicQueue.put_all.Goals.{then-ephemeral, else-ephemeral}

pub put_all-requires-clause-nothing : goal.put_all-requires-clause-nothing
put_all-requires-clause-nothing g c = ap (λ (q : Seen). q.backlog.lent) c.self.view_is ∙ c.requires.settled

pub put_all-requires-clause-short : goal.put_all-requires-clause-short
put_all-requires-clause-short g c = c.requires.short

pub put_all-requires-clause-scratch : goal.put_all-requires-clause-scratch
put_all-requires-clause-scratch g c = c.requires.scratch

pub overflow_sub-kept : goal.overflow_sub-kept
overflow_sub-kept g c =
    omega (
      arith,
      c.depths-before.ensures.ring,
      c.depths.ensures.ring,
      ring_grows c.self.inside.backlog c.put_all.new.self _ (ap (λ (q : Seen). q.backlog.lent) c.self.view_is ∙ c.requires.settled) c.put_all.ensures.nothing_now (ap (λ (b : Backlog). b.ring) c.in-Done.ensures.seen.0),
    )

pub invariant_of-self : goal.invariant_of-self
invariant_of-self g c = still_sound c.put_all.new.self c.self.invariant c.put_all.ensures.queue c.put_all.ensures.nothing_now

pub invariant_of-self-in-Fault : goal.invariant_of-self-in-Fault
invariant_of-self-in-Fault g c = still_sound c.put_all.new.self c.self.invariant c.put_all.ensures.queue c.put_all.ensures.nothing_now

pub returns-after-ephemeral : goal.returns-after-ephemeral
returns-after-ephemeral g c =
    let inside = c.self.inside in
    let old = c.args.self.now in
    let view = c.self.view_is in
    let b = c.put_all.new.self in
    let ms = c.args.messages.now.items in
    let before = g.F.Folder.files c.args.folder.now in
    let after = g.F.Folder.files c.put_all.new.folder in
    let count = c.saturating_add-self-inside.result in
    let new : Seen = record { name = inside.name; paused = inside.paused; message_count = count; backlog = b; head = with_owed inside.head inside.owed.items } in
    let was : Seen = record { name = inside.name; paused = inside.paused; message_count = inside.message_count; backlog = inside.backlog; head = with_owed inside.head inside.owed.items } in
    let lent = ap (λ (q : Seen). q.backlog.lent) view ∙ c.requires.settled in
    let ring = ap (λ (x : Backlog). x.ring) c.in-Done.ensures.seen.0 in
    let kept : c.if-ephemeral.kept ≡ kept_of was ms = elim c.if-ephemeral.branch [
      | then-ephemeral w ↦
          let e : is_ephemeral inside.name ≡ true = search rules in
          w.kept-is ∙ kept_ephemeral was b ms c.depths-before.result.ring w.depths.result.ring e lent c.put_all.ensures.nothing_now c.depths-before.ensures.ring w.depths.ensures.ring ring
      | else-ephemeral w ↦
          let e : is_ephemeral inside.name ≡ false = search rules in
          let came : c.if-ephemeral.kept ≡ length ms = search rules in
          came ∙ kept_durable was ms e
    ] in
    let number : count ≡ put_count was ms Done = omega (arith, c.saturating_add-self-inside.ensures, kept) in
    let puts : PutsAll old new ms Done = record {
      is = ap (λ (n : ℕ). record new { message_count = n }) number ∙ ap (λ (q : Seen). record q { message_count = put_count q ms Done; backlog = b }) view;
      backlog = subst (λ (q : Seen). PutAllSeen q.backlog b ms Done) view c.in-Done.ensures.seen;
    } in
    let room_there : length inside.backlog.ring ≤ inside.backlog.capacity = omega (arith, c.depths-before.ensures.ring, c.depths-before.ensures.within) in
    let range : inside.message_count ≤ 2 ^ 64 - 1 = search rules in
    record {
      settled_now = c.put_all.ensures.nothing_now;
      queue = subst (λ (q : Seen). SameQueue q.backlog.queue b.queue) view c.put_all.ensures.queue;
      seen = puts;
      taken = c.in-Done.ensures.taken;
      row = λ told. put_done old new before after ms (subst (λ (q : Seen). IsNamed q.name q.backlog) view c.self.invariant.named)
          (subst (λ (q : Seen). length q.backlog.ring ≤ q.backlog.capacity) view room_there) (subst (λ (q : Seen). q.message_count ≤ 2 ^ 64 - 1) view range) puts
          (subst (λ (q : Seen). (disk : List Message) → OnDisk q.backlog.queue before disk → OnDisk b.queue after (disk_after_all q.backlog disk ms Done)) view (c.in-Done.ensures.list told))
          c.requires.settled c.put_all.ensures.nothing_now;
      stands = λ told. subst (λ (q : Seen). Stands q.backlog.queue before → Stands b.queue after) view (c.put_all.ensures.stands told);
      others = λ told. subst (λ (q : Seen). DiskChanges q.backlog.queue before after) view (c.put_all.ensures.others told);
      kept = λ told. subst (λ (q : Seen). length ms ≤ room q.backlog → SameFiles before after) view (c.put_all.ensures.kept told);
      faults = c.put_all.ensures.faults;
      cause = tt;
    }

pub returns-in-Fault : goal.returns-in-Fault
returns-in-Fault g c =
    let inside = c.self.inside in
    let old = c.args.self.now in
    let view = c.self.view_is in
    let b = c.put_all.new.self in
    let ms = c.args.messages.now.items in
    let before = g.F.Folder.files c.args.folder.now in
    let after = g.F.Folder.files c.put_all.new.folder in
    let new : Seen = record { name = inside.name; paused = inside.paused; message_count = inside.message_count; backlog = b; head = with_owed inside.head inside.owed.items } in
    let is : new ≡ record old { backlog = b } = ap (λ (q : Seen). record q { backlog = b }) view in
    let seen : PutAllSeen old.backlog b ms Fault = subst (λ (q : Seen). PutAllSeen q.backlog b ms Fault) view c.in-Fault.ensures.seen in
    record {
      settled_now = c.put_all.ensures.nothing_now;
      queue = subst (λ (q : Seen). SameQueue q.backlog.queue b.queue) view c.put_all.ensures.queue;
      seen = record { is = is; backlog = seen };
      taken = c.in-Fault.ensures.taken;
      row = λ told. same_topic old new before after c.requires.settled c.put_all.ensures.nothing_now is (ap (λ (x : Backlog). x.ring) seen.0)
          (subst (λ (q : Seen). (disk : List Message) → OnDisk q.backlog.queue before disk → OnDisk b.queue after disk) view (c.in-Fault.ensures.list told));
      stands = λ told. subst (λ (q : Seen). Stands q.backlog.queue before → Stands b.queue after) view (c.put_all.ensures.stands told);
      others = λ told. subst (λ (q : Seen). DiskChanges q.backlog.queue before after) view (c.put_all.ensures.others told);
      kept = λ told. subst (λ (q : Seen). length ms ≤ room q.backlog → SameFiles before after) view (c.put_all.ensures.kept told);
      faults = c.put_all.ensures.faults;
      cause = c.in-Fault.ensures.cause;
    }
