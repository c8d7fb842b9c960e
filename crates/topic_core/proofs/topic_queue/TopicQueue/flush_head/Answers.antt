use Rattle.std.proofs.Common.{◌≡◌, Option, ap, subst, sym, arith, ◌∙◌, None, Some}
use Rattle.std.specs.Prelude.{IsSome, IfSome}
use Rattle.v2_frame.specs.declared.message.Message.{Message}
use Rattle.backlog.specs.Seen.{Seen as Backlog, FitsLimit, SameQueue}
use Rattle.backlog.specs.Lists.{DiskChanges, OnDisk, Stands, PutChanges, disk_after}
use Rattle.topic_core.specs.Seen.{Seen, with_owed}
use Rattle.topic_core.proofs.Saving.{head_behind, head_flushed, head_found, not_refused, same_joined, disk_joined, put_changes, flush_rose}
use Rattle.topic_core.proofs.topic_queue.TopicQueue.flush_head.Goals as goal

pub put-requires-clause-nothing : goal.put-requires-clause-nothing
put-requires-clause-nothing g c = ap (λ (q : Seen). q.backlog.lent) c.self.view_is ∙ c.requires.settled

pub put-requires-clause-short : goal.put-requires-clause-short
put-requires-clause-short g c = subst (λ (h : Option Message). IfSome h FitsLimit) (sym c.in-Some.ensures.value) c.self.invariant.owes.short

pub put-requires-clause-scratch : goal.put-requires-clause-scratch
put-requires-clause-scratch g c = c.requires.scratch

pub returns-in-Fault : goal.returns-in-Fault
returns-in-Fault g c =
    let old = c.args.self.now in
    let view = c.self.view_is in
    let b = c.put.new.self in
    let f0 = g.F.Folder.files c.args.folder.now in
    let f1 = g.F.Folder.files c.put.new.folder in
    record {
      settled_now = c.put.ensures.nothing_now;
      queue = subst (λ (q : Seen). SameQueue q.backlog.queue b.queue) view c.put.ensures.queue;
      seen = ap (λ (q : Seen). record q { backlog = b; head = Some (record { message = c.in-Fault.head; owed = c.self.inside.owed.items }) }) view;
      found = λ told disk on stands. tt;
      stands = λ told. subst (λ (q : Seen). Stands q.backlog.queue f0 → Stands b.queue f1) view (c.put.ensures.stands told);
      others = λ told. subst (λ (q : Seen). DiskChanges q.backlog.queue f0 f1) view (c.in-Fault.ensures.others told);
      faults = c.put.ensures.faults;
      cause = c.in-Fault.ensures.cause;
    }

pub returns : goal.returns
returns g c =
    let inside = c.self.inside in
    let old = c.args.self.now in
    let m = c.in-Some.head in
    let b1 = c.put.new.self in
    let b2 = c.flush.new.self in
    let f0 = g.F.Folder.files c.args.folder.now in
    let f1 = g.F.Folder.files c.put.new.folder in
    let f2 = g.F.Folder.files c.flush.new.folder in
    let new : Seen = record { name = inside.name; paused = inside.paused; message_count = inside.message_count; backlog = b2; head = None } in
    let same : inside.backlog ≡ old.backlog = ap (λ (q : Seen). q.backlog) c.self.view_is in
    let ring = ap (λ (b : Backlog). b.ring) same ∙ c.requires.empty in
    let lent = ap (λ (b : Backlog). b.lent) same ∙ c.requires.settled in
    let durable = subst (λ (b : Backlog). IsSome b.queue) (sym same) c.requires.durable in
    let kept = not_refused c.put.result c.in-Kept.is in
    let view = c.self.view_is in
    let taken : inside.head ≡ Some m = sym c.in-Some.ensures.value in
    let there : old.head ≡ Some (record { message = m; owed = inside.owed.items }) = ap (λ (q : Seen). q.head) (sym view) ∙ ap (λ (h : Option Message). with_owed h inside.owed.items) taken in
    let none : c.take.new.self ≡ None = c.take.ensures.after in
    let put_queue = subst (λ (b : Backlog). SameQueue b.queue b1.queue) same c.put.ensures.queue in
    let now : record { name = inside.name; paused = inside.paused; message_count = inside.message_count; backlog = b2; head = with_owed c.take.new.self c.clear.new.self.items } ≡ new =
    ap (λ h. record { name = inside.name; paused = inside.paused; message_count = inside.message_count; backlog = b2; head = with_owed h c.clear.new.self.items }) none in
    let is : new ≡ record old { backlog = b2; head = None } = ap (λ (q : Seen). record q { backlog = b2; head = None }) view in
    record {
      settled_now = c.flush.ensures.nothing_now;
      queue = same_joined old.backlog.queue b1.queue b2.queue put_queue c.flush.ensures.queue;
      seen = head_flushed inside.backlog b1 b2 old _ m c.put.result c.flush.result (sym same) (now ∙ is) lent ring c.put.ensures.seen c.flush.ensures.seen kept;
      found = λ told disk on stands.
          let on0 = subst (λ (b : Backlog). OnDisk b.queue f0 disk) (sym same) on in
          let d1 = disk_after disk m c.put.result in
          let on1 = c.put.ensures.list told disk on0 in
          let stood = c.put.ensures.stands told (subst (λ (b : Backlog). Stands b.queue f0) (sym same) stands) in
          head_found b1 b2 old _ f2 disk d1 (record { message = m; owed = inside.owed.items }) c.flush.result c.flush.ensures.seen put_queue (ap (λ (q : Seen). q.backlog) now)
          (head_behind inside.backlog b1 m c.put.result disk ring durable kept c.put.ensures.place c.put.ensures.seen) c.requires.empty there
          (c.flush.ensures.list told d1 on1) (c.flush.ensures.found told d1 on1 stood);
      stands = λ told stands. c.flush.ensures.stands told (c.put.ensures.stands told (subst (λ (b : Backlog). Stands b.queue f0) (sym same) stands));
      others = λ told. disk_joined old.backlog.queue b1.queue f0 f1 f2 put_queue (put_changes old.backlog.queue f0 f1 c.put.result (subst (λ (b : Backlog). PutChanges b.queue f0 f1 c.put.result) same (c.put.ensures.others told))) (c.flush.ensures.others told);
      faults = omega (arith, c.put.ensures.faults, c.flush.ensures.faults);
      cause = flush_rose _ _ _ c.flush.result c.put.ensures.faults c.flush.ensures.cause;
    }
