use Rattle.std.proofs.Common.{ℕ, ◌≡◌, List, [], ◌++◌, refl, inl, inr, sym, ap, subst, ◌∙◌, arith}
use Rattle.v2_frame.specs.declared.message.Message.{Message}
use Rattle.backlog.specs.Seen.{Seen as Backlog, DrawSeen, SameQueue}
use Rattle.backlog.specs.Lists.{OnDisk, IsFirstMessage, Stands, list_with}
use Rattle.backlog.specs.declared.answers.Drawn.TheVariants as drawn
use Rattle.topic_core.specs.Seen.{Seen, with_owed}
use Rattle.topic_core.specs.Rows.{IsTopicOf}
use Rattle.topic_core.proofs.Heads.{is_nothing, is_something, drawn_none, drawn_topic, headed, looked, none_ring, owed_now, same_queue, same_topic, settled_old, settled_view}
use Rattle.topic_core.proofs.Keeping.{drawn_sound, still_sound}
use Rattle.topic_core.proofs.topic_queue.TopicQueue.take_head.Goals as goal

pub draw-requires-clause-nothing : goal.draw-requires-clause-nothing
draw-requires-clause-nothing g c = settled_view c.self.inside.backlog.lent c.self.inside.head c.self.inside.owed.items c.self.invariant.drawn (ap (λ (q : Seen). q.head) c.self.view_is ∙ c.requires.none)

pub draw-requires-clause-scratch : goal.draw-requires-clause-scratch
draw-requires-clause-scratch g c = c.requires.scratch

pub returns-then-is_empty : goal.returns-then-is_empty
returns-then-is_empty g c =
    let inside = c.self.inside in
    record {
      drawn = settled_old inside.name inside.paused inside.message_count inside.backlog inside.head inside.owed.items c.args.self.now c.self.view_is c.self.invariant.drawn c.requires.none;
      queue = same_queue c.args.self.now.backlog.queue;
      seen = inl refl;
      row = λ told t is. is;
      gives = λ told t is. is_nothing t.waiting (sym (c.is_empty.ensures (g.F.Folder.files c.args.folder.now) t is) ∙ c.if-is_empty.true);
      stands = λ told stands. stands;
      same = λ told file. refl;
      faults = omega arith;
      cause = tt;
      exact = λ counts. refl;
    }

pub invariant_of-self : goal.invariant_of-self
invariant_of-self g c = rw c.reserve.ensures.items c.self.invariant

pub returns-in_default : goal.returns-in_default
returns-in_default g c =
    let inside = c.self.inside in
    let new : Seen = record { name = inside.name; paused = inside.paused; message_count = inside.message_count; backlog = inside.backlog; head = with_owed inside.head c.reserve.new.self.items } in
    let is : new ≡ c.args.self.now =
    ap (λ (owed : List (List ℕ)). record { name = inside.name; paused = inside.paused; message_count = inside.message_count; backlog = inside.backlog; head = with_owed inside.head owed }) c.reserve.ensures.items ∙ c.self.view_is in
    let same : inside.backlog ≡ c.args.self.now.backlog = ap (λ (q : Seen). q.backlog) c.self.view_is in
    record {
      drawn = settled_view inside.backlog.lent inside.head inside.owed.items c.self.invariant.drawn (ap (λ (q : Seen). q.head) c.self.view_is ∙ c.requires.none);
      queue = subst (λ (b : Backlog). SameQueue b.queue inside.backlog.queue) same (same_queue inside.backlog.queue);
      seen = inl is;
      row = λ told t was. subst (λ (q : Seen). IsTopicOf q (g.F.Folder.files c.args.folder.now) t) (sym is) was;
      gives = λ told t was. is_something t.waiting (sym (c.is_empty.ensures (g.F.Folder.files c.args.folder.now) t was) ∙ c.if-is_empty.false);
      stands = λ told. subst (λ (b : Backlog). Stands b.queue (g.F.Folder.files c.args.folder.now)) (sym same);
      same = λ told file. refl;
      faults = omega arith;
      cause = tt;
      exact = λ counts. refl;
    }

pub invariant_of-self-in-Got : goal.invariant_of-self-in-Got
invariant_of-self-in-Got g c =
    drawn_sound c.draw.new.self c.in-Got.message c.args.channels.now c.owe_to_all.new.owed.items c.self.invariant c.draw.ensures.queue c.in-Got.ensures.short
    (owed_now c.self.inside.head c.self.inside.owed.items c.reserve.new.self.items c.args.channels.now _ (ap (λ (q : Seen). q.head) c.self.view_is ∙ c.requires.none) c.self.invariant.owes.none c.reserve.ensures.items c.owe_to_all.ensures)
    c.requires.channels

pub returns-in-Got : goal.returns-in-Got
returns-in-Got g c =
    let inside = c.self.inside in
    let old = c.args.self.now in
    let b = c.draw.new.self in
    let m = c.in-Got.message in
    let channels = c.args.channels.now in
    let before = g.F.Folder.files c.args.folder.now in
    let after = g.F.Folder.files c.draw.new.folder in
    let view = c.self.view_is in
    let owed = owed_now inside.head inside.owed.items c.reserve.new.self.items channels _ (ap (λ (q : Seen). q.head) view ∙ c.requires.none) c.self.invariant.owes.none c.reserve.ensures.items c.owe_to_all.ensures in
    let is = headed inside.name inside.paused inside.message_count inside.backlog b inside.head inside.owed.items m c.owe_to_all.new.owed.items channels old view owed in
    record {
      drawn = c.in-Got.ensures.lent;
      queue = subst (λ (q : Seen). SameQueue q.backlog.queue b.queue) view c.draw.ensures.queue;
      seen = record { message = m; is = is; backlog = subst (λ (q : Seen). DrawSeen q.backlog b (drawn.Got m)) view c.in-Got.ensures.seen };
      row = λ told. drawn_topic old _ before after m channels c.requires.none c.in-Got.ensures.lent is
          (subst (λ (q : Seen). (disk : List Message) → OnDisk q.backlog.queue before disk → OnDisk b.queue after disk) view (c.draw.ensures.list told))
          (subst (λ (q : Seen). (disk : List Message) → OnDisk q.backlog.queue before disk → IsFirstMessage (q.backlog.ring ++ disk) m × (list_with b m disk ≡ q.backlog.ring ++ disk)) view (c.in-Got.ensures.first told));
      gives = λ told t was. is_something t.waiting (sym (c.is_empty.ensures before t was) ∙ c.if-is_empty.false);
      stands = λ told. subst (λ (q : Seen). Stands q.backlog.queue before → Stands b.queue after) view (c.draw.ensures.stands told);
      same = c.draw.ensures.same;
      faults = c.draw.ensures.faults;
      cause = tt;
      exact = c.in-Got.ensures.exact;
    }

pub invariant_of-self-in-Empty : goal.invariant_of-self-in-Empty
invariant_of-self-in-Empty g c = rw c.reserve.ensures.items (still_sound c.draw.new.self c.self.invariant c.draw.ensures.queue c.in-Empty.ensures.lent)

pub returns-in-Empty : goal.returns-in-Empty
returns-in-Empty g c =
    let inside = c.self.inside in
    let old = c.args.self.now in
    let b = c.draw.new.self in
    let before = g.F.Folder.files c.args.folder.now in
    let after = g.F.Folder.files c.draw.new.folder in
    let view = c.self.view_is in
    let is = looked inside.name inside.paused inside.message_count inside.backlog b inside.head inside.owed.items c.reserve.new.self.items old view c.reserve.ensures.items in
    let settled = settled_old inside.name inside.paused inside.message_count inside.backlog inside.head inside.owed.items old view c.self.invariant.drawn c.requires.none in
    let seen : DrawSeen old.backlog b drawn.Empty = subst (λ (q : Seen). DrawSeen q.backlog b drawn.Empty) view c.in-Empty.ensures.seen in
    record {
      drawn = c.in-Empty.ensures.lent;
      queue = subst (λ (q : Seen). SameQueue q.backlog.queue b.queue) view c.draw.ensures.queue;
      seen = inr (record { is = is; backlog = seen });
      row = λ told. same_topic old _ before after settled c.in-Empty.ensures.lent is (none_ring old.backlog b seen)
          (subst (λ (q : Seen). (disk : List Message) → OnDisk q.backlog.queue before disk → OnDisk b.queue after disk) view (c.draw.ensures.list told));
      gives = λ told t was. drawn_none old before t c.requires.none (subst (λ (q : Seen). (disk : List Message) → OnDisk q.backlog.queue before disk → q.backlog.ring ++ disk ≡ []) view (c.in-Empty.ensures.first told)) was;
      stands = λ told. subst (λ (q : Seen). Stands q.backlog.queue before → Stands b.queue after) view (c.draw.ensures.stands told);
      same = c.draw.ensures.same;
      faults = c.draw.ensures.faults;
      cause = tt;
      exact = c.in-Empty.ensures.exact;
    }

pub invariant_of-self-in-Fault : goal.invariant_of-self-in-Fault
invariant_of-self-in-Fault g c = rw c.reserve.ensures.items (still_sound c.draw.new.self c.self.invariant c.draw.ensures.queue c.in-Fault.ensures.lent)

pub returns-in-Fault : goal.returns-in-Fault
returns-in-Fault g c =
    let inside = c.self.inside in
    let old = c.args.self.now in
    let b = c.draw.new.self in
    let before = g.F.Folder.files c.args.folder.now in
    let after = g.F.Folder.files c.draw.new.folder in
    let view = c.self.view_is in
    let is = looked inside.name inside.paused inside.message_count inside.backlog b inside.head inside.owed.items c.reserve.new.self.items old view c.reserve.ensures.items in
    let settled = settled_old inside.name inside.paused inside.message_count inside.backlog inside.head inside.owed.items old view c.self.invariant.drawn c.requires.none in
    let seen : DrawSeen old.backlog b drawn.Fault = subst (λ (q : Seen). DrawSeen q.backlog b drawn.Fault) view c.in-Fault.ensures.seen in
    record {
      drawn = c.in-Fault.ensures.lent;
      queue = subst (λ (q : Seen). SameQueue q.backlog.queue b.queue) view c.draw.ensures.queue;
      seen = record { is = is; backlog = seen };
      row = λ told. same_topic old _ before after settled c.in-Fault.ensures.lent is (ap (λ (x : Backlog). x.ring) seen.is)
          (subst (λ (q : Seen). (disk : List Message) → OnDisk q.backlog.queue before disk → OnDisk b.queue after disk) view (c.draw.ensures.list told));
      gives = λ told t was. is_something t.waiting (sym (c.is_empty.ensures before t was) ∙ c.if-is_empty.false);
      stands = λ told. subst (λ (q : Seen). Stands q.backlog.queue before → Stands b.queue after) view (c.draw.ensures.stands told);
      same = c.draw.ensures.same;
      faults = c.draw.ensures.faults;
      cause = c.in-Fault.ensures.cause;
      exact = c.in-Fault.ensures.exact;
    }

pub invariant_of-self-in-Damaged : goal.invariant_of-self-in-Damaged
invariant_of-self-in-Damaged g c = rw c.reserve.ensures.items (still_sound c.draw.new.self c.self.invariant c.draw.ensures.queue c.in-Damaged.ensures.lent)

pub returns-in-Damaged : goal.returns-in-Damaged
returns-in-Damaged g c =
    let inside = c.self.inside in
    let old = c.args.self.now in
    let b = c.draw.new.self in
    let before = g.F.Folder.files c.args.folder.now in
    let after = g.F.Folder.files c.draw.new.folder in
    let view = c.self.view_is in
    let is = looked inside.name inside.paused inside.message_count inside.backlog b inside.head inside.owed.items c.reserve.new.self.items old view c.reserve.ensures.items in
    let settled = settled_old inside.name inside.paused inside.message_count inside.backlog inside.head inside.owed.items old view c.self.invariant.drawn c.requires.none in
    let seen : DrawSeen old.backlog b drawn.Damaged = subst (λ (q : Seen). DrawSeen q.backlog b drawn.Damaged) view c.in-Damaged.ensures.seen in
    record {
      drawn = c.in-Damaged.ensures.lent;
      queue = subst (λ (q : Seen). SameQueue q.backlog.queue b.queue) view c.draw.ensures.queue;
      seen = record { is = is; backlog = seen };
      row = λ told. same_topic old _ before after settled c.in-Damaged.ensures.lent is (ap (λ (x : Backlog). x.ring) seen.peeks.is)
          (subst (λ (q : Seen). (disk : List Message) → OnDisk q.backlog.queue before disk → OnDisk b.queue after disk) view (c.draw.ensures.list told));
      gives = λ told t was. subst (λ (q : Seen). (disk : List Message) → OnDisk q.backlog.queue before disk → ⊥) view (c.in-Damaged.ensures.first told) was.disk was.on_disk;
      stands = λ told. subst (λ (q : Seen). Stands q.backlog.queue before → Stands b.queue after) view (c.draw.ensures.stands told);
      same = c.draw.ensures.same;
      faults = c.draw.ensures.faults;
      cause = tt;
      exact = c.in-Damaged.ensures.exact;
    }

pub invariant_of-self-in-Memory : goal.invariant_of-self-in-Memory
invariant_of-self-in-Memory g c = rw c.reserve.ensures.items (still_sound c.draw.new.self c.self.invariant c.draw.ensures.queue c.in-Memory.ensures.lent)

pub returns-in-Memory : goal.returns-in-Memory
returns-in-Memory g c =
    let inside = c.self.inside in
    let old = c.args.self.now in
    let b = c.draw.new.self in
    let before = g.F.Folder.files c.args.folder.now in
    let after = g.F.Folder.files c.draw.new.folder in
    let view = c.self.view_is in
    let is = looked inside.name inside.paused inside.message_count inside.backlog b inside.head inside.owed.items c.reserve.new.self.items old view c.reserve.ensures.items in
    let settled = settled_old inside.name inside.paused inside.message_count inside.backlog inside.head inside.owed.items old view c.self.invariant.drawn c.requires.none in
    let seen : DrawSeen old.backlog b drawn.Memory = subst (λ (q : Seen). DrawSeen q.backlog b drawn.Memory) view c.in-Memory.ensures.seen in
    record {
      drawn = c.in-Memory.ensures.lent;
      queue = subst (λ (q : Seen). SameQueue q.backlog.queue b.queue) view c.draw.ensures.queue;
      seen = inr (record { is = is; backlog = seen });
      row = λ told. same_topic old _ before after settled c.in-Memory.ensures.lent is (ap (λ (x : Backlog). x.ring) seen.peeks.is)
          (subst (λ (q : Seen). (disk : List Message) → OnDisk q.backlog.queue before disk → OnDisk b.queue after disk) view (c.draw.ensures.list told));
      gives = λ told t was. is_something t.waiting (sym (c.is_empty.ensures before t was) ∙ c.if-is_empty.false);
      stands = λ told. subst (λ (q : Seen). Stands q.backlog.queue before → Stands b.queue after) view (c.draw.ensures.stands told);
      same = c.draw.ensures.same;
      faults = c.draw.ensures.faults;
      cause = tt;
      exact = c.in-Memory.ensures.exact;
    }
