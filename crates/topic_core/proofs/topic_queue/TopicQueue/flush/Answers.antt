use Rattle.std.proofs.Common.{◌≡◌, true, MatchBool, IsTrue, List, [], ◌++◌, map, Option, None, refl, ap, subst, sym, arith, ◌∙◌}
use Rattle.std.proofs.lemmas.Bool.{false≢true}
use Rattle.nsq_base.specs.Name.{is_ephemeral}
use Rattle.v2_frame.specs.declared.message.Message.{Message}
use Rattle.backlog.specs.Seen.{SameQueue, FlushSeen}
use Rattle.backlog.specs.Lists.{OnDisk, Stands, DiskChanges, FlushFinds, disk_flushed, stored}
use Rattle.backlog.specs.declared.answers.Flushed.TheVariants.{Done}
use Rattle.broker_history.specs.Left.{taken_message}
use Rattle.topic_core.specs.Seen.{Seen, with_owed}
use Rattle.topic_core.specs.Kept.{IsNamed}
use Rattle.topic_core.specs.Answers.{AllFound, FlushFindsAll, FlushesAll}
use Rattle.topic_core.specs.Rows.{FindsLeft}
use Rattle.topic_core.proofs.Saving.{disk_joined, none_changed, same_joined, flush_left, left_found, both_found, both_flushed, flush_rose, ring_found, ring_flushed, ring_written}
use Rattle.topic_core.proofs.Flushing.{durable_queue, lasting, no_message, still_there}
use Rattle.topic_core.proofs.Heads.{same_queue}
use Rattle.topic_core.proofs.Keeping.{still_sound}
use Rattle.topic_core.proofs.topic_queue.TopicQueue.flush.Goals as goal

pub flush-requires-clause-durable : goal.flush-requires-clause-durable
flush-requires-clause-durable g c = durable_queue _ _ c.self.invariant.named (lasting c.self.inside.name c.if-ephemeral.ensures.1)

pub flush-requires-clause-nothing : goal.flush-requires-clause-nothing
flush-requires-clause-nothing g c = ap (λ (q : Seen). q.backlog.lent) c.self.view_is ∙ c.requires.settled

pub flush-requires-clause-scratch : goal.flush-requires-clause-scratch
flush-requires-clause-scratch g c = c.requires.scratch

pub invariant_of-self : goal.invariant_of-self
invariant_of-self g c = still_sound c.flush.new.self c.self.invariant c.flush.ensures.queue c.flush.ensures.nothing_now

pub invariant_of-self-then-is_none : goal.invariant_of-self-then-is_none
invariant_of-self-then-is_none g c = still_sound c.flush.new.self c.self.invariant c.flush.ensures.queue c.flush.ensures.nothing_now

pub invariant_of-self-2 : goal.invariant_of-self-2
invariant_of-self-2 g c = still_sound c.flush.new.self c.self.invariant c.flush.ensures.queue c.flush.ensures.nothing_now

pub flush_head-requires-clause-settled : goal.flush_head-requires-clause-settled
flush_head-requires-clause-settled g c = c.flush.ensures.nothing_now

pub flush_head-requires-clause-durable : goal.flush_head-requires-clause-durable
flush_head-requires-clause-durable g c = still_there _ _ c.flush.ensures.queue (durable_queue _ _ c.self.invariant.named (lasting c.self.inside.name c.if-ephemeral.ensures.1))

pub flush_head-requires-clause-empty : goal.flush_head-requires-clause-empty
flush_head-requires-clause-empty g c = (ring_written c.self.inside.backlog c.flush.new.self [] c.in-Done.ensures.seen).1

pub returns-then-ephemeral : goal.returns-then-ephemeral
returns-then-ephemeral g c =
    let old = c.args.self.now in
    let files = g.F.Folder.files c.args.folder.now in
    let passing : is_ephemeral old.name ≡ true = sym (ap (λ (q : Seen). is_ephemeral q.name) c.self.view_is) ∙ c.if-ephemeral.ensures.0 refl in
    record {
      settled_now = c.requires.settled;
      queue = same_queue old.backlog.queue;
      seen = subst (λ e. MatchBool e (old ≡ old) (FlushesAll old old)) (sym passing) refl;
      ephemeral = λ e. (refl, refl);
      row = λ told t is stands durable. absurd {A = FindsLeft files t} (false≢true (sym durable ∙ (ap is_ephemeral is.name ∙ passing)));
      found = λ told disk on stands durable. absurd {A = AllFound old old files (disk ++ map stored (old.backlog.ring ++ taken_message old.head))} (false≢true (sym durable ∙ passing));
      stands = λ told stands. stands;
      others = λ told. none_changed old.backlog.queue files files (λ file. refl);
      faults = omega arith;
      cause = tt;
    }

pub returns-in-Fault : goal.returns-in-Fault
returns-in-Fault g c =
    let inside = c.self.inside in
    let view = c.self.view_is in
    let b1 = c.flush.new.self in
    let f0 = g.F.Folder.files c.args.folder.now in
    let f1 = g.F.Folder.files c.flush.new.folder in
    let durable = lasting inside.name c.if-ephemeral.ensures.1 in
    record {
      settled_now = c.flush.ensures.nothing_now;
      queue = subst (λ (q : Seen). SameQueue q.backlog.queue b1.queue) view c.flush.ensures.queue;
      seen = ap (λ (q : Seen). record q { backlog = b1; head = with_owed inside.head inside.owed.items }) view;
      ephemeral = λ passing. absurd (false≢true (sym durable ∙ (ap (λ (q : Seen). is_ephemeral q.name) view ∙ passing)));
      row = λ told t is stands. tt;
      found = λ told disk on stands d. tt;
      stands = λ told. subst (λ (q : Seen). Stands q.backlog.queue f0 → Stands b1.queue f1) view (c.flush.ensures.stands told);
      others = λ told. subst (λ (q : Seen). DiskChanges q.backlog.queue f0 f1) view (c.flush.ensures.others told);
      faults = c.flush.ensures.faults;
      cause = c.in-Fault.ensures.cause;
    }

pub returns-then-is_none : goal.returns-then-is_none
returns-then-is_none g c =
    let inside = c.self.inside in
    let old = c.args.self.now in
    let view = c.self.view_is in
    let b1 = c.flush.new.self in
    let f0 = g.F.Folder.files c.args.folder.now in
    let f1 = g.F.Folder.files c.flush.new.folder in
    let new : Seen = record { name = inside.name; paused = inside.paused; message_count = inside.message_count; backlog = b1; head = with_owed inside.head inside.owed.items } in
    let gone : inside.head ≡ None = no_message inside.head c.if-is_none.ensures in
    let none : old.head ≡ None = ap (λ (q : Seen). q.head) (sym view) ∙ ap (λ (h : Option Message). with_owed h inside.owed.items) gone in
    let durable = lasting inside.name c.if-ephemeral.ensures.1 in
    let queue = subst (λ (q : Seen). SameQueue q.backlog.queue b1.queue) view c.flush.ensures.queue in
    let seen = subst (λ (q : Seen). FlushSeen q.backlog b1 Done) view c.in-Done.ensures.seen in
    let all : IsTrue g.F.Folder.tells_files → (disk : List Message) → OnDisk old.backlog.queue f0 disk → Stands old.backlog.queue f0 → AllFound old new f1 (disk ++ map stored (old.backlog.ring ++ taken_message old.head)) = λ told disk on stands.
    let list = subst (λ (q : Seen). (ms : List Message) → OnDisk q.backlog.queue f0 ms → OnDisk b1.queue f1 (disk_flushed q.backlog b1 ms)) view (c.flush.ensures.list told) in
    let found = subst (λ (q : Seen). (ms : List Message) → OnDisk q.backlog.queue f0 ms → Stands q.backlog.queue f0 → FlushFinds q.backlog f1 ms Done) view (c.in-Done.ensures.found told) in
    ring_found old new f1 disk none seen (list disk on) (found disk on stands) in
    record {
      settled_now = c.flush.ensures.nothing_now;
      queue = queue;
      seen = ring_flushed old new (ap (λ (q : Seen). is_ephemeral q.name) (sym view) ∙ durable) none (ap (λ (q : Seen). record q { backlog = b1 }) view) seen;
      ephemeral = λ passing. absurd (false≢true (sym durable ∙ (ap (λ (q : Seen). is_ephemeral q.name) view ∙ passing)));
      row = λ told t is stands lasts. left_found old new f0 f1 t (subst (λ (q : Seen). IsNamed q.name q.backlog) view c.self.invariant.named) c.requires.settled queue is lasts (λ disk on. all told disk on stands);
      found = λ told disk on stands lasts. all told disk on stands;
      stands = λ told. subst (λ (q : Seen). Stands q.backlog.queue f0 → Stands b1.queue f1) view (c.flush.ensures.stands told);
      others = λ told. subst (λ (q : Seen). DiskChanges q.backlog.queue f0 f1) view (c.flush.ensures.others told);
      faults = c.flush.ensures.faults;
      cause = tt;
    }

pub returns : goal.returns
returns g c =
    let inside = c.self.inside in
    let old = c.args.self.now in
    let view = c.self.view_is in
    let b1 = c.flush.new.self in
    let new = c.flush_head.new.self in
    let answer = c.flush_head.result in
    let f0 = g.F.Folder.files c.args.folder.now in
    let f1 = g.F.Folder.files c.flush.new.folder in
    let f2 = g.F.Folder.files c.flush_head.new.folder in
    let mid : Seen = record { name = inside.name; paused = inside.paused; message_count = inside.message_count; backlog = b1; head = with_owed inside.head inside.owed.items } in
    let durable = lasting inside.name c.if-ephemeral.ensures.1 in
    let queue = subst (λ (q : Seen). SameQueue q.backlog.queue b1.queue) view c.flush.ensures.queue in
    let same = same_joined old.backlog.queue b1.queue new.backlog.queue queue c.flush_head.ensures.queue in
    let seen = subst (λ (q : Seen). FlushSeen q.backlog b1 Done) view c.in-Done.ensures.seen in
    let all : IsTrue g.F.Folder.tells_files → (disk : List Message) → OnDisk old.backlog.queue f0 disk → Stands old.backlog.queue f0 → FlushFindsAll old new f2 disk answer = λ told disk on stands.
    let list = subst (λ (q : Seen). (ms : List Message) → OnDisk q.backlog.queue f0 ms → OnDisk b1.queue f1 (disk_flushed q.backlog b1 ms)) view (c.flush.ensures.list told) in
    let stood = subst (λ (q : Seen). Stands q.backlog.queue f0 → Stands b1.queue f1) view (c.flush.ensures.stands told) stands in
    let written = ring_written old.backlog b1 disk seen in
    both_found old mid new f2 disk answer queue written.1 (ap (λ (q : Seen). q.head) view)
    (c.flush_head.ensures.found told _ (subst (λ (ms : List Message). OnDisk b1.queue f1 ms) written.0 (list disk on)) stood) in
    record {
      settled_now = c.flush_head.ensures.settled_now;
      queue = same;
      seen = both_flushed old mid new answer (ap (λ (q : Seen). is_ephemeral q.name) (sym view) ∙ durable) (ap (λ (q : Seen). record q { backlog = b1 }) view) seen c.flush_head.ensures.seen;
      ephemeral = λ passing. absurd (false≢true (sym durable ∙ (ap (λ (q : Seen). is_ephemeral q.name) view ∙ passing)));
      row = λ told t is stands. flush_left old new f0 f2 t answer (subst (λ (q : Seen). IsNamed q.name q.backlog) view c.self.invariant.named) c.requires.settled same is (λ disk on. all told disk on stands);
      found = λ told disk on stands lasts. all told disk on stands;
      stands = λ told stands. c.flush_head.ensures.stands told (subst (λ (q : Seen). Stands q.backlog.queue f0 → Stands b1.queue f1) view (c.flush.ensures.stands told) stands);
      others = λ told. disk_joined old.backlog.queue b1.queue f0 f1 f2 queue (subst (λ (q : Seen). DiskChanges q.backlog.queue f0 f1) view (c.flush.ensures.others told)) (c.flush_head.ensures.others told);
      faults = omega (arith, c.flush.ensures.faults, c.flush_head.ensures.faults);
      cause = flush_rose _ _ _ answer c.flush.ensures.faults c.flush_head.ensures.cause;
    }
