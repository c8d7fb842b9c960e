-- What openings find, and what a flush leaves.
use Rattle.std.proofs.Common.{◌≡◌, ◌≢◌, ℕ, ◌+◌, ◌-◌, ◌≤◌, Bool, true, false, List, [], ◌∷◌, ◌++◌, length, take, drop, map, Option, Some, None, refl, sym, ap, subst, ◌∙◌, arith, ◌⊎◌, inl, inr, not, append_assoc}
use Rattle.std.specs.List.{All, count_by}
use Rattle.std.specs.Prelude.{IsSome, IfSome, MatchBool, is_some}
use Rattle.std.proofs.lemmas.Bool.{false≢true}
use Rattle.std.proofs.lemmas.List.{append-nil, map-append, take_all, drop_all, length-drop}
use Rattle.std.proofs.lemmas.List.Elements.{All-nil, All-cons, All-head, All-tail}
use Rattle.nsq_base.specs.Name.{is_ephemeral}
use Rattle.backlog.specs.QueueOptions.{QueueOptions}
use Rattle.nsq_outside.specs.Files.{Files, SameFiles}
use Rattle.v2_frame.specs.declared.message.Message.{Message}
use Rattle.v2_frame.specs.Written.{message_bytes}
use Rattle.queue_image.specs.Finds.{IsFound, Records}
use Rattle.backlog.specs.Queues.{Seen as Queue}
use Rattle.backlog.specs.Holding.{OwnChange}
use Rattle.backlog.proofs.Kept.{own_join}
use Rattle.backlog.specs.Answers.{FlushFails}
use Rattle.path_image.specs.Found.{Pairwise, IsRecordOf, HasMessages}
use Rattle.backlog.specs.Seen.{Seen as Backlog, EmptyQueueSeen, PutSeen, PutWhere, FlushSeen, QueueIsSaved, SameQueue, IsOpenedAt, longest_body}
use Rattle.backlog.specs.Lists.{IsStored, OnDisk, WasFound, QueueFinds, FlushFinds, DiskChanges, PutChanges, stored, disk_after, disk_flushed}
use Rattle.backlog.specs.Emptied.TheVariants as emptying
use Rattle.backlog.specs.declared.backlog.Lent.TheVariants.{Nothing}
use Rattle.backlog.specs.declared.answers.Flushed.{Flushed}
use Rattle.backlog.specs.declared.answers.Flushed.TheVariants.{Done as FlushDone, Fault as FlushFault}
use Rattle.backlog.specs.declared.answers.PutOne.{PutOne}
use Rattle.backlog.specs.declared.answers.PutOne.TheVariants.{Kept, Dropped, Spilled, Fault}
use Rattle.broker_history.specs.State.{Waiting, Taken, Topic, compared, new_topic}
use Rattle.broker_history.specs.Left.{SameMessages, left_in_topic, taken_message}
use Rattle.broker_history.specs.Topics.{Fits, HasWaiting}
use Rattle.broker_history.proofs.Counting.{count-cons, count-append}
use Rattle.topic_core.specs.Seen.{Seen, IsSettled}
use Rattle.topic_core.specs.Kept.{IsNamed}
use Rattle.topic_core.specs.Answers.{AllFound, FlushFindsAll, FlushesAll, FlushesTopic, FlushesHead}
use Rattle.topic_core.specs.Rows.{IsTopicOf, FindsLeft, FlushLeaves, FindsMessages, found_topic}
use Rattle.topic_core.proofs.Waiting.{none_waiting, from_settled, to_settled}

-- records are messages in their bytes
from_records : (bodies : List (List ℕ)) (ms : List Message) → Pairwise IsRecordOf bodies ms → (bodies ≡ map message_bytes ms) × All IsStored ms
from_records [] [] p = (refl, All-nil IsStored)
from_records [] (m ∷ ms) p = absurd p
from_records (b ∷ bodies) [] p = absurd p
from_records (b ∷ bodies) (m ∷ ms) p =
    let rest = from_records bodies ms p.1 in
    let one = p.0 in (
      ap (λ x. x ∷ bodies) one.whole ∙ ap (λ xs. message_bytes m ∷ xs) rest.0,
      All-cons IsStored m ms (record { fits = record { stamp = one.stamp; attempts = one.attempts; id = one.id }; no_delay = one.delay }) rest.1,
    )

to_records : (ms : List Message) → All IsStored ms → Pairwise IsRecordOf (map message_bytes ms) ms
to_records [] h = tt
to_records (m ∷ ms) h =
    let one = All-head IsStored m ms h in
    (record { whole = refl; id = one.fits.id; stamp = one.fits.stamp; attempts = one.fits.attempts; delay = one.no_delay }, to_records ms (All-tail IsStored m ms h))

-- an opening finds these messages in the queue, in the words of the daemon's folder and in those of a backlog
pub was_found : (files : Files) (name : List ℕ) (ms : List Message) → HasMessages files name ms → WasFound name files ms
was_found files name ms has =
    let r = from_records has.bodies ms has.records in
    record { bad = has.bad; found = subst (λ xs. IsFound 26 (26 + longest_body) files name (Records xs has.bad)) r.0 has.queue; stored = r.1 }

pub has_messages : (files : Files) (name : List ℕ) (ms : List Message) → IsFound 26 (26 + longest_body) files name (Records (map message_bytes ms) []) → All IsStored ms → HasMessages files name ms
has_messages files name ms found fit = record { bodies = map message_bytes ms; bad = []; queue = found; records = to_records ms fit }

-- messages that were found wait, and none is loose
pub found_wait : (ms : List Message) → Pairwise Fits (map (λ m. record { message = m; loose = false }) ms) ms
found_wait [] = tt
found_wait (m ∷ ms) = (record { same = refl; delay = inl refl }, found_wait ms)

-- counting what a map makes of a list
count_map : {X Y : Type 0} (p : Y → Bool) (f : X → Y) (xs : List X) → count_by p (map f xs) ≡ count_by (λ x. p (f x)) xs
count_map p f [] = refl
count_map p f (x ∷ xs) = omega (arith, count-cons p (f x) (map f xs), count-cons (λ y. p (f y)) x xs, count_map p f xs)

-- pairs are the same messages
pairs_same : (ws : List Waiting) (ms : List Message) → Pairwise Fits ws ms → map compared (map (λ (w : Waiting). w.message) ws) ≡ map compared ms
pairs_same [] [] p = refl
pairs_same [] (m ∷ ms) p = absurd p
pairs_same (w ∷ ws) [] p = absurd p
pairs_same (w ∷ ws) (m ∷ ms) p = ap (λ x. x ∷ map compared (map (λ (v : Waiting). v.message) ws)) p.0.same ∙ ap (λ xs. compared m ∷ xs) (pairs_same ws ms p.1)

-- so are messages that come back from disk
stored_same : (ms : List Message) → map compared (map stored ms) ≡ map compared ms
stored_same [] = refl
stored_same (m ∷ ms) = ap (λ xs. compared m ∷ xs) (stored_same ms)

waiting_count : (p : Message → Bool) (ms : List Message) (waiting : List Waiting) → HasWaiting ms waiting → count_by p (map compared (map (λ (w : Waiting). w.message) waiting)) ≡ count_by p (map compared ms)
waiting_count p ms waiting h =
    let f : Waiting → Message = λ w. w.message in
    let q : Message → Bool = λ m. p (compared m) in
    let r : Waiting → Bool = λ w. q (f w) in
    let all : count_by p (map compared (map f waiting)) ≡ count_by r waiting = count_map p compared (map f waiting) ∙ count_map q f waiting in
    let ordered : count_by p (map compared (map f h.in_order)) ≡ count_by r h.in_order = count_map p compared (map f h.in_order) ∙ count_map q f h.in_order in
    all ∙ h.often r ∙ sym ordered ∙ ap (count_by p) (pairs_same h.in_order ms h.fit)

-- what is left of a topic is what is on disk once all of it was written
pub left_same : (t : Topic) (R D : List Message) (head : Option Taken) → t.taken ≡ head → HasWaiting (R ++ D) t.waiting → SameMessages (left_in_topic t) (D ++ map stored (R ++ taken_message head))
left_same t R D head taken h p =
    let T : List Message = taken_message head in
    let W : List Message = map (λ (w : Waiting). w.message) t.waiting in
    let front : map compared (left_in_topic t) ≡ map compared W ++ map compared T = map-append compared W (taken_message t.taken) ∙ ap (λ k. map compared W ++ map compared (taken_message k)) taken in
    let back : map compared (D ++ map stored (R ++ T)) ≡ map compared D ++ (map compared R ++ map compared T) =
    map-append compared D (map stored (R ++ T)) ∙ ap (λ xs. map compared D ++ xs) (stored_same (R ++ T) ∙ map-append compared R T) in
    let waits : count_by p (map compared W) ≡ count_by p (map compared R ++ map compared D) = waiting_count p (R ++ D) t.waiting h ∙ ap (count_by p) (map-append compared R D) in
    omega (
      arith,
      ap (count_by p) front,
      ap (count_by p) back,
      waits,
      count-append p (map compared W) (map compared T),
      count-append p (map compared R) (map compared D),
      count-append p (map compared D) (map compared R ++ map compared T),
      count-append p (map compared R) (map compared T),
    )

-- the head behind an empty ring: in the ring, or on disk
pub head_behind : (old new : Backlog) (m : Message) (answer : PutOne) (disk : List Message) → old.ring ≡ [] → IsSome old.queue → ((back : Message) → answer ≢ Fault back) → PutWhere old answer → PutSeen old new m answer
    → disk_after disk m answer ++ map stored new.ring ≡ disk ++ map stored (m ∷ [])
head_behind old new m Kept disk none durable kept place seen = ap (λ (b : Backlog). disk ++ map stored b.ring) seen ∙ ap (λ xs. disk ++ map stored (xs ++ m ∷ [])) none
head_behind old new m Dropped disk none durable kept place seen = absurd (let gone = place.1 in cc)
head_behind old new m Spilled disk none durable kept place seen = ap (λ (b : Backlog). (disk ++ stored m ∷ []) ++ map stored b.ring) seen.is ∙ ap (λ xs. (disk ++ stored m ∷ []) ++ map stored xs) none ∙ append-nil (disk ++ stored m ∷ [])
head_behind old new m (Fault back) disk none durable kept place seen = absurd (kept back refl)

-- a queue of the same name is found alike
pub same_finds : (q r : Option Queue) (files : Files) (ms : List Message) → SameQueue q r → QueueFinds r files ms → QueueFinds q files ms
same_finds None r files ms same found = tt
same_finds (Some q) None files ms same found = absurd same
same_finds (Some q) (Some r) files ms same found = subst (λ (name : List ℕ). IsFound 26 (26 + longest_body) files name (Records (map message_bytes ms) [])) same.name found

-- queues of one name, one after another
pub same_joined : (q r s : Option Queue) → SameQueue q r → SameQueue r s → SameQueue q s
same_joined None None None a b = tt
same_joined None None (Some s) a b = b
same_joined None (Some r) s a b = absurd a
same_joined (Some q) None s a b = absurd a
same_joined (Some q) (Some r) None a b = b
same_joined (Some q) (Some r) (Some s) a b = record { name = b.name ∙ a.name; options = b.options ∙ a.options }

-- all of a ring that was flushed is on disk
pub all_flushed : (b1 b2 : Backlog) → b2.ring ≡ drop (length b1.ring) b1.ring → take (length b1.ring - length b2.ring) b1.ring ≡ b1.ring
all_flushed b1 b2 is = take_all (length b1.ring - length b2.ring) b1.ring (omega (arith, ap length is, length-drop (length b1.ring) b1.ring))

-- the head was written behind all others
pub head_found : (b1 b2 : Backlog) (old new : Seen) (after : Files) (disk d1 : List Message) (head : Taken) (answer : Flushed) → FlushSeen b1 b2 answer → SameQueue old.backlog.queue b1.queue → new.backlog ≡ b2
    → d1 ++ map stored b1.ring ≡ disk ++ map stored (head.message ∷ []) → old.backlog.ring ≡ [] → old.head ≡ Some head
    → OnDisk b2.queue after (disk_flushed b1 b2 d1) → FlushFinds b1 after d1 answer → FlushFindsAll old new after disk answer
head_found b1 b2 old new after disk d1 head FlushDone seen same is behind none there on found =
    let moves = seen.0 in
    let goal : d1 ++ map stored b1.ring ≡ disk ++ map stored (old.backlog.ring ++ taken_message old.head) =
    behind ∙ ap (λ xs. disk ++ map stored (xs ++ (head.message ∷ []))) (sym none) ∙ ap (λ h. disk ++ map stored (old.backlog.ring ++ taken_message h)) (sym there) in
    record {
      on_disk = subst (λ (b : Backlog). OnDisk b.queue after (disk ++ map stored (old.backlog.ring ++ taken_message old.head))) (sym is)
          (subst (λ ms. OnDisk b2.queue after ms) (ap (λ xs. d1 ++ map stored xs) (all_flushed b1 b2 (ap (λ (b : Backlog). b.ring) moves.is)) ∙ goal) on);
      found = same_finds old.backlog.queue b1.queue after _ same (subst (λ ms. QueueFinds b1.queue after ms) goal found);
    }
head_found b1 b2 old new after disk d1 head FlushFault seen same is behind none there on found = tt

put_capacity : (b0 b1 : Backlog) (m : Message) (put : PutOne) → PutSeen b0 b1 m put → ((back : Message) → put ≢ Fault back) → b1.capacity ≡ b0.capacity
put_capacity b0 b1 m Kept puts kept = ap (λ (b : Backlog). b.capacity) puts
put_capacity b0 b1 m Dropped puts kept = ap (λ (b : Backlog). b.capacity) puts
put_capacity b0 b1 m Spilled puts kept = ap (λ (b : Backlog). b.capacity) puts.is
put_capacity b0 b1 m (Fault back) puts kept = absurd (kept back refl)

put_lent : (b0 b1 : Backlog) (m : Message) (put : PutOne) → PutSeen b0 b1 m put → ((back : Message) → put ≢ Fault back) → b1.lent ≡ b0.lent
put_lent b0 b1 m Kept puts kept = ap (λ (b : Backlog). b.lent) puts
put_lent b0 b1 m Dropped puts kept = ap (λ (b : Backlog). b.lent) puts
put_lent b0 b1 m Spilled puts kept = ap (λ (b : Backlog). b.lent) puts.is
put_lent b0 b1 m (Fault back) puts kept = absurd (kept back refl)

backlog_is : (b c : Backlog) → b.ring ≡ [] → b.capacity ≡ c.capacity → b.lent ≡ c.lent → b ≡ record c { ring = []; queue = b.queue }
backlog_is b c ring capacity lent =
    ap (λ xs. record b { ring = xs }) ring ∙ ap (λ n. record b { ring = []; capacity = n }) capacity ∙ ap (λ l. record b { ring = []; capacity = c.capacity; lent = l }) lent

-- what is seen of the queue once the head was written
pub head_flushed : (b0 b1 b2 : Backlog) (old new : Seen) (m : Message) (put : PutOne) (answer : Flushed) → old.backlog ≡ b0 → new ≡ record old { backlog = b2; head = None } → b0.lent ≡ Nothing → b0.ring ≡ []
    → PutSeen b0 b1 m put → FlushSeen b1 b2 answer → ((back : Message) → put ≢ Fault back) → FlushesHead old new answer
head_flushed b0 b1 b2 old new m put FlushDone was is lent none puts seen kept =
    let moves = seen.0 in
    let ring : b2.ring ≡ [] = ap (λ (b : Backlog). b.ring) moves.is ∙ drop_all (length b1.ring) b1.ring (omega arith) in
    let capacity : b2.capacity ≡ b0.capacity = ap (λ (b : Backlog). b.capacity) moves.is ∙ put_capacity b0 b1 m put puts kept in
    let lent_now : b2.lent ≡ b0.lent = ap (λ (b : Backlog). b.lent) moves.is ∙ put_lent b0 b1 m put puts kept in
    let back : b2 ≡ record b0 { ring = []; queue = b2.queue } = backlog_is b2 b0 ring capacity lent_now in
    record {
      is = is ∙ ap (λ (b : Backlog). record old { backlog = b; head = None }) (back ∙ ap (λ (b : Backlog). record b { ring = []; queue = b2.queue }) (sym was))
          ∙ ap (λ (b : Backlog). record old { backlog = record (old.backlog) { ring = []; queue = b.queue }; head = None }) (sym (ap (λ (q : Seen). q.backlog) is));
      saved = subst (λ (b : Backlog). QueueIsSaved b.queue) (sym (ap (λ (q : Seen). q.backlog) is)) seen.1;
    }
head_flushed b0 b1 b2 old new m put FlushFault was is lent none puts seen kept = is ∙ ap (λ (q : Seen). record old { backlog = q.backlog; head = q.head }) (sym is)

pub open_ring : (b : Backlog) (name : List ℕ) (capacity : ℕ) (options : QueueOptions) → IsSome b.queue → IfSome b.queue (IsOpenedAt name capacity options b) → (b.ring ≡ []) × (b.lent ≡ Nothing)
open_ring b name capacity options there seen = elim b.queue as (λ q. IsSome q → IfSome q (IsOpenedAt name capacity options b) → (b.ring ≡ []) × (b.lent ≡ Nothing)) [
  | None ↦ λ t s. absurd cc
  | Some q ↦ λ t s. (ap (λ (x : Backlog). x.ring) s.is, ap (λ (x : Backlog). x.lent) s.is)
] there seen

-- a topic that was opened has the messages that were found
pub opened_topic : (name : List ℕ) (before after : Files) (b : Backlog) (queue : List ℕ) (capacity : ℕ) (options : QueueOptions) → is_ephemeral name ≡ false → IsSome b.queue → IfSome b.queue (IsOpenedAt queue capacity options b)
    → ((ms : List Message) → WasFound name before ms → OnDisk b.queue after ms) → (ms : List Message) → FindsMessages before name ms
    → IsTopicOf (record { name = name; paused = false; message_count = 0; backlog = b; head = None }) after (found_topic name ms)
opened_topic name before after b queue capacity options durable there seen list ms found =
    let has : HasMessages before name ms = subst (λ e. MatchBool e (ms ≡ []) (HasMessages before name ms)) durable found in
    let ring = open_ring b queue capacity options there seen in
    to_settled (record { name = name; paused = false; message_count = 0; backlog = b; head = None }) after (found_topic name ms) ring.1 (record {
      name = refl;
      paused = refl;
      message_count = refl;
      taken = refl;
      disk = ms;
      on_disk = list ms (was_found before name ms has);
      waiting = subst (λ xs. HasWaiting (xs ++ ms) (map (λ m. record { message = m; loose = false }) ms)) (sym ring.0)
          (record { in_order = map (λ m. record { message = m; loose = false }) ms; often = λ p. refl; fit = found_wait ms });
    })

-- a topic that is made is one without messages
pub new_topic_is : (name : List ℕ) (b : Backlog) (files : Files) → b.ring ≡ [] → b.lent ≡ Nothing → OnDisk b.queue files []
    → IsTopicOf (record { name = name; paused = false; message_count = 0; backlog = b; head = None }) files (new_topic name)
new_topic_is name b files ring lent on = to_settled (record { name = name; paused = false; message_count = 0; backlog = b; head = None }) files (new_topic name) lent (record {
  name = refl;
  paused = refl;
  message_count = refl;
  taken = refl;
  disk = [];
  on_disk = on;
  waiting = subst (λ xs. HasWaiting (xs ++ []) []) (sym ring) none_waiting;
})

-- changes of one queue's files, one after another
pub disk_joined : (q r : Option Queue) (f0 f1 f2 : Files) → SameQueue q r → DiskChanges q f0 f1 → DiskChanges r f1 f2 → DiskChanges q f0 f2
disk_joined None None f0 f1 f2 same a b = λ file. b file ∙ a file
disk_joined None (Some r) f0 f1 f2 same a b = absurd same
disk_joined (Some q) None f0 f1 f2 same a b = absurd same
disk_joined (Some q) (Some r) f0 f1 f2 same a b = own_join q.name f0 f1 f2 a (subst (λ (name : List ℕ). OwnChange name f1 f2) same.name b)

pub none_changed : (q : Option Queue) (f0 f1 : Files) → SameFiles f0 f1 → DiskChanges q f0 f1
none_changed None f0 f1 same = same
none_changed (Some q) f0 f1 same = λ file other. same file

pub put_changes : (q : Option Queue) (f0 f1 : Files) (put : PutOne) → PutChanges q f0 f1 put → DiskChanges q f0 f1
put_changes q f0 f1 Kept same = none_changed q f0 f1 same
put_changes q f0 f1 Dropped same = none_changed q f0 f1 same
put_changes q f0 f1 Spilled changes = changes
put_changes q f0 f1 (Fault back) changes = changes

-- a message that was kept, written or dropped isn't back
pub not_refused : (put : PutOne) → (put ≡ Kept) ⊎ ((put ≡ Spilled) ⊎ (put ≡ Dropped)) → (back : Message) → put ≢ Fault back
not_refused Kept is back e = cc
not_refused Spilled is back e = cc
not_refused Dropped is back e = cc
not_refused (Fault m) (inl kept) back e = cc
not_refused (Fault m) (inr (inl spilled)) back e = cc
not_refused (Fault m) (inr (inr dropped)) back e = cc

-- a count that rose later rose
pub flush_rose : (before mid now : ℕ) (answer : Flushed) → before ≤ mid → FlushFails mid now answer → FlushFails before now answer
flush_rose before mid now FlushDone low fails = tt
flush_rose before mid now FlushFault low fails = omega (arith, low, fails)

named_finds : (q r : Option Queue) (after : Files) (name : List ℕ) (ms : List Message) → is_some q ≡ true → IfSome q (λ k. k.name ≡ name) → SameQueue q r → QueueFinds q after ms → OnDisk r after ms → HasMessages after name ms
named_finds None r after name ms durable named same found on = absurd (false≢true durable)
named_finds (Some q) None after name ms durable named same found on = absurd same
named_finds (Some q) (Some r) after name ms durable named same found on =
    has_messages after name ms (subst (λ (n : List ℕ). IsFound 26 (26 + longest_body) after n (Records (map message_bytes ms) [])) named found) on.stored

-- what was left of a durable topic is found once all of it was written
pub left_found : (old new : Seen) (before after : Files) (t : Topic) → IsNamed old.name old.backlog → IsSettled old → SameQueue old.backlog.queue new.backlog.queue → IsTopicOf old before t → is_ephemeral t.name ≡ false
    → ((disk : List Message) → OnDisk old.backlog.queue before disk → AllFound old new after (disk ++ map stored (old.backlog.ring ++ taken_message old.head))) → FindsLeft after t
left_found old new before after t named settled same is durable all =
    let there = from_settled old before t settled is in
    let ms : List Message = there.disk ++ map stored (old.backlog.ring ++ taken_message old.head) in
    let found = all there.disk there.on_disk in
    let queue : is_some old.backlog.queue ≡ true = named.durable ∙ ap not (ap is_ephemeral (sym there.name) ∙ durable) in
    record {
      messages = ms;
      found = subst (λ (n : List ℕ). HasMessages after n ms) (sym there.name) (named_finds old.backlog.queue new.backlog.queue after old.name ms queue named.queue same found.found found.on_disk);
      left = left_same t old.backlog.ring there.disk old.head there.taken there.waiting;
    }

-- so it is after a flush
pub flush_left : (old new : Seen) (before after : Files) (t : Topic) (answer : Flushed) → IsNamed old.name old.backlog → IsSettled old → SameQueue old.backlog.queue new.backlog.queue → IsTopicOf old before t
    → ((disk : List Message) → OnDisk old.backlog.queue before disk → FlushFindsAll old new after disk answer) → FlushLeaves after t answer
flush_left old new before after t FlushDone named settled same is all = λ durable. left_found old new before after t named settled same is durable all
flush_left old new before after t FlushFault named settled same is all = tt

-- the ring was written, and then the head, or there was none
pub both_found : (old mid new : Seen) (after : Files) (disk : List Message) (answer : Flushed) → SameQueue old.backlog.queue mid.backlog.queue → mid.backlog.ring ≡ [] → mid.head ≡ old.head
    → FlushFindsAll mid new after (disk ++ map stored old.backlog.ring) answer → FlushFindsAll old new after disk answer
both_found old mid new after disk FlushDone same ring head found =
    let goal : (disk ++ map stored old.backlog.ring) ++ map stored (mid.backlog.ring ++ taken_message mid.head) ≡ disk ++ map stored (old.backlog.ring ++ taken_message old.head) =
    ap (λ xs. (disk ++ map stored old.backlog.ring) ++ map stored (xs ++ taken_message mid.head)) ring
    ∙ ap (λ h. (disk ++ map stored old.backlog.ring) ++ map stored (taken_message h)) head
    ∙ append_assoc disk (map stored old.backlog.ring) (map stored (taken_message old.head))
    ∙ ap (λ xs. disk ++ xs) (sym (map-append stored old.backlog.ring (taken_message old.head))) in
    record {
      on_disk = subst (λ ms. OnDisk new.backlog.queue after ms) goal found.on_disk;
      found = same_finds old.backlog.queue mid.backlog.queue after _ same (subst (λ ms. QueueFinds mid.backlog.queue after ms) goal found.found);
    }
both_found old mid new after disk FlushFault same ring head found = tt

pub ring_found : (old new : Seen) (after : Files) (disk : List Message) → old.head ≡ None → FlushSeen old.backlog new.backlog FlushDone → OnDisk new.backlog.queue after (disk_flushed old.backlog new.backlog disk)
    → FlushFinds old.backlog after disk FlushDone → AllFound old new after (disk ++ map stored (old.backlog.ring ++ taken_message old.head))
ring_found old new after disk none seen on found =
    let goal : disk ++ map stored old.backlog.ring ≡ disk ++ map stored (old.backlog.ring ++ taken_message old.head) =
    ap (λ xs. disk ++ map stored xs) (sym (append-nil old.backlog.ring)) ∙ ap (λ h. disk ++ map stored (old.backlog.ring ++ taken_message h)) (sym none) in
    record {
      on_disk = subst (λ ms. OnDisk new.backlog.queue after ms) (ap (λ xs. disk ++ map stored xs) (all_flushed old.backlog new.backlog (ap (λ (b : Backlog). b.ring) seen.0.is)) ∙ goal) on;
      found = subst (λ ms. QueueFinds old.backlog.queue after ms) goal found;
    }

-- the ring is empty once all of it was written
ring_emptied : (old new : Seen) → FlushSeen old.backlog new.backlog FlushDone → new.backlog ≡ record (old.backlog) { ring = []; queue = new.backlog.queue }
ring_emptied old new seen = seen.0.is ∙ ap (λ xs. record (old.backlog) { ring = xs; queue = new.backlog.queue }) (drop_all (length old.backlog.ring) old.backlog.ring (omega arith))

-- what is seen of a durable topic whose ring was written, and that has no head
pub ring_flushed : (old new : Seen) → is_ephemeral old.name ≡ false → old.head ≡ None → new ≡ record old { backlog = new.backlog } → FlushSeen old.backlog new.backlog FlushDone → FlushesTopic old new FlushDone
ring_flushed old new durable none only seen = subst (λ b. MatchBool b (new ≡ old) (FlushesAll old new)) (sym durable) (record {
  is = only ∙ ap (λ (b : Backlog). record old { backlog = b }) (ring_emptied old new seen) ∙ ap (λ h. record old { backlog = record (old.backlog) { ring = []; queue = new.backlog.queue }; head = h }) none;
  saved = seen.1;
})

-- and of one whose head was written then
pub both_flushed : (old mid new : Seen) (answer : Flushed) → is_ephemeral old.name ≡ false → mid ≡ record old { backlog = mid.backlog } → FlushSeen old.backlog mid.backlog FlushDone → FlushesHead mid new answer
    → FlushesTopic old new answer
both_flushed old mid new FlushDone durable only seen head = subst (λ b. MatchBool b (new ≡ old) (FlushesAll old new)) (sym durable) (record {
  is = head.is
      ∙ ap (λ (b : Backlog). record mid { backlog = record b { ring = []; queue = new.backlog.queue }; head = None }) (ring_emptied old mid seen)
      ∙ ap (λ (q : Seen). record q { backlog = record (old.backlog) { ring = []; queue = new.backlog.queue }; head = None }) only;
  saved = head.saved;
})
both_flushed old mid new FlushFault durable only seen head = head ∙ ap (λ (q : Seen). record q { backlog = new.backlog; head = new.head }) only

-- the ring that was written
pub ring_written : (b0 b1 : Backlog) (disk : List Message) → FlushSeen b0 b1 FlushDone → (disk_flushed b0 b1 disk ≡ disk ++ map stored b0.ring) × (b1.ring ≡ [])
ring_written b0 b1 disk seen =
    let ring = ap (λ (b : Backlog). b.ring) seen.0.is in
    (ap (λ xs. disk ++ map stored xs) (all_flushed b0 b1 ring), ring ∙ drop_all (length b0.ring) b0.ring (omega arith))

-- a queue that could not be emptied is the same still
pub kept_queue : (q r : Option Queue) → EmptyQueueSeen q r emptying.Fault → SameQueue q r
kept_queue None None same = tt
kept_queue None (Some r) same = absurd same
kept_queue (Some q) None same = absurd same
kept_queue (Some q) (Some r) same = record { name = ap (λ (k : Queue). k.name) same; options = ap (λ (k : Queue). k.options) same }
