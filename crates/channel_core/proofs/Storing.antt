-- What joins a channel, and what a flush leaves, as rows.
use Rattle.std.proofs.Common.{◌≡◌, ◌≢◌, ◌⊎◌, inl, inr, ℕ, zero, suc, ◌+◌, ◌-◌, ◌<◌, ◌≤◌, Bool, true, false, ◌&&◌, ◌==◌, if◌then◌else◌, IsTrue, List, [], ◌∷◌, ◌++◌, map, filter, length, Option, Some, None, refl, sym, ap, ◌∙◌, subst, arith}
use Rattle.std.specs.List.{count_by}
use Rattle.std.specs.Prelude.{IsSome, IfSome}
use Rattle.std.proofs.lemmas.Bool.{ne_eqb}
use Rattle.std.proofs.lemmas.List.{drop_all, take_all}
use Rattle.nsq_outside.specs.Files.{Files}
use Rattle.v2_frame.specs.Written.{message_bytes}
use Rattle.v2_frame.specs.declared.message.Message.{Message}
use Rattle.queue_image.specs.Finds.{IsFound, Records}
use Rattle.backlog.specs.Queues.{Seen as Queue}
use Rattle.backlog.specs.Seen.{Seen as Backlog, FlushSeen, longest_body}
use Rattle.backlog.specs.Answers.{FlushFails}
use Rattle.backlog.specs.Lists.{OnDisk, QueueFinds, FlushFinds, disk_flushed, stored}
use Rattle.backlog.specs.declared.answers.PutOne.{PutOne}
use Rattle.backlog.specs.declared.answers.PutOne.TheVariants.{Kept, Dropped as WasDropped, Spilled, Fault}
use Rattle.backlog.specs.declared.answers.Flushed.{Flushed}
use Rattle.backlog.specs.declared.answers.Flushed.TheVariants.{Done as FlushDone, Fault as FlushFault}
use Rattle.broker_history.specs.State.{Copy, Place, Deferred, compared, counted, is_live}
use Rattle.broker_history.specs.Channels.{JoinsLive, Gets, one, copy_at, put_off, back_in, joins_at, is_dropped}
use Rattle.broker_history.specs.Left.{SameMessages, left_in_channel}
use Rattle.channel_copies.specs.declared.flight.Flight.{Flight}
use Rattle.channel_copies.specs.Deferred.{Waiting}
use Rattle.channel_copies.specs.Putting.{Around, Puts, IsTaken, around}
use Rattle.channel_copies.proofs.Counts.{count-cons, count-append, count-map}
use Rattle.channel_core.specs.Seen.{Seen, queue_name, queued_copy, flying_copy, deferred_copy, copies_of, channel_with, seen_channel, queued_in, room_of}
use Rattle.channel_core.specs.declared.about.About.{About}
use Rattle.channel_core.specs.Kept.{IsBacklogOf}
use Rattle.channel_core.specs.Drawing.{Leads, IsAsBefore}
use Rattle.channel_core.specs.declared.answers.Offer.{Offer}
use Rattle.channel_core.specs.declared.answers.Offer.TheVariants.{Done, Fault as CameBack, Memory as WantsMemory}
use Rattle.channel_core.specs.Storing.{Defers, OfferBack, OfferFails, Offers, Joined, FlushEmpties, FlushLeaves, FlushStores}
use Rattle.channel_copies.specs.Storing.{Stores, flying_messages, deferred_messages}
use Rattle.channel_core.proofs.Copies.{copies-count}
use Rattle.channel_core.proofs.Joining.{back_place, kept_place, dropped_place, spilled_place, put_in, put_none}
use Rattle.channel_core.proofs.Moving.{back_is}
use Rattle.channel_copies.proofs.Wrote.{count-waits, count-stored, rose_later}

-- the count after a message was put
abbrev pub count_after : PutOne → ℕ → ℕ
count_after Kept n = counted n
count_after WasDropped n = n
count_after Spilled n = counted n
count_after (Fault back) n = n

-- where a message without a delay goes
joins_back : (v : Seen) (disk : List Message) (now : ℕ) (m : Message) → IsBacklogOf v.about v.backlog → m.delay ≡ 0 → joins_at (room_of v) now m (channel_with v (queued_in v disk)) ≡ back_place v.backlog.queue v.backlog.capacity v.backlog.ring disk
joins_back v disk now m named none = ap (λ n. put_off now n (back_in (room_of v) (channel_with v (queued_in v disk)))) none ∙ back_is v disk named

-- and one that has a delay
joins_later : (v : Seen) (disk : List Message) (now : ℕ) (m : Message) → (m.delay == 0) ≡ false → joins_at (room_of v) now m (channel_with v (queued_in v disk)) ≡ Deferred (now + m.delay)
joins_later v disk now m some = ap (λ b. if b then back_in (room_of v) (channel_with v (queued_in v disk)) else Deferred (now + m.delay)) some

-- a message that is dropped isn't counted
counts_place : {tells : Bool} {m : Message} (answer : PutOne) (old new : Around) (disk : List Message) (n : ℕ) → IsTaken answer → Puts tells m answer old new → OnDisk old.backlog.queue old.files disk
    → count_after answer n ≡ (if is_dropped (back_place old.backlog.queue old.backlog.capacity old.backlog.ring disk) then n else counted n)
counts_place Kept old new disk n taken p on = ap (λ (x : Place). if is_dropped x then n else counted n) (sym (kept_place old.backlog.queue old.backlog.capacity old.backlog.ring disk old.files on p.place))
counts_place WasDropped old new disk n taken p on = ap (λ (x : Place). if is_dropped x then n else counted n) (sym (dropped_place old.backlog.queue old.backlog.capacity old.backlog.ring disk p.place.1 p.place.0))
counts_place Spilled old new disk n taken p on = ap (λ (x : Place). if is_dropped x then n else counted n) (sym (spilled_place old.backlog.queue old.backlog.capacity old.backlog.ring disk p.place.1))
counts_place (Fault back) old new disk n taken p on = absurd taken

pub counts_so : (answer : PutOne) (n : ℕ) → (answer ≡ Kept) ⊎ (answer ≡ Spilled) → count_after answer n ≡ counted n
counts_so answer n so = elim so [ inl e ↦ ap (λ a. count_after a n) e | inr e ↦ ap (λ a. count_after a n) e ]

pub taken_so : (answer : PutOne) → (answer ≡ Kept) ⊎ (answer ≡ Spilled) → IsTaken answer
taken_so answer so = elim so [ inl e ↦ subst IsTaken (sym e) tt | inr e ↦ subst IsTaken (sym e) tt ]

-- Copied, of a message without a delay
pub was_put : {tells : Bool} {now : ℕ} {m : Message} (answer : PutOne) (files files' : Files) (faults faults' : ℕ) (disk : List Message) {v0 v w : Seen} → v0 ≡ v → IsBacklogOf v0.about v0.backlog → IsTrue tells → m.delay ≡ 0 → IsTaken answer
    → Puts tells m answer (around v0.backlog files faults) (around w.backlog files' faults') → OnDisk v.backlog.queue files disk → w ≡ record v0 { message_count = w.message_count; backlog = w.backlog }
    → w.message_count ≡ count_after answer v0.message_count → Leads (Gets JoinsLive (room_of v) now m) v (queued_in v disk) w files'
was_put {tells} {now} {m} answer files files' faults faults' disk {v0} {v} {w} is named told none taken p on' rest count =
    subst (λ v. Leads (Gets JoinsLive (room_of v) now m) v (queued_in v disk) w files') is (
    let on : OnDisk v0.backlog.queue files disk = subst (λ (u : Seen). OnDisk u.backlog.queue files disk) (sym is) on' in
    let i = put_in tells m answer (around v0.backlog files faults) (around w.backlog files' faults') disk told taken p on in
    let place = joins_back v0 disk now m named none in
    record {
      disk = i.to;
      on_disk = i.on_disk;
      row = record {
        joins = record {
          each = λ p. omega (
            arith,
            copies-count p (queued_in v0 disk) v0.flights v0.deferred,
            copies-count p (queued_in w i.to) w.flights w.deferred,
            i.counts p,
            ap (λ (x : Place). one (is_live x && p (copy_at m x))) place,
            ap (λ (u : Seen). count_by (λ f. p (flying_copy f)) u.flights) rest,
            ap (λ (u : Seen). count_by (λ w. p (deferred_copy w)) u.deferred) rest,
          );
        };
        is = ap (λ (u : Seen). record (channel_with u (queued_in w i.to)) { copies = copies_of (queued_in w i.to) w.flights w.deferred }) rest
            ∙ ap (λ n. record (channel_with v0 (queued_in w i.to)) { message_count = n; copies = copies_of (queued_in w i.to) w.flights w.deferred }) (count ∙ counts_place answer (around v0.backlog files faults) (around w.backlog files' faults') disk v0.message_count taken p on ∙ ap (λ (x : Place). if is_dropped x then v0.message_count else counted v0.message_count) (sym place));
      };
    })

-- Copied, of a message with a delay
pub was_joined : {now : ℕ} {m : Message} {files : Files} (disk : List Message) (v w : Seen) → (m.delay == 0) ≡ false → Joined now m v w → OnDisk v.backlog.queue files disk → w ≡ record v { message_count = w.message_count; deferred = w.deferred; deferred_spare = w.deferred_spare }
    → Leads (Gets JoinsLive (room_of v) now m) v (queued_in v disk) w files
was_joined {now} {m} {files} disk v w some j on rest =
    let place = joins_later v disk now m some in
    record {
      disk = disk;
      on_disk = subst (λ (u : Seen). OnDisk u.backlog.queue files disk) (sym rest) on;
      row = record {
        joins = record {
          each = λ p. omega (
            arith,
            copies-count p (queued_in v disk) v.flights v.deferred,
            copies-count p (queued_in w disk) w.flights w.deferred,
            j.joins (λ w. p (deferred_copy w)),
            ap (λ (x : Place). one (is_live x && p (copy_at m x))) place,
            ap (λ (u : Seen). count_by (λ m. p (queued_copy m)) (queued_in u disk)) rest,
            ap (λ (u : Seen). count_by (λ f. p (flying_copy f)) u.flights) rest,
          );
        };
        is = ap (λ (u : Seen). record (channel_with u (queued_in w disk)) { copies = copies_of (queued_in w disk) w.flights w.deferred }) rest
            ∙ ap (λ n. record (channel_with v (queued_in w disk)) { message_count = n; copies = copies_of (queued_in w disk) w.flights w.deferred }) (j.count ∙ ap (λ (x : Place). if is_dropped x then v.message_count else counted v.message_count) (sym place));
      };
    }

-- nothing joined: the folder failed
pub was_refused : {tells : Bool} {m : Message} (back : Message) (files files' : Files) (faults faults' : ℕ) (disk : List Message) {v0 v w : Seen} → v0 ≡ v → IsTrue tells → Puts tells m (Fault back) (around v0.backlog files faults) (around w.backlog files' faults')
    → OnDisk v.backlog.queue files disk → w ≡ record v0 { backlog = w.backlog } → Leads IsAsBefore v (queued_in v disk) w files'
was_refused {tells} {m} back files files' faults faults' disk {v0} {v} {w} is told p on rest =
    subst (λ v. Leads IsAsBefore v (queued_in v disk) w files') is (
    let n = put_none tells m back (around v0.backlog files faults) (around w.backlog files' faults') disk told p (subst (λ (u : Seen). OnDisk u.backlog.queue files disk) (sym is) on) in
    record {
      disk = disk;
      on_disk = n.on_disk;
      row = record {
        often = λ p. omega (
          arith,
          copies-count p (queued_in v0 disk) v0.flights v0.deferred,
          copies-count p (queued_in w disk) w.flights w.deferred,
          ap (count_by (λ m. p (queued_copy m))) n.same,
          ap (λ (u : Seen). count_by (λ f. p (flying_copy f)) u.flights) rest,
          ap (λ (u : Seen). count_by (λ w. p (deferred_copy w)) u.deferred) rest,
        );
        is = ap (λ (u : Seen). record (channel_with u (queued_in w disk)) { copies = copies_of (queued_in w disk) w.flights w.deferred }) rest;
      };
    })

-- or memory was wanting
pub had_no_room : {files : Files} (disk : List Message) (v w : Seen) → OnDisk v.backlog.queue files disk → w ≡ record v { deferred_spare = w.deferred_spare } → Leads IsAsBefore v (queued_in v disk) w files
had_no_room {files} disk v w on rest = record {
  disk = disk;
  on_disk = subst (λ (u : Seen). OnDisk u.backlog.queue files disk) (sym rest) on;
  row = record {
    often = λ p. ap (λ (u : Seen). count_by p (copies_of (queued_in u disk) u.flights u.deferred)) (sym rest);
    is = ap (λ (u : Seen). channel_with u (queued_in u disk)) rest ∙ ap (λ cs. record (seen_channel v disk) { copies = cs }) (ap (λ (u : Seen). copies_of (queued_in u disk) u.flights u.deferred) (sym rest));
  };
}

-- so it is after any answer of a deferring
pub was_deferred : (now : ℕ) (m : Message) (files : Files) (disk : List Message) (v w : Seen) (answer : Offer) → m.delay ≢ 0 → Defers now m v w answer → w ≡ record v { message_count = w.message_count; deferred = w.deferred; deferred_spare = w.deferred_spare }
    → OnDisk v.backlog.queue files disk → Offers now m v disk w files answer
was_deferred now m files disk v w Done some d rest on = was_joined disk v w (ne_eqb m.delay 0 some) d on rest
was_deferred now m files disk v w (CameBack back) some d rest on = absurd d
was_deferred now m files disk v w (WantsMemory back) some d rest on = had_no_room disk v w on d.1

-- how often a message is among those that are left of a channel
chosen : {X : Type 0} (q : X → Bool) (b : Bool) (x : X) (ys : List X) → count_by q (if b then x ∷ ys else ys) ≡ one (b && q x) + count_by q ys
chosen q true x ys = count-cons q x ys
chosen q false x ys = omega arith

count-filter : {X : Type 0} (p q : X → Bool) (xs : List X) → count_by q (filter p xs) ≡ count_by (λ x. p x && q x) xs
count-filter p q [] = refl
count-filter p q (x ∷ xs) = chosen q (p x) x (filter p xs) ∙ (ap (λ n. one (p x && q x) + n) (count-filter p q xs) ∙ sym (count-cons (λ x. p x && q x) x xs))

left_count : (p : Message → Bool) (v : Seen) (waits : List Message) → count_by p (map compared (left_in_channel (channel_with v waits)))
    ≡ count_by (λ m. p (compared m)) waits + (count_by (λ (f : Flight). p (compared f.message)) v.flights + count_by (λ (w : Waiting). p (compared w.message)) v.deferred)
left_count p v waits =
    let copies = copies_of waits v.flights v.deferred in
    count-map p compared (left_in_channel (channel_with v waits))
    ∙ (count-map (λ m. p (compared m)) (λ (x : Copy). x.message) (filter (λ (x : Copy). is_live x.place) copies)
    ∙ (count-filter (λ (x : Copy). is_live x.place) (λ (x : Copy). p (compared x.message)) copies ∙ copies-count (λ x. is_live x.place && p (compared x.message)) waits v.flights v.deferred))

-- a queue that is there is found by its name
named_finds : (q : Option Queue) (name : List ℕ) (files : Files) (ms : List Message) → IsSome q → IfSome q (λ q. q.name ≡ name) → QueueFinds q files ms → IsFound 26 (26 + longest_body) files name (Records (map message_bytes ms) [])
named_finds None name files ms there named found = absurd (let no : ⊥ = cc in no)
named_finds (Some q) name files ms there named found = subst (λ (name : List ℕ). IsFound 26 (26 + longest_body) files name (Records (map message_bytes ms) [])) named found

-- what was left waits in the ring and on disk
record WaitsAll (left : List Message) (c : Around) : Type 0 where
  to : List Message
  on_disk : OnDisk c.backlog.queue c.files to
  same : SameMessages left (to ++ map stored c.backlog.ring)

waits_all : {tells : Bool} (files : Files) (faults : ℕ) (b c : Around) (disk : List Message) {v0 v : Seen} → v0 ≡ v → IsTrue tells → OnDisk v.backlog.queue files disk
    → Stores tells (flying_messages v0.flights) [] (around v0.backlog files faults) b → Stores tells (deferred_messages v0.deferred) [] b c → WaitsAll (left_in_channel (seen_channel v disk)) c
waits_all {tells} files faults b c disk {v0} {v} is told on flew waited =
    subst (λ (v : Seen). WaitsAll (left_in_channel (seen_channel v disk)) c) is (
    let first = flew.list told disk (subst (λ (u : Seen). OnDisk u.backlog.queue files disk) (sym is) on) in
    let next = waited.list told first.to first.on_disk in
    let all = next.to ++ map stored c.backlog.ring in
    record {
      to = next.to;
      on_disk = next.on_disk;
      same = λ p. omega (
        arith,
        left_count p v0 (queued_in v0 disk),
        count-map p compared (queued_in v0 disk),
        first.joins p,
        next.joins p,
        count-map p compared (flying_messages v0.flights),
        count-map (λ m. p (compared m)) (λ (f : Flight). f.message) v0.flights,
        count-map p compared (deferred_messages v0.deferred),
        count-map (λ m. p (compared m)) (λ (w : Waiting). w.message) v0.deferred,
        count-waits p c.backlog.ring next.to,
        count-map p compared all,
        count-append (λ m. p (compared m)) next.to (map stored c.backlog.ring),
        count-stored p c.backlog.ring,
      );
    })

-- an opening finds it, where all was written
pub flush_leaves : {tells : Bool} (files : Files) (faults : ℕ) (b c : Around) (after : Files) (disk : List Message) (answer : Flushed) {v0 v : Seen} → v0 ≡ v → IsTrue tells → OnDisk v.backlog.queue files disk
    → Stores tells (flying_messages v0.flights) [] (around v0.backlog files faults) b → Stores tells (deferred_messages v0.deferred) [] b c → IsSome c.backlog.queue → IsBacklogOf v0.about c.backlog
    → ((disk : List Message) → OnDisk c.backlog.queue c.files disk → FlushFinds c.backlog after disk answer) → FlushLeaves (left_in_channel (seen_channel v disk)) v.about after answer
flush_leaves files faults b c after disk FlushDone {v0} {v} is told on flew waited there named finds = λ durable.
    let all = waits_all files faults b c disk is told on flew waited in
    record {
      messages = all.to ++ map stored c.backlog.ring;
      found = subst (λ (u : Seen). IsFound 26 (26 + longest_body) after (queue_name u.about.topic u.about.name) (Records (map message_bytes (all.to ++ map stored c.backlog.ring)) [])) is (named_finds c.backlog.queue _ after (all.to ++ map stored c.backlog.ring) there named.queue (finds all.to all.on_disk));
      same = all.same;
    }
flush_leaves files faults b c after disk FlushFault is told on flew waited there named finds = tt

-- and it is on disk
all_written : (b b' : Backlog) (disk : List Message) → b'.ring ≡ [] → disk_flushed b b' disk ≡ disk ++ map stored b.ring
all_written b b' disk none = ap (λ xs. disk ++ map stored xs) (take_all (length b.ring - length b'.ring) b.ring (omega (arith, ap length none)))

ring_emptied : (b b' : Backlog) → FlushSeen b b' FlushDone → b'.ring ≡ []
ring_emptied b b' seen = ap (λ (b : Backlog). b.ring) seen.0.is ∙ drop_all (length b.ring) b.ring (omega arith)

pub flush_stores : {tells : Bool} (files : Files) (faults : ℕ) (b c : Around) (w : Seen) (after : Files) (disk : List Message) (answer : Flushed) {v0 v : Seen} → v0 ≡ v → IsTrue tells → OnDisk v.backlog.queue files disk
    → Stores tells (flying_messages v0.flights) [] (around v0.backlog files faults) b → Stores tells (deferred_messages v0.deferred) [] b c → FlushSeen c.backlog w.backlog answer
    → ((disk : List Message) → OnDisk c.backlog.queue c.files disk → OnDisk w.backlog.queue after (disk_flushed c.backlog w.backlog disk)) → FlushStores (left_in_channel (seen_channel v disk)) v.about w after answer
flush_stores files faults b c w after disk FlushDone is told on flew waited seen list = λ durable.
    let all = waits_all files faults b c disk is told on flew waited in
    record {
      messages = all.to ++ map stored c.backlog.ring;
      on_disk = subst (OnDisk w.backlog.queue after) (all_written c.backlog w.backlog all.to (ring_emptied c.backlog w.backlog seen)) (list all.to all.on_disk);
      same = all.same;
    }
flush_stores files faults b c w after disk FlushFault is told on flew waited seen list = tt

-- nothing is in memory any more
pub flush_empties : (about : About) (b : Backlog) (answer : Flushed) (w : Seen) → FlushSeen b w.backlog answer → w.flights ≡ [] → w.deferred ≡ [] → FlushEmpties about w answer
flush_empties about b FlushDone w seen flights deferred = λ durable. record { ring = ring_emptied b w.backlog seen; flights = flights; deferred = deferred; saved = seen.1 }
flush_empties about b FlushFault w seen flights deferred = tt

-- all copies are gone
pub was_emptied : {files' : Files} (waits : List Message) {v0 v w : Seen} → v0 ≡ v → OnDisk w.backlog.queue files' [] → w.backlog.ring ≡ [] → w.flights ≡ [] → w.deferred ≡ []
    → w ≡ record v0 { backlog = w.backlog; flights = w.flights; deferred = w.deferred; spare = w.spare; deferred_spare = w.deferred_spare } → Leads (λ k k'. k' ≡ record k { copies = [] }) v waits w files'
was_emptied {files'} waits {v0} {v} {w} is on ring flights deferred rest = subst (λ (v : Seen). Leads (λ k k'. k' ≡ record k { copies = [] }) v waits w files') is (record {
  disk = [];
  on_disk = on;
  row = ap (λ (u : Seen). record (channel_with u waits) { copies = copies_of (queued_in w []) w.flights w.deferred }) rest
      ∙ (ap (λ (ring : List Message). record (channel_with v0 waits) { copies = copies_of (ring ++ []) w.flights w.deferred }) ring
      ∙ (ap (λ (fs : List Flight). record (channel_with v0 waits) { copies = copies_of [] fs w.deferred }) flights
      ∙ ap (λ (ws : List Waiting). record (channel_with v0 waits) { copies = copies_of [] [] ws }) deferred));
})

-- or none is
pub was_not_emptied : {files' : Files} (disk : List Message) {v0 v w : Seen} → v0 ≡ v → OnDisk w.backlog.queue files' disk → w.backlog.ring ≡ v0.backlog.ring → w ≡ record v0 { backlog = w.backlog } → Leads (λ k k'. k' ≡ k) v (queued_in v disk) w files'
was_not_emptied {files'} disk {v0} {v} {w} is on ring rest = subst (λ (v : Seen). Leads (λ k k'. k' ≡ k) v (queued_in v disk) w files') is (record {
  disk = disk;
  on_disk = on;
  row = ap (λ (u : Seen). record (channel_with u (queued_in w disk)) { copies = copies_of (queued_in w disk) u.flights u.deferred }) rest
      ∙ ap (λ (ring : List Message). channel_with v0 (ring ++ disk)) ring;
})

-- what a deferring that was refused gives back, and why
pub deferred_back : (now : ℕ) (m : Message) (v w : Seen) (answer : Offer) → Defers now m v w answer → OfferBack m answer
deferred_back now m v w Done d = tt
deferred_back now m v w (CameBack back) d = absurd d
deferred_back now m v w (WantsMemory back) d = d.0

some_delay : (n : ℕ) → n ≢ 0 → 0 < n
some_delay zero some = absurd (some refl)
some_delay (suc n) some = omega arith

pub deferred_fails : (before after now : ℕ) (m : Message) (v w : Seen) (answer : Offer) → m.delay ≢ 0 → Defers now m v w answer → OfferFails m.delay before after answer
deferred_fails before after now m v w Done some d = tt
deferred_fails before after now m v w (CameBack back) some d = absurd d
deferred_fails before after now m v w (WantsMemory back) some d = some_delay m.delay some

-- a fault of a flush with a rise, where the count never fell before
pub flush_fails : (before mid now : ℕ) (answer : Flushed) → before ≤ mid → FlushFails mid now answer → FlushFails before now answer
flush_fails before mid now FlushDone low fails = tt
flush_fails before mid now FlushFault low fails = rose_later before mid now low fails
