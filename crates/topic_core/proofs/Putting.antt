-- What putting messages makes of a topic of a state.
use Rattle.std.proofs.Common.{◌≡◌, ℕ, ◌+◌, ◌-◌, ◌^◌, ◌≤◌, ◌<◌, inl, inr, Bool, true, false, not, ◌&&◌, nat_le, if◌then◌else◌, List, [], ◌∷◌, ◌++◌, length, take, drop, map, Option, Some, None, refl, sym, ap, subst, ◌∙◌, arith, zero, suc, length-append, append_assoc}
use Rattle.std.specs.Prelude.{is_some}
use Rattle.std.proofs.lemmas.Bool.{le-leb, false≢true}
use Rattle.std.proofs.lemmas.Bool.Decides.{leb_tells}
use Rattle.std.proofs.lemmas.List.{append-nil}
use Rattle.nsq_base.specs.Name.{is_ephemeral}
use Rattle.nsq_outside.specs.Files.{Files}
use Rattle.v2_frame.specs.declared.message.Message.{Message}
use Rattle.backlog.specs.Queues.{Seen as Queue}
use Rattle.backlog.specs.Seen.{Seen as Backlog, room, ring_depth, lent_of_ring}
use Rattle.backlog.specs.declared.backlog.Lent.TheVariants.{Nothing}
use Rattle.backlog.specs.Lists.{OnDisk, stored, spilled, disk_after_all}
use Rattle.backlog.specs.declared.answers.PutAll.TheVariants.{Done as AllDone}
use Rattle.broker_history.specs.State.{Waiting, Topic, counted}
use Rattle.broker_history.specs.Topics.{Fits, HasWaiting, with_waiting, is_full, put_message}
use Rattle.topic_core.specs.Seen.{Seen, IsSettled, counted_by, kept_of}
use Rattle.topic_core.specs.Kept.{IsNamed}
use Rattle.topic_core.specs.Answers.{PutsAll}
use Rattle.topic_core.specs.Rows.{Becomes, put_messages, put_where}
use Rattle.topic_core.proofs.Waiting.{inserted, as_many, IsSettledTopic, from_settled, to_settled}

-- so many messages joined those that waited in the topic, which has these now
pub record Joined (t t' : Topic) (more : ℕ) (ms : List Message) : Type 0 where
  pub name : t'.name ≡ t.name
  pub paused : t'.paused ≡ t.paused
  pub taken : t'.taken ≡ t.taken
  pub message_count : t'.message_count ≡ counted_by t.message_count more
  pub waiting : HasWaiting ms t'.waiting

-- none did
joined_none : (t : Topic) (ms : List Message) → t.message_count ≤ 2 ^ 64 - 1 → HasWaiting ms t.waiting → Joined t t 0 ms
joined_none t ms within h = record { name = refl; paused = refl; taken = refl; message_count = omega (arith, within); waiting = h }

-- one did, and then the others
joined_more : (t u : Topic) (m : Message) (loose : Bool) (more : ℕ) (ms ns : List Message) → ms ≡ ns → Joined (with_waiting t m loose) u more ms → Joined t u (suc more) ns
joined_more t u m loose more ms ns same j = record {
  name = j.name;
  paused = j.paused;
  taken = j.taken;
  message_count = omega (arith, j.message_count);
  waiting = subst (λ xs. HasWaiting xs u.waiting) same j.waiting;
}

-- a message that disk gives back fits one that is loose, and one that stays in memory fits any
fits_itself : (m : Message) (loose : Bool) → Fits (record { message = m; loose = loose }) m
fits_itself m loose = record { same = refl; delay = inl refl }

fits_stored : (m : Message) (loose : Bool) → loose ≡ true → Fits (record { message = m; loose = loose }) (stored m)
fits_stored m loose e = record { same = refl; delay = inr (e, refl) }

full_at : (cap n : ℕ) → cap ≤ n → nat_le cap n ≡ true
full_at cap n h = le-leb cap n h

not_full_at : (cap n : ℕ) → n < cap → nat_le cap n ≡ false
not_full_at cap n h = elim (leb_tells cap n) [ inl t ↦ absurd (omega (arith, h, t.1)) | inr t ↦ t.0 ]

-- as many wait as are in the ring and on disk
both_long : (R D : List Message) (W : List Waiting) → HasWaiting (R ++ D) W → length W ≡ length R + length D
both_long R D W h = as_many (R ++ D) W h ∙ length-append R D

-- putting into a durable topic
put_kept : (cap : ℕ) (t : Topic) (m : Message) → is_ephemeral t.name ≡ false → put_message cap t m ≡ with_waiting t m (is_full cap t)
put_kept cap t m e = ap (λ b. if b && is_full cap t then t else with_waiting t m (is_full cap t)) e

-- putting into an ephemeral one
put_one : (cap : ℕ) (t : Topic) (m : Message) (b : Bool) → is_ephemeral t.name ≡ true → is_full cap t ≡ b → put_message cap t m ≡ (if b then t else with_waiting t m b)
put_one cap t m b e f = ap (λ a. if a && is_full cap t then t else with_waiting t m (is_full cap t)) e ∙ ap (λ c. if c then t else with_waiting t m c) f

counted_within : (count : ℕ) → counted count ≤ 2 ^ 64 - 1
counted_within count = omega arith

-- a durable topic takes all: the first into its ring, as many as that has room for, and the others on disk
pub put_durable : (cap k : ℕ) (ms R D : List Message) (t : Topic) → is_ephemeral t.name ≡ false → cap ≡ k + length R → t.message_count ≤ 2 ^ 64 - 1 → HasWaiting (R ++ D) t.waiting
    → Joined t (put_messages cap t ms) (length ms) ((R ++ take k ms) ++ (D ++ map stored (drop k ms)))
put_durable cap zero [] R D t e c within h = joined_none t _ within (subst (λ xs. HasWaiting xs t.waiting) (ap (λ xs. xs ++ D) (sym (append-nil R)) ∙ ap (λ xs. (R ++ []) ++ xs) (sym (append-nil D))) h)
put_durable cap (suc k) [] R D t e c within h = joined_none t _ within (subst (λ xs. HasWaiting xs t.waiting) (ap (λ xs. xs ++ D) (sym (append-nil R)) ∙ ap (λ xs. (R ++ []) ++ xs) (sym (append-nil D))) h)
put_durable cap zero (m ∷ ms) R D t e c within h =
    let full = is_full cap t in
    let is_so : full ≡ true = full_at cap (length t.waiting) (omega (arith, c, both_long R D t.waiting h)) in
    let put = inserted (R ++ D) [] (stored m) t.waiting (record { message = m; loose = full }) (fits_stored m full is_so) (subst (λ xs. HasWaiting xs t.waiting) (sym (append-nil (R ++ D))) h) in
    let rest = put_durable cap zero ms R (D ++ stored m ∷ []) (with_waiting t m full) e c (counted_within t.message_count)
    (subst (λ xs. HasWaiting xs (t.waiting ++ record { message = m; loose = full } ∷ [])) (append_assoc R D (stored m ∷ [])) put) in
    subst (λ u. Joined t (put_messages cap u ms) (suc (length ms)) ((R ++ []) ++ (D ++ map stored (m ∷ ms)))) (sym (put_kept cap t m e))
    (joined_more t (put_messages cap (with_waiting t m full) ms) m full (length ms) _ _ (ap (λ xs. (R ++ []) ++ xs) (append_assoc D (stored m ∷ []) (map stored ms))) rest)
put_durable cap (suc k) (m ∷ ms) R D t e c within h =
    let full = is_full cap t in
    let put = inserted R D m t.waiting (record { message = m; loose = full }) (fits_itself m full) h in
    let rest = put_durable cap k ms (R ++ m ∷ []) D (with_waiting t m full) e (omega (arith, c, length-append R (m ∷ []))) (counted_within t.message_count)
    (subst (λ xs. HasWaiting xs (t.waiting ++ record { message = m; loose = full } ∷ [])) (sym (append_assoc R (m ∷ []) D)) put) in
    subst (λ u. Joined t (put_messages cap u ms) (suc (length ms)) ((R ++ m ∷ take k ms) ++ (D ++ map stored (drop k ms)))) (sym (put_kept cap t m e))
    (joined_more t (put_messages cap (with_waiting t m full) ms) m full (length ms) _ _ (ap (λ xs. xs ++ (D ++ map stored (drop k ms))) (append_assoc R (m ∷ []) (take k ms))) rest)

-- an ephemeral topic takes as many as its ring has room for
pub put_ephemeral : (cap k : ℕ) (ms R : List Message) (t : Topic) → is_ephemeral t.name ≡ true → cap ≡ k + length R → t.message_count ≤ 2 ^ 64 - 1 → HasWaiting R t.waiting
    → Joined t (put_messages cap t ms) (length (take k ms)) (R ++ take k ms)
put_ephemeral cap zero [] R t e c within h = joined_none t _ within (subst (λ xs. HasWaiting xs t.waiting) (sym (append-nil R)) h)
put_ephemeral cap (suc k) [] R t e c within h = joined_none t _ within (subst (λ xs. HasWaiting xs t.waiting) (sym (append-nil R)) h)
put_ephemeral cap zero (m ∷ ms) R t e c within h =
    let full : is_full cap t ≡ true = full_at cap (length t.waiting) (omega (arith, c, as_many R t.waiting h)) in
    subst (λ u. Joined t (put_messages cap u ms) 0 (R ++ [])) (sym (put_one cap t m true e full)) (put_ephemeral cap zero ms R t e c within h)
put_ephemeral cap (suc k) (m ∷ ms) R t e c within h =
    let full : is_full cap t ≡ false = not_full_at cap (length t.waiting) (omega (arith, c, as_many R t.waiting h)) in
    let put = inserted R [] m t.waiting (record { message = m; loose = false }) (fits_itself m false) (subst (λ xs. HasWaiting xs t.waiting) (sym (append-nil R)) h) in
    let rest = put_ephemeral cap k ms (R ++ m ∷ []) (with_waiting t m false) e (omega (arith, c, length-append R (m ∷ []))) (counted_within t.message_count) put in
    subst (λ u. Joined t (put_messages cap u ms) (suc (length (take k ms))) (R ++ m ∷ take k ms)) (sym (put_one cap t m false e full))
    (joined_more t (put_messages cap (with_waiting t m false) ms) m false (length (take k ms)) _ _ (append_assoc R (m ∷ []) (take k ms)) rest)

-- the disk takes what found the ring full, where there is a queue
spilled_where : (queue : Option Queue) (ms : List Message) → is_some queue ≡ true → spilled queue ms ≡ map stored ms
spilled_where None ms e = absurd (false≢true e)
spilled_where (Some q) ms e = refl

none_on_disk : (queue : Option Queue) (files : Files) (disk : List Message) → is_some queue ≡ false → OnDisk queue files disk → disk ≡ []
none_on_disk None files disk e on = on
none_on_disk (Some q) files disk e on = absurd (false≢true (sym e))

none_spilled : (queue : Option Queue) (ms : List Message) → is_some queue ≡ false → spilled queue ms ≡ []
none_spilled None ms e = refl
none_spilled (Some q) ms e = absurd (false≢true (sym e))

module _ (old new : Seen) (before after : Files) (ms : List Message) (named : IsNamed old.name old.backlog) (within : length old.backlog.ring ≤ old.backlog.capacity) (count : old.message_count ≤ 2 ^ 64 - 1)
    (puts : PutsAll old new ms AllDone) (list : (disk : List Message) → OnDisk old.backlog.queue before disk → OnDisk new.backlog.queue after (disk_after_all old.backlog disk ms AllDone)) where
  ring_is : new.backlog.ring ≡ old.backlog.ring ++ take (room old.backlog) ms
  ring_is = ap (λ (b : Backlog). b.ring) puts.backlog.0

  -- the topic that so many joined is what the queue is now
  joined_topic : (t t' : Topic) (is : IsSettledTopic old before t) → Joined t t' (kept_of old ms) (new.backlog.ring ++ disk_after_all old.backlog is.disk ms AllDone) → IsSettledTopic new after t'
  joined_topic t t' is j = record {
    name = j.name ∙ is.name ∙ sym (ap (λ (q : Seen). q.name) puts.is);
    paused = j.paused ∙ is.paused ∙ sym (ap (λ (q : Seen). q.paused) puts.is);
    message_count = j.message_count ∙ ap (λ n. counted_by n (kept_of old ms)) is.message_count ∙ sym (ap (λ (q : Seen). q.message_count) puts.is);
    taken = j.taken ∙ is.taken ∙ sym (ap (λ (q : Seen). q.head) puts.is);
    disk = disk_after_all old.backlog is.disk ms AllDone;
    on_disk = list is.disk is.on_disk;
    waiting = j.waiting;
  }

  joined_as : (b : Bool) → is_ephemeral old.name ≡ b → (t : Topic) (is : IsSettledTopic old before t) → Joined t (put_messages old.backlog.capacity t ms) (kept_of old ms) (new.backlog.ring ++ disk_after_all old.backlog is.disk ms AllDone)
  joined_as true e t is =
      let absent : is_some old.backlog.queue ≡ false = named.durable ∙ ap not e in
      let none : is.disk ≡ [] = none_on_disk old.backlog.queue before is.disk absent is.on_disk in
      let kept : length (take (room old.backlog) ms) ≡ kept_of old ms = sym (ap (λ b. if b then length (take (room old.backlog) ms) else length ms) e) in
      let all : new.backlog.ring ++ disk_after_all old.backlog is.disk ms AllDone ≡ old.backlog.ring ++ take (room old.backlog) ms =
      ap (λ xs. new.backlog.ring ++ (is.disk ++ xs)) (none_spilled old.backlog.queue (drop (room old.backlog) ms) absent) ∙ ap (λ xs. new.backlog.ring ++ (xs ++ [])) none ∙ append-nil new.backlog.ring ∙ ring_is in
      let there = subst (λ xs. HasWaiting xs t.waiting) (ap (λ xs. old.backlog.ring ++ xs) none ∙ append-nil old.backlog.ring) is.waiting in
      let j = put_ephemeral old.backlog.capacity (room old.backlog) ms old.backlog.ring t (ap is_ephemeral is.name ∙ e) (omega (arith, within)) (subst (λ n. n ≤ 2 ^ 64 - 1) (sym is.message_count) count) there in
      subst (λ n. Joined t (put_messages old.backlog.capacity t ms) n (new.backlog.ring ++ disk_after_all old.backlog is.disk ms AllDone)) kept
      (subst (λ xs. Joined t (put_messages old.backlog.capacity t ms) (length (take (room old.backlog) ms)) xs) (sym all) j)
  joined_as false e t is =
      let there : is_some old.backlog.queue ≡ true = named.durable ∙ ap not e in
      let kept : length ms ≡ kept_of old ms = sym (ap (λ b. if b then length (take (room old.backlog) ms) else length ms) e) in
      let all : (old.backlog.ring ++ take (room old.backlog) ms) ++ (is.disk ++ map stored (drop (room old.backlog) ms)) ≡ new.backlog.ring ++ disk_after_all old.backlog is.disk ms AllDone =
      ap (λ xs. xs ++ (is.disk ++ map stored (drop (room old.backlog) ms))) (sym ring_is) ∙ ap (λ xs. new.backlog.ring ++ (is.disk ++ xs)) (sym (spilled_where old.backlog.queue (drop (room old.backlog) ms) there)) in
      let j = put_durable old.backlog.capacity (room old.backlog) ms old.backlog.ring is.disk t (ap is_ephemeral is.name ∙ e) (omega (arith, within)) (subst (λ n. n ≤ 2 ^ 64 - 1) (sym is.message_count) count) is.waiting in
      subst (λ n. Joined t (put_messages old.backlog.capacity t ms) n (new.backlog.ring ++ disk_after_all old.backlog is.disk ms AllDone)) kept
      (subst (λ xs. Joined t (put_messages old.backlog.capacity t ms) (length ms) xs) all j)

  -- putting all is the row of putting each
  pub put_done : IsSettled old → IsSettled new → Becomes old before new after (put_where old.backlog.capacity ms AllDone)
  put_done settled now t is =
      let there = from_settled old before t settled is in
      let t' = put_messages old.backlog.capacity t ms in
      to_settled new after t' now (joined_topic t t' there (joined_as (is_ephemeral old.name) refl t there))

-- how many were kept, by how many more are in the ring, or by how many came
pub kept_ephemeral : (old : Seen) (b : Backlog) (ms : List Message) (before after : ℕ) → is_ephemeral old.name ≡ true → old.backlog.lent ≡ Nothing → b.lent ≡ Nothing → before ≡ ring_depth old.backlog → after ≡ ring_depth b
    → b.ring ≡ old.backlog.ring ++ take (room old.backlog) ms → after - before ≡ kept_of old ms
kept_ephemeral old b ms before after e lent now was is ring =
    let more : after - before ≡ length (take (room old.backlog) ms) =
    omega (arith, was, is, ap lent_of_ring lent, ap lent_of_ring now, ap length ring, length-append old.backlog.ring (take (room old.backlog) ms)) in
    more ∙ sym (ap (λ b. if b then length (take (room old.backlog) ms) else length ms) e)

pub kept_durable : (old : Seen) (ms : List Message) → is_ephemeral old.name ≡ false → length ms ≡ kept_of old ms
kept_durable old ms e = sym (ap (λ b. if b then length (take (room old.backlog) ms) else length ms) e)

-- so the ring has at least as many after a put
pub ring_grows : (old new : Backlog) (more : List Message) → old.lent ≡ Nothing → new.lent ≡ Nothing → new.ring ≡ old.ring ++ more → ring_depth old ≤ ring_depth new
ring_grows old new more lent now ring = omega (arith, ap lent_of_ring lent, ap lent_of_ring now, ap length ring, length-append old.ring more)
