-- What taking, settling and undoing the head make of a topic of a state, and what paying makes of what is owed.
use Rattle.std.proofs.Common.{rules, ◌≡◌, ◌≢◌, ℕ, ◌+◌, Bool, true, false, nat_eq, inl, inr, List, [], ◌∷◌, ◌++◌, length, drop, map, Option, Some, None, refl, sym, ap, subst, ◌∙◌, arith, length-append}
use Rattle.std.specs.Prelude.{IfSome, IsSome}
use Rattle.std.proofs.lemmas.List.{length-map}
use Rattle.std.proofs.lemmas.Bool.{eq-eqb, false≢true}
use Rattle.std.proofs.lemmas.Bool.Decides.{eqb_tells}
use Rattle.v2_frame.specs.Written.{message_bytes}
use Rattle.nsq_outside.specs.Files.{Files}
use Rattle.v2_frame.specs.declared.message.Message.{Message}
use Rattle.backlog.specs.Queues.{Seen as Queue}
use Rattle.backlog.specs.Emptied.{Emptied}
use Rattle.backlog.specs.Emptied.TheVariants as emptying
use Rattle.backlog.specs.Seen.{Seen as Backlog, SameQueue, FindsNone, no_queue, no_record, EmptySeen, with_lent, undone, ring_depth, disk_depth, lent_of_ring}
use Rattle.backlog.specs.Lists.{OnDisk, IsFirstMessage, SettlesFirst, list_with, disk_emptied, disk_settled}
use Rattle.backlog.specs.declared.backlog.Lent.{Lent}
use Rattle.backlog.specs.declared.backlog.Lent.TheVariants.{Nothing, OfRing, OfDisk}
use Rattle.broker_history.specs.State.{Taken, Topic, Channel, is_empty}
use Rattle.broker_history.specs.Topics.{HasWaiting, without_name, still_owed, owed_no_more}
use Rattle.broker_history.proofs.Counting.{kept_taken}
use Rattle.topic_core.specs.Seen.{Seen, IsSettled, IsDrawn, with_owed}
use Rattle.topic_core.specs.Rows.{IsTopicOf, Becomes, Stays, TakesHead, Took, MayTake, emptied_where, waiting_with, taken_where}
use Rattle.topic_core.proofs.Waiting.{from_settled, to_settled, as_many, none_waiting, none_waits}

-- nothing is taken while a message is drawn, nor where there is no head
pub drawn_taken : (lent : Lent) (head : Option Taken) → lent ≢ Nothing → taken_where lent head ≡ None
drawn_taken Nothing head drawn = absurd (drawn refl)
drawn_taken OfRing head drawn = refl
drawn_taken OfDisk head drawn = refl

pub none_taken : (lent : Lent) → taken_where lent None ≡ None
none_taken Nothing = refl
none_taken OfRing = refl
none_taken OfDisk = refl

-- only the backlog changed, and its messages are the same: it is the same topic
pub same_topic : (old new : Seen) (before after : Files) → IsSettled old → IsSettled new → new ≡ record old { backlog = new.backlog } → new.backlog.ring ≡ old.backlog.ring
    → ((disk : List Message) → OnDisk old.backlog.queue before disk → OnDisk new.backlog.queue after disk) → Stays old before new after
same_topic old new before after settled now only ring list t is =
    let there = from_settled old before t settled is in
    to_settled new after t now (record {
      name = there.name ∙ sym (ap (λ (q : Seen). q.name) only);
      paused = there.paused ∙ sym (ap (λ (q : Seen). q.paused) only);
      message_count = there.message_count ∙ sym (ap (λ (q : Seen). q.message_count) only);
      taken = there.taken ∙ sym (ap (λ (q : Seen). q.head) only);
      disk = there.disk;
      on_disk = list there.disk there.on_disk;
      waiting = subst (λ xs. HasWaiting (xs ++ there.disk) t.waiting) (sym ring) there.waiting;
    })

-- none waits any more, or all wait still
pub emptied_topic : (old new : Seen) (before after : Files) (answer : Emptied) → IsSettled old → IsSettled new → new ≡ record old { backlog = new.backlog } → EmptySeen old.backlog new.backlog answer
    → ((disk : List Message) → OnDisk old.backlog.queue before disk → OnDisk new.backlog.queue after (disk_emptied disk answer)) → Becomes old before new after (emptied_where answer)
emptied_topic old new before after emptying.Done settled now only seen list t is =
    let there = from_settled old before t settled is in
    to_settled new after (record t { waiting = [] }) now (record {
      name = there.name ∙ sym (ap (λ (q : Seen). q.name) only);
      paused = there.paused ∙ sym (ap (λ (q : Seen). q.paused) only);
      message_count = there.message_count ∙ sym (ap (λ (q : Seen). q.message_count) only);
      taken = there.taken ∙ sym (ap (λ (q : Seen). q.head) only);
      disk = [];
      on_disk = list there.disk there.on_disk;
      waiting = subst (λ xs. HasWaiting (xs ++ []) []) (sym (ap (λ (b : Backlog). b.ring) seen.0)) none_waiting;
    })
emptied_topic old new before after emptying.Fault settled now only seen list t is =
    same_topic old new before after settled now only (ap (λ (b : Backlog). b.ring) seen.0) list t is

-- a head was drawn: it is the same topic still
pub drawn_topic : (old new : Seen) (before after : Files) (m : Message) (owed : List (List ℕ)) → old.head ≡ None → IsDrawn new → new ≡ record old { backlog = new.backlog; head = Some (record { message = m; owed = owed }) }
    → ((disk : List Message) → OnDisk old.backlog.queue before disk → OnDisk new.backlog.queue after disk)
    → ((disk : List Message) → OnDisk old.backlog.queue before disk → IsFirstMessage (old.backlog.ring ++ disk) m × (list_with new.backlog m disk ≡ old.backlog.ring ++ disk))
    → Stays old before new after
drawn_topic old new before after m owed none drawn is list gives t was =
    let head : new.head ≡ Some (record { message = m; owed = owed }) = ap (λ (q : Seen). q.head) is in
    let first = gives was.disk was.on_disk in
    let same : list_with new.backlog m was.disk ≡ waiting_with old.backlog old.head was.disk = first.1 ∙ sym (ap (λ h. waiting_with old.backlog h was.disk) none) in
    let now : waiting_with new.backlog new.head was.disk ≡ list_with new.backlog m was.disk = ap (λ h. waiting_with new.backlog h was.disk) head in
    record {
      name = was.name ∙ sym (ap (λ (q : Seen). q.name) is);
      paused = was.paused ∙ sym (ap (λ (q : Seen). q.paused) is);
      message_count = was.message_count ∙ sym (ap (λ (q : Seen). q.message_count) is);
      taken = was.taken ∙ ap (λ h. taken_where old.backlog.lent h) none ∙ none_taken old.backlog.lent ∙ sym (drawn_taken new.backlog.lent new.head drawn);
      disk = was.disk;
      on_disk = list was.disk was.on_disk;
      waiting = subst (λ xs. HasWaiting xs t.waiting) (sym (now ∙ same)) was.waiting;
      first = λ d. subst (λ h. IfSome h (λ (head : Taken). IsFirstMessage (waiting_with new.backlog h was.disk) head.message)) (sym head) (subst (λ xs. IsFirstMessage xs m) (sym first.1) first.0);
    }

-- the drawn head goes from those that wait, and is taken
pub head_taken : (old new : Seen) (before after : Files) (head : Taken) → old.head ≡ Some head → IsDrawn old → IsSettled new → new ≡ record old { backlog = new.backlog }
    → ((disk : List Message) → SettlesFirst old.backlog new.backlog disk)
    → ((disk : List Message) → OnDisk old.backlog.queue before disk → OnDisk new.backlog.queue after (disk_settled old.backlog.lent disk))
    → (t : Topic) → IsTopicOf old before t → TakesHead head new after t
head_taken old new before after head there drawn now only settles list t was =
    let all : waiting_with old.backlog old.head was.disk ≡ list_with old.backlog head.message was.disk = ap (λ h. waiting_with old.backlog h was.disk) there in
    let first : IsFirstMessage (list_with old.backlog head.message was.disk) head.message = subst (λ h. IfSome h (λ (k : Taken). IsFirstMessage (waiting_with old.backlog h was.disk) k.message)) there (was.first drawn) in
    let waiting = subst (λ xs. HasWaiting xs t.waiting) (all ∙ first.whole) was.waiting in
    let from = kept_taken head.message [] first.rest t.waiting waiting in
    let left : new.backlog.ring ++ disk_settled old.backlog.lent was.disk ≡ first.rest = settles was.disk head.message ∙ ap (drop 1) first.whole in
    record {
      before = from.before;
      waits = from.waits;
      after = from.after;
      was = from.was;
      fits = from.fits;
      none = was.taken ∙ drawn_taken old.backlog.lent old.head drawn;
      is = to_settled new after (record t { waiting = from.before ++ from.after; taken = Some head }) now (record {
        name = was.name ∙ sym (ap (λ (q : Seen). q.name) only);
        paused = was.paused ∙ sym (ap (λ (q : Seen). q.paused) only);
        message_count = was.message_count ∙ sym (ap (λ (q : Seen). q.message_count) only);
        taken = sym (ap (λ (q : Seen). q.head) only ∙ there);
        disk = disk_settled old.backlog.lent was.disk;
        on_disk = list was.disk was.on_disk;
        waiting = subst (λ xs. HasWaiting xs (from.before ++ from.after)) (sym left) from.left;
      });
    }

not_empty : {X : Type 0} (xs : List X) → xs ≢ [] → is_empty xs ≡ false
not_empty [] some = absurd (some refl)
not_empty (x ∷ xs) some = refl

none_of_none : {X Y : Type 0} (f : X → Y) (xs : List X) → xs ≡ [] → map f xs ≡ []
none_of_none f xs e = ap (map f) e

inside : {X : Type 0} (xs ys : List X) (x : X) → is_empty (xs ++ x ∷ ys) ≡ false
inside [] ys x = refl
inside (y ∷ xs) ys x = refl

-- that is the row of a message that is taken
pub head_took : (head : Taken) (new : Seen) (files : Files) (t : Topic) → head.owed ≢ [] → TakesHead head new files t → MayTake head t → Took head new files t
head_took head new files t owed takes_it may =
    let channels : is_empty t.channels ≡ false = not_empty t.channels (λ none. owed (sym may.owed ∙ none_of_none (λ (c : Channel). c.name) t.channels none)) in
    let waiting : is_empty t.waiting ≡ false = ap is_empty takes_it.was ∙ inside takes_it.before takes_it.after takes_it.waits in
    let to : Topic = record t { waiting = takes_it.before ++ takes_it.after; taken = Some head } in
    record {
      to = to;
      row = record {
        due = rw (may.goes_on, channels, waiting, takes_it.none) refl;
        before = takes_it.before;
        waits = takes_it.waits;
        after = takes_it.after;
        was = takes_it.was;
        fits = takes_it.fits;
        listed = refl;
        is = ap (λ owed. record t { waiting = takes_it.before ++ takes_it.after; taken = Some (record { message = head.message; owed = owed }) }) (sym may.owed);
      };
      is = takes_it.is;
    }

-- the drawn head is back: it is the same topic still
pub head_undone : (old new : Seen) (files : Files) (head : Taken) → old.head ≡ Some head → IsDrawn old → new ≡ record old { backlog = undone old.backlog head.message; head = None }
    → ((disk : List Message) → new.backlog.ring ++ disk ≡ list_with old.backlog head.message disk) → Stays old files new files
head_undone old new files head there drawn is first t was =
    let settled : IsSettled new = ap (λ (q : Seen). q.backlog.lent) is in
    let all : waiting_with old.backlog old.head was.disk ≡ list_with old.backlog head.message was.disk = ap (λ h. waiting_with old.backlog h was.disk) there in
    to_settled new files t settled (record {
      name = was.name ∙ sym (ap (λ (q : Seen). q.name) is);
      paused = was.paused ∙ sym (ap (λ (q : Seen). q.paused) is);
      message_count = was.message_count ∙ sym (ap (λ (q : Seen). q.message_count) is);
      taken = was.taken ∙ drawn_taken old.backlog.lent old.head drawn ∙ sym (ap (λ (q : Seen). q.head) is);
      disk = was.disk;
      on_disk = subst (λ (q : Option Queue). OnDisk q files was.disk) (sym (ap (λ (q : Seen). q.backlog.queue) is)) was.on_disk;
      waiting = subst (λ xs. HasWaiting xs t.waiting) (all ∙ sym (first was.disk)) was.waiting;
    })

-- only the head changed, where nothing is drawn: what was taken changed so
pub head_changed : (old new : Seen) (change : Option Taken → Option Taken) → IsSettled old → new ≡ record old { head = change old.head } → (files : Files) → Becomes old files new files (λ t. record t { taken = change t.taken })
head_changed old new change settled is files t was =
    let there = from_settled old files t settled was in
    let same : new.backlog ≡ old.backlog = ap (λ (q : Seen). q.backlog) is in
    to_settled new files (record t { taken = change t.taken }) (ap (λ (b : Backlog). b.lent) same ∙ settled) (record {
      name = there.name ∙ sym (ap (λ (q : Seen). q.name) is);
      paused = there.paused ∙ sym (ap (λ (q : Seen). q.paused) is);
      message_count = there.message_count ∙ sym (ap (λ (q : Seen). q.message_count) is);
      taken = ap change there.taken ∙ sym (ap (λ (q : Seen). q.head) is);
      disk = there.disk;
      on_disk = subst (λ (b : Backlog). OnDisk b.queue files there.disk) (sym same) there.on_disk;
      waiting = subst (λ (b : Backlog). HasWaiting (b.ring ++ there.disk) t.waiting) (sym same) there.waiting;
    })

-- only the pause changed
pub pause_changed : (old new : Seen) (on : Bool) → IsSettled old → new ≡ record old { paused = on } → (files : Files) → Becomes old files new files (λ t. record t { paused = on })
pause_changed old new on settled is files t was =
    let there = from_settled old files t settled was in
    let same : new.backlog ≡ old.backlog = ap (λ (q : Seen). q.backlog) is in
    to_settled new files (record t { paused = on }) (ap (λ (b : Backlog). b.lent) same ∙ settled) (record {
      name = there.name ∙ sym (ap (λ (q : Seen). q.name) is);
      paused = sym (ap (λ (q : Seen). q.paused) is);
      message_count = there.message_count ∙ sym (ap (λ (q : Seen). q.message_count) is);
      taken = there.taken ∙ sym (ap (λ (q : Seen). q.head) is);
      disk = there.disk;
      on_disk = subst (λ (b : Backlog). OnDisk b.queue files there.disk) (sym same) there.on_disk;
      waiting = subst (λ (b : Backlog). HasWaiting (b.ring ++ there.disk) t.waiting) (sym same) there.waiting;
    })

-- as many are on disk as the queue's depth says
disk_long : (queue : Option Queue) (files : Files) (disk : List Message) → OnDisk queue files disk → disk_depth queue ≡ length disk
disk_long None files disk on = sym (ap length on)
disk_long (Some q) files disk on = sym on.list.depth ∙ length-map disk message_bytes

lent_long : (lent : Lent) (m : Message) (ring disk : List Message) → length (with_lent lent m ring ++ disk) ≡ (length ring + lent_of_ring lent) + length disk
lent_long Nothing m ring disk = omega (arith, length-append ring disk)
lent_long OfRing m ring disk = omega (arith, length-append (m ∷ ring) disk)
lent_long OfDisk m ring disk = omega (arith, length-append ring disk)

other_lent : (lent : Lent) (ring disk : List Message) → lent ≡ Nothing → length (ring ++ disk) ≡ (length ring + lent_of_ring lent) + length disk
other_lent lent ring disk e = omega (arith, length-append ring disk, ap lent_of_ring e)

list_long : (b : Backlog) (head : Option Taken) (disk : List Message) → (head ≡ None → b.lent ≡ Nothing) → length (waiting_with b head disk) ≡ ring_depth b + length disk
list_long b None disk settled = other_lent b.lent b.ring disk (settled refl)
list_long b (Some head) disk settled = lent_long b.lent head.message b.ring disk

-- as many wait as are in memory and on disk
pub depths_count : (q : Seen) (files : Files) (t : Topic) → (q.head ≡ None → q.backlog.lent ≡ Nothing) → IsTopicOf q files t → ring_depth q.backlog + disk_depth q.backlog.queue ≡ length t.waiting
depths_count q files t settled is = omega (arith, as_many _ t.waiting is.waiting, list_long q.backlog q.head is.disk settled, disk_long q.backlog.queue files is.disk is.on_disk)

-- what holds of the head, whichever it is, holds of it where there is one
pub if_head : (h : Option Taken) (P : Taken → Type 0) → ((head : Taken) → h ≡ Some head → P head) → IfSome h P
if_head None P each = tt
if_head (Some head) P each = each head refl

-- what the fields of a topic's queue say of its head
pub no_head : (head : Option Message) (owed : List (List ℕ)) → with_owed head owed ≡ None → head ≡ None
no_head None owed e = refl
no_head (Some m) owed e = absurd cc

lent_nothing : (lent : Lent) (head : Option Message) → (lent ≢ Nothing → IsSome head) → head ≡ None → lent ≡ Nothing
lent_nothing Nothing head drawn none = refl
lent_nothing OfRing head drawn none = absurd (let some = drawn (λ e. cc) in cc)
lent_nothing OfDisk head drawn none = absurd (let some = drawn (λ e. cc) in cc)

pub settled_view : (lent : Lent) (head : Option Message) (owed : List (List ℕ)) → (lent ≢ Nothing → IsSome head) → with_owed head owed ≡ None → lent ≡ Nothing
settled_view lent head owed drawn none = lent_nothing lent head drawn (no_head head owed none)

pub owed_some : (head : Option Message) (owed : List (List ℕ)) (taken : Taken) → with_owed head owed ≡ Some taken → (IsSome head → owed ≢ []) → taken.owed ≢ []
owed_some None owed taken is some = absurd cc
owed_some (Some m) owed taken is some =
    let same : record { message = m; owed = owed } ≡ taken = cc in
    λ none. some (search rules) (ap (λ (t : Taken). t.owed) same ∙ none)

-- a channel struck from those that are owed
pub struck_last : (head : Option Message) (owed kept : List (List ℕ)) (channel : List ℕ) → kept ≡ without_name owed channel → kept ≡ [] → None ≡ owed_no_more (with_owed head owed) channel
struck_last None owed kept channel is none = refl
struck_last (Some m) owed kept channel is none = ap (still_owed m) (sym none ∙ is)

still : (m : Message) (kept : List (List ℕ)) → kept ≢ [] → Some (record { message = m; owed = kept }) ≡ still_owed m kept
still m [] some = absurd (some refl)
still m (name ∷ names) some = refl

pub struck_one : (head : Option Message) (owed kept : List (List ℕ)) (channel : List ℕ) → kept ≡ without_name owed channel → kept ≢ [] → with_owed head kept ≡ owed_no_more (with_owed head owed) channel
struck_one None owed kept channel is some = refl
struck_one (Some m) owed kept channel is some = still m kept some ∙ ap (still_owed m) is

-- whether none waits, by how many are in memory and on disk
pub some_count : {X : Type 0} (xs : List X) (ring disk : ℕ) → ring + disk ≡ length xs → ring ≢ 0 → false ≡ is_empty xs
some_count [] ring disk e some = absurd (some (omega (arith, e)))
some_count (x ∷ xs) ring disk e some = refl

pub none_count : {X : Type 0} (xs : List X) (ring disk : ℕ) → ring + disk ≡ length xs → ring ≡ 0 → nat_eq disk 0 ≡ is_empty xs
none_count [] ring disk e none = eq-eqb disk 0 (omega (arith, e, none))
none_count (x ∷ xs) ring disk e none = elim (eqb_tells disk 0) [ inl t ↦ absurd (omega (arith, e, none, t.1)) | inr t ↦ t.0 ]

pub is_nothing : {X : Type 0} (xs : List X) → is_empty xs ≡ true → xs ≡ []
is_nothing [] e = refl
is_nothing (x ∷ xs) e = absurd (false≢true e)

pub is_something : {X : Type 0} (xs : List X) → is_empty xs ≡ false → xs ≢ []
is_something xs e none = false≢true (sym e ∙ ap is_empty none)

-- a queue is the same as itself
pub same_queue : (q : Option Queue) → SameQueue q q
same_queue None = tt
same_queue (Some q) = record { name = refl; options = refl }

-- where none was found the ring is as it was
pub none_ring : (old new : Backlog) → FindsNone old new → new.ring ≡ old.ring
none_ring old new (no_queue empty none same) = ap (λ (b : Backlog). b.ring) same
none_ring old new (no_record peeks) = ap (λ (b : Backlog). b.ring) peeks.is

-- the backlog was looked into, and room was made for the channels: nothing else changed
pub looked : (name : List ℕ) (paused : Bool) (count : ℕ) (b0 b1 : Backlog) (head : Option Message) (owed room : List (List ℕ)) (old : Seen)
    → record { name = name; paused = paused; message_count = count; backlog = b0; head = with_owed head owed } ≡ old → room ≡ owed
    → record { name = name; paused = paused; message_count = count; backlog = b1; head = with_owed head room } ≡ record old { backlog = b1 }
looked name paused count b0 b1 head owed room old view same =
    ap (λ (xs : List (List ℕ)). record { name = name; paused = paused; message_count = count; backlog = b1; head = with_owed head xs }) same ∙ ap (λ (q : Seen). record q { backlog = b1 }) view

-- a message was drawn, and is owed to these channels
pub headed : (name : List ℕ) (paused : Bool) (count : ℕ) (b0 b1 : Backlog) (head : Option Message) (owed : List (List ℕ)) (m : Message) (now channels : List (List ℕ)) (old : Seen)
    → record { name = name; paused = paused; message_count = count; backlog = b0; head = with_owed head owed } ≡ old → now ≡ channels
    → record { name = name; paused = paused; message_count = count; backlog = b1; head = Some (record { message = m; owed = now }) } ≡ record old { backlog = b1; head = Some (record { message = m; owed = channels }) }
headed name paused count b0 b1 head owed m now channels old view same =
    ap (λ (xs : List (List ℕ)). record { name = name; paused = paused; message_count = count; backlog = b1; head = Some (record { message = m; owed = xs }) }) same
    ∙ ap (λ (q : Seen). record q { backlog = b1; head = Some (record { message = m; owed = channels }) }) view

-- the drawn message, which is this one, is back
pub undone_head : (name : List ℕ) (paused : Bool) (count : ℕ) (b0 b1 : Backlog) (head after : Option Message) (owed cleared : List (List ℕ)) (m : Message) (old : Seen)
    → record { name = name; paused = paused; message_count = count; backlog = b0; head = with_owed head owed } ≡ old → after ≡ None → b1 ≡ undone b0 m → (taken k : Taken) → old.head ≡ Some taken → old.head ≡ Some k → taken.message ≡ m
    → record { name = name; paused = paused; message_count = count; backlog = b1; head = with_owed after cleared } ≡ record old { backlog = undone old.backlog k.message; head = None }
undone_head name paused count b0 b1 head after owed cleared m old view gone is taken k there here same =
    let one : taken ≡ k = let both : Some taken ≡ Some k = sym there ∙ here in cc in
    ap (λ (h : Option Message). record { name = name; paused = paused; message_count = count; backlog = b1; head = with_owed h cleared }) gone
    ∙ ap (λ (b : Backlog). record { name = name; paused = paused; message_count = count; backlog = b; head = None }) is
    ∙ ap (λ (q : Seen). record q { backlog = undone q.backlog m; head = None }) view
    ∙ ap (λ (n : Message). record old { backlog = undone old.backlog n; head = None }) (sym same ∙ ap (λ (t : Taken). t.message) one)

-- without a head nothing is drawn
pub settled_old : (name : List ℕ) (paused : Bool) (count : ℕ) (b : Backlog) (head : Option Message) (owed : List (List ℕ)) (old : Seen)
    → record { name = name; paused = paused; message_count = count; backlog = b; head = with_owed head owed } ≡ old → (b.lent ≢ Nothing → IsSome head) → old.head ≡ None → IsSettled old
settled_old name paused count b head owed old view drawn none = sym (ap (λ (q : Seen). q.backlog.lent) view) ∙ settled_view b.lent head owed drawn (ap (λ (q : Seen). q.head) view ∙ none)

-- where there was no head, these channels alone are owed
pub owed_now : (head : Option Message) (was room channels owed : List (List ℕ)) → with_owed head was ≡ None → (head ≡ None → was ≡ []) → room ≡ was → owed ≡ room ++ channels → owed ≡ channels
owed_now head was room channels owed none nothing same is = is ∙ ap (λ (xs : List (List ℕ)). xs ++ channels) (same ∙ nothing (no_head head was none))

-- nothing was drawn since none waits
pub drawn_none : (q : Seen) (files : Files) (t : Topic) → q.head ≡ None → ((disk : List Message) → OnDisk q.backlog.queue files disk → q.backlog.ring ++ disk ≡ []) → IsTopicOf q files t → t.waiting ≡ []
drawn_none q files t none gives is = none_waits _ t.waiting is.waiting (ap (λ h. length (waiting_with q.backlog h is.disk)) none ∙ ap length (gives is.disk is.on_disk))
