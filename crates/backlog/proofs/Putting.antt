-- Lemmas on putting.
use Rattle.std.proofs.Common.{◌≡◌, ℕ, ◌+◌, ◌-◌, ◌<◌, ◌≤◌, ◌⊎◌, inl, inr, List, [], ◌∷◌, ◌++◌, length, take, drop, map, get_or, Bool, IsTrue, IsSome, true, false, Option, Some, None, option_map, refl, sym, ap, subst, ◌∙◌, arith, length-append, append_assoc, reverse, ◌≢◌}
use Rattle.std.specs.List.{All}
use Rattle.circular_buffer.specs.Buffer.{Buffer, buffer, keep_last}
use Rattle.std.specs.Int.{to_be_bytes, w16, w64}
use Rattle.std.proofs.Math.Nat.{le_of_eq}
use Rattle.std.proofs.lemmas.List.{take_at, take_all, take_more, map-append, append-nil, length-drop, length-take-le, reverse-append}
use Rattle.std.proofs.lemmas.List.Elements.{All-nil, All-cons, All-push, All-append, All-map, All-weaker}
use Rattle.nsq_outside.specs.Causes.{Rose, CountsFault}
use Rattle.nsq_outside.specs.Files.{Files}
use Rattle.v2_frame.specs.declared.message.Message.{Message}
use Rattle.v2_frame.specs.Messages.{FitsItsBytes}
use Rattle.v2_frame.specs.Written.{message_bytes}
use Rattle.disk_queue.specs.Seen.{Seen as Queue, after_stage, after_put, after_save, one_more, unmarked, forgotten, begun_after, IsEarly}
use Rattle.disk_queue.specs.Holding.{Holds, SaveStands, OwnChange}
use Rattle.disk_queue.specs.Answers.{bodies_after, NotDueWhere, PutCounts, PutFails, PutTooLong, StageFails, StageTooLong, SyncCounts}
use Rattle.disk_queue.specs.declared.answers.Stage.{Stage}
use Rattle.disk_queue.specs.declared.answers.Stage.TheVariants as stage
use Rattle.disk_queue.specs.declared.answers.Sync.{Sync}
use Rattle.disk_queue.specs.declared.answers.Sync.TheVariants.{NotDue, Done, Failed}
use Rattle.disk_queue.specs.declared.answers.Put.{Put}
use Rattle.disk_queue.specs.declared.answers.Put.TheVariants.{Stored, Fault, TooLong}
use Rattle.disk_queue.proofs.Kept.{own_join}
use Rattle.backlog.specs.Seen.{Seen, QueueTakes, room, size_of, ForMessages, FitsLimit, staged_all, Spills, SpillsAll, Unstages, IsSameQueue, SameQueue}
use Rattle.backlog.specs.Kept.{IsSound, IsQueue, IsQueueWhere, IsLent}
use Rattle.backlog.specs.Lists.{OnDisk, Stands, spilled, DiskChanges, PutChanges, HoldsAll, IsStored, stored, disk_after}
use Rattle.backlog.specs.declared.backlog.Lent.{Lent}
use Rattle.backlog.specs.declared.backlog.Lent.TheVariants.{Nothing}
use Rattle.backlog.specs.declared.answers.PutOne.{PutOne}
use Rattle.backlog.specs.declared.answers.PutOne.TheVariants.{Spilled, Fault as Back}

-- the front of bytes that begin with these
pub front_is : (now front rest : List ℕ) (n m : ℕ) → now ≡ front ++ rest → n ≡ m → length front ≡ m → take n now ≡ front
front_is now front rest n m e same long = ap (take n) e ∙ take_at front rest n (long ∙ sym same)

-- how many bytes a message has
pub bytes_long : (message : Message) → length message.id ≡ 16 → length (message_bytes message) ≡ size_of message
bytes_long message sixteen = omega (arith, length-append (to_be_bytes w64 message.stamp ++ to_be_bytes w16 message.attempts) (message.id ++ message.body), length-append message.id message.body)

-- one more record staged is the last one
staged_last : (q : Queue) (sizes : List ℕ) (size : ℕ) → staged_all q (sizes ++ size ∷ []) ≡ after_stage (staged_all q sizes) size stage.Staged
staged_last q [] size = refl
staged_last q (first ∷ sizes) size = staged_last (after_stage q first stage.Staged) sizes size

-- staging leaves the name and the options
pub staged_name : (q : Queue) (sizes : List ℕ) → (staged_all q sizes).name ≡ q.name
staged_name q [] = refl
staged_name q (first ∷ sizes) = staged_name (after_stage q first stage.Staged) sizes

pub staged_options : (q : Queue) (sizes : List ℕ) → (staged_all q sizes).options ≡ q.options
staged_options q [] = refl
staged_options q (first ∷ sizes) = staged_options (after_stage q first stage.Staged) sizes

-- a queue in which a record was ever staged stays one
staged_begun : (q : Queue) (sizes : List ℕ) → IsTrue q.begun → IsTrue (staged_all q sizes).begun
staged_begun q [] begun = begun
staged_begun q (first ∷ sizes) begun = staged_begun (after_stage q first stage.Staged) sizes refl

-- dropping what was staged leaves the queue as it was, but that it has begun
staged_dropped : (q : Queue) (sizes : List ℕ) (begun : Bool) → forgotten (record (staged_all q sizes) { begun = begun }) ≡ forgotten (record q { begun = begun })
staged_dropped q [] begun = refl
staged_dropped q (first ∷ sizes) begun = staged_dropped (after_stage q first stage.Staged) sizes begun

-- the messages so far and the next one
pub next_front : (messages : List Message) (i : ℕ) (m : Message) → i < length messages → m ≡ get_or messages i m → take i messages ++ m ∷ [] ≡ take (i + 1) messages
next_front messages i m inside is = ap (λ (x : Message). take i messages ++ x ∷ []) is ∙ sym (take_more messages i m inside)

-- of a queue, these messages were staged in it, and nothing else changed
pub record Spilling (tells : Bool) (q r : Queue) (old new : Files) (done : List Message) : Type 0 where
  pub queue : r ≡ staged_all q (map size_of done)
  pub fits : All FitsItsBytes done
  pub list : IsTrue tells → (bodies : List (List ℕ)) → Holds q old bodies [] → Holds r new bodies (map message_bytes done)
  pub stands : IsTrue tells → SaveStands q old → SaveStands r new
  pub others : IsTrue tells → OwnChange q.name old new

pub spilling_none : (tells : Bool) (q : Queue) (files : Files) → Spilling tells q q files files []
spilling_none tells q files = record { queue = refl; fits = All-nil FitsItsBytes; list = λ told bodies h. h; stands = λ told s. s; others = λ told file other. refl }

-- the files' own changes join where the queue keeps its name
pub own_more : (q r : Queue) (sizes : List ℕ) (old mid new : Files) → r ≡ staged_all q sizes → OwnChange q.name old mid → OwnChange r.name mid new → OwnChange q.name old new
own_more q r sizes old mid new e a b = own_join q.name old mid new a (subst (λ (name : List ℕ). OwnChange name mid new) (ap (λ (x : Queue). x.name) e ∙ staged_name q sizes) b)

-- one more was staged
pub spilling_more : (tells : Bool) (q r s : Queue) (old mid new : Files) (done : List Message) (m : Message) (bytes : List ℕ) (n : ℕ) → Spilling tells q r old mid done
    → FitsItsBytes m → bytes ≡ message_bytes m → n ≡ size_of m → s ≡ after_stage r n stage.Staged
    → (IsTrue tells → (bodies waiting : List (List ℕ)) → Holds r mid bodies waiting → Holds s new bodies (waiting ++ bytes ∷ []))
    → (IsTrue tells → SaveStands r mid → SaveStands s new) → (IsTrue tells → OwnChange r.name mid new)
    → Spilling tells q s old new (done ++ m ∷ [])
spilling_more tells q r s old mid new done m bytes n before fits wrote size seen list stands others = record {
  queue = seen ∙ ap (λ (x : ℕ). after_stage r x stage.Staged) size ∙ ap (λ (x : Queue). after_stage x (size_of m) stage.Staged) before.queue ∙ sym (staged_last q (map size_of done) (size_of m))
      ∙ ap (staged_all q) (sym (map-append size_of done (m ∷ [])));
  fits = All-push FitsItsBytes done m before.fits fits;
  list = λ told bodies h. subst (λ (x : List (List ℕ)). Holds s new bodies x) (ap (λ (x : List ℕ). map message_bytes done ++ x ∷ []) wrote ∙ sym (map-append message_bytes done (m ∷ [])))
      (list told bodies (map message_bytes done) (before.list told bodies h));
  stands = λ told h. stands told (before.stands told h);
  others = λ told. own_more q r (map size_of done) old mid new before.queue (before.others told) (others told);
}

-- a stored message has the bytes of the message
stored_bytes : (messages : List Message) → map message_bytes (map stored messages) ≡ map message_bytes messages
stored_bytes [] = refl
stored_bytes (m ∷ messages) = ap (λ (x : List (List ℕ)). message_bytes m ∷ x) (stored_bytes messages)

pub bodies_stored : (disk messages : List Message) → map message_bytes disk ++ map message_bytes messages ≡ map message_bytes (disk ++ map stored messages)
bodies_stored disk messages = ap (λ (x : List (List ℕ)). map message_bytes disk ++ x) (sym (stored_bytes messages)) ∙ sym (map-append message_bytes disk (map stored messages))

-- messages that fit their bytes come back from disk as they are there
pub are_stored : (messages : List Message) → All FitsItsBytes messages → All IsStored (map stored messages)
are_stored messages fit = All-map IsStored stored messages (All-weaker FitsItsBytes (λ m. IsStored (stored m)) (λ m h. record { fits = record { stamp = h.stamp; attempts = h.attempts; id = h.id }; no_delay = refl }) messages fit)

pub holds_spilled : (q r : Queue) (old new : Files) (disk messages : List Message) → All FitsItsBytes messages
    → ((bodies : List (List ℕ)) → Holds q old bodies [] → Holds r new (bodies ++ map message_bytes messages) []) → HoldsAll q old disk → HoldsAll r new (disk ++ map stored messages)
holds_spilled q r old new disk messages fit list h = record {
  list = subst (λ (x : List (List ℕ)). Holds r new x []) (bodies_stored disk messages) (list (map message_bytes disk) h.list);
  stored = All-append IsStored disk (map stored messages) h.stored (are_stored messages fit);
}

-- a refused record takes no beginning back
begun_stays : (r : Queue) (answer : Stage) → IsTrue r.begun → IsTrue (begun_after r answer)
begun_stays r stage.Staged begun = refl
begun_stays r stage.Fault begun = begun
begun_stays r (stage.TooLong told) begun = begun

-- none joined it
pub unstaged_seen : (q r s t : Queue) (sizes : List ℕ) (n : ℕ) (answer : Stage) → r ≡ staged_all q sizes → s ≡ after_stage r n answer → t ≡ forgotten s → Unstages q t
unstaged_seen q r s t sizes n answer e seen now = record {
  begun = begun_after r answer;
  stays = λ begun. begun_stays r answer (subst (λ (x : Queue). IsTrue x.begun) (sym e) (staged_begun q sizes begun));
  is = now ∙ ap forgotten seen ∙ ap (λ (x : Queue). forgotten (record x { begun = begun_after r answer })) e ∙ staged_dropped q sizes (begun_after r answer);
}

-- a refusal is no staging
pub not_staged : (answer : Stage) → (answer ≡ stage.Fault) ⊎ ((told : ℕ) × (answer ≡ stage.TooLong told)) → answer ≢ stage.Staged
not_staged answer refused = λ same. elim refused [ inl e ↦ cc | inr e ↦ cc (e.1) ]

-- a record that isn't too long is refused only where the count of faults rose
pub stage_rose : (before mid now : ℕ) (limit size : ℕ) (answer : Stage) → before ≤ mid → size ≤ limit → StageTooLong limit size answer → StageFails mid now answer → answer ≢ stage.Staged → Rose before now
stage_rose before mid now limit size stage.Staged low short long fails refused = absurd (refused refl)
stage_rose before mid now limit size stage.Fault low short long fails refused = omega arith
stage_rose before mid now limit size (stage.TooLong told) low short long fails refused = absurd (omega (arith, long.0))

-- records of messages are within the queue's bounds while they are staged
pub options_kept : (q r : Queue) (sizes : List ℕ) → ForMessages q.options → r ≡ staged_all q sizes → ForMessages r.options
options_kept q r sizes options e = subst ForMessages (sym (ap (λ (x : Queue). x.options) e ∙ staged_options q sizes)) options

-- one of them is short
pub short_at : (messages : List Message) (i : ℕ) (m : Message) → All FitsLimit messages → i < length messages → m ≡ get_or messages i m → FitsLimit m
short_at messages i m short inside is = subst FitsLimit (sym is) (short i m inside)

-- the bytes that were written
pub written_long : (scratch : List ℕ) (n : ℕ) (m : Message) → n ≡ size_of m → n ≤ length scratch → length (take n scratch) ≡ size_of m
written_long scratch n m size within = length-take-le n scratch within ∙ size

-- a ring with room takes one more of what is left, from its end on
pub kept_more : (ring was rest all : List Message) (m : Message) (capacity : ℕ) → ring ++ reverse was ≡ all → was ≡ rest ++ m ∷ [] → length all ≤ capacity
    → keep_last capacity (ring ++ m ∷ []) ++ reverse rest ≡ all
kept_more ring was rest all m capacity whole last room =
    let split : ring ++ reverse was ≡ (ring ++ m ∷ []) ++ reverse rest = ap (λ (x : List Message). ring ++ reverse x) last ∙ ap (λ (x : List Message). ring ++ x) (reverse-append rest (m ∷ [])) ∙ sym (append_assoc ring (m ∷ []) (reverse rest)) in
    let long : length (ring ++ m ∷ []) - capacity ≡ 0 = omega (arith, length-append (ring ++ m ∷ []) (reverse rest), ap length split, ap length whole) in
    ap (λ (n : ℕ). drop n (ring ++ m ∷ []) ++ reverse rest) long ∙ sym split ∙ whole

pub keep_begins : (left : List Message) (len end : ℕ) → len ≡ length left → end ≡ len → length left + 0 ≡ end
keep_begins left len end is all = omega arith

-- none is left where each had its turn
pub kept_none : (left : List Message) (counter end : ℕ) → length left + counter ≡ end → end ≤ counter → left ≡ []
kept_none [] counter end left past = refl
kept_none (m ∷ ms) counter end left past = absurd (omega arith)

pub kept_all : (ring : Buffer Message) (left was more : List Message) (capacity counter end : ℕ) → ring.items ++ reverse left ≡ was ++ more → ring.capacity ≡ capacity → length left + counter ≡ end → end ≤ counter → ring ≡ buffer (was ++ more) capacity
kept_all ring left was more capacity counter end whole room sum past =
    let none : left ≡ [] = kept_none left counter end sum past in
    let all : ring.items ≡ was ++ more = sym (ap (λ (x : List Message). ring.items ++ reverse x) none ∙ append-nil ring.items) ∙ whole in
    ap (λ (x : List Message). buffer x ring.capacity) all ∙ ap (λ (n : ℕ). buffer (was ++ more) n) room

-- the queue that a backlog has, and the message that its ring hands back
module _ (queue : Option Queue) (q r : Queue) (old new : Files) (m back : Message) (is : queue ≡ Some q) (same : back ≡ m) where
  -- what is on disk after the message was put there
  pub put_listed : (disk : List Message) (bytes : List ℕ) (answer : Put) (sync : Sync) (out : PutOne) → answer ≡ Stored sync → out ≡ Spilled → FitsItsBytes back → bytes ≡ message_bytes back
      → ((bodies : List (List ℕ)) → Holds q old bodies [] → Holds r new (bodies_after bodies bytes answer) []) → OnDisk queue old disk → HoldsAll r new (disk_after disk m out)
  put_listed disk bytes answer sync out stored spilled fits wrote list on =
      let fit : FitsItsBytes m = subst FitsItsBytes same fits in
      let bytes_are : bytes ≡ message_bytes m = wrote ∙ ap message_bytes same in
      let step : (bodies : List (List ℕ)) → Holds q old bodies [] → Holds r new (bodies ++ message_bytes m ∷ []) []
      = λ bodies held. subst (λ (x : List ℕ). Holds r new (bodies ++ x ∷ []) []) bytes_are (subst (λ (x : Put). Holds r new (bodies_after bodies bytes x) []) stored (list bodies held)) in
      subst (λ (x : PutOne). HoldsAll r new (disk_after disk m x)) (sym spilled)
      (holds_spilled q r old new disk (m ∷ []) (All-cons FitsItsBytes m [] fit (All-nil FitsItsBytes)) step (subst (λ (x : Option Queue). OnDisk x old disk) is on))

  -- and after it was refused
  pub put_refused : (disk : List Message) (bytes : List ℕ) (answer : Put) (out : PutOne) → (answer ≡ Fault) ⊎ ((told : ℕ) × (answer ≡ TooLong told)) → out ≡ Back back
      → ((bodies : List (List ℕ)) → Holds q old bodies [] → Holds r new (bodies_after bodies bytes answer) []) → OnDisk queue old disk → HoldsAll r new (disk_after disk m out)
  put_refused disk bytes answer out refused handed list on =
      let all : HoldsAll q old disk = subst (λ (x : Option Queue). OnDisk x old disk) is on in
      let step : Holds r new (bodies_after (map message_bytes disk) bytes answer) [] = list (map message_bytes disk) all.list in
      let held : Holds r new (map message_bytes disk) [] = elim refused [
        | inl e ↦ subst (λ (x : Put). Holds r new (bodies_after (map message_bytes disk) bytes x) []) e step
        | inr e ↦ subst (λ (x : Put). Holds r new (bodies_after (map message_bytes disk) bytes x) []) e.1 step
      ] in
      subst (λ (x : PutOne). HoldsAll r new (disk_after disk m x)) (sym handed) (record { list = held; stored = all.stored })

  -- no file but the queue's own changes by either
  pub put_changed : (out : PutOne) → (out ≡ Spilled) ⊎ (out ≡ Back back) → OwnChange q.name old new → PutChanges queue old new out
  put_changed out came own =
      let changes : DiskChanges queue old new = subst (λ (x : Option Queue). DiskChanges x old new) (sym is) own in
      elim came [
        | inl e ↦ subst (PutChanges queue old new) (sym e) changes
        | inr e ↦ subst (PutChanges queue old new) (sym e) changes
      ]

-- a queue of the same name and options where records joined it
spills_same : (q r : Queue) (sizes : List ℕ) → SpillsAll q r sizes → IsSameQueue q r
spills_same q r sizes h = record {
  name = ap (λ (x : Queue). x.name) h.is ∙ staged_name q sizes;
  options = ap (λ (x : Queue). x.options) h.is ∙ staged_options q sizes;
}

-- where a backlog's queue takes them
module _ (old new : Option Queue) (q r : Queue) (sizes : List ℕ) (was : old ≡ Some q) (now : new ≡ Some r) (spills : SpillsAll q r sizes) where
  pub queue_same : SameQueue old new
  queue_same = subst (λ (x : Option Queue). SameQueue x new) (sym was) (subst (λ (x : Option Queue). SameQueue (Some q) x) (sym now) (spills_same q r sizes spills))

  pub queue_sound : r.staged.count ≡ 0 → IsQueueWhere old → IsQueueWhere new
  queue_sound none sound =
      let before : IsQueue q = subst IsQueueWhere was sound in
      let after : IsQueue r = record { options = subst ForMessages (sym (spills_same q r sizes spills).options) before.options; none_staged = none } in
      subst IsQueueWhere (sym now) after

pub same_queue : (queue : Option Queue) → SameQueue queue queue
same_queue None = tt
same_queue (Some q) = record { name = refl; options = refl }

-- no file changes where none did
pub disk_same : (queue : Option Queue) (files : Files) → DiskChanges queue files files
disk_same None files = λ file. refl
disk_same (Some q) files = λ file other. refl

-- the ring took the message
pub put_kept : (old : Seen) (items : List Message) (capacity : ℕ) (queue : Option Queue) (lent : Lent) (ring : Buffer Message) (m : Message)
    → record { ring = items; capacity = capacity; queue = queue; lent = lent } ≡ old → ring ≡ buffer (items ++ m ∷ []) capacity
    → record { ring = ring.items; capacity = ring.capacity; queue = queue; lent = lent } ≡ record old { ring = old.ring ++ m ∷ [] }
put_kept old items capacity queue lent ring m view is =
    ap (λ (b : Buffer Message). record { ring = b.items; capacity = b.capacity; queue = queue; lent = lent }) is ∙ ap (λ (b : Seen). record b { ring = b.ring ++ m ∷ [] }) view

-- a ring that takes no more than it has room for stays sound
pub sound_more : (ring : Buffer Message) (old more : List Message) (capacity : ℕ) (queue : Option Queue) (lent : Lent) → ring ≡ buffer (old ++ more) capacity
    → length old ≤ capacity → All FitsLimit old → length more ≤ capacity - length old → All FitsLimit more → IsQueueWhere queue → lent ≡ Nothing → IsSound ring.items ring.capacity queue lent
sound_more ring old more capacity queue lent is within short room fits q free =
    subst (λ (b : Buffer Message). IsSound b.items b.capacity queue lent) (sym is)
    (record {
      within = omega (arith, length-append old more);
      short = All-append FitsLimit old more short fits;
      queue = q;
      lent = subst (λ (l : Lent). IsLent (old ++ more) capacity queue l) (sym free) tt;
    })

-- what stands behind a place
pub rest_of : (xs ys : List Message) (n m : ℕ) → xs ≡ ys → n ≡ m → take (length xs - n) (drop n xs) ≡ drop m ys
rest_of xs ys n m e same = take_all (length xs - n) (drop n xs) (omega (arith, length-drop n xs)) ∙ ap (drop n) e ∙ ap (λ (k : ℕ). drop k ys) same

spilled_none : (queue : Option Queue) (rest : List Message) → (rest ≡ []) ⊎ (queue ≡ None) → spilled queue rest ≡ []
spilled_none None rest either = refl
spilled_none (Some q) rest (inl none) = ap (map stored) none
spilled_none (Some q) rest (inr e) = let contra : Some q ≡ None = e in cc

takes_same : (queue : Option Queue) (rest : List Message) → (rest ≡ []) ⊎ (queue ≡ None) → QueueTakes queue queue rest
takes_same None rest either = tt
takes_same (Some q) rest (inl none) = subst (λ (ms : List Message). QueueTakes (Some q) (Some q) ms) (sym none) refl
takes_same (Some q) rest (inr e) = let contra : Some q ≡ None = e in cc

-- what became of the messages for which the ring had no room
pub record Placed (tells : Bool) (old new : Option Queue) (before after : Files) (first last : ℕ) (rest : List Message) : Type 0 where
  pub takes : QueueTakes old new rest
  pub list : IsTrue tells → (disk : List Message) → OnDisk old before disk → OnDisk new after (disk ++ spilled old rest)
  pub stands : IsTrue tells → Stands old before → Stands new after
  pub faults : first ≤ last

-- there were none, or there is no disk
pub placed_nowhere : (tells : Bool) (queue : Option Queue) (files : Files) (faults : ℕ) (rest : List Message) → (rest ≡ []) ⊎ (queue ≡ None) → Placed tells queue queue files files faults faults rest
placed_nowhere tells queue files faults rest either = record {
  takes = takes_same queue rest either;
  list = λ told disk. subst (λ (ms : List Message). OnDisk queue files disk → OnDisk queue files ms) (sym (ap (λ (ms : List Message). disk ++ ms) (spilled_none queue rest either) ∙ append-nil disk)) (λ on. on);
  stands = λ told stood. stood;
  faults = le_of_eq refl;
}

-- or they went to disk
takes_spilled : (q r : Queue) (rest : List Message) → 0 < length rest → SpillsAll q r (map size_of rest) → QueueTakes (Some q) (Some r) rest
takes_spilled q r [] some spills = absurd (omega (arith, some))
takes_spilled q r (m ∷ ms) some spills = spills

pub placed_behind : (tells : Bool) (queue : Option Queue) (q r : Queue) (before after : Files) (first last : ℕ) (rest : List Message) → queue ≡ Some q → 0 < length rest → SpillsAll q r (map size_of rest)
    → (IsTrue tells → (disk : List Message) → HoldsAll q before disk → HoldsAll r after (disk ++ map stored rest)) → (IsTrue tells → SaveStands q before → SaveStands r after) → first ≤ last
    → Placed tells queue (Some r) before after first last rest
placed_behind tells queue q r before after first last rest is some spills list stands faults =
    subst (λ (x : Option Queue). Placed tells x (Some r) before after first last rest) (sym is)
    (record { takes = takes_spilled q r rest some spills; list = list; stands = stands; faults = faults })

-- the ring took those for which it has room
pub put_all_ring : (old : Seen) (items : List Message) (capacity : ℕ) (was queue : Option Queue) (before lent : Lent) (ring : Buffer Message) (more messages : List Message)
    → record { ring = items; capacity = capacity; queue = was; lent = before } ≡ old → ring ≡ buffer (items ++ more) capacity → more ≡ take (capacity - length items) messages → lent ≡ before
    → record { ring = ring.items; capacity = ring.capacity; queue = queue; lent = lent } ≡ record old { ring = old.ring ++ take (room old) messages; queue = queue }
put_all_ring old items capacity was queue before lent ring more messages view is front free =
    ap (λ (b : Buffer Message). record { ring = b.items; capacity = b.capacity; queue = queue; lent = lent }) is
    ∙ ap (λ (xs : List Message). record { ring = items ++ xs; capacity = capacity; queue = queue; lent = lent }) front
    ∙ ap (λ (l : Lent). record { ring = items ++ take (capacity - length items) messages; capacity = capacity; queue = queue; lent = l }) free
    ∙ ap (λ (b : Seen). record b { ring = b.ring ++ take (room b) messages; queue = queue }) view

-- a message that the ring hands back to a backlog with a queue
pub put_same : (queue : Option Queue) (q r : Queue) → queue ≡ Some q → r.name ≡ q.name → r.options ≡ q.options → SameQueue queue (Some r)
put_same queue q r is name options = subst (λ (x : Option Queue). SameQueue x (Some r)) (sym is) (record { name = name; options = options })

pub put_beside : (old : Seen) (was : Buffer Message) (queue : Option Queue) (lent : Lent) (q : Queue) → record { ring = was.items; capacity = was.capacity; queue = queue; lent = lent } ≡ old
    → was.capacity ≤ length was.items → queue ≡ Some q → (old.capacity ≤ length old.ring) × IsSome old.queue
put_beside old was queue lent q view full is = subst (λ (b : Seen). (b.capacity ≤ length b.ring) × IsSome b.queue) view (full, subst IsSome (sym is) refl)

pub put_spills : (old : Seen) (was ring : Buffer Message) (queue : Option Queue) (lent : Lent) (q r : Queue) (m back : Message) (n : ℕ) (sync : Sync)
    → record { ring = was.items; capacity = was.capacity; queue = queue; lent = lent } ≡ old → ring ≡ was → queue ≡ Some q → n ≡ size_of back → back ≡ m
    → r ≡ after_save (one_more q n) sync → NotDueWhere (IsEarly (one_more q n)) sync
    → Spills old (record { ring = ring.items; capacity = ring.capacity; queue = Some r; lent = lent }) (size_of m)
put_spills old was ring queue lent q r m back n sync view stays is long same seen due =
    let size : n ≡ size_of m = long ∙ ap size_of same in
    record {
      queue = q;
      was = ap (λ (b : Seen). b.queue) (sym view) ∙ is;
      sync = sync;
      is = ap (λ (b : Buffer Message). record { ring = b.items; capacity = b.capacity; queue = Some r; lent = lent }) stays
          ∙ ap (λ (x : Queue). record { ring = was.items; capacity = was.capacity; queue = Some x; lent = lent }) seen
          ∙ ap (λ (k : ℕ). record { ring = was.items; capacity = was.capacity; queue = Some (after_save (one_more q k) sync); lent = lent }) size
          ∙ ap (λ (b : Seen). record b { queue = Some (after_save (one_more q (size_of m)) sync) }) view;
      due = subst (λ (k : ℕ). NotDueWhere (IsEarly (one_more q k)) sync) size due;
    }

-- a refusal is no record that joined the queue
pub not_put : (answer : Put) → (answer ≡ Fault) ⊎ ((told : ℕ) × (answer ≡ TooLong told)) → (sync : Sync) → answer ≢ Stored sync
not_put answer refused sync = λ same. elim refused [ inl e ↦ cc | inr e ↦ cc (e.1) ]

unmarked_put : (q r : Queue) (size : ℕ) (answer : Put) → ((sync : Sync) → answer ≢ Stored sync) → r ≡ after_put q size answer → r ≡ unmarked q
unmarked_put q r size (Stored sync) refused seen = absurd (refused sync refl)
unmarked_put q r size Fault refused seen = seen
unmarked_put q r size (TooLong told) refused seen = seen

pub put_unmarks : (old : Seen) (was ring : Buffer Message) (queue : Option Queue) (lent : Lent) (q r : Queue) (n : ℕ) (answer : Put)
    → record { ring = was.items; capacity = was.capacity; queue = queue; lent = lent } ≡ old → ring ≡ was → queue ≡ Some q → ((sync : Sync) → answer ≢ Stored sync) → r ≡ after_put q n answer
    → record { ring = ring.items; capacity = ring.capacity; queue = Some r; lent = lent } ≡ record old { queue = option_map unmarked old.queue }
put_unmarks old was ring queue lent q r n answer view stays is refused seen =
    ap (λ (b : Buffer Message). record { ring = b.items; capacity = b.capacity; queue = Some r; lent = lent }) stays
    ∙ ap (λ (x : Queue). record { ring = was.items; capacity = was.capacity; queue = Some x; lent = lent }) (unmarked_put q r n answer refused seen)
    ∙ ap (λ (x : Option Queue). record { ring = was.items; capacity = was.capacity; queue = option_map unmarked x; lent = lent }) (sym is)
    ∙ ap (λ (b : Seen). record b { queue = option_map unmarked b.queue }) view

-- its record is within the queue's bounds, so that only a fault refuses it
pub put_short : (q : Queue) (m back : Message) (n : ℕ) → ForMessages q.options → back ≡ m → FitsLimit m → n ≡ size_of back → n ≤ q.options.limit
put_short q m back n options same short long =
    let size : n ≡ size_of m = long ∙ ap size_of same in
    omega (arith, options.limit, size, short)

pub put_least : (q : Queue) (back : Message) (n : ℕ) → ForMessages q.options → n ≡ size_of back → q.options.least ≤ n
put_least q back n options long = omega (arith, options.least, long)

pub put_counted : (before now : ℕ) (sync : Sync) → SyncCounts before now sync → CountsFault before now false ⊎ CountsFault before now true
put_counted before now NotDue counts = inl counts
put_counted before now Done counts = inl counts
put_counted before now Failed counts = inr counts

pub put_risen : (before now limit size : ℕ) (answer : Put) → size ≤ limit → PutTooLong limit size answer → PutFails before now answer → ((sync : Sync) → answer ≢ Stored sync) → Rose before now
put_risen before now limit size (Stored sync) short long fails refused = absurd (refused sync refl)
put_risen before now limit size Fault short long fails refused = fails
put_risen before now limit size (TooLong told) short long fails refused = absurd (omega (arith, long.0))

pub put_counts : (before now limit size : ℕ) (answer : Put) → size ≤ limit → PutTooLong limit size answer → PutCounts before now answer → ((sync : Sync) → answer ≢ Stored sync) → CountsFault before now true
put_counts before now limit size (Stored sync) short long counts refused = absurd (refused sync refl)
put_counts before now limit size Fault short long counts refused = counts
put_counts before now limit size (TooLong told) short long counts refused = absurd (omega (arith, long.0))

-- a ring that took one, and one that is as it was beside a queue that changed
pub sound_kept : (ring : Buffer Message) (items : List Message) (m : Message) (capacity : ℕ) (queue : Option Queue) (lent : Lent) → ring ≡ buffer (items ++ m ∷ []) capacity → length items < capacity → FitsLimit m → lent ≡ Nothing
    → IsSound items capacity queue lent → IsSound ring.items ring.capacity queue lent
sound_kept ring items m capacity queue lent is room short free i =
    sound_more ring items (m ∷ []) capacity queue lent is i.within i.short (omega (arith, room)) (All-cons FitsLimit m [] short (All-nil FitsLimit)) i.queue free

pub sound_back : (was ring : Buffer Message) (queue : Option Queue) (lent : Lent) → ring ≡ was → IsSound was.items was.capacity queue lent → IsSound ring.items ring.capacity queue lent
sound_back was ring queue lent stays i = subst (λ (b : Buffer Message). IsSound b.items b.capacity queue lent) (sym stays) i

pub queue_where : (queue : Option Queue) (q : Queue) → queue ≡ Some q → IsQueueWhere queue → IsQueue q
queue_where queue q is i = subst IsQueueWhere is i
