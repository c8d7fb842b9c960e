-- What drawing and settling do to the list of a backlog.
use Rattle.std.proofs.Common.{ℕ, ◌≡◌, ◌≤◌, List, [], ◌∷◌, ◌++◌, length, take, drop, map, Option, Some, None, refl, sym, ap, subst, ◌∙◌, arith, length-append, length-take}
use Rattle.std.specs.List.{slice_get, All}
use Rattle.std.proofs.lemmas.List.{drop-map}
use Rattle.std.proofs.lemmas.List.Elements.{All-drop, All-head}
use Rattle.circular_buffer.specs.Buffer.{Buffer, buffer}
use Rattle.nsq_outside.specs.Files.{Files}
use Rattle.v2_frame.specs.declared.message.Message.{Message}
use Rattle.v2_frame.specs.Messages.{FitsItsBytes, SameButDelay}
use Rattle.v2_frame.specs.Written.{message_bytes}
use Rattle.v2_frame.proofs.MessageLemmas.{message_same}
use Rattle.disk_queue.specs.Seen.{Seen as Queue}
use Rattle.disk_queue.specs.Holding.{Holds}
use Rattle.disk_queue.specs.Reading.{PeekSeen, IsFirst}
use Rattle.disk_queue.specs.declared.answers.Peek.{Peek}
use Rattle.disk_queue.specs.declared.standing.Staged.{Staged}
use Rattle.backlog.specs.Seen.{Seen, Peeks, DrawsOne, ForMessages, FitsLimit, size_of}
use Rattle.backlog.specs.Seen.DrawsOne.{of_ring}
use Rattle.backlog.specs.Kept.{IsSound, IsQueue, IsQueueWhere, IsLent}
use Rattle.backlog.specs.Lists.{IsStored, HoldsAll, OnDisk, DiskChanges, IsFirstMessage, list_with, disk_settled}
use Rattle.backlog.specs.declared.backlog.Lent.{Lent}
use Rattle.backlog.specs.declared.backlog.Lent.TheVariants.{Nothing, OfRing, OfDisk}

-- the messages on disk after the queue's first record went
pub without_first : (q r : Queue) (old new : Files) (disk : List Message) → ((bodies waiting : List (List ℕ)) → Holds q old bodies waiting → Holds r new (drop 1 bodies) waiting)
    → HoldsAll q old disk → HoldsAll r new (drop 1 disk)
without_first q r old new disk step h = record {
  list = subst (λ bodies. Holds r new bodies []) (drop-map message_bytes 1 disk) (step (map message_bytes disk) [] h.list);
  stored = All-drop IsStored 1 disk h.stored;
}

-- the same messages where the queue's list stayed
pub same_disk : (q r : Queue) (old new : Files) (disk : List Message) → ((bodies waiting : List (List ℕ)) → Holds q old bodies waiting → Holds r new bodies waiting)
    → HoldsAll q old disk → HoldsAll r new disk
same_disk q r old new disk step h = record { list = step (map message_bytes disk) [] h.list; stored = h.stored }

-- where no file changed, none but the queue's own did
pub unchanged : (queue : Option Queue) (files : Files) → DiskChanges queue files files
unchanged None files = λ file. refl
unchanged (Some q) files = λ file h. refl

-- without a queue no message is on disk, so settling leaves none
pub none_settled : (lent : Lent) (queue : Option Queue) (files : Files) (disk : List Message) → queue ≡ None → OnDisk queue files disk → OnDisk queue files (disk_settled lent disk)
none_settled Nothing queue files disk none h = h
none_settled OfRing queue files disk none h = h
none_settled OfDisk queue files disk none h = subst (λ q. OnDisk q files (drop 1 disk)) (sym none) (ap (λ (d : List Message). drop 1 d) (subst (λ q. OnDisk q files disk) none h))

-- a message of the ring leaves the disk as it was
pub ring_settled : (lent : Lent) (queue : Option Queue) (files : Files) (disk : List Message) → (lent ≡ OfDisk → ⊥) → OnDisk queue files disk → OnDisk queue files (disk_settled lent disk)
ring_settled Nothing queue files disk not h = h
ring_settled OfRing queue files disk not h = h
ring_settled OfDisk queue files disk not h = absurd (not refl)

-- a ring that gave none is empty, and stays so
pub ring_empty : (items : List Message) (first : Option Message) → first ≡ slice_get items 0 → first ≡ None → items ≡ []
ring_empty [] first is e = refl
ring_empty (m ∷ ms) first is e = absurd (cc)

still_empty : (items : List Message) → items ≡ [] → drop 1 items ≡ items
still_empty [] e = refl
still_empty (m ∷ ms) e = absurd (cc)

pub ring_stays : (items : List Message) (capacity : ℕ) (ring : Buffer Message) → items ≡ [] → ring ≡ buffer (drop 1 items) capacity → ring ≡ buffer items capacity
ring_stays items capacity ring e is = is ∙ ap (λ (xs : List Message). buffer xs capacity) (still_empty items e)

none_mapped : (disk : List Message) → map message_bytes disk ≡ [] → disk ≡ []
none_mapped [] e = refl
none_mapped (m ∷ ms) e = absurd (cc)

-- a backlog with an empty ring after its queue was looked into
pub peeked : (old : Seen) (items : List Message) (capacity : ℕ) (queue : Option Queue) (lent left now_lent : Lent) (ring : Buffer Message) (q r : Queue) (answer : Peek)
    → record { ring = items; capacity = capacity; queue = queue; lent = lent } ≡ old
    → items ≡ [] → ring ≡ buffer (drop 1 items) capacity → queue ≡ Some q → left ≡ now_lent → PeekSeen q r answer
    → Peeks old (record { ring = ring.items; capacity = ring.capacity; queue = Some r; lent = left }) now_lent answer
peeked old items capacity queue lent left now_lent ring q r answer view empty is there same p =
    subst (λ (b : Seen). Peeks b (record { ring = ring.items; capacity = ring.capacity; queue = Some r; lent = left }) now_lent answer) view
    (record {
      ring = empty;
      queue = q;
      now = r;
      was = there;
      is = ap (λ (b : Buffer Message). record { ring = b.items; capacity = b.capacity; queue = Some r; lent = left }) (ring_stays items capacity ring empty is)
          ∙ ap (λ (l : Lent). record { ring = items; capacity = capacity; queue = Some r; lent = l }) same;
      peeked = p;
    })

-- a list is empty where its ring and its disk are
pub no_message : (old : Seen) (items : List Message) (capacity : ℕ) (queue : Option Queue) (lent : Lent) (q : Queue) (files : Files) (disk : List Message)
    → record { ring = items; capacity = capacity; queue = queue; lent = lent } ≡ old
    → items ≡ [] → queue ≡ Some q
    → ((bodies waiting : List (List ℕ)) → Holds q files bodies waiting → bodies ≡ [])
    → OnDisk old.queue files disk → old.ring ++ disk ≡ []
no_message old items capacity queue lent q files disk view empty there gives held =
    let on_disk : OnDisk queue files disk = subst (λ (b : Seen). OnDisk b.queue files disk) (sym view) held in
    let holds : HoldsAll q files disk = subst (λ (w : Option Queue). OnDisk w files disk) there on_disk in
    let before : old.ring ≡ items = ap (λ (b : Seen). b.ring) (sym view) in
    ap (λ (xs : List Message). xs ++ disk) (before ∙ empty) ∙ none_mapped disk (gives (map message_bytes disk) [] holds.list)

-- the ring's first message left it
pub ring_gave : (items : List Message) (capacity : ℕ) (ring : Buffer Message) (first : Option Message) (m : Message) → first ≡ slice_get items 0 → first ≡ Some m → ring ≡ buffer (drop 1 items) capacity → items ≡ m ∷ ring.items
ring_gave [] capacity ring first m is e now = absurd (let contra : None ≡ Some m = sym is ∙ e in cc)
ring_gave (x ∷ xs) capacity ring first m is e now =
    let same : x ≡ m = (let there : Some x ≡ Some m = sym is ∙ e in cc) in
    ap (λ (y : Message). y ∷ xs) same ∙ ap (λ (b : Buffer Message). m ∷ b.items) (sym now)

pub ring_draws : (old : Seen) (items : List Message) (capacity : ℕ) (queue : Option Queue) (lent : Lent) (ring : Buffer Message) (m : Message)
    → record { ring = items; capacity = capacity; queue = queue; lent = lent } ≡ old → items ≡ m ∷ ring.items → ring ≡ buffer (drop 1 items) capacity
    → DrawsOne old (record { ring = ring.items; capacity = ring.capacity; queue = queue; lent = OfRing }) m
ring_draws old items capacity queue lent ring m view whole now =
    subst (λ (b : Seen). DrawsOne b (record { ring = ring.items; capacity = ring.capacity; queue = queue; lent = OfRing }) m) view
    (of_ring whole (ap (λ (b : Buffer Message). record { ring = ring.items; capacity = b.capacity; queue = queue; lent = OfRing }) now))

pub sound_drawn : (items : List Message) (capacity : ℕ) (queue : Option Queue) (lent : Lent) (ring : Buffer Message) (m : Message) → items ≡ m ∷ ring.items → ring ≡ buffer (drop 1 items) capacity
    → IsSound items capacity queue lent → IsSound ring.items ring.capacity queue OfRing
sound_drawn items capacity queue lent ring m whole now i =
    let within = i.within in
    let room : ring.capacity ≡ capacity = ap (λ (b : Buffer Message). b.capacity) now in
    record {
      within = omega (arith, ap length whole, within, room);
      short = subst (All FitsLimit) (sym (ap (λ (b : Buffer Message). b.items) now)) (All-drop FitsLimit 1 items i.short);
      queue = i.queue;
      lent = omega (arith, ap length whole, within, room);
    }

-- a ring that gave none and has no queue behind it is as it was
pub sound_idle : (items : List Message) (capacity : ℕ) (queue : Option Queue) (lent : Lent) (ring : Buffer Message) → items ≡ [] → ring ≡ buffer (drop 1 items) capacity
    → IsSound items capacity queue lent → IsSound ring.items ring.capacity queue lent
sound_idle items capacity queue lent ring empty is i = subst (λ (b : Buffer Message). IsSound b.items b.capacity queue lent) (sym (ring_stays items capacity ring empty is)) i

-- a queue that was looked into is one of messages still
pub sound_looked : (items : List Message) (capacity : ℕ) (queue : Option Queue) (was lent : Lent) (ring : Buffer Message) (q r : Queue) → items ≡ [] → ring ≡ buffer (drop 1 items) capacity → queue ≡ Some q
    → r.options ≡ q.options → r.staged ≡ q.staged → IsLent items capacity (Some r) lent → IsSound items capacity queue was → IsSound ring.items ring.capacity (Some r) lent
sound_looked items capacity queue was lent ring q r empty is there options staged left i =
    let before : IsQueue q = subst IsQueueWhere there i.queue in
    subst (λ (b : Buffer Message). IsSound b.items b.capacity (Some r) lent) (sym (ring_stays items capacity ring empty is))
    (record {
      within = i.within;
      short = i.short;
      queue = record { options = subst ForMessages (sym options) before.options; none_staged = ap (λ (s : Staged). s.count) staged ∙ before.none_staged };
      lent = left;
    })

-- a backlog whose queue was saved or emptied is sound still
pub sound_queue : (items : List Message) (capacity : ℕ) (queue : Option Queue) (lent : Lent) (q r : Queue) → queue ≡ Some q → r.options ≡ q.options → r.staged.count ≡ q.staged.count → lent ≡ Nothing
    → IsSound items capacity queue lent → IsSound items capacity (Some r) lent
sound_queue items capacity queue lent q r there options staged free i =
    let before : IsQueue q = subst IsQueueWhere there i.queue in
    record {
      within = i.within;
      short = i.short;
      queue = record { options = subst ForMessages (sym options) before.options; none_staged = staged ∙ before.none_staged };
      lent = subst (IsLent items capacity (Some r)) (sym free) tt;
    }

-- a record has as many bytes as its message is said to have
pub sized : (n : ℕ) (into : List ℕ) (message : Message) → FitsItsBytes message → n ≤ length into → take n into ≡ message_bytes message → n ≡ size_of message
sized n into message fits within is = omega (arith, ap length is, length-take n into, length-append message.id message.body, fits.id)

message_is : (a b : Message) → SameButDelay a b → a.delay ≡ b.delay → a ≡ b
message_is a b same delays =
    ap (λ (x : ℕ). record { stamp = x; attempts = a.attempts; id = a.id; body = a.body; delay = a.delay }) same.stamp
    ∙ ap (λ (x : ℕ). record { stamp = b.stamp; attempts = x; id = a.id; body = a.body; delay = a.delay }) same.attempts
    ∙ ap (λ (x : List ℕ). record { stamp = b.stamp; attempts = b.attempts; id = x; body = a.body; delay = a.delay }) same.id
    ∙ ap (λ (x : List ℕ). record { stamp = b.stamp; attempts = b.attempts; id = b.id; body = x; delay = a.delay }) same.body
    ∙ ap (λ (x : ℕ). record { stamp = b.stamp; attempts = b.attempts; id = b.id; body = b.body; delay = x }) delays

-- a message whose bytes are the first of the list is the first message on disk
pub first_on_disk : (disk : List Message) (body : List ℕ) (message : Message) → FitsItsBytes message → message.delay ≡ 0 → body ≡ message_bytes message
    → IsFirst (map message_bytes disk) body → All IsStored disk → IsFirstMessage disk message
first_on_disk [] body message fits none is first stored = absurd (let w = first.whole in cc)
first_on_disk (m ∷ ms) body message fits none is first stored =
    let kept = All-head IsStored m ms stored in
    let w : message_bytes m ∷ map message_bytes ms ≡ body ∷ first.rest = first.whole in
    let same : message_bytes m ≡ message_bytes message = cc in
    record { rest = ms; whole = ap (λ (x : Message). x ∷ ms) (message_is m message (message_same m message kept.fits fits same) (kept.no_delay ∙ sym none)) }

-- the message that was drawn from disk past an empty ring is the first of the list, and stays so
pub drawn_from_disk : (old : Seen) (items : List Message) (capacity : ℕ) (queue : Option Queue) (lent : Lent) (ring : Buffer Message) (q r : Queue) (files : Files) (body : List ℕ) (message : Message) (disk : List Message)
    → record { ring = items; capacity = capacity; queue = queue; lent = lent } ≡ old
    → items ≡ [] → ring ≡ buffer (drop 1 items) capacity → queue ≡ Some q
    → FitsItsBytes message → message.delay ≡ 0 → body ≡ message_bytes message
    → ((bodies waiting : List (List ℕ)) → Holds q files bodies waiting → IsFirst bodies body)
    → OnDisk old.queue files disk
    → IsFirstMessage (old.ring ++ disk) message × (list_with (record { ring = ring.items; capacity = ring.capacity; queue = Some r; lent = OfDisk }) message disk ≡ old.ring ++ disk)
drawn_from_disk old items capacity queue lent ring q r files body message disk view empty is there fits none bytes first held =
    let on_disk : OnDisk queue files disk = subst (λ (b : Seen). OnDisk b.queue files disk) (sym view) held in
    let holds : HoldsAll q files disk = subst (λ (w : Option Queue). OnDisk w files disk) there on_disk in
    let head = first_on_disk disk body message fits none bytes (first (map message_bytes disk) [] holds.list) holds.stored in
    let before : old.ring ≡ items = ap (λ (b : Seen). b.ring) (sym view) in
    let now : ring.items ≡ old.ring = ap (λ (b : Buffer Message). b.items) (ring_stays items capacity ring empty is) ∙ sym before in
    (subst (λ (xs : List Message). IsFirstMessage (xs ++ disk) message) (sym (before ∙ empty)) head, ap (λ (xs : List Message). xs ++ disk) now)
