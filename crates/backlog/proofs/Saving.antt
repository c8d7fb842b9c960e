-- Moving the ring's messages to the queue, and saving.
use Rattle.std.proofs.Common.{ℕ, ◌≡◌, ◌≢◌, ◌+◌, ◌-◌, ◌≤◌, ◌<◌, ◌⊎◌, inl, inr, List, [], ◌∷◌, ◌++◌, length, take, drop, map, Bool, true, false, IsTrue, Option, Some, refl, sym, ap, subst, ◌∙◌, arith, append_assoc, get_or, if◌then◌else◌}
use Rattle.std.specs.List.{slice_get, All}
use Rattle.std.proofs.lemmas.List.{map-append, append-nil, drop-drop, length-drop, take_more, get_or-drop, length-take-le, take_all, drop_all}
use Rattle.std.proofs.lemmas.List.Elements.{All-append, All-cons, All-nil, All-head, All-drop}
use Rattle.std.proofs.lemmas.Option.{slice_get_within, get_or_from_slice_get}
use Rattle.circular_buffer.specs.Buffer.{Buffer, buffer}
use Rattle.std.proofs.lemmas.Bool.{false≢true}
use Rattle.nsq_outside.specs.Causes.{Rose, DidFails}
use Rattle.nsq_outside.specs.Files.{Files}
use Rattle.nsq_outside.specs.declared.did.Did.{Did}
use Rattle.nsq_outside.specs.declared.did.Did.TheVariants as did
use Rattle.v2_frame.specs.declared.message.Message.{Message}
use Rattle.v2_frame.specs.Messages.{FitsItsBytes}
use Rattle.v2_frame.specs.Written.{message_bytes}
use Rattle.disk_queue.specs.Seen.{Seen as Queue, after_put, staged_more, unmarked, after_save, IsUnchanged}
use Rattle.disk_queue.specs.Holding.{Holds, SaveStands, OwnChange}
use Rattle.disk_queue.specs.Answers.{PutFails, PutTooLong, SyncFails, NotDueWhere, bodies_after, FoundUnlessFailed}
use Rattle.disk_queue.specs.declared.standing.Staged.{Staged}
use Rattle.disk_queue.specs.declared.answers.Put.{Put}
use Rattle.disk_queue.specs.declared.answers.Put.TheVariants as put
use Rattle.disk_queue.specs.QueueOptions.{QueueOptions}
use Rattle.disk_queue.specs.declared.answers.Sync.{Sync}
use Rattle.disk_queue.specs.declared.answers.Sync.TheVariants as sync
use Rattle.disk_queue.proofs.Kept.{own_join}
use Rattle.queue_image.specs.Places.{rolls}
use Rattle.queue_image.specs.Finds.{IsFound, Records}
use Rattle.disk_queue.specs.Emptying.{EmptySeen as QueueEmptySeen}
use Rattle.disk_queue.specs.declared.answers.Emptied.TheVariants.{Done}
use Rattle.backlog.specs.declared.backlog.Lent.{Lent}
use Rattle.backlog.specs.declared.backlog.Lent.TheVariants.{Nothing}
use Rattle.backlog.specs.Kept.{IsSound, IsLent, IsQueue, IsQueueWhere}
use Rattle.backlog.specs.Seen.{Seen, FitsLimit, FlushMoves, ForMessages, IsSameQueue, Lengthens, QueueLengthens, SameQueue, WritesAll, longest_body, size_of}
use Rattle.backlog.specs.Lists.{DiskChanges, HoldsAll, IsStored, OnDisk, Stands, stored}
use Rattle.backlog.proofs.Drawing.{same_disk}
use Rattle.backlog.proofs.Opening.{found_for}

-- so many messages went from the ring's front to the queue's end
pub record Moving (tells : Bool) (items : List Message) (capacity : ℕ) (ring : Buffer Message) (q r : Queue) (old new : Files) (n : ℕ) : Type 0 where
  pub within : n ≤ length items
  pub left : ring ≡ buffer (drop n items) capacity
  pub longer : Lengthens q r n
  pub none : r.staged.count ≡ 0
  pub list : IsTrue tells → (disk : List Message) → HoldsAll q old disk → HoldsAll r new (disk ++ map stored (take n items))
  pub stands : IsTrue tells → SaveStands q old → SaveStands r new
  pub others : IsTrue tells → OwnChange q.name old new

-- the first of what is left in the ring
pub first_left : (items : List Message) (capacity : ℕ) (ring : Buffer Message) (n : ℕ) (m : Message) → ring ≡ buffer (drop n items) capacity → slice_get ring.items 0 ≡ Some m → slice_get (drop n items) 0 ≡ Some m
first_left items capacity ring n m left is = subst (λ (b : Buffer Message). slice_get b.items 0 ≡ Some m) left is

-- one more of the list's front ends with it
next_taken : (items : List Message) (n : ℕ) (m : Message) → slice_get (drop n items) 0 ≡ Some m → take (n + 1) items ≡ take n items ++ m ∷ []
next_taken items n m is =
    let inside : n < length items = omega (arith, slice_get_within (drop n items) 0 m is, length-drop n items) in
    let there : n + 0 ≡ n = omega arith in
    let same : get_or items n m ≡ m = ap (λ (k : ℕ). get_or items k m) (sym there) ∙ sym (get_or-drop n items 0 m) ∙ get_or_from_slice_get (drop n items) 0 m m is in
    take_more items n m inside ∙ ap (λ (x : Message). take n items ++ x ∷ []) same

short_head : (items : List Message) (m : Message) → All FitsLimit items → slice_get items 0 ≡ Some m → FitsLimit m
short_head [] m short is = absurd (cc)
short_head (x ∷ xs) m short is = let same : x ≡ m = cc in subst FitsLimit same (All-head FitsLimit x xs short)

pub short_left : (items : List Message) (n : ℕ) (m : Message) → All FitsLimit items → slice_get (drop n items) 0 ≡ Some m → FitsLimit m
short_left items n m short is = short_head (drop n items) m (All-drop FitsLimit n items short) is

count_of : (b : Bool) (x y : Staged) (n : ℕ) → x.count ≡ n → y.count ≡ n → (if b then x else y).count ≡ n
count_of true x y n e f = e
count_of false x y n e f = f

one_staged : (q : Queue) (size : ℕ) → (staged_more q size).count ≡ q.staged.count + 1
one_staged q size = count_of (rolls q.options.max_bytes q.staged.file q.staged.at size) _ _ _ refl refl

-- one more record
lengthened : (q r s : Queue) (n size : ℕ) (sync : Sync) → Lengthens q r n → r.staged.count ≡ 0 → s ≡ after_put r size (put.Stored sync) → Lengthens q s (n + 1)
lengthened q r s n size sync before none seen = record {
  same = record { name = ap (λ (x : Queue). x.name) seen ∙ before.same.name; options = ap (λ (x : Queue). x.options) seen ∙ before.same.options };
  depth = let sum : r.depth + (r.staged.count + 1) ≡ q.depth + (n + 1) = omega (arith, before.depth) in ap (λ (x : Queue). x.depth) seen ∙ ap (λ (k : ℕ). r.depth + k) (one_staged r size) ∙ sum;
  read_file = ap (λ (x : Queue). x.positions.read_file) seen ∙ before.read_file;
  read_at = ap (λ (x : Queue). x.positions.read_at) seen ∙ before.read_at;
}

-- one more message on disk
holds_one : (r s : Queue) (mid new : Files) (disk : List Message) (m : Message) (bytes : List ℕ) → FitsItsBytes m → bytes ≡ message_bytes m
    → ((bodies : List (List ℕ)) → Holds r mid bodies [] → Holds s new (bodies ++ bytes ∷ []) []) → HoldsAll r mid disk → HoldsAll s new (disk ++ stored m ∷ [])
holds_one r s mid new disk m bytes fits wrote step h = record {
  list = subst (λ (x : List (List ℕ)). Holds s new x []) (ap (λ (x : List ℕ). map message_bytes disk ++ x ∷ []) wrote ∙ sym (map-append message_bytes disk (stored m ∷ [])))
      (step (map message_bytes disk) h.list);
  stored = All-append IsStored disk (stored m ∷ []) h.stored (All-cons IsStored (stored m) [] (record { fits = record { stamp = fits.stamp; attempts = fits.attempts; id = fits.id }; no_delay = refl }) (All-nil IsStored));
}

more_stored : (disk items : List Message) (n : ℕ) (m : Message) → take (n + 1) items ≡ take n items ++ m ∷ [] → (disk ++ map stored (take n items)) ++ stored m ∷ [] ≡ disk ++ map stored (take (n + 1) items)
more_stored disk items n m more =
    append_assoc disk (map stored (take n items)) (stored m ∷ [])
    ∙ ap (λ (x : List Message). disk ++ x) (sym (map-append stored (take n items) (m ∷ [])) ∙ ap (map stored) (sym more))

-- one more message moved
pub moving_more : (tells : Bool) (items : List Message) (capacity : ℕ) (ring now : Buffer Message) (q r s : Queue) (old mid new : Files) (n size : ℕ) (m : Message) (bytes : List ℕ) (sync : Sync)
    → Moving tells items capacity ring q r old mid n → slice_get ring.items 0 ≡ Some m → now ≡ buffer (drop 1 ring.items) ring.capacity
    → FitsItsBytes m → bytes ≡ message_bytes m → s ≡ after_put r size (put.Stored sync) → s.staged.count ≡ 0
    → (IsTrue tells → (bodies : List (List ℕ)) → Holds r mid bodies [] → Holds s new (bodies ++ bytes ∷ []) [])
    → (IsTrue tells → SaveStands r mid → SaveStands s new) → (IsTrue tells → OwnChange r.name mid new)
    → Moving tells items capacity now q s old new (n + 1)
moving_more tells items capacity ring now q r s old mid new n size m bytes sync before is popped fits wrote seen none list stands others =
    let head = first_left items capacity ring n m before.left is in
    record {
      within = omega (arith, slice_get_within (drop n items) 0 m head, length-drop n items);
      left = popped ∙ ap (λ (b : Buffer Message). buffer (drop 1 b.items) b.capacity) before.left ∙ ap (λ (xs : List Message). buffer xs capacity) (drop-drop 1 n items);
      longer = lengthened q r s n size sync before.longer before.none seen;
      none = none;
      list = λ told disk h. subst (λ (x : List Message). HoldsAll s new x) (more_stored disk items n m (next_taken items n m head))
          (holds_one r s mid new (disk ++ map stored (take n items)) m bytes fits wrote (list told) (before.list told disk h));
      stands = λ told h. stands told (before.stands told h);
      others = λ told. own_join q.name old mid new (before.others told) (subst (λ (name : List ℕ). OwnChange name mid new) before.longer.same.name (others told));
    }

-- the record that was written has as many bytes as its message is said to have
pub record_long : (scratch : List ℕ) (n : ℕ) (m : Message) → n ≡ size_of m → n ≤ length scratch → length (take n scratch) ≡ size_of m
record_long scratch n m size within = length-take-le n scratch within ∙ size

-- a refusal stores nothing
pub not_stored : (answer : Put) → (answer ≡ put.Fault) ⊎ ((told : ℕ) × (answer ≡ put.TooLong told)) → (sync : Sync) → answer ≢ put.Stored sync
not_stored answer refused sync = λ same. elim refused [ inl e ↦ cc | inr e ↦ cc (e.1) ]

refused_seen : (r s : Queue) (size : ℕ) (answer : Put) → ((sync : Sync) → answer ≢ put.Stored sync) → s ≡ after_put r size answer → s ≡ unmarked r
refused_seen r s size (put.Stored sync) refused seen = absurd (refused sync refl)
refused_seen r s size put.Fault refused seen = seen
refused_seen r s size (put.TooLong told) refused seen = seen

refused_list : (bodies : List (List ℕ)) (bytes : List ℕ) (answer : Put) → ((sync : Sync) → answer ≢ put.Stored sync) → bodies_after bodies bytes answer ≡ bodies
refused_list bodies bytes (put.Stored sync) refused = absurd (refused sync refl)
refused_list bodies bytes put.Fault refused = refl
refused_list bodies bytes (put.TooLong told) refused = refl

-- a message that the folder refused stays in the ring
pub moving_refused : (tells : Bool) (items : List Message) (capacity : ℕ) (ring : Buffer Message) (q r s : Queue) (old mid new : Files) (n size : ℕ) (bytes : List ℕ) (answer : Put)
    → Moving tells items capacity ring q r old mid n → ((sync : Sync) → answer ≢ put.Stored sync) → s ≡ after_put r size answer
    → (IsTrue tells → (bodies : List (List ℕ)) → Holds r mid bodies [] → Holds s new (bodies_after bodies bytes answer) [])
    → (IsTrue tells → SaveStands r mid → SaveStands s new) → (IsTrue tells → OwnChange r.name mid new)
    → Moving tells items capacity ring q s old new n
moving_refused tells items capacity ring q r s old mid new n size bytes answer before refused seen list stands others =
    let was : s ≡ unmarked r = refused_seen r s size answer refused seen in
    record {
      within = before.within;
      left = before.left;
      longer = record {
        same = record { name = ap (λ (x : Queue). x.name) was ∙ before.longer.same.name; options = ap (λ (x : Queue). x.options) was ∙ before.longer.same.options };
        depth = ap (λ (x : Queue). x.depth) was ∙ before.longer.depth;
        read_file = ap (λ (x : Queue). x.positions.read_file) was ∙ before.longer.read_file;
        read_at = ap (λ (x : Queue). x.positions.read_at) was ∙ before.longer.read_at;
      };
      none = ap (λ (x : Queue). x.staged.count) was ∙ before.none;
      list = λ told disk h.
          let held = before.list told disk h in
          record {
            list = subst (λ (x : List (List ℕ)). Holds s new x []) (refused_list _ bytes answer refused) (list told (map message_bytes (disk ++ map stored (take n items))) held.list);
            stored = held.stored;
          };
      stands = λ told h. stands told (before.stands told h);
      others = λ told. own_join q.name old mid new (before.others told) (subst (λ (name : List ℕ). OwnChange name mid new) before.longer.same.name (others told));
    }

-- a record that isn't too long is refused only where the count of faults rose
pub put_rose : (before mid now : ℕ) (limit size : ℕ) (answer : Put) → before ≤ mid → size ≤ limit → PutTooLong limit size answer → PutFails mid now answer → ((sync : Sync) → answer ≢ put.Stored sync) → Rose before now
put_rose before mid now limit size (put.Stored sync) low short long fails refused = absurd (refused sync refl)
put_rose before mid now limit size put.Fault low short long fails refused = omega arith
put_rose before mid now limit size (put.TooLong told) low short long fails refused = absurd (omega (arith, long.0))

-- how many moved, by what is left
gone : (items : List Message) (capacity : ℕ) (ring : Buffer Message) (n : ℕ) → n ≤ length items → ring ≡ buffer (drop n items) capacity → length items - length ring.items ≡ n
gone items capacity ring n within left = omega (arith, length-drop n items, ap (λ (b : Buffer Message). length b.items) left)

pub moved : (tells : Bool) (items : List Message) (capacity : ℕ) (ring : Buffer Message) (q r : Queue) (old new : Files) (n : ℕ) → Moving tells items capacity ring q r old new n
    → Moving tells items capacity ring q r old new (length items - length ring.items)
moved tells items capacity ring q r old new n h = subst (λ (k : ℕ). Moving tells items capacity ring q r old new k) (sym (gone items capacity ring n h.within h.left)) h

-- how many are left
pub left_over : (items : List Message) (capacity : ℕ) (ring : Buffer Message) (n : ℕ) → ring ≡ buffer (drop n items) capacity → length ring.items ≡ length items - n
left_over items capacity ring n left = ap (λ (b : Buffer Message). length b.items) left ∙ length-drop n items

-- none is left where all moved
pub none_left : (items : List Message) (capacity : ℕ) (ring : Buffer Message) (n : ℕ) → ring ≡ buffer (drop n items) capacity → length items ≤ n → ring.items ≡ []
none_left items capacity ring n left all = ap (λ (b : Buffer Message). b.items) left ∙ drop_all n items all

-- an opening finds the list after a save that didn't fail
found_saved : (s : Queue) (new : Files) (bodies : List (List ℕ)) (answer : Sync) → (answer ≡ sync.NotDue) ⊎ (answer ≡ sync.Done) → FoundUnlessFailed s new bodies answer
    → IsFound s.options.least s.options.limit new s.name (Records bodies [])
found_saved s new bodies sync.NotDue saved h = h
found_saved s new bodies sync.Done saved h = h
found_saved s new bodies sync.Failed saved h = absurd (elim saved [ inl e ↦ cc | inr e ↦ cc ])

-- all of the ring was written
all_written : (items left : List Message) (answer : Did) → answer ≡ did.Done → WritesAll left answer → take (length items - length left) items ≡ items
all_written items left answer finished all =
    let none : left ≡ [] = subst (WritesAll left) finished all in
    take_all (length items - length left) items (omega (arith, ap (λ (x : List Message). length x) none))

-- after a flush that is done an opening finds all that waited
pub flush_finds : (q r s : Queue) (items left disk : List Message) (mid new : Files) (wrote : Did) (answer : Sync) (n : ℕ) → ForMessages q.options → Lengthens q r n → s ≡ after_save (unmarked r) answer
    → wrote ≡ did.Done → WritesAll left wrote → (answer ≡ sync.NotDue) ⊎ (answer ≡ sync.Done)
    → HoldsAll r mid (disk ++ map stored (take (length items - length left) items)) → SaveStands r mid
    → ((bodies waiting : List (List ℕ)) → Holds r mid bodies waiting → SaveStands r mid → FoundUnlessFailed s new bodies answer)
    → IsFound 26 (26 + longest_body) new q.name (Records (map message_bytes (disk ++ map stored items)) [])
flush_finds q r s items left disk mid new wrote answer n options longer seen finished all saved holds stands found =
    let named : s.name ≡ q.name = ap (λ (x : Queue). x.name) seen ∙ longer.same.name in
    let least : s.options.least ≡ 26 = ap (λ (x : Queue). x.options.least) seen ∙ ap (λ (o : QueueOptions). o.least) longer.same.options ∙ options.least in
    let limit : s.options.limit ≡ 26 + longest_body = ap (λ (x : Queue). x.options.limit) seen ∙ ap (λ (o : QueueOptions). o.limit) longer.same.options ∙ options.limit in
    let whole : take (length items - length left) items ≡ items = all_written items left wrote finished all in
    let there = found_saved s new (map message_bytes (disk ++ map stored (take (length items - length left) items))) answer saved
    (found (map message_bytes (disk ++ map stored (take (length items - length left) items))) [] holds.list stands) in
    subst (λ (xs : List Message). IsFound 26 (26 + longest_body) new q.name (Records (map message_bytes (disk ++ map stored xs)) [])) whole
    (found_for 26 (26 + longest_body) s.options.least s.options.limit new s.name q.name (Records (map message_bytes (disk ++ map stored (take (length items - length left) items))) []) least limit named there)

-- a queue that was emptied is the same one
pub emptied_same : (q r : Queue) → QueueEmptySeen q r Done → IsSameQueue q r
emptied_same q r (inl e) = record { name = ap (λ (x : Queue). x.name) e; options = ap (λ (x : Queue). x.options) e }
emptied_same q r (inr e) = record { name = ap (λ (x : Queue). x.name) e; options = ap (λ (x : Queue). x.options) e }

pub emptied_staged : (q r : Queue) → QueueEmptySeen q r Done → r.staged.count ≡ q.staged.count
emptied_staged q r (inl e) = ap (λ (x : Queue). x.staged.count) e
emptied_staged q r (inr e) = ap (λ (x : Queue). x.staged.count) e

-- and a ring that was cleared is sound
pub sound_cleared : (items : List Message) (capacity : ℕ) (queue : Option Queue) (lent : Lent) (ring : Buffer Message) → ring ≡ buffer [] capacity → lent ≡ Nothing → IsSound items capacity queue lent
    → IsSound ring.items ring.capacity queue lent
sound_cleared items capacity queue lent ring is free i =
    subst (λ (b : Buffer Message). IsSound b.items b.capacity queue lent) (sym is)
    (record { within = omega arith; short = All-nil FitsLimit; queue = i.queue; lent = subst (IsLent [] capacity queue) (sym free) tt })

-- none moved yet
pub moving_none : (tells : Bool) (ring : Buffer Message) (q : Queue) (files : Files) → q.staged.count ≡ 0 → Moving tells ring.items ring.capacity ring q q files files 0
moving_none tells ring q files none = record {
  within = omega arith;
  left = refl;
  longer = record { same = record { name = refl; options = refl }; depth = omega arith; read_file = refl; read_at = refl };
  none = none;
  list = λ told disk h. subst (λ (xs : List Message). HoldsAll q files xs) (sym (append-nil disk)) h;
  stands = λ told stood. stood;
  others = λ told file other. refl;
}

-- a record of a message is within the bounds of a queue to which some were moved
pub moved_least : (q r : Queue) (n long : ℕ) (m : Message) → ForMessages q.options → Lengthens q r n → long ≡ size_of m → r.options.least ≤ long
moved_least q r n long m options longer size =
    let same : r.options.least ≡ q.options.least = ap (λ (o : QueueOptions). o.least) longer.same.options in
    omega (arith, options.least, same, size)

-- a queue to which some were moved and that was saved
pub flushed_longer : (q r s : Queue) (n : ℕ) (answer : Sync) → Lengthens q r n → s ≡ after_save (unmarked r) answer → Lengthens q s n
flushed_longer q r s n answer longer seen = subst (λ (x : Queue). Lengthens q x n) (sym seen) (record {
  same = record { name = longer.same.name; options = longer.same.options };
  depth = longer.depth;
  read_file = longer.read_file;
  read_at = longer.read_at;
})

pub flushed_same : (queue : Option Queue) (q r s : Queue) (n : ℕ) (answer : Sync) → queue ≡ Some q → Lengthens q r n → s ≡ after_save (unmarked r) answer → SameQueue queue (Some s)
flushed_same queue q r s n answer is longer seen = subst (λ (x : Option Queue). SameQueue x (Some s)) (sym is) (flushed_longer q r s n answer longer seen).same

flush_moves : (was ring : Buffer Message) (queue : Option Queue) (lent : Lent) (q r s : Queue) (answer : Sync) (n : ℕ) → queue ≡ Some q → n ≤ length was.items → ring ≡ buffer (drop n was.items) was.capacity → Lengthens q r n → s ≡ after_save (unmarked r) answer
    → FlushMoves (record { ring = was.items; capacity = was.capacity; queue = queue; lent = lent }) (record { ring = ring.items; capacity = ring.capacity; queue = Some s; lent = lent }) n
flush_moves was ring queue lent q r s answer n is within left longer seen = record {
  within = within;
  is = ap (λ (b : Buffer Message). record { ring = b.items; capacity = b.capacity; queue = Some s; lent = lent }) left;
  queue = subst (λ (x : Option Queue). QueueLengthens x (Some s) n) (sym is) (flushed_longer q r s n answer longer seen);
}

-- what a flush moved, where a part of the ring is left
pub flush_some : (old : Seen) (was ring : Buffer Message) (queue : Option Queue) (lent : Lent) (q r s : Queue) (answer : Sync) → record { ring = was.items; capacity = was.capacity; queue = queue; lent = lent } ≡ old
    → queue ≡ Some q → ring ≡ buffer (drop (length was.items - length ring.items) was.items) was.capacity → Lengthens q r (length was.items - length ring.items) → s ≡ after_save (unmarked r) answer
    → FlushMoves old (record { ring = ring.items; capacity = ring.capacity; queue = Some s; lent = lent }) (length old.ring - length ring.items)
flush_some old was ring queue lent q r s answer view is left longer seen =
    subst (λ (b : Seen). FlushMoves b (record { ring = ring.items; capacity = ring.capacity; queue = Some s; lent = lent }) (length b.ring - length ring.items)) view
    (flush_moves was ring queue lent q r s answer (length was.items - length ring.items) is (omega arith) left longer seen)

-- and where none is
pub flush_all : (old : Seen) (was ring : Buffer Message) (queue : Option Queue) (lent : Lent) (q r s : Queue) (answer : Sync) → record { ring = was.items; capacity = was.capacity; queue = queue; lent = lent } ≡ old
    → queue ≡ Some q → ring ≡ buffer (drop (length was.items - length ring.items) was.items) was.capacity → Lengthens q r (length was.items - length ring.items) → s ≡ after_save (unmarked r) answer → ring.items ≡ []
    → FlushMoves old (record { ring = ring.items; capacity = ring.capacity; queue = Some s; lent = lent }) (length old.ring)
flush_all old was ring queue lent q r s answer view is left longer seen none =
    let whole : length was.items - length ring.items ≡ length was.items = omega (arith, ap length none) in
    subst (λ (b : Seen). FlushMoves b (record { ring = ring.items; capacity = ring.capacity; queue = Some s; lent = lent }) (length b.ring)) view
    (subst (λ (k : ℕ). FlushMoves (record { ring = was.items; capacity = was.capacity; queue = queue; lent = lent }) (record { ring = ring.items; capacity = ring.capacity; queue = Some s; lent = lent }) k) whole
    (flush_moves was ring queue lent q r s answer (length was.items - length ring.items) is (omega arith) left longer seen))

-- what such a save leaves unsaved
saved_as : (r : Queue) (answer : Sync) → NotDueWhere (IsUnchanged r) answer → (answer ≡ sync.NotDue) ⊎ (answer ≡ sync.Done) → IsUnchanged (after_save (unmarked r) answer)
saved_as r sync.NotDue due either = record { none = due.none; positions = due.positions; sound = due.sound }
saved_as r sync.Done due either = record { none = refl; positions = refl; sound = λ failed. false≢true failed }
saved_as r sync.Failed due either = absurd (elim either [ inl e ↦ cc | inr e ↦ cc ])

pub flush_saved : (r s : Queue) (answer : Sync) → NotDueWhere (IsUnchanged r) answer → s ≡ after_save (unmarked r) answer → (answer ≡ sync.NotDue) ⊎ (answer ≡ sync.Done) → IsUnchanged s
flush_saved r s answer due seen either = subst IsUnchanged (sym seen) (saved_as r answer due either)

tried_as : (r : Queue) (answer : Sync) → NotDueWhere (IsUnchanged r) answer → IsUnchanged (after_save (unmarked r) answer) ⊎ IsTrue (after_save (unmarked r) answer).saved.failed
tried_as r sync.NotDue due = inl (record { none = due.none; positions = due.positions; sound = due.sound })
tried_as r sync.Done due = inl (record { none = refl; positions = refl; sound = λ failed. false≢true failed })
tried_as r sync.Failed due = inr refl

pub flush_tried : (r s : Queue) (answer : Sync) → NotDueWhere (IsUnchanged r) answer → s ≡ after_save (unmarked r) answer → IsUnchanged s ⊎ IsTrue s.saved.failed
flush_tried r s answer due seen = subst (λ (x : Queue). IsUnchanged x ⊎ IsTrue x.saved.failed) (sym seen) (tried_as r answer due)

-- what stands while messages move and while they are saved
pub flush_stands : (queue : Option Queue) (q r s : Queue) (old mid new : Files) → queue ≡ Some q → (SaveStands q old → SaveStands r mid) → (SaveStands r mid → SaveStands s new) → Stands queue old → SaveStands s new
flush_stands queue q r s old mid new is first second stood = second (first (subst (λ (x : Option Queue). Stands x old) is stood))

pub flush_listed : (queue : Option Queue) (q r s : Queue) (old mid new : Files) (disk : List Message) (items : List Message) → queue ≡ Some q → (HoldsAll q old disk → HoldsAll r mid (disk ++ map stored items))
    → ((bodies waiting : List (List ℕ)) → Holds r mid bodies waiting → Holds s new bodies waiting) → OnDisk queue old disk → HoldsAll s new (disk ++ map stored items)
flush_listed queue q r s old mid new disk items is first second on = same_disk r s mid new (disk ++ map stored items) second (first (subst (λ (x : Option Queue). OnDisk x old disk) is on))

pub flush_changed : (queue : Option Queue) (q r : Queue) (old mid new : Files) → queue ≡ Some q → OwnChange q.name old mid → r.name ≡ q.name → OwnChange r.name mid new → DiskChanges queue old new
flush_changed queue q r old mid new is first same second =
    subst (λ (x : Option Queue). DiskChanges x old new) (sym is) (own_join q.name old mid new first (subst (λ (name : List ℕ). OwnChange name mid new) same second))

-- a fault of either raised the count
pub rose_before : (before mid now : ℕ) → Rose before mid → mid ≤ now → Rose before now
rose_before before mid now rose up = omega arith

pub rose_behind : (before mid now : ℕ) → before ≤ mid → Rose mid now → Rose before now
rose_behind before mid now up rose = omega arith

pub sync_rose : (mid now : ℕ) (answer : Sync) → answer ≡ sync.Failed → SyncFails mid now answer → Rose mid now
sync_rose mid now answer is fails = subst (SyncFails mid now) is fails

pub did_rose : (before mid : ℕ) (answer : Did) → answer ≡ did.Failed → DidFails before mid answer → Rose before mid
did_rose before mid answer is fails = subst (DidFails before mid) is fails

-- and a ring of which a part left is sound beside the queue that was saved
pub sound_flushed : (was ring : Buffer Message) (n : ℕ) (queue : Option Queue) (lent : Lent) (q r s : Queue) (answer : Sync) → ring ≡ buffer (drop n was.items) was.capacity → queue ≡ Some q → Lengthens q r n → r.staged.count ≡ 0 → s ≡ after_save (unmarked r) answer → lent ≡ Nothing
    → IsSound was.items was.capacity queue lent → IsSound ring.items ring.capacity (Some s) lent
sound_flushed was ring n queue lent q r s answer left is longer none seen free i =
    let before : IsQueue q = subst IsQueueWhere is i.queue in
    subst (λ (b : Buffer Message). IsSound b.items b.capacity (Some s) lent) (sym left)
    (record {
      within = omega (arith, i.within, length-drop n was.items);
      short = All-drop FitsLimit n was.items i.short;
      queue = record { options = subst ForMessages (sym (ap (λ (x : Queue). x.options) seen ∙ longer.same.options)) before.options; none_staged = ap (λ (x : Queue). x.staged.count) seen ∙ none };
      lent = subst (IsLent (drop n was.items) was.capacity (Some s)) (sym free) tt;
    })

pub faults_rise : (before mid now : ℕ) → before ≤ mid → mid ≤ now → before ≤ now
faults_rise before mid now first second = omega arith
