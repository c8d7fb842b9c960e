-- What is seen of a backlog, and what its calls change of it.
use Rattle.std.specs.Prelude.{ℕ, ◌≡◌, ◌≢◌, ◌+◌, ◌-◌, ◌≤◌, ◌<◌, ◌⊎◌, List, [], ◌∷◌, ◌++◌, length, take, drop, map, Bool, if◌then◌else◌, Option, Some, None, IsSome, IsTrue, option_map}
use Rattle.v2_frame.specs.declared.message.Message.{Message}
use Rattle.nsq_outside.specs.declared.did.Did.{Did}
use Rattle.nsq_outside.specs.declared.did.Did.TheVariants as did
use Rattle.disk_queue.specs.Seen.{Seen as Queue, fresh_queue, opened_queue, unmarked, forgotten, committed, advanced, after_stage, after_save, one_more, IsEarly, IsUnchanged}
use Rattle.disk_queue.specs.Answers.{NotDueWhere}
use Rattle.disk_queue.specs.Emptying.{EmptySeen as QueueEmptySeen}
use Rattle.disk_queue.specs.QueueOptions.{QueueOptions}
use Rattle.disk_queue.specs.declared.answers.Stage.TheVariants.{Staged}
use Rattle.disk_queue.specs.declared.answers.Sync.{Sync}
use Rattle.disk_queue.specs.declared.answers.Sync.TheVariants as sync
use Rattle.disk_queue.specs.Reading.{PeekSeen}
use Rattle.disk_queue.specs.declared.answers.Peek.{Peek}
use Rattle.disk_queue.specs.declared.answers.Peek.TheVariants as peek
use Rattle.disk_queue.specs.declared.answers.Emptied.{Emptied}
use Rattle.disk_queue.specs.declared.answers.Emptied.TheVariants as emptying
use Rattle.backlog.specs.declared.backlog.Lent.{Lent}
use Rattle.backlog.specs.declared.backlog.Lent.TheVariants.{Nothing, OfRing, OfDisk}
use Rattle.backlog.specs.declared.answers.PutOne.{PutOne}
use Rattle.backlog.specs.declared.answers.PutOne.TheVariants.{Kept, Dropped, Spilled, Fault}
use Rattle.backlog.specs.declared.answers.PutAll.{PutAll}
use Rattle.backlog.specs.declared.answers.PutAll.TheVariants.{Done as AllDone, Fault as AllFault}
use Rattle.backlog.specs.declared.answers.Drawn.{Drawn}
use Rattle.backlog.specs.declared.answers.Drawn.TheVariants as drawn
use Rattle.backlog.specs.declared.answers.Flushed.{Flushed}
use Rattle.backlog.specs.declared.answers.Flushed.TheVariants.{Done as FlushDone, Fault as FlushFault}

-- a backlog: the messages of its ring but for one that was drawn from it, how many the ring holds at most, the queue of a durable one, and
-- where the message came from that was drawn and isn't settled yet
pub record Seen : Type 0 where
  pub ring : List Message
  pub capacity : ℕ
  pub queue : Option Queue
  pub lent : Lent

-- the greatest size of a body
abbrev pub longest_body : ℕ
longest_body = 16777216

-- the options of a queue of messages: a record has the 26 bytes before a message's body, and then at most the longest body
pub record ForMessages (options : QueueOptions) : Type 0 where
  pub least : options.least ≡ 26
  pub limit : options.limit ≡ 26 + longest_body

-- the body is no longer than any options allow
abbrev pub FitsLimit : Message → Type 0
FitsLimit message = length message.body ≤ longest_body

-- how many bytes a message has on disk
abbrev pub size_of : Message → ℕ
size_of message = 26 + length message.body

-- a backlog as it is made
abbrev pub fresh_backlog : List ℕ → ℕ → Bool → QueueOptions → Seen
fresh_backlog name capacity durable options =
    record { ring = []; capacity = capacity; queue = if durable then Some (fresh_queue name options) else None; lent = Nothing }

-- a backlog as an opening makes it: all is on disk
pub record IsOpenedAt (name : List ℕ) (capacity : ℕ) (options : QueueOptions) (b : Seen) (q : Queue) : Type 0 where
  pub is : b ≡ record { ring = []; capacity = capacity; queue = Some q; lent = Nothing }
  pub queue : q ≡ opened_queue name options q.depth q.positions

-- how many messages left the ring and aren't settled
abbrev pub lent_of_ring : Lent → ℕ
lent_of_ring Nothing = 0
lent_of_ring OfRing = 1
lent_of_ring OfDisk = 0

-- how many messages the ring has, with one that was drawn from it
abbrev pub ring_depth : Seen → ℕ
ring_depth b = length b.ring + lent_of_ring b.lent

-- the ring's messages with the drawn one, where it left the ring: as the first
abbrev pub with_lent : Lent → Message → List Message → List Message
with_lent Nothing message ring = ring
with_lent OfRing message ring = message ∷ ring
with_lent OfDisk message ring = ring

-- how many are on disk
abbrev pub disk_depth : Option Queue → ℕ
disk_depth None = 0
disk_depth (Some q) = q.depth

-- how many more the ring has room for
abbrev pub room : Seen → ℕ
room b = b.capacity - length b.ring

-- the ring takes one more exactly where it isn't full; else the message is dropped where there is no disk, and goes to disk, or back to the
-- caller, where there is one
abbrev pub PutWhere : Seen → PutOne → Type 0
PutWhere b Kept = length b.ring < b.capacity
PutWhere b Dropped = (b.capacity ≤ length b.ring) × (b.queue ≡ None)
PutWhere b Spilled = (b.capacity ≤ length b.ring) × IsSome b.queue
PutWhere b (Fault message) = (b.capacity ≤ length b.ring) × IsSome b.queue

-- a record of that many bytes joined the queue, and a save was made where that was due
pub record Spills (old new : Seen) (size : ℕ) : Type 0 where
  pub queue : Queue
  pub was : old.queue ≡ Some queue
  pub sync : Sync
  pub is : new ≡ record old { queue = Some (after_save (one_more queue size) sync) }
  pub due : NotDueWhere (IsEarly (one_more queue size)) sync

-- what putting a message changes; a message that was refused is handed back, and at most the queue's mark is dropped
abbrev pub PutSeen : Seen → Seen → Message → PutOne → Type 0
PutSeen old new message Kept = new ≡ record old { ring = old.ring ++ message ∷ [] }
PutSeen old new message Dropped = new ≡ old
PutSeen old new message Spilled = Spills old new (size_of message)
PutSeen old new message (Fault back) = (back ≡ message) × (new ≡ record old { queue = option_map unmarked old.queue })

-- the queue with records of these sizes staged behind those that were
abbrev pub staged_all : Queue → List ℕ → Queue
staged_all q [] = q
staged_all q (size ∷ sizes) = staged_all (after_stage q size Staged) sizes

-- records of these sizes joined the queue together, and a save was made where that was due
pub record SpillsAll (q r : Queue) (sizes : List ℕ) : Type 0 where
  pub sync : Sync
  pub is : r ≡ after_save (committed (staged_all q sizes)) sync
  pub due : NotDueWhere (IsEarly (committed (staged_all q sizes))) sync

-- a queue that dropped what was staged: its mark is dropped too, and a first record may have been staged before
pub record Unstages (q r : Queue) : Type 0 where
  pub begun : Bool
  pub stays : IsTrue q.begun → IsTrue begun
  pub is : r ≡ forgotten (record q { begun = begun })

-- what writing messages to the queue changes: they join it, or none does
abbrev pub SpillSeen : Queue → Queue → List Message → Did → Type 0
SpillSeen q r messages did.Done = SpillsAll q r (map size_of messages)
SpillSeen q r messages did.Failed = Unstages q r

-- what becomes of the messages that found the ring full: they are dropped where there is no disk, and else go to disk; without any the queue stays
abbrev pub QueueTakes : Option Queue → Option Queue → List Message → Type 0
QueueTakes None None messages = Unit {0}
QueueTakes None (Some r) messages = ⊥
QueueTakes (Some q) None messages = ⊥
QueueTakes (Some q) (Some r) [] = r ≡ q
QueueTakes (Some q) (Some r) (message ∷ messages) = SpillsAll q r (map size_of (message ∷ messages))

-- so did the queue, which is there
abbrev pub QueueUnstages : Option Queue → Option Queue → Type 0
QueueUnstages None _ = ⊥
QueueUnstages (Some q) None = ⊥
QueueUnstages (Some q) (Some r) = Unstages q r

-- what putting these messages changes: the ring takes the first of them, as many as it has room for. After a fault it takes none, and there
-- were more than that
abbrev pub PutAllSeen : Seen → Seen → List Message → PutAll → Type 0
PutAllSeen old new messages AllDone =
    (new ≡ record old { ring = old.ring ++ take (room old) messages; queue = new.queue }) × QueueTakes old.queue new.queue (drop (room old) messages)
PutAllSeen old new messages AllFault =
    (new ≡ record old { queue = new.queue }) × QueueUnstages old.queue new.queue × (room old < length messages)

-- the caller's messages afterwards
abbrev pub PutAllTakes : List Message → List Message → PutAll → Type 0
PutAllTakes old new AllDone = new ≡ []
PutAllTakes old new AllFault = new ≡ old

-- the ring is empty, and the queue was looked into with this answer
pub record Peeks (old new : Seen) (lent : Lent) (answer : Peek) : Type 0 where
  pub ring : old.ring ≡ []
  pub queue : Queue
  pub now : Queue
  pub was : old.queue ≡ Some queue
  pub is : new ≡ record old { queue = Some now; lent = lent }
  pub peeked : PeekSeen queue now answer

-- there is no message at all: the ring is empty, and there is no queue or nothing in it
pub data FindsNone (old new : Seen) : Type 0 where
  no_queue : old.ring ≡ [] → old.queue ≡ None → new ≡ old → FindsNone old new
  no_record : Peeks old new Nothing peek.Empty → FindsNone old new

-- the queue passed over a damaged file
pub record FindsDamage (old new : Seen) : Type 0 where
  pub file : ℕ
  pub place : ℕ
  pub size : ℕ
  pub peeks : Peeks old new Nothing (peek.Damaged file place size)

-- the queue gave a record, of which no message was made
pub record LeavesRecord (old new : Seen) : Type 0 where
  pub size : ℕ
  pub peeks : Peeks old new Nothing (peek.Got size)

-- a message was drawn: the ring's first, or one from disk where the ring is empty
pub data DrawsOne (old new : Seen) (message : Message) : Type 0 where
  of_ring : old.ring ≡ message ∷ new.ring → new ≡ record old { ring = new.ring; lent = OfRing } → DrawsOne old new message
  of_disk : Peeks old new OfDisk (peek.Got (size_of message)) → DrawsOne old new message

-- what drawing changes. Only a queue fails, finds damage or wants memory
abbrev pub DrawSeen : Seen → Seen → Drawn → Type 0
DrawSeen old new (drawn.Got message) = DrawsOne old new message
DrawSeen old new drawn.Empty = FindsNone old new
DrawSeen old new drawn.Fault = Peeks old new Nothing peek.Fault
DrawSeen old new drawn.Damaged = FindsDamage old new
DrawSeen old new drawn.Memory = LeavesRecord old new

-- a message is lent exactly where one was drawn
abbrev pub DrawLends : Lent → Drawn → Type 0
DrawLends lent (drawn.Got message) = lent ≢ Nothing
DrawLends lent drawn.Empty = lent ≡ Nothing
DrawLends lent drawn.Fault = lent ≡ Nothing
DrawLends lent drawn.Damaged = lent ≡ Nothing
DrawLends lent drawn.Memory = lent ≡ Nothing

-- a message that is drawn is short
abbrev pub DrawsShort : Drawn → Type 0
DrawsShort (drawn.Got message) = FitsLimit message
DrawsShort drawn.Empty = Unit {0}
DrawsShort drawn.Fault = Unit {0}
DrawsShort drawn.Damaged = Unit {0}
DrawsShort drawn.Memory = Unit {0}

-- the queue's first record went, and a save was made where that was due
pub record Settles (old new : Seen) : Type 0 where
  pub queue : Queue
  pub was : old.queue ≡ Some queue
  pub sync : Sync
  pub is : new ≡ record old { queue = Some (after_save (advanced queue) sync); lent = Nothing }
  pub due : NotDueWhere (IsEarly (advanced queue)) sync

-- what settling changes: a message of the ring is gone already
abbrev pub SettleSeen : Lent → Seen → Seen → Type 0
SettleSeen Nothing old new = ⊥
SettleSeen OfRing old new = new ≡ record old { lent = Nothing }
SettleSeen OfDisk old new = Settles old new

-- the backlog with the drawn message back: a message of the ring is its first again; one from disk never left it
abbrev pub undone : Seen → Message → Seen
undone b message = record b { ring = with_lent b.lent message b.ring; lent = Nothing }

-- a queue of the same name and options
pub record IsSameQueue (q r : Queue) : Type 0 where
  pub name : r.name ≡ q.name
  pub options : r.options ≡ q.options

abbrev pub SameQueue : Option Queue → Option Queue → Type 0
SameQueue None None = Unit {0}
SameQueue None (Some r) = ⊥
SameQueue (Some q) None = ⊥
SameQueue (Some q) (Some r) = IsSameQueue q r

-- so many records joined the queue, and none was read
pub record Lengthens (q r : Queue) (n : ℕ) : Type 0 where
  pub same : IsSameQueue q r
  pub depth : r.depth ≡ q.depth + n
  pub read_file : r.positions.read_file ≡ q.positions.read_file
  pub read_at : r.positions.read_at ≡ q.positions.read_at

abbrev pub QueueLengthens : Option Queue → Option Queue → ℕ → Type 0
QueueLengthens None _ n = ⊥
QueueLengthens (Some q) None n = ⊥
QueueLengthens (Some q) (Some r) n = Lengthens q r n

-- what a flush changes: so many messages went from the ring's front to the queue
pub record FlushMoves (old new : Seen) (written : ℕ) : Type 0 where
  pub within : written ≤ length old.ring
  pub is : new ≡ record old { ring = drop written old.ring; queue = new.queue }
  pub queue : QueueLengthens old.queue new.queue written

-- nothing changed in the queue since its last save
abbrev pub QueueIsSaved : Option Queue → Type 0
QueueIsSaved None = Unit {0}
QueueIsSaved (Some q) = IsUnchanged q

-- nothing changed in the queue since its last save, or one failed since
abbrev pub QueueIsTried : Option Queue → Type 0
QueueIsTried None = Unit {0}
QueueIsTried (Some q) = IsUnchanged q ⊎ IsTrue q.saved.failed

-- where all of a ring was written, it is empty
abbrev pub WritesAll : List Message → Did → Type 0
WritesAll ring did.Done = ring ≡ []
WritesAll ring did.Failed = Unit {0}

-- all of the ring is on disk and saved; or some of it, and nothing is unsaved unless a save failed
abbrev pub FlushSeen : Seen → Seen → Flushed → Type 0
FlushSeen old new FlushDone = FlushMoves old new (length old.ring) × QueueIsSaved new.queue
FlushSeen old new FlushFault = FlushMoves old new (length old.ring - length new.ring) × QueueIsTried new.queue

-- what a save changes
abbrev pub SyncSeen : Option Queue → Option Queue → Sync → Type 0
SyncSeen None None answer = answer ≡ sync.NotDue
SyncSeen None (Some r) answer = ⊥
SyncSeen (Some q) None answer = ⊥
SyncSeen (Some q) (Some r) answer = (r ≡ after_save (unmarked q) answer) × NotDueWhere (IsUnchanged q) answer

-- what emptying changes
abbrev pub EmptyQueueSeen : Option Queue → Option Queue → Emptied → Type 0
EmptyQueueSeen None None answer = answer ≡ emptying.Done
EmptyQueueSeen None (Some r) answer = ⊥
EmptyQueueSeen (Some q) None answer = ⊥
EmptyQueueSeen (Some q) (Some r) answer = QueueEmptySeen q r answer

abbrev pub EmptySeen : Seen → Seen → Emptied → Type 0
EmptySeen old new emptying.Done = (new ≡ record old { ring = []; queue = new.queue }) × EmptyQueueSeen old.queue new.queue emptying.Done
EmptySeen old new emptying.Fault = (new ≡ record old { queue = new.queue }) × EmptyQueueSeen old.queue new.queue emptying.Fault
