-- What is read of a queue, and what the calls that read it answer.
use Rattle.std.specs.Prelude.{ℕ, ◌≡◌, ◌+◌, ◌-◌, ◌<◌, ◌≤◌, ◌⊎◌, List, [], ◌∷◌, length, take, drop, slice_range, true, false}
use Rattle.nsq_outside.specs.Causes.{Rose, CountsFault}
use Rattle.nsq_outside.specs.Files.{Files, SameFiles}
use Rattle.queue_image.specs.Places.{IsAtEnd, part_end}
use Rattle.queue_image.specs.Records.{HasRecord, IsSize, size_read}
use Rattle.queue_image.specs.declared.positions.Positions.{Positions}
use Rattle.disk_queue.specs.Seen.{Seen, IsEarly, unmarked, next_file, reading_at, marked, advanced, passed_over, after_save}
use Rattle.disk_queue.specs.Answers.{NotDueWhere, SyncFails, SyncCounts, Saves, KeptWhereDone}
use Rattle.disk_queue.specs.Parts.{OnlySaveChanges}
use Rattle.disk_queue.specs.declared.answers.Sync.{Sync}
use Rattle.disk_queue.specs.declared.answers.Peek.{Peek}
use Rattle.disk_queue.specs.declared.answers.Peek.TheVariants.{Got, Empty, Fault, Damaged}
use Rattle.disk_queue.specs.declared.answers.Take.{Take}
use Rattle.disk_queue.specs.declared.answers.Take.TheVariants as taking

-- the file that is read is read out, and it is not the write file
pub record IsReadOut (bytes : ℕ → List ℕ) (p : Positions) : Type 0 where
  pub earlier : p.read_file < p.write_file
  pub out : p.read_at ≡ length (bytes p.read_file)

-- the read position moves past files that are read out, each time to the start of the next
pub data Turns (bytes : ℕ → List ℕ) (p : Positions) : Positions → Type 0 where
  stays : {r : Positions} → r ≡ p → Turns bytes p r
  turns : {r s : Positions} → Turns bytes p r → IsReadOut bytes r → s ≡ next_file r → Turns bytes p s

-- what the queue has left of the bytes of the file that is read: up to the write position in the write file, else up to the end
abbrev pub left_of : Positions → List ℕ → List ℕ
left_of p bytes = slice_range bytes p.read_at (part_end p p.read_file (length bytes))

-- no record begins these bytes, and this size is read there: 0 where there are fewer than four; else one that the queue does not take, or
-- that is more than what stands behind it
pub data IsUnreadable (least limit : ℕ) (bytes : List ℕ) (size : ℕ) : Type 0 where
  short : length bytes < 4 → size ≡ 0 → IsUnreadable least limit bytes size
  wrong : 4 ≤ length bytes → size ≡ size_read bytes → (size < least) ⊎ (limit < size) → IsUnreadable least limit bytes size
  passing : 4 ≤ length bytes → size ≡ size_read bytes → length bytes < 4 + size → IsUnreadable least limit bytes size

-- nothing that can be read stands at a place that is neither a read-out file's end nor the end of the list
pub record IsDamage (least limit : ℕ) (bytes : ℕ → List ℕ) (p : Positions) (size : ℕ) : Type 0 where
  pub not_out : ¬ IsReadOut bytes p
  pub not_end : ¬ IsAtEnd p
  pub unreadable : IsUnreadable least limit (left_of p (bytes p.read_file)) size

-- where reading stood in a peek that left the read position there
abbrev pub stood : Positions → Peek → Positions
stood p (Got n) = p
stood p Empty = p
stood p Fault = p
stood p (Damaged file at size) = record p { read_file = file; read_at = at }

-- what a peek changes: the read position and the mark. An empty list has a depth of 0; a damaged file is passed over
abbrev pub PeekSeen : Seen → Seen → Peek → Type 0
PeekSeen q r (Got n) = r ≡ marked (reading_at q r.positions.read_file r.positions.read_at) n
PeekSeen q r Empty = r ≡ record (unmarked (reading_at q r.positions.read_file r.positions.read_at)) { depth = 0 }
PeekSeen q r Fault = r ≡ unmarked (reading_at q r.positions.read_file r.positions.read_at)
PeekSeen q r (Damaged file at size) = r ≡ passed_over (reading_at q file at)

-- a record that is given has a size that the queue takes
abbrev pub PeekSize : ℕ → ℕ → Peek → Type 0
PeekSize least limit (Got n) = IsSize least limit n
PeekSize least limit Empty = Unit {0}
PeekSize least limit Fault = Unit {0}
PeekSize least limit (Damaged file at size) = Unit {0}

-- what the files have where reading stood: the record that is given; the end of the list; no record, and this size
abbrev pub PeekReads : ℕ → ℕ → (ℕ → List ℕ) → Positions → List ℕ → Peek → Type 0
PeekReads least limit bytes p into (Got n) = (n ≤ length into) × HasRecord least limit (left_of p (bytes p.read_file)) 0 (take n into)
PeekReads least limit bytes p into Empty = IsAtEnd p
PeekReads least limit bytes p into Fault = Unit {0}
PeekReads least limit bytes p into (Damaged file at size) = IsDamage least limit bytes p size

-- these bytes are the first of the list
pub record IsFirst (bodies : List (List ℕ)) (body : List ℕ) : Type 0 where
  pub rest : List (List ℕ)
  pub whole : bodies ≡ body ∷ rest

-- a peek gives the first of the list, and Empty where there is none; no file is damaged
abbrev pub PeekGives : List (List ℕ) → List ℕ → Peek → Type 0
PeekGives bodies into (Got n) = IsFirst bodies (take n into)
PeekGives bodies into Empty = bodies ≡ []
PeekGives bodies into Fault = Unit {0}
PeekGives bodies into (Damaged file at size) = ⊥

-- a fault comes only with a rise
abbrev pub PeekFails : ℕ → ℕ → Peek → Type 0
PeekFails before now (Got n) = Unit {0}
PeekFails before now Empty = Unit {0}
PeekFails before now Fault = Rose before now
PeekFails before now (Damaged file at size) = Unit {0}

-- a fault is counted, and nothing else
abbrev pub PeekCounts : ℕ → ℕ → Peek → Type 0
PeekCounts before now (Got n) = CountsFault before now false
PeekCounts before now Empty = CountsFault before now false
PeekCounts before now Fault = CountsFault before now true
PeekCounts before now (Damaged file at size) = CountsFault before now false

-- the answer of the peek in a taking
abbrev pub peek_of : Take → Peek
peek_of (taking.Got n sync) = Got n
peek_of taking.Empty = Empty
peek_of taking.Fault = Fault
peek_of (taking.Damaged file at size) = Damaged file at size

-- where reading stood in a taking that left the read position there: a record that was taken stands before it
abbrev pub stood_taking : Positions → Take → Positions
stood_taking p (taking.Got n sync) = record p { read_at = p.read_at - (4 + n) }
stood_taking p taking.Empty = p
stood_taking p taking.Fault = p
stood_taking p (taking.Damaged file at size) = record p { read_file = file; read_at = at }

-- the record of n bytes that stands at a place was taken, and a save was made where that was due
pub record IsTaken (q r : Seen) (n : ℕ) (sync : Sync) : Type 0 where
  pub file : ℕ
  pub place : ℕ
  pub is : r ≡ after_save (advanced (marked (reading_at q file place) n)) sync
  pub due : NotDueWhere (IsEarly (advanced (marked (reading_at q file place) n))) sync

-- what a taking changes
abbrev pub TakeSeen : Seen → Seen → Take → Type 0
TakeSeen q r (taking.Got n sync) = IsTaken q r n sync
TakeSeen q r taking.Empty = PeekSeen q r Empty
TakeSeen q r taking.Fault = PeekSeen q r Fault
TakeSeen q r (taking.Damaged file at size) = PeekSeen q r (Damaged file at size)

-- the list after a taking
abbrev pub bodies_taken : List (List ℕ) → Take → List (List ℕ)
bodies_taken bodies (taking.Got n sync) = drop 1 bodies
bodies_taken bodies taking.Empty = bodies
bodies_taken bodies taking.Fault = bodies
bodies_taken bodies (taking.Damaged file at size) = bodies

-- the list is saved where a save was made
abbrev pub TakeKept : Seen → Files → List (List ℕ) → Take → Type 0
TakeKept q files bodies (taking.Got n sync) = KeptWhereDone q files bodies sync
TakeKept q files bodies taking.Empty = Unit {0}
TakeKept q files bodies taking.Fault = Unit {0}
TakeKept q files bodies (taking.Damaged file at size) = Unit {0}

-- what the save in a taking does to the metadata; without a taking no file changes
abbrev pub TakeSaves : Seen → Files → Files → Take → Type 0
TakeSaves q old new (taking.Got n sync) = Saves q old new sync
TakeSaves q old new taking.Empty = SameFiles old new
TakeSaves q old new taking.Fault = SameFiles old new
TakeSaves q old new (taking.Damaged file at size) = SameFiles old new

-- no file changes but what the save writes, and the data files below the one that is read then, which it removes
abbrev pub TakeChanges : Seen → Seen → Files → Files → Type 0
TakeChanges q r old new = OnlySaveChanges (reading_at q r.positions.read_file r.positions.read_at) old new

-- a fault, or a save that failed, comes only with a rise
abbrev pub TakeFails : ℕ → ℕ → Take → Type 0
TakeFails before now (taking.Got n sync) = SyncFails before now sync
TakeFails before now taking.Empty = Unit {0}
TakeFails before now taking.Fault = Rose before now
TakeFails before now (taking.Damaged file at size) = Unit {0}

-- a fault, or a save that failed, is counted, and nothing else
abbrev pub TakeCounts : ℕ → ℕ → Take → Type 0
TakeCounts before now (taking.Got n sync) = SyncCounts before now sync
TakeCounts before now taking.Empty = CountsFault before now false
TakeCounts before now taking.Fault = CountsFault before now true
TakeCounts before now (taking.Damaged file at size) = CountsFault before now false
