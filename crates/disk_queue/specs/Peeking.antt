-- What the parts of a peek do.
use Rattle.std.specs.Prelude.{ℕ, ◌≡◌, ◌+◌, ◌^◌, ◌<◌, ◌≤◌, List, length, take, Option, Some, None, true, false}
use Rattle.std.specs.Int.{w32, to_be_bytes}
use Rattle.nsq_outside.specs.Causes.{Rose, CountsFault}
use Rattle.queue_image.specs.Places.{IsAtEnd}
use Rattle.queue_image.specs.declared.positions.Positions.{Positions}
use Rattle.disk_queue.specs.Seen.{Seen, marked, passed_over, next_file}
use Rattle.disk_queue.specs.Reading.{IsReadOut, left_of}
use Rattle.disk_queue.specs.declared.answers.Peek.{Peek}
use Rattle.disk_queue.specs.declared.answers.Peek.TheVariants.{Got, Empty, Fault, Damaged}
use Rattle.disk_queue.specs.declared.queue.reading.Head.{Head}
use Rattle.disk_queue.specs.declared.queue.reading.Head.TheVariants.{Size, Short, Fault as HeadFault}

-- these bytes begin with this size, in four bytes, most significant first
pub record BeginsWithSize (bytes : List ℕ) (size : ℕ) : Type 0 where
  pub enough : 4 ≤ length bytes
  pub is : take 4 bytes ≡ to_be_bytes w32 size
  pub small : size < 2 ^ 32

-- these bytes begin with a size, or are fewer than four
abbrev pub HeadIs : List ℕ → Head → Type 0
HeadIs bytes (Size size) = BeginsWithSize bytes size
HeadIs bytes Short = length bytes < 4
HeadIs bytes HeadFault = Unit {0}

-- a size that is read ends in range
abbrev pub HeadEnds : ℕ → Head → Type 0
HeadEnds at (Size size) = at + 4 ≤ 2 ^ 62
HeadEnds at Short = Unit {0}
HeadEnds at HeadFault = Unit {0}

-- a fault comes only with a rise
abbrev pub HeadFails : ℕ → ℕ → Head → Type 0
HeadFails before now (Size size) = Unit {0}
HeadFails before now Short = Unit {0}
HeadFails before now HeadFault = Rose before now

-- a fault is counted, and nothing else
abbrev pub HeadCounts : ℕ → ℕ → Head → Type 0
HeadCounts before now (Size size) = CountsFault before now false
HeadCounts before now Short = CountsFault before now false
HeadCounts before now HeadFault = CountsFault before now true

abbrev pub FindCounts : ℕ → ℕ → Option Head → Type 0
FindCounts before now None = CountsFault before now false
FindCounts before now (Some head) = HeadCounts before now head

-- fewer than four bytes are left at a place that is neither a read-out file's end nor the end of the list
pub record IsShort (bytes : ℕ → List ℕ) (p : Positions) : Type 0 where
  pub not_out : ¬ IsReadOut bytes p
  pub not_end : ¬ IsAtEnd p
  pub few : length (left_of p (bytes p.read_file)) < 4

-- what is found in the file that is read
abbrev pub FileFinds : (ℕ → List ℕ) → Positions → Head → Type 0
FileFinds bytes p (Size size) = BeginsWithSize (left_of p (bytes p.read_file)) size
FileFinds bytes p Short = IsShort bytes p
FileFinds bytes p HeadFault = Unit {0}

-- the same once reading went past the files that are read out, or the end of the list
abbrev pub HeadFinds : (ℕ → List ℕ) → Positions → Option Head → Type 0
HeadFinds bytes p None = IsAtEnd p
HeadFinds bytes p (Some head) = FileFinds bytes p head

-- a file below the write file was looked at: it is read out, and reading goes on in the next; or what is found in it
abbrev pub TurnSeen : Seen → Seen → Option Head → Type 0
TurnSeen q r None = r ≡ record q { positions = next_file q.positions }
TurnSeen q r (Some head) = r ≡ q

abbrev pub TurnFinds : (ℕ → List ℕ) → Positions → Option Head → Type 0
TurnFinds bytes p None = IsReadOut bytes p
TurnFinds bytes p (Some head) = FileFinds bytes p head

-- what the answer changes once reading stands there
abbrev pub PeekMakes : Seen → Seen → Peek → Type 0
PeekMakes q r (Got n) = r ≡ marked q n
PeekMakes q r Empty = r ≡ record q { depth = 0 }
PeekMakes q r Fault = r ≡ q
PeekMakes q r (Damaged file at size) = (r ≡ passed_over q) × (file ≡ q.positions.read_file) × (at ≡ q.positions.read_at)
