-- What a walk over a queue's files finds, by the sizes of their records alone.
use Rattle.std.specs.Prelude.{ℕ, ◌≡◌, ◌+◌, ◌^◌, ◌<◌, ◌≤◌, List, [], ◌∷◌, ◌++◌, length, take, drop, IsSome, Contains, true, false}
use Rattle.std.specs.List.{slice_range}
use Rattle.std.specs.Int.{w32, to_be_bytes}
use Rattle.nsq_outside.specs.Causes.{Rose, CountsFault}
use Rattle.nsq_outside.specs.Files.{Files}
use Rattle.queue_image.specs.Records.{HasRecord, IsNoRecord, IsRow, IsDamaged}
use Rattle.queue_image.specs.FileNames.{data_file}
use Rattle.queue_image.specs.Finds.{IsGoodFile, IsBadFile, Walks}
use Rattle.queue_image.specs.declared.positions.Positions.{Positions}
use Rattle.queue_image.specs.Places.{distance}
use Rattle.queue_opening.specs.declared.walking.Size.{Size}
use Rattle.queue_opening.specs.declared.walking.Size.TheVariants.{Is, Short, Fault as NoSize}
use Rattle.queue_opening.specs.declared.walking.Stand.{Stand}
use Rattle.queue_opening.specs.declared.walking.Stand.TheVariants.{Record, Damage, Fault as NoStand}
use Rattle.queue_opening.specs.declared.walking.Gives.{Gives}
use Rattle.queue_opening.specs.declared.walking.Gives.TheVariants.{Good, Bad, Fault}
use Rattle.queue_opening.specs.declared.walking.Walk.{Walk}

-- the size that begins these bytes; Short where there are fewer than four
abbrev pub SizeIs : List ℕ → Size → Type 0
SizeIs bytes (Is n) = to_be_bytes w32 n ≡ take 4 bytes
SizeIs bytes Short = length bytes < 4
SizeIs bytes NoSize = Unit {0}

abbrev pub SizeFails : ℕ → ℕ → Size → Type 0
SizeFails before now (Is n) = Unit {0}
SizeFails before now Short = Unit {0}
SizeFails before now NoSize = Rose before now

abbrev pub SizeCounts : ℕ → ℕ → Size → Type 0
SizeCounts before now (Is n) = CountsFault before now false
SizeCounts before now Short = CountsFault before now false
SizeCounts before now NoSize = CountsFault before now true

-- a record stands at a place in the bytes and ends at another
pub record HasRecordTo (least limit : ℕ) (bytes : List ℕ) (at next : ℕ) : Type 0 where
  pub body : List ℕ
  pub there : HasRecord least limit (drop at bytes) 0 body
  pub ends : next ≡ at + (4 + length body)

-- no record begins the bytes
pub record HasNoRecord (least limit : ℕ) (bytes : List ℕ) : Type 0 where
  pub size : ℕ
  pub none : IsNoRecord least limit bytes size

-- what stands at a place in the bytes, of which those up to `end` count
abbrev pub StandsAt : ℕ → ℕ → List ℕ → ℕ → ℕ → Stand → Type 0
StandsAt least limit bytes at end (Record next) = HasRecordTo least limit bytes at next
StandsAt least limit bytes at end Damage = HasNoRecord least limit (slice_range bytes at end)
StandsAt least limit bytes at end NoStand = Unit {0}

-- a record ends behind its size, and not past the end
abbrev pub StandsWithin : ℕ → ℕ → Stand → Type 0
StandsWithin at end (Record next) = (at + 4 ≤ next) × (next ≤ end)
StandsWithin at end Damage = Unit {0}
StandsWithin at end NoStand = Unit {0}

abbrev pub StandFails : ℕ → ℕ → Stand → Type 0
StandFails before now (Record next) = Unit {0}
StandFails before now Damage = Unit {0}
StandFails before now NoStand = Rose before now

abbrev pub StandCounts : ℕ → ℕ → Stand → Type 0
StandCounts before now (Record next) = CountsFault before now false
StandCounts before now Damage = CountsFault before now false
StandCounts before now NoStand = CountsFault before now true

-- the bytes are a row of so many records
pub record HasRow (least limit : ℕ) (bytes : List ℕ) (n : ℕ) : Type 0 where
  pub bodies : List (List ℕ)
  pub row : IsRow least limit bytes bodies
  pub count : length bodies ≡ n

-- the bytes are damaged
pub record HasDamage (least limit : ℕ) (bytes : List ℕ) : Type 0 where
  pub place : ℕ
  pub size : ℕ
  pub damage : IsDamaged least limit bytes place size

-- how many records the bytes are
abbrev pub RowGives : ℕ → ℕ → List ℕ → Gives → Type 0
RowGives least limit bytes (Good n) = HasRow least limit bytes n
RowGives least limit bytes Bad = HasDamage least limit bytes
RowGives least limit bytes Fault = Unit {0}

-- there are no more records than bytes
abbrev pub RowWithin : ℕ → ℕ → Gives → Type 0
RowWithin start end (Good n) = start + n ≤ end
RowWithin start end Bad = Unit {0}
RowWithin start end Fault = Unit {0}

abbrev pub GivesFails : ℕ → ℕ → Gives → Type 0
GivesFails before now (Good n) = Unit {0}
GivesFails before now Bad = Unit {0}
GivesFails before now Fault = Rose before now

abbrev pub GivesCounts : ℕ → ℕ → Gives → Type 0
GivesCounts before now (Good n) = CountsFault before now false
GivesCounts before now Bad = CountsFault before now false
GivesCounts before now Fault = CountsFault before now true

-- a file is good and gives so many records
pub record IsGoodWith (least limit : ℕ) (p : Positions) (k : ℕ) (bytes : List ℕ) (n : ℕ) : Type 0 where
  pub bodies : List (List ℕ)
  pub good : IsGoodFile least limit p k bytes bodies
  pub count : length bodies ≡ n

-- what the file of a number gives
abbrev pub GivesOf : ℕ → ℕ → Positions → ℕ → List ℕ → Gives → Type 0
GivesOf least limit p k bytes (Good n) = IsGoodWith least limit p k bytes n
GivesOf least limit p k bytes Bad = IsBadFile least limit p k bytes
GivesOf least limit p k bytes Fault = Unit {0}

-- it gives no more records than it may have bytes
abbrev pub GivesWithin : Positions → ℕ → Gives → Type 0
GivesWithin p k (Good n) = (n ≤ 2 ^ 62) × (k ≡ p.write_file → n ≤ p.write_at)
GivesWithin p k Bad = Unit {0}
GivesWithin p k Fault = Unit {0}

-- a number from a first one on, at most the last; none of the numbers that it passes over is among these
pub record IsNextIn (numbers : List ℕ) (from last next : ℕ) : Type 0 where
  pub low : from ≤ last → from ≤ next
  pub high : next ≤ last
  pub least : (k : ℕ) → Contains numbers k → from ≤ k → next ≤ k

-- with what a file gives the number of records is one that 128 bits hold
abbrev pub HasRoomFor : ℕ → Gives → Type 0
HasRoomFor depth (Good n) = depth + n < 2 ^ 128
HasRoomFor depth Bad = Unit {0}
HasRoomFor depth Fault = Unit {0}

-- what a file gives is added to what was found; nothing is added after a fault
abbrev pub WalkAdds : Walk → Walk → ℕ → Gives → Type 0
WalkAdds old new k (Good n) = (new.depth ≡ old.depth + n) × (new.bad.items ≡ old.bad.items)
WalkAdds old new k Bad = (new.depth ≡ old.depth) × (new.bad.items ≡ old.bad.items ++ k ∷ [])
WalkAdds old new k Fault = ⊥

-- the walk up to a file, without it, gives so many records and these bad files
pub record WalksUpTo (least limit : ℕ) (p : Positions) (bytes : ℕ → List ℕ) (k depth : ℕ) (bad : List ℕ) : Type 0 where
  pub bodies : List (List ℕ)
  pub walks : Walks least limit p bytes k bodies bad
  pub count : length bodies ≡ depth

-- the files that the walk went over are those from the read file to the write file; there are no more records than places, and none of the
-- write file where that is bad
pub record WalkFits (p : Positions) (walk : Walk) : Type 0 where
  pub within : (k : ℕ) → Contains walk.bad.items k → (p.read_file ≤ k) × (k ≤ p.write_file)
  pub depth : walk.depth ≤ distance p.write_file p.write_at
  pub but_last : Contains walk.bad.items p.write_file → walk.depth ≤ distance p.write_file 0

-- every data file of the queue is among these numbers
abbrev pub HasNumbers : Files → List ℕ → List ℕ → Type 0
HasNumbers files name numbers = (k : ℕ) → k < 2 ^ 64 → IsSome (files (data_file name k)) → Contains numbers k
