-- A folder as a map from names to bytes, and what each call on it does.
use Rattle.std.specs.Prelude.{ℕ, ◌≡◌, ◌≢◌, ◌+◌, ◌-◌, ◌^◌, ◌≤◌, ◌↔◌, ◌⊎◌, List, [], ◌++◌, length, take, drop, map, replicate, min, max, Option, Some, None, unwrap_or, IsSome, IsSomeAnd, Contains, AllPairs, String, string_bytes, true, false}
use Rattle.std.specs.List.{slice_range}
use Rattle.std.specs.declared.alloc.Global.{Global}
use Rattle.nsq_outside.specs.Causes.{Rose, CountsFault}
use Rattle.nsq_outside.specs.declared.did.Did.{Did}
use Rattle.nsq_outside.specs.declared.did.Did.TheVariants.{Done, Failed}
use Rattle.nsq_outside.specs.declared.folder.Listing.{Listing}
use Rattle.nsq_outside.specs.declared.folder.Listing.TheVariants.{Done as Listed, Failed as NotListed, Memory}
use Rattle.nsq_outside.specs.declared.folder.Length.{Length}
use Rattle.nsq_outside.specs.declared.folder.Length.TheVariants.{Is, Absent, Failed as NotMeasured}
use Rattle.nsq_outside.specs.declared.folder.ReadAt.{ReadAt}
use Rattle.nsq_outside.specs.declared.folder.ReadAt.TheVariants.{Got, Failed as NotRead}

-- the bytes of the file of a name, where there is one
abbrev pub Files : Type 0
Files = List ℕ → Option (List ℕ)

-- every file is as before
abbrev pub SameFiles : Files → Files → Type 0
SameFiles old new = (name : List ℕ) → new name ≡ old name

-- no file of another name changes
abbrev pub OnlyChanges : Files → Files → List ℕ → Type 0
OnlyChanges old new name = (other : List ℕ) → other ≢ name → new other ≡ old other

-- a name begins with these bytes; each name begins with none
abbrev pub BeginsWith : List ℕ → List ℕ → Type 0
BeginsWith name beginning = take (length beginning) name ≡ beginning

-- the names are those of the files whose names begin so, each once
pub record IsListing (files : Files) (beginning : List ℕ) (names : List (List ℕ)) : Type 0 where
  pub each : (name : List ℕ) → Contains names name ↔ (IsSome (files name) × BeginsWith name beginning)
  pub once : AllPairs (λ a b. a ≢ b) names

-- the names of the files whose names begin so joined the names that were there
pub record AppendsListing (files : Files) (beginning : List ℕ) (old new : List (String Global)) : Type 0 where
  pub added : List (String Global)
  pub appended : new ≡ old ++ added
  pub listing : IsListing files beginning (map string_bytes added)

-- the listing is appended, or nothing
abbrev pub Lists : Files → List ℕ → List (String Global) → List (String Global) → Listing → Type 0
Lists files beginning old new Listed = AppendsListing files beginning old new
Lists files beginning old new NotListed = new ≡ old
Lists files beginning old new Memory = new ≡ old

-- names were appended, or none
abbrev pub Appends : List (String Global) → List (String Global) → Listing → Type 0
Appends old new Listed = (added : List (String Global)) × (new ≡ old ++ added)
Appends old new NotListed = new ≡ old
Appends old new Memory = new ≡ old

-- Failed comes only with a rise
abbrev pub ListingFails : ℕ → ℕ → Listing → Type 0
ListingFails before now NotListed = Rose before now
ListingFails before now Listed = Unit {0}
ListingFails before now Memory = Unit {0}

-- Failed is counted, and nothing else
abbrev pub ListingCounts : ℕ → ℕ → Listing → Type 0
ListingCounts before now NotListed = CountsFault before now true
ListingCounts before now Listed = CountsFault before now false
ListingCounts before now Memory = CountsFault before now false

-- the length is that of the file; Absent comes only where there is no file
abbrev pub HasLength : Option (List ℕ) → Length → Type 0
HasLength file (Is n) = IsSomeAnd file (λ bytes. n ≡ length bytes)
HasLength file Absent = file ≡ None
HasLength file NotMeasured = Unit {0}

-- a file has at most 2^62 bytes
abbrev pub IsFileLength : Length → Type 0
IsFileLength (Is n) = n ≤ 2 ^ 62
IsFileLength Absent = Unit {0}
IsFileLength NotMeasured = Unit {0}

-- Failed comes only with a rise
abbrev pub LengthFails : ℕ → ℕ → Length → Type 0
LengthFails before now NotMeasured = Rose before now
LengthFails before now (Is n) = Unit {0}
LengthFails before now Absent = Unit {0}

-- Failed is counted, and nothing else
abbrev pub LengthCounts : ℕ → ℕ → Length → Type 0
LengthCounts before now NotMeasured = CountsFault before now true
LengthCounts before now (Is n) = CountsFault before now false
LengthCounts before now Absent = CountsFault before now false

-- a file has at most 2^62 bytes: what was carried out ends there
abbrev pub IsWithin : ℕ → Did → Type 0
IsWithin end Done = end ≤ 2 ^ 62
IsWithin end Failed = Unit {0}

-- and so does what was read
abbrev pub IsReadWithin : ℕ → ReadAt → Type 0
IsReadWithin at (Got n) = (n ≡ 0) ⊎ (at + n ≤ 2 ^ 62)
IsReadWithin at NotRead = Unit {0}

-- no more bytes than fit
abbrev pub IsAmountAt : ReadAt → ℕ → Type 0
IsAmountAt (Got n) most = n ≤ most
IsAmountAt NotRead most = Unit {0}

-- the bytes of the file from a place on, as many as fit and stand there, take the start of the buffer; a read that fails leaves it as it was
abbrev pub ReadsAt : Option (List ℕ) → ℕ → List ℕ → List ℕ → ReadAt → Type 0
ReadsAt file at old new (Got n) =
    let bytes = unwrap_or file [] in
    (n ≡ min (length old) (length bytes - at)) × (new ≡ take n (drop at bytes) ++ drop n old)
ReadsAt file at old new NotRead = new ≡ old

-- Failed comes only with a rise
abbrev pub ReadAtFails : ℕ → ℕ → ReadAt → Type 0
ReadAtFails before now NotRead = Rose before now
ReadAtFails before now (Got n) = Unit {0}

-- Failed is counted, and nothing else
abbrev pub ReadAtCounts : ℕ → ℕ → ReadAt → Type 0
ReadAtCounts before now NotRead = CountsFault before now true
ReadAtCounts before now (Got n) = CountsFault before now false

-- the first bytes, and zeros where there were fewer
abbrev pub cut_to : List ℕ → ℕ → List ℕ
cut_to bytes to = take to (bytes ++ replicate (to - length bytes) 0)

-- these bytes stand at this place, with zeros before it where the file was shorter
abbrev pub written_at : List ℕ → ℕ → List ℕ → List ℕ
written_at bytes at from = cut_to bytes at ++ from ++ drop (at + length from) bytes

-- a write of n bytes at a place failed: what stood before the place, and behind the range up to the old end, is as it was, and the file
-- didn't grow past the most bytes that a file may have
pub record IsTorn (old new : List ℕ) (at n : ℕ) : Type 0 where
  pub before : take (min at (length old)) new ≡ take at old
  pub behind : slice_range new (at + n) (length old) ≡ drop (at + n) old
  pub no_shorter : length old ≤ length new
  pub within : length new ≤ max (length old) (2 ^ 62)

-- the bytes stand where they were to; or the write failed, and may have torn its range and what lies past the old end
abbrev pub WritesAt : Option (List ℕ) → Option (List ℕ) → ℕ → List ℕ → Did → Type 0
WritesAt old new at from Done = new ≡ Some (written_at (unwrap_or old []) at from)
WritesAt old new at from Failed = (IsSome old → IsSome new) × IsTorn (unwrap_or old []) (unwrap_or new []) at (length from)

-- the file was cut; or that failed, and is done or undone
abbrev pub Cuts : Option (List ℕ) → Option (List ℕ) → ℕ → Did → Type 0
Cuts old new to Done = new ≡ Some (cut_to (unwrap_or old []) to)
Cuts old new to Failed = (new ≡ old) ⊎ (new ≡ Some (cut_to (unwrap_or old []) to))

-- one name's file has another name now; where there was none, nothing changes
pub record IsRenamed (old new : Files) (from to : List ℕ) : Type 0 where
  pub absent : old from ≡ None → SameFiles old new
  pub moved : IsSome (old from) → new to ≡ old from
  pub gone : IsSome (old from) → from ≢ to → new from ≡ None
  pub others : (other : List ℕ) → other ≢ from → other ≢ to → new other ≡ old other

-- the file was renamed; or that failed, and is done or undone
abbrev pub Renames : Files → Files → List ℕ → List ℕ → Did → Type 0
Renames old new from to Done = IsRenamed old new from to
Renames old new from to Failed = SameFiles old new ⊎ IsRenamed old new from to

-- the file is gone; or that failed, and is done or undone
abbrev pub Removes : Option (List ℕ) → Option (List ℕ) → Did → Type 0
Removes old new Done = new ≡ None
Removes old new Failed = (new ≡ old) ⊎ (new ≡ None)
