-- What the calls on the files of a queue do.
use Rattle.std.specs.Prelude.{ℕ, ◌≡◌, ◌≢◌, ◌<◌, ◌≤◌, List, [], ◌++◌, length, take, Option, Some, None, unwrap_or, true, false}
use Rattle.nsq_outside.specs.Causes.{CountsFault}
use Rattle.nsq_outside.specs.Files.{Files, written_at}
use Rattle.nsq_outside.specs.declared.did.Did.{Did}
use Rattle.nsq_outside.specs.declared.did.Did.TheVariants.{Done, Failed}
use Rattle.queue_image.specs.FileNames.{data_file}
use Rattle.queue_image.specs.Records.{record_bytes}

-- the name of a queue and the number of one of its data files
pub record DataFile : Type 0 where
  pub name : List ℕ
  pub number : ℕ

-- a record stands at a place in a file; where that failed, what stood before the place stays
abbrev pub WritesRecord : Option (List ℕ) → Option (List ℕ) → ℕ → List ℕ → Did → Type 0
WritesRecord old new at body Done = new ≡ Some (written_at (unwrap_or old []) at (record_bytes body))
WritesRecord old new at body Failed = at ≤ length (unwrap_or old []) → take at (unwrap_or new []) ≡ take at (unwrap_or old [])

-- the same of a size and bytes that are written one behind the other
abbrev pub WritesBoth : Option (List ℕ) → Option (List ℕ) → ℕ → List ℕ → List ℕ → Did → Type 0
WritesBoth old new at size body Done = new ≡ Some (written_at (unwrap_or old []) at (size ++ body))
WritesBoth old new at size body Failed = at ≤ length (unwrap_or old []) → take at (unwrap_or new []) ≡ take at (unwrap_or old [])

-- the data files of these numbers are gone
abbrev pub Gone : List ℕ → Files → ℕ → ℕ → Did → Type 0
Gone name files from to Done = (k : ℕ) → from ≤ k → k < to → files (data_file name k) ≡ None
Gone name files from to Failed = Unit {0}

-- a removal fails only where there is a number
abbrev pub RemovalFails : ℕ → ℕ → Did → Type 0
RemovalFails from to Done = Unit {0}
RemovalFails from to Failed = from < to

-- no file changes but the data files of these numbers
abbrev pub OnlyNumbersChange : List ℕ → Files → Files → ℕ → ℕ → Type 0
OnlyNumbersChange name old new from to = (file : List ℕ) → ((k : ℕ) → from ≤ k → k < to → file ≢ data_file name k) → new file ≡ old file

-- None is counted as a failure, and nothing else
abbrev pub CountsNone : {A : Type 0} → ℕ → ℕ → Option A → Type 0
CountsNone before now None = CountsFault before now true
CountsNone before now (Some _) = CountsFault before now false
