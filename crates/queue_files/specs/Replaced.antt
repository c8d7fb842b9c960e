-- What replacing a file by way of another does.
use Rattle.std.specs.Prelude.{ℕ, ◌≡◌, ◌≢◌, ◌⊎◌, List, Option, Some, None}
use Rattle.nsq_outside.specs.Files.{Files}
use Rattle.nsq_outside.specs.declared.did.Did.{Did}
use Rattle.nsq_outside.specs.declared.did.Did.TheVariants.{Done, Failed}

-- the file has exactly these bytes; nothing is said of it where that failed
abbrev pub Writes : Option (List ℕ) → List ℕ → Did → Type 0
Writes new bytes Done = new ≡ Some bytes
Writes new bytes Failed = Unit {0}

-- the file has exactly these bytes, and its temporary is gone; where that failed, the file has these or its old content
abbrev pub Replaces : Files → Files → (name temp bytes : List ℕ) → Did → Type 0
Replaces old new name temp bytes Done = (new name ≡ Some bytes) × (new temp ≡ None)
Replaces old new name temp bytes Failed = (new name ≡ old name) ⊎ (new name ≡ Some bytes)

-- no file but these two changes
abbrev pub OnlyTwoChange : Files → Files → List ℕ → List ℕ → Type 0
OnlyTwoChange old new name temp = (other : List ℕ) → other ≢ name → other ≢ temp → new other ≡ old other
