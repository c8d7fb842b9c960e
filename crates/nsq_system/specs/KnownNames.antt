-- Which names of files are known, and what changes that.
use Rattle.std.specs.Prelude.{ℕ, Bool, ◌≡◌, ◌≢◌, ◌↔◌, List, Option, None, Some, IsSome, Contains, String, IsTrue, ◌++◌, map, string_bytes}
use Rattle.std.specs.declared.alloc.Global.{Global}
use Rattle.std.specs.BTreeSet.{BTreeSet, contains_text}
use Rattle.std.specs.IoError.{error_kind}
use Rattle.std.specs.declared.io.Error.{Error}
use Rattle.std.specs.declared.io.ErrorKind.TheVariants.{NotFound, InvalidInput, OutOfMemory}
use Rattle.nsq_outside.specs.Files.{BeginsWith}
use Rattle.nsq_outside.specs.declared.folder.Listing.{Listing}
use Rattle.nsq_outside.specs.declared.folder.Listing.TheVariants.{Done as Listed, Failed as NotListed, Memory}

-- the names of the files, or they aren't known
abbrev pub Names : Type 0
Names = Option (BTreeSet (String Global))

-- the names are known, and this is one of them
abbrev pub Knows : Names → List ℕ → Type 0
Knows None name = ⊥
Knows (Some names) name = IsTrue (contains_text names name)

-- the names are known only if they were, and these are among them as before
pub record Keeps (old new : Names) (kept : List ℕ → Type 0) : Type 0 where
  pub known : IsSome new → IsSome old
  pub others : IsSome new → (name : List ℕ) → kept name → Knows new name ↔ Knows old name

-- no other name came or went
abbrev pub OnlyChanges : Names → Names → List ℕ → Type 0
OnlyChanges old new name = Keeps old new (λ other. other ≢ name)

-- nor any but these two
abbrev pub OnlyMoves : Names → Names → List ℕ → List ℕ → Type 0
OnlyMoves old new from to = Keeps old new (λ other. (other ≢ from) × (other ≢ to))

-- these are the names that are known and begin so, each and no other
abbrev pub ArePart : Names → List ℕ → List (List ℕ) → Type 0
ArePart known beginning names = (name : List ℕ) → Contains names name ↔ (Knows known name × BeginsWith name beginning)

-- behind an error the names aren't known; one that says that a file is absent, that a name is none of a file, or that memory is wanting may leave
-- them known, as it may come before the system is asked
abbrev pub AreForgotten : Names → Error → Type 0
AreForgotten known error = error_kind error ≢ NotFound → error_kind error ≢ InvalidInput → error_kind error ≢ OutOfMemory → known ≡ None

-- a name is in a set now, or isn't, and no other came or went
abbrev pub SetsName : BTreeSet (String Global) → BTreeSet (String Global) → List ℕ → Bool → Type 0
SetsName old new name here = (contains_text new name ≡ here) × ((other : List ℕ) → other ≢ name → contains_text new other ≡ contains_text old other)

-- only names that begin so were appended, or none
abbrev pub AppendsBeginning : List ℕ → List (String Global) → List (String Global) → Listing → Type 0
AppendsBeginning beginning old new Listed = (added : List (String Global)) × (new ≡ old ++ added) × ((name : List ℕ) → Contains (map string_bytes added) name → BeginsWith name beginning)
AppendsBeginning beginning old new NotListed = new ≡ old
AppendsBeginning beginning old new Memory = new ≡ old
