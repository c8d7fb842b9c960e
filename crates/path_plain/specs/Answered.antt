-- What the functions of this crate answer, by the cases of their results.
use Rattle.std.specs.Prelude.{◌≡◌, ℕ, ◌+◌, ◌<◌, ◌≤◌, List, [], ◌∷◌, ◌++◌, max, Option, None}
use Rattle.queue_image.specs.FileNames.{data_file}
use Rattle.queue_image.specs.Finds.{Finding, BadMeta, Records, IsGoodFile, IsBadFile, Walks}
use Rattle.queue_image.specs.declared.positions.Positions.{Positions}
use Rattle.path_plain.specs.declared.finding.Found.{Found}
use Rattle.path_plain.specs.declared.finding.Found.TheVariants.{BadMeta as FoundBadMeta, Records as FoundRecords}
use Rattle.path_plain.specs.declared.finding.Listing.{Listing}
use Rattle.path_plain.specs.declared.finding.Part.{Part}
use Rattle.path_plain.specs.declared.finding.Part.TheVariants.{Good, Bad}

-- the finding that the answer of an opening tells
abbrev pub finding_of : Found → Finding
finding_of FoundBadMeta = BadMeta
finding_of (FoundRecords listing) = Records listing.bodies listing.bad.items

-- the answer tells the whole walk
abbrev pub WalksTo : ℕ → ℕ → Positions → (ℕ → List ℕ) → Found → Type 0
WalksTo least limit p bytes FoundBadMeta = ⊥
WalksTo least limit p bytes (FoundRecords listing) = Walks least limit p bytes (p.write_file + 1) listing.bodies listing.bad.items

-- what a file gives: its bodies, or nothing where it is bad
abbrev pub PartIs : ℕ → ℕ → Positions → ℕ → List ℕ → Part → Type 0
PartIs least limit p k bytes (Good bodies) = IsGoodFile least limit p k bytes bodies
PartIs least limit p k bytes Bad = IsBadFile least limit p k bytes

-- the bodies of a good file join the list, or the number of a bad one the numbers
abbrev pub Adds : Listing → Listing → ℕ → Part → Type 0
Adds old new k (Good more) = (new.bodies ≡ old.bodies ++ more) × (new.bad.items ≡ old.bad.items)
Adds old new k Bad = (new.bodies ≡ old.bodies) × (new.bad.items ≡ old.bad.items ++ k ∷ [])

-- a number from a first one on, at most the last where that is not before the first; no number passed over has a data file
pub record IsNextNumber (files : List ℕ → Option (List ℕ)) (name : List ℕ) (from last next : ℕ) : Type 0 where
  pub low : from ≤ next
  pub high : next ≤ max from last
  pub absent : (k : ℕ) → from ≤ k → k < next → files (data_file name k) ≡ None
