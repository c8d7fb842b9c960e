-- What an opening finds of a queue, and what it is to make of the queue's files.
use Rattle.std.specs.Prelude.{ℕ, ◌≡◌, ◌+◌, ◌^◌, ◌<◌, ◌≤◌, ◌⊎◌, ◌↔◌, min, List, [], map, Option, Some, None, Contains, Bool, IsTrue, if◌then◌else◌, String, string_bytes}
use Rattle.std.specs.declared.alloc.Global.{Global}
use Rattle.nsq_outside.specs.Files.{Files}
use Rattle.queue_image.specs.FileNames.{data_file, meta_file}
use Rattle.queue_image.specs.Places.{IsOrdered, IsInRange, IsAtEnd, IsBehind, start, distance}
use Rattle.queue_image.specs.Metas.{Meta, IsMeta, Says}
use Rattle.queue_image.specs.Between.{content}
use Rattle.queue_image.specs.Finds.{IsFound, BadMeta}
use Rattle.queue_image.specs.declared.positions.Positions.{Positions}
use Rattle.queue_opening.specs.Walked.{WalksUpTo, HasNumbers}
use Rattle.queue_opening.specs.declared.refusal.Open.{Open}
use Rattle.queue_opening.specs.declared.refusal.Open.TheVariants.{Fault, BadMeta as IsBadMeta, Memory}
use Rattle.queue_opening.specs.declared.plan.Plan.{Plan}

-- a file is there and is no metadata
pub record IsSpoilt (file : Option (List ℕ)) : Type 0 where
  pub text : List ℕ
  pub there : file ≡ Some text
  pub none : (meta : Meta) → ¬ IsMeta text meta

-- what the metadata says, or that there is none
abbrev pub SaysWhere : Option (List ℕ) → Option Positions → Type 0
SaysWhere file None = file ≡ None
SaysWhere file (Some p) = Says file p

-- the positions of a metadata are in order and in range
pub record IsUsable (p : Positions) : Type 0 where
  pub ordered : IsOrdered p
  pub range : IsInRange p

-- BadMeta comes only where the metadata is not in its grammar
abbrev pub SpoiltWhere : Option (List ℕ) → Open → Type 0
SpoiltWhere file Fault = Unit {0}
SpoiltWhere file IsBadMeta = IsSpoilt file
SpoiltWhere file Memory = Unit {0}

-- every data file of the queue that is among these files has its number among these numbers
abbrev pub HasNumbersOf : List (String Global) → List ℕ → List ℕ → Type 0
HasNumbersOf files name numbers = (k : ℕ) → k < 2 ^ 64 → Contains (map string_bytes files) (data_file name k) → Contains numbers k

-- the number of a file joins the numbers, where it is a data file of the queue
pub record AddsNumber (name file old new : List ℕ) : Type 0 where
  pub keeps : (k : ℕ) → Contains old k → Contains new k
  pub adds : (k : ℕ) → k < 2 ^ 64 → file ≡ data_file name k → Contains new k

-- what is found between the positions: nothing where they are the same, else what the walk gives
abbrev pub FoundBetween : ℕ → ℕ → Positions → (ℕ → List ℕ) → ℕ → List ℕ → Type 0
FoundBetween least limit p bytes depth bad = (IsAtEnd p × (depth ≡ 0) × (bad ≡ [])) ⊎ (IsBehind p × WalksUpTo least limit p bytes (p.write_file + 1) depth bad)

-- both positions at the start of a file
abbrev pub start_of : ℕ → Positions
start_of file = record { read_file = file; read_at = 0; write_file = file; write_at = 0 }

-- where the queue stands once its bad files are set aside: writing goes on at the start of the next file where the write file was bad, reading
-- at the start of the read file where that was bad; without a record both are at the start of the write file
abbrev pub settled : Positions → Bool → Bool → Bool → Positions
settled p none read_bad write_bad =
    let file = if write_bad then min (p.write_file + 1) (2 ^ 40) else p.write_file in
    if none
    then start_of file
    else record { read_file = p.read_file; read_at = if read_bad then 0 else p.read_at; write_file = file; write_at = if write_bad then 0 else p.write_at }

pub record IsSettled (p : Positions) (depth : ℕ) (bad : List ℕ) (q : Positions) : Type 0 where
  pub none : Bool
  pub read_bad : Bool
  pub write_bad : Bool
  pub empty : IsTrue none ↔ (depth ≡ 0)
  pub read : IsTrue read_bad ↔ Contains bad p.read_file
  pub write : IsTrue write_bad ↔ Contains bad p.write_file
  pub is : q ≡ settled p none read_bad write_bad

-- with metadata of these positions: what is found between them, and what is done with the files
pub record PlansWith (least limit : ℕ) (files : Files) (name : List ℕ) (plan : Plan) (p : Positions) : Type 0 where
  pub found : FoundBetween least limit p (content files name) plan.depth plan.bad.items
  pub above : plan.above ≡ p.write_file + 1
  pub below : plan.below ≡ p.read_file
  pub settles : IsSettled p plan.depth plan.bad.items plan.positions

-- without metadata: nothing is found, and every data file is set aside
pub record PlansWithout (plan : Plan) : Type 0 where
  pub depth : plan.depth ≡ 0
  pub bad : plan.bad.items ≡ []
  pub above : plan.above ≡ 0
  pub below : plan.below ≡ 0
  pub positions : plan.positions ≡ start

-- a plan for the queue of that name
pub record IsPlanned (least limit : ℕ) (files : Files) (name : List ℕ) (plan : Plan) : Type 0 where
  pub numbers : HasNumbers files name plan.numbers.items
  pub with_meta : (p : Positions) → Says (files (meta_file name)) p → PlansWith least limit files name plan p
  pub without : files (meta_file name) ≡ None → PlansWithout plan
  pub either : (files (meta_file name) ≡ None) ⊎ ((p : Positions) × Says (files (meta_file name)) p)

-- a plan's positions are in order and in range, and there are no more records than places; what is removed, what is bad and what is above
-- are different files
pub record IsPlan (plan : Plan) : Type 0 where
  pub ordered : IsOrdered plan.positions
  pub range : IsInRange plan.positions
  pub depth : plan.depth ≤ distance plan.positions.write_file plan.positions.write_at
  pub below : plan.below ≤ plan.positions.read_file
  pub apart : plan.below ≤ plan.above
  pub bad : (k : ℕ) → Contains plan.bad.items k → (plan.below ≤ k) × (k < plan.above)

-- BadMeta comes only where the metadata is not in its grammar
abbrev pub FindsBadMeta : ℕ → ℕ → Files → List ℕ → Open → Type 0
FindsBadMeta least limit files name Fault = Unit {0}
FindsBadMeta least limit files name IsBadMeta = IsFound least limit files name BadMeta
FindsBadMeta least limit files name Memory = Unit {0}
