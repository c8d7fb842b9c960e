-- What an opening does with a queue's files before it saves.
use Rattle.std.specs.Prelude.{ℕ, ◌≡◌, ◌≢◌, ◌+◌, min, ◌^◌, ◌<◌, ◌≤◌, ◌⊎◌, List, [], Option, Some, None, IsSome, Contains, length}
use Rattle.nsq_outside.specs.Files.{Files, SameFiles, OnlyChanges, Renames, cut_to}
use Rattle.nsq_outside.specs.declared.did.Did.{Did}
use Rattle.nsq_outside.specs.declared.did.Did.TheVariants.{Done, Failed}
use Rattle.queue_image.specs.FileNames.{data_file, meta_file, meta_temp, set_aside}
use Rattle.queue_image.specs.Metas.{meta_text}
use Rattle.queue_image.specs.Between.{content}
use Rattle.queue_image.specs.declared.positions.Positions.{Positions}
use Rattle.queue_opening.specs.declared.plan.Plan.{Plan}

-- the data file of that number, if there was one, has `.bad` added to its name now, in place of a file that had this name; where there was
-- none, that one stays; only a new write file has its number
pub record IsSetAside (name : List ℕ) (old new : Files) (write k : ℕ) : Type 0 where
  pub moved : IsSome (old (data_file name k)) → new (set_aside (data_file name k)) ≡ old (data_file name k)
  pub gone : k ≢ write → new (data_file name k) ≡ None
  pub stays : old (data_file name k) ≡ None → new (set_aside (data_file name k)) ≡ old (set_aside (data_file name k))

-- with metadata of these positions, where these files are bad. Set aside are those above the write file and the bad ones, and none else;
-- those below the read file are gone, and the good ones before the write file stay. Writing goes on in the write file, cut at the write position;
-- or where that is bad, at the start of the next file, whose number is at most 2 ^ 40
pub record IsTidiedAt (name : List ℕ) (old new : Files) (p : Positions) (bad_files : List ℕ) (q : Positions) : Type 0 where
  pub removed : (k : ℕ) → k < p.read_file → new (data_file name k) ≡ None
  pub above : (k : ℕ) → p.write_file < k → k < 2 ^ 64 → IsSetAside name old new q.write_file k
  pub bad : (k : ℕ) → Contains bad_files k → IsSetAside name old new q.write_file k
  pub kept_aside : (k : ℕ) → k ≤ p.write_file → ¬ Contains bad_files k → new (set_aside (data_file name k)) ≡ old (set_aside (data_file name k))
  pub good : (k : ℕ) → q.read_file ≤ k → k < p.write_file → ¬ Contains bad_files k → new (data_file name k) ≡ old (data_file name k)
  pub same_write : ¬ Contains bad_files p.write_file → (q.write_file ≡ p.write_file) × (new (data_file name p.write_file) ≡ Some (cut_to (content old name p.write_file) q.write_at))
  pub next_write : Contains bad_files p.write_file → (q.write_file ≡ min (p.write_file + 1) (2 ^ 40)) × (q.write_at ≡ 0)

-- the file of a number is set aside unless it is below a first one
pub record AsideStep (name : List ℕ) (from n : ℕ) (old new : Files) (did : Did) : Type 0 where
  pub done : from ≤ n → Renames old new (data_file name n) (set_aside (data_file name n)) did
  pub same : n < from → SameFiles old new

-- the data file of a number is gone, and has another name now, if there was one
pub record IsMoved (name : List ℕ) (old new : Files) (k : ℕ) : Type 0 where
  pub gone : new (data_file name k) ≡ None
  pub moved : IsSome (old (data_file name k)) → new (set_aside (data_file name k)) ≡ old (data_file name k)

-- the files of these numbers from a first one on are set aside, and none of another number
pub record IsAside (name numbers : List ℕ) (from : ℕ) (old new : Files) : Type 0 where
  pub moves : (k : ℕ) → k < 2 ^ 64 → Contains numbers k → from ≤ k → IsMoved name old new k
  pub either : (k : ℕ) → k < 2 ^ 64 → (new (data_file name k) ≡ old (data_file name k)) ⊎ IsMoved name old new k

-- only these files change: those that are there, and those that have the names that they get
abbrev pub OnlyAsideChanges : List ℕ → List ℕ → ℕ → Files → Files → Type 0
OnlyAsideChanges name numbers from old new =
    (file : List ℕ) → ((k : ℕ) → k < 2 ^ 64 → Contains numbers k → from ≤ k → IsSome (old (data_file name k)) → (file ≢ data_file name k) × (file ≢ set_aside (data_file name k))) → new file ≡ old file

-- each data file is as it was or gone
abbrev pub StaysOrGoes : List ℕ → Files → Files → Type 0
StaysOrGoes name old new = (k : ℕ) → k < 2 ^ 64 → (new (data_file name k) ≡ old (data_file name k)) ⊎ (new (data_file name k) ≡ None)

abbrev pub AsideWhere : List ℕ → List ℕ → ℕ → Files → Files → Did → Type 0
AsideWhere name numbers from old new Done = IsAside name numbers from old new
AsideWhere name numbers from old new Failed = StaysOrGoes name old new

-- a file is gone, unless that failed
abbrev pub GoneWhere : Option (List ℕ) → Did → Type 0
GoneWhere file Done = file ≡ None
GoneWhere file Failed = Unit {0}

-- the file of a number is removed where it is below an end
pub record RemoveStep (name : List ℕ) (to n : ℕ) (old new : Files) (did : Did) : Type 0 where
  pub done : n < to → GoneWhere (new (data_file name n)) did
  pub others : n < to → OnlyChanges old new (data_file name n)
  pub same : to ≤ n → SameFiles old new

-- the files of these numbers below an end are gone
abbrev pub RemovedWhere : List ℕ → List ℕ → ℕ → Files → Did → Type 0
RemovedWhere name numbers to files Done = (k : ℕ) → Contains numbers k → k < to → files (data_file name k) ≡ None
RemovedWhere name numbers to files Failed = Unit {0}

abbrev pub OnlyRemovedChange : List ℕ → List ℕ → ℕ → Files → Files → Type 0
OnlyRemovedChange name numbers to old new = (file : List ℕ) → ((k : ℕ) → Contains numbers k → k < to → file ≢ data_file name k) → new file ≡ old file

-- a plan sets the file of that number aside
abbrev pub SetsAside : Plan → ℕ → Type 0
SetsAside plan k = (Contains plan.numbers.items k × (plan.above ≤ k)) ⊎ Contains plan.bad.items k

-- no file changes but those that are set aside, those that have the names that these get, those that are removed, and the write file
abbrev pub OnlyTidied : List ℕ → Plan → Files → Files → Type 0
OnlyTidied name plan old new =
    (file : List ℕ) → ((k : ℕ) → k < 2 ^ 64 → SetsAside plan k → IsSome (old (data_file name k)) → (file ≢ data_file name k) × (file ≢ set_aside (data_file name k)))
    → ((k : ℕ) → Contains plan.numbers.items k → k < plan.below → file ≢ data_file name k) → file ≢ data_file name plan.positions.write_file → new file ≡ old file

-- a plan is carried out
pub record IsTidy (name : List ℕ) (plan : Plan) (old new : Files) : Type 0 where
  pub aside : (k : ℕ) → k < 2 ^ 64 → SetsAside plan k → IsSetAside name old new plan.positions.write_file k
  pub removed : (k : ℕ) → Contains plan.numbers.items k → k < plan.below → new (data_file name k) ≡ None
  pub cut : ¬ SetsAside plan plan.positions.write_file → new (data_file name plan.positions.write_file) ≡ Some (cut_to (content old name plan.positions.write_file) plan.positions.write_at)
  pub ends : length (content new name plan.positions.write_file) ≡ plan.positions.write_at

abbrev pub TidyWhere : List ℕ → Plan → Files → Files → Did → Type 0
TidyWhere name plan old new Done = IsTidy name plan old new
TidyWhere name plan old new Failed = Unit {0}

-- how far a plan may be carried out: a file that it sets aside has its bytes still, or none; the write file, where it isn't one of those, has
-- its bytes still or is cut, and where it is one, may be cut once it has none
pub record IsPartlyTidy (name : List ℕ) (plan : Plan) (old new : Files) : Type 0 where
  pub aside : (k : ℕ) → k < 2 ^ 64 → SetsAside plan k
      → (content new name k ≡ content old name k) ⊎ (content new name k ≡ []) ⊎ ((k ≡ plan.positions.write_file) × (content new name k ≡ cut_to [] plan.positions.write_at))
  pub cut : ¬ SetsAside plan plan.positions.write_file
      → (content new name plan.positions.write_file ≡ content old name plan.positions.write_file)
      ⊎ (content new name plan.positions.write_file ≡ cut_to (content old name plan.positions.write_file) plan.positions.write_at)

-- a plan's list is saved, and the files below its read file are gone
pub record IsWritten (name : List ℕ) (plan : Plan) (files : Files) : Type 0 where
  pub meta : files (meta_file name) ≡ Some (meta_text plan.depth plan.positions)
  pub temp : files (meta_temp name) ≡ None
  pub removed : (k : ℕ) → Contains plan.numbers.items k → k < plan.positions.read_file → files (data_file name k) ≡ None

-- the metadata and each data file are as they were
pub record IsUnwritten (name : List ℕ) (old new : Files) : Type 0 where
  pub meta : new (meta_file name) ≡ old (meta_file name)
  pub data_files : (k : ℕ) → k < 2 ^ 64 → new (data_file name k) ≡ old (data_file name k)

-- where that failed, the metadata is that of the list, or nothing changed
abbrev pub WrittenWhere : List ℕ → Plan → Files → Files → Did → Type 0
WrittenWhere name plan old new Done = IsWritten name plan new
WrittenWhere name plan old new Failed = IsUnwritten name old new ⊎ (new (meta_file name) ≡ Some (meta_text plan.depth plan.positions))

-- no file changes but the metadata, its temporary, and those that are removed
abbrev pub OnlyWritten : List ℕ → Plan → Files → Files → Type 0
OnlyWritten name plan old new = (file : List ℕ) → file ≢ meta_file name → file ≢ meta_temp name → ((k : ℕ) → Contains plan.numbers.items k → k < plan.positions.read_file → file ≢ data_file name k) → new file ≡ old file
