-- What an opening of a queue makes of its files.
use Rattle.std.specs.Prelude.{ℕ, ◌≡◌, ◌^◌, ◌<◌, List, [], length, None}
use Rattle.nsq_outside.specs.Files.{Files, SameFiles}
use Rattle.queue_image.specs.FileNames.{meta_file, meta_temp, set_aside, IsFileOf}
use Rattle.queue_image.specs.Places.{IsAtEnd}
use Rattle.queue_image.specs.Between.{content}
use Rattle.queue_image.specs.Finds.{IsFound, Records, BadMeta}
use Rattle.queue_image.specs.declared.positions.Positions.{Positions}
use Rattle.disk_queue.specs.Seen.{Seen}
use Rattle.disk_queue.specs.Holding.{Holds}
use Rattle.queue_image.specs.Metas.{Says}
use Rattle.disk_queue.specs.Answers.{IsKept}
pub use Rattle.queue_opening.specs.Tidied.{IsSetAside, IsTidiedAt}
pub use Rattle.queue_opening.specs.Refusals.{OpenFails}
pub use Rattle.queue_opening.specs.Again.{FindsList, FindsSameList}
use Rattle.queue_opening.specs.declared.refusal.Open.{Open}
use Rattle.queue_opening.specs.declared.refusal.Open.TheVariants.{Fault, BadMeta as IsBadMeta, Memory}

-- the queue has the list that is found, and that is saved: another opening finds it and no bad file
pub record IsOpened (q : Seen) (old new : Files) : Type 0 where
  pub bodies : List (List ℕ)
  pub bad : List ℕ
  pub found : IsFound q.options.least q.options.limit old q.name (Records bodies bad)
  pub holds : Holds q new bodies []
  pub kept : IsKept q new bodies
  pub ends : length (content new q.name q.positions.write_file) ≡ q.positions.write_at
  pub nothing : bodies ≡ [] → IsAtEnd q.positions × (q.positions.write_at ≡ 0)

-- what becomes of the files. Without metadata every data file is set aside, and writing begins at file 0. The metadata and its temporary are
-- never set aside, and no temporary is left
pub record IsTidied (q : Seen) (old new : Files) : Type 0 where
  pub without : old (meta_file q.name) ≡ None → (q.positions.write_file ≡ 0) × ((k : ℕ) → k < 2 ^ 64 → IsSetAside q.name old new 0 k)
  pub with_meta : (p : Positions) → Says (old (meta_file q.name)) p → (bodies : List (List ℕ)) (bad_files : List ℕ)
      → IsFound q.options.least q.options.limit old q.name (Records bodies bad_files) → IsTidiedAt q.name old new p bad_files q.positions
  pub temp : new (meta_temp q.name) ≡ None
  pub aside_meta : new (set_aside (meta_file q.name)) ≡ old (set_aside (meta_file q.name))
  pub aside_temp : new (set_aside (meta_temp q.name)) ≡ old (set_aside (meta_temp q.name))

-- BadMeta comes only where the metadata is not in its grammar, and then no file changed; nor did one where memory was wanting. After a
-- fault an opening of the files finds the same list
pub record IsBadlyFound (least limit : ℕ) (name : List ℕ) (old new : Files) : Type 0 where
  pub found : IsFound least limit old name BadMeta
  pub same : SameFiles old new

abbrev pub RefusedWhere : ℕ → ℕ → List ℕ → Files → Files → Open → Type 0
RefusedWhere least limit name old new Fault = FindsSameList least limit name old new
RefusedWhere least limit name old new IsBadMeta = IsBadlyFound least limit name old new
RefusedWhere least limit name old new Memory = SameFiles old new

-- no file changes but those of the queue, those set aside among them
abbrev pub FilesOfChange : List ℕ → Files → Files → Type 0
FilesOfChange name old new = (file : List ℕ) → ¬ IsFileOf name file → new file ≡ old file
