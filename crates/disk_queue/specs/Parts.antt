-- What a queue keeps, and what the parts of its calls do.
use Rattle.std.specs.Prelude.{ℕ, ◌≡◌, ◌≢◌, ◌+◌, ◌^◌, ◌<◌, ◌≤◌, ◌⊎◌, List, [], ◌++◌, length, Some, None, unwrap_or, if◌then◌else◌, IfSome, IsTrue}
use Rattle.nsq_outside.specs.Files.{Files, cut_to, written_at}
use Rattle.nsq_outside.specs.declared.did.Did.{Did}
use Rattle.nsq_outside.specs.declared.did.Did.TheVariants.{Done, Failed}
use Rattle.queue_image.specs.Places.{IsOrdered, IsInRange, IsAtEnd, rolls, distance}
use Rattle.queue_image.specs.FileNames.{data_file, meta_file, meta_temp}
use Rattle.queue_image.specs.Records.{record_bytes}
use Rattle.queue_image.specs.Metas.{meta_text}
use Rattle.disk_queue.specs.Seen.{Seen, behind}
use Rattle.disk_queue.specs.Holding.{staged_part}
use Rattle.disk_queue.specs.Answers.{IsUnsaved}
use Rattle.queue_opening.specs.Replaced.{OnlyTwoChange}
use Rattle.queue_image.specs.declared.positions.Positions.{Positions}
use Rattle.disk_queue.specs.declared.standing.Staged.{Staged}
use Rattle.disk_queue.specs.declared.answers.Stage.{Stage}
use Rattle.disk_queue.specs.declared.answers.Stage.TheVariants.{Staged as IsStaged, Fault as StageFault, TooLong as StageTooLong}
use Rattle.disk_queue.specs.declared.answers.Put.{Put}
use Rattle.disk_queue.specs.declared.answers.Put.TheVariants.{Stored, Fault, TooLong}

-- behind a record of n bytes at the read position reading is still in range, and not past the write position
pub record IsAhead (p : Positions) (n : ℕ) : Type 0 where
  pub order : IsOrdered (behind p n)
  pub range : p.read_at + (4 + n) ≤ 2 ^ 62

-- what every queue keeps: its positions are in order and in range, the staged end is not before the write position, there are no more
-- records than the places allow, so that no count overflows, the file that is read is not below the one at the last save, a queue
-- is made empty, a marked record ends before the write position, and the greatest size is one of four bytes
pub record IsSound (q : Seen) : Type 0 where
  pub ordered : IsOrdered q.positions
  pub range : IsInRange q.positions
  pub ahead : IsOrdered (staged_part q)
  pub staged_file : q.staged.file ≤ 2 ^ 40
  pub staged_at : q.staged.at ≤ 2 ^ 62
  pub records : q.depth ≤ distance q.positions.write_file q.positions.write_at
  pub more : distance q.positions.write_file q.positions.write_at + q.staged.count ≤ distance q.staged.file q.staged.at
  pub saved_range : IsInRange q.saved.positions
  pub saved_read : q.saved.positions.read_file ≤ q.positions.read_file
  pub making : ¬ IsTrue q.saved.finished → IsAtEnd q.saved.positions
  pub marked : IfSome q.mark (λ n. IsAhead q.positions n)
  pub limit : q.options.limit < 2 ^ 32

-- where a record of that many bytes is written: at the start of the next file where it rolls there
abbrev pub place_for : Seen → ℕ → Staged
place_for q size =
    if rolls q.options.max_bytes q.staged.file q.staged.at size
    then record { file = q.staged.file + 1; at = 0; count = q.staged.count }
    else q.staged

-- what stands in the file where writing stands before a record is written there: its bytes, and where no record was staged before, only
-- those before the staged end
abbrev pub first_base : Seen → Files → List ℕ
first_base q files = if q.begun then unwrap_or (files (data_file q.name q.staged.file)) [] else cut_to (unwrap_or (files (data_file q.name q.staged.file)) []) q.staged.at

-- the same of the file of a record of that many bytes: nothing where that is the next file
abbrev pub base_for : Seen → Files → ℕ → List ℕ
base_for q files size = if rolls q.options.max_bytes q.staged.file q.staged.at size then [] else first_base q files

-- a record was written at its place
abbrev pub WritesPlace : Seen → Files → Files → Staged → List ℕ → Stage → Type 0
WritesPlace q old new place body IsStaged = new (data_file q.name place.file) ≡ Some (written_at (unwrap_or (old (data_file q.name place.file)) []) place.at (record_bytes body))
WritesPlace q old new place body StageFault = Unit {0}
WritesPlace q old new place body (StageTooLong _) = Unit {0}

-- what the file has where a record was written: the record alone in the next file; else the record at the staged end, over what stood
-- there; and where no record was staged before, nothing behind it
abbrev pub with_record : Seen → Files → List ℕ → List ℕ
with_record q files body =
    let bytes = unwrap_or (files (data_file q.name q.staged.file)) [] in
    if rolls q.options.max_bytes q.staged.file q.staged.at (length body)
    then record_bytes body
    else (if q.begun then written_at bytes q.staged.at (record_bytes body) else cut_to bytes q.staged.at ++ record_bytes body)

-- the file of a record that was staged has exactly these bytes
abbrev pub StageWrites : Seen → Files → Files → List ℕ → Stage → Type 0
StageWrites q old new body IsStaged = new (data_file q.name (place_for q (length body)).file) ≡ Some (with_record q old body)
StageWrites q old new body StageFault = Unit {0}
StageWrites q old new body (StageTooLong _) = Unit {0}

-- the same of a record that was put: the save in the put leaves that file
abbrev pub PutWrites : Seen → Files → Files → List ℕ → Put → Type 0
PutWrites q old new body (Stored _) = new (data_file q.name (place_for q (length body)).file) ≡ Some (with_record q old body)
PutWrites q old new body Fault = Unit {0}
PutWrites q old new body (TooLong _) = Unit {0}

-- no file changes but the metadata, its temporary, and data files below the one that is read, from the one on that was read at the
-- last save
abbrev pub OnlySaveChanges : Seen → Files → Files → Type 0
OnlySaveChanges q old new = (file : List ℕ) → file ≢ meta_file q.name → file ≢ meta_temp q.name → ((k : ℕ) → q.saved.positions.read_file ≤ k → k < q.positions.read_file → file ≢ data_file q.name k) → new file ≡ old file

-- the metadata is exactly the text of the queue's depth and positions, and its temporary is gone; where that failed, the metadata is
-- that text, or what was there and no file was removed
abbrev pub Rewrites : Seen → Files → Files → Did → Type 0
Rewrites q old new Done = (new (meta_file q.name) ≡ Some (meta_text q.depth q.positions)) × (new (meta_temp q.name) ≡ None)
Rewrites q old new Failed = IsUnsaved q old new ⊎ (new (meta_file q.name) ≡ Some (meta_text q.depth q.positions))

-- no file changes in a put but the data files where writing stands and the next, the metadata, its temporary, and what a save removes;
-- where the put is refused, none but those two data files
abbrev pub PutChanges : Seen → Files → Files → Put → Type 0
PutChanges q old new (Stored _) =
    (file : List ℕ) → file ≢ data_file q.name q.staged.file → file ≢ data_file q.name (q.staged.file + 1) → file ≢ meta_file q.name → file ≢ meta_temp q.name
    → ((k : ℕ) → q.saved.positions.read_file ≤ k → k < q.positions.read_file → file ≢ data_file q.name k) → new file ≡ old file
PutChanges q old new Fault = OnlyTwoChange old new (data_file q.name q.staged.file) (data_file q.name (q.staged.file + 1))
PutChanges q old new (TooLong _) = OnlyTwoChange old new (data_file q.name q.staged.file) (data_file q.name (q.staged.file + 1))
