-- What the files of a queue hold.
use Rattle.std.specs.Prelude.{ℕ, ◌≡◌, ◌^◌, ◌<◌, ◌≤◌, List, None, length, IfSome, IsTrue}
use Rattle.nsq_outside.specs.Files.{Files}
use Rattle.queue_image.specs.Places.{IsOrdered}
pub use Rattle.queue_image.specs.Metas.{Says, IsIdle}
use Rattle.queue_image.specs.Records.{HasRecord}
use Rattle.queue_image.specs.Between.{Between, content}
use Rattle.queue_image.specs.FileNames.{data_file, meta_file, IsOwnFile}
use Rattle.queue_image.specs.declared.positions.Positions.{Positions}
use Rattle.disk_queue.specs.Seen.{Seen, behind}

-- from where the list ends to where the staged records end
abbrev pub staged_part : Seen → Positions
staged_part q = record { read_file = q.positions.write_file; read_at = q.positions.write_at; write_file = q.staged.file; write_at = q.staged.at }

-- a record of n bytes stands at the read position, before the write position
pub record IsNext (least limit : ℕ) (bytes : ℕ → List ℕ) (p : Positions) (n : ℕ) : Type 0 where
  pub body : List ℕ
  pub there : HasRecord least limit (bytes p.read_file) p.read_at body
  pub size : n ≡ length body
  pub order : IsOrdered (behind p n)

-- the files hold the queue's list, as many records as its depth, and behind it the staged records; the numbers of these files are in
-- range; and where a record is marked, it stands at the read position
pub record Holds (q : Seen) (files : Files) (bodies waiting : List (List ℕ)) : Type 0 where
  pub list : Between q.options.least q.options.limit files q.name q.positions bodies
  pub depth : length bodies ≡ q.depth
  pub staged : Between q.options.least q.options.limit files q.name (staged_part q) waiting
  pub count : length waiting ≡ q.staged.count
  pub within : q.staged.file ≤ 2 ^ 40
  pub mark : IfSome q.mark (IsNext q.options.least q.options.limit (content files q.name) q.positions)

-- what the last save left still stands. Where none failed since the last finished one, the metadata says that one's positions; where
-- none was made, it is idle. The data files below the file that was read at the last finished one are gone
pub record SaveStands (q : Seen) (files : Files) : Type 0 where
  pub saved : IsTrue q.saved.finished → ¬ IsTrue q.saved.failed → Says (files (meta_file q.name)) q.saved.positions
  pub unsaved : ¬ IsTrue q.saved.finished → ¬ IsTrue q.saved.failed → IsIdle (files (meta_file q.name))
  pub within : q.saved.positions.read_file ≤ 2 ^ 40
  pub removed : (k : ℕ) → k < q.saved.positions.read_file → files (data_file q.name k) ≡ None

-- no file changes but those that the queue of that name reads and writes
abbrev pub OwnChange : List ℕ → Files → Files → Type 0
OwnChange name old new = (file : List ℕ) → ¬ IsOwnFile name file → new file ≡ old file
