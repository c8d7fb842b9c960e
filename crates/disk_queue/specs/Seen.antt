-- What is seen of a queue, and what its calls change of it.
use Rattle.std.specs.Prelude.{ℕ, ◌≡◌, ◌+◌, ◌-◌, ◌^◌, ◌<◌, List, Bool, true, false, min, nat_lt, if◌then◌else◌, Option, Some, None, unwrap_or, IsTrue}
use Rattle.queue_image.specs.Places.{rolls, start}
use Rattle.queue_image.specs.declared.positions.Positions.{Positions}
use Rattle.queue_opening.specs.QueueOptions.{QueueOptions}
use Rattle.disk_queue.specs.declared.standing.Staged.{Staged}
use Rattle.disk_queue.specs.declared.standing.LastSave.{LastSave}
use Rattle.disk_queue.specs.declared.answers.Stage.{Stage}
use Rattle.disk_queue.specs.declared.answers.Stage.TheVariants as stage
use Rattle.disk_queue.specs.declared.answers.Sync.{Sync}
use Rattle.disk_queue.specs.declared.answers.Sync.TheVariants.{NotDue, Done, Failed}
use Rattle.disk_queue.specs.declared.answers.Put.{Put}
use Rattle.disk_queue.specs.declared.answers.Put.TheVariants.{Stored, Fault, TooLong}

-- a queue: its name, its options, the number of its records, where it reads and writes, the records that are staged, what is known
-- of its last save, the length of the record that a peek gave, where that is still the first one, and whether it was opened or a record was
-- staged since it was made
pub record Seen : Type 0 where
  pub name : List ℕ
  pub options : QueueOptions
  pub depth : ℕ
  pub positions : Positions
  pub staged : Staged
  pub saved : LastSave
  pub mark : Option ℕ
  pub begun : Bool

-- a queue as it is made
abbrev pub fresh_queue : List ℕ → QueueOptions → Seen
fresh_queue name options = record {
  name = name;
  options = options;
  depth = 0;
  positions = start;
  staged = record { file = 0; at = 0; count = 0 };
  saved = record { positions = start; finished = false; since = 0; failed = false };
  mark = None;
  begun = false;
}

-- the mark is dropped
abbrev pub unmarked : Seen → Seen
unmarked q = record q { mark = None }

-- where the staged records end with one more of that many bytes: it goes to the next file exactly where it rolls there
abbrev pub staged_more : Seen → ℕ → Staged
staged_more q size =
    if rolls q.options.max_bytes q.staged.file q.staged.at size
    then record { file = q.staged.file + 1; at = 4 + size; count = q.staged.count + 1 }
    else record { file = q.staged.file; at = q.staged.at + (4 + size); count = q.staged.count + 1 }

-- where they end after such a record was to be staged
abbrev pub staged_after : Seen → ℕ → Stage → Staged
staged_after q size stage.Staged = staged_more q size
staged_after q size stage.Fault = q.staged
staged_after q size (stage.TooLong _) = q.staged

-- whether it was opened or one was ever staged then
abbrev pub begun_after : Seen → Stage → Bool
begun_after q stage.Staged = true
begun_after q stage.Fault = q.begun
begun_after q (stage.TooLong _) = q.begun

-- the queue after a record of that many bytes was to be staged
abbrev pub after_stage : Seen → ℕ → Stage → Seen
after_stage q size answer = record q { staged = staged_after q size answer; mark = None; begun = begun_after q answer }

-- the staged records dropped
abbrev pub forgotten : Seen → Seen
forgotten q = record q { staged = record { file = q.positions.write_file; at = q.positions.write_at; count = 0 }; mark = None }

-- the staged records in the list
abbrev pub committed : Seen → Seen
committed q = record q {
  depth = q.depth + q.staged.count;
  positions = record (q.positions) { write_file = q.staged.file; write_at = q.staged.at };
  staged = record (q.staged) { count = 0 };
  saved = record (q.saved) { since = min (q.saved.since + q.staged.count) (2 ^ 64 - 1) };
  mark = None;
}

-- what is known of the last save after one that may not have been due, or failed
abbrev pub saved_after : Seen → Sync → LastSave
saved_after q NotDue = q.saved
saved_after q Done = record { positions = q.positions; finished = true; since = 0; failed = false }
saved_after q Failed = record (q.saved) { failed = true }

-- the queue after such a save
abbrev pub after_save : Seen → Sync → Seen
after_save q answer = record q { saved = saved_after q answer }

-- the queue with one more record of that many bytes in its list
abbrev pub one_more : Seen → ℕ → Seen
one_more q size = committed (after_stage q size stage.Staged)

-- the queue after a record of that many bytes was to be put
abbrev pub after_put : Seen → ℕ → Put → Seen
after_put q size (Stored sync) = after_save (one_more q size) sync
after_put q size Fault = unmarked q
after_put q size (TooLong _) = unmarked q

-- the positions behind a record of n bytes at the read position
abbrev pub behind : Positions → ℕ → Positions
behind p n = record p { read_at = p.read_at + (4 + n) }

-- reading goes on at the start of the next file
abbrev pub next_file : Positions → Positions
next_file p = record p { read_file = p.read_file + 1; read_at = 0 }

-- the read position is the write position
abbrev pub ended : Positions → Positions
ended p = record p { read_file = p.write_file; read_at = p.write_at }

-- the queue that reads at that place
abbrev pub reading_at : Seen → ℕ → ℕ → Seen
reading_at q file at = record q { positions = record (q.positions) { read_file = file; read_at = at } }

-- the queue with that mark
abbrev pub marked : Seen → ℕ → Seen
marked q n = record q { mark = Some n }

-- the queue without the record that is marked
abbrev pub advanced : Seen → Seen
advanced q = record q {
  depth = q.depth - 1;
  positions = behind q.positions (unwrap_or q.mark 0);
  saved = record (q.saved) { since = min (q.saved.since + 1) (2 ^ 64 - 1) };
  mark = None;
}

-- the queue without its list
abbrev pub emptied : Seen → Seen
emptied q = record q { depth = 0; positions = ended q.positions; mark = None }

-- the queue passes over what is left of the file that is read: it reads on at the next file's start, or at the write position where
-- that is the write file, and then its list is empty
abbrev pub passed_over : Seen → Seen
passed_over q = if nat_lt q.positions.read_file q.positions.write_file then record q { positions = next_file q.positions; mark = None } else emptied q

-- a queue as an opening makes it: nothing is staged, and all is saved
abbrev pub opened_queue : List ℕ → QueueOptions → ℕ → Positions → Seen
opened_queue name options depth p = record {
  name = name;
  options = options;
  depth = depth;
  positions = p;
  staged = record { file = p.write_file; at = p.write_at; count = 0 };
  saved = record { positions = p; finished = true; since = 0; failed = false };
  mark = None;
  begun = true;
}

-- no save is due where records were committed or advanced: fewer were since the last one than a save is due after, and no other file
-- is read or written
pub record IsEarly (q : Seen) : Type 0 where
  pub few : q.saved.since < q.options.sync_every
  pub read : q.positions.read_file ≡ q.saved.positions.read_file
  pub write : q.positions.write_file ≡ q.saved.positions.write_file

-- nothing changed since the last save, and no save failed since
pub record IsUnchanged (q : Seen) : Type 0 where
  pub none : q.saved.since ≡ 0
  pub positions : q.positions ≡ q.saved.positions
  pub sound : ¬ IsTrue q.saved.failed
