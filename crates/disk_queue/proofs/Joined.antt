-- What two parts of a call do together.
use Rattle.std.proofs.Common.{◌≡◌, ◌∙◌, ℕ, ◌≤◌, ap, arith, subst}
use Rattle.nsq_outside.specs.Files.{Files}
use Rattle.nsq_outside.specs.Causes.{DidFails}
use Rattle.nsq_outside.specs.declared.did.Did.{Did}
use Rattle.nsq_outside.specs.declared.did.Did.TheVariants as did
use Rattle.queue_image.specs.FileNames.{meta_file, meta_temp}
use Rattle.queue_opening.specs.Replaced.{OnlyTwoChange}
use Rattle.queue_opening.specs.FileCalls.{OnlyNumbersChange}
use Rattle.disk_queue.specs.Seen.{Seen, advanced, after_save, IsEarly}
use Rattle.disk_queue.specs.Answers.{StageFails, SyncFails, NotDueWhere}
use Rattle.disk_queue.specs.Parts.{OnlySaveChanges}
use Rattle.disk_queue.specs.Reading.{PeekSeen, IsTaken}
use Rattle.disk_queue.specs.declared.answers.Stage.{Stage}
use Rattle.disk_queue.specs.declared.answers.Stage.TheVariants.{Staged, Fault, TooLong}
use Rattle.disk_queue.specs.declared.answers.Sync.{Sync}
use Rattle.disk_queue.specs.declared.answers.Sync.TheVariants.{NotDue, Done, Failed}
use Rattle.disk_queue.specs.declared.answers.Peek.TheVariants.{Got}

-- a fault in a later part is one in the call
pub stage_later : (before mid now : ℕ) (answer : Stage) → before ≤ mid → StageFails mid now answer → StageFails before now answer
stage_later before mid now Staged low fails = tt
stage_later before mid now Fault low fails = omega (arith, low, fails)
stage_later before mid now (TooLong _) low fails = tt

pub sync_later : (before mid now : ℕ) (sync : Sync) → before ≤ mid → SyncFails mid now sync → SyncFails before now sync
sync_later before mid now NotDue low fails = tt
sync_later before mid now Done low fails = tt
sync_later before mid now Failed low fails = omega (arith, low, fails)

pub did_later : (before mid now : ℕ) (answer : Did) → before ≤ mid → DidFails mid now answer → DidFails before now answer
did_later before mid now did.Done low fails = tt
did_later before mid now did.Failed low fails = omega (arith, low, fails)

-- the record that was taken is the one that the peek gave
pub taken_seen : (q p r : Seen) (n : ℕ) (sync : Sync) → PeekSeen q p (Got n) → r ≡ after_save (advanced p) sync → NotDueWhere (IsEarly (advanced p)) sync → IsTaken q r n sync
taken_seen q p r n sync e d due = record {
  file = p.positions.read_file;
  place = p.positions.read_at;
  is = d ∙ ap (λ (x : Seen). after_save (advanced x) sync) e;
  due = subst (λ (x : Seen). NotDueWhere (IsEarly (advanced x)) sync) e due;
}

-- the metadata is written, and then files are removed
pub save_changes : (q r : Seen) (old mid new : Files) → q ≡ r → OnlyTwoChange old mid (meta_file q.name) (meta_temp q.name) → OnlyNumbersChange q.name mid new q.saved.positions.read_file q.positions.read_file → OnlySaveChanges r old new
save_changes q r old mid new e two numbers = subst (λ (x : Seen). OnlySaveChanges x old new) e (λ file meta temp below. numbers file below ∙ two file meta temp)

-- or the metadata alone
pub save_begins : (q r : Seen) (old new : Files) → q ≡ r → OnlyTwoChange old new (meta_file q.name) (meta_temp q.name) → OnlySaveChanges r old new
save_begins q r old new e two = subst (λ (x : Seen). OnlySaveChanges x old new) e (λ file meta temp below. two file meta temp)
