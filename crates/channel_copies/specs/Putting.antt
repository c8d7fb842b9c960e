-- What putting a message into a backlog does, as one fact.
use Rattle.std.specs.Prelude.{◌≡◌, ◌≤◌, ℕ, Bool, List, IsTrue}
use Rattle.nsq_outside.specs.Files.{Files}
use Rattle.v2_frame.specs.declared.message.Message.{Message}
use Rattle.backlog.specs.Seen.{Seen as Backlog, SameQueue, PutWhere, PutSeen}
use Rattle.backlog.specs.Lists.{OnDisk, Stands, DiskChanges, PutChanges, disk_after}
use Rattle.backlog.specs.Answers.{PutFails}
use Rattle.backlog.specs.declared.backlog.Lent.TheVariants.{Nothing}
use Rattle.backlog.specs.declared.answers.PutOne.{PutOne}
use Rattle.backlog.specs.declared.answers.PutOne.TheVariants.{Kept, Dropped, Spilled, Fault}

-- what there is around a put: the backlog, the folder's files and its count of faults
pub record Around : Type 0 where
  pub backlog : Backlog
  pub files : Files
  pub faults : ℕ

abbrev pub around : Backlog → Files → ℕ → Around
around backlog files faults = record { backlog = backlog; files = files; faults = faults }

-- the message was put into the backlog, with this answer
pub record Puts (tells : Bool) (message : Message) (answer : PutOne) (old new : Around) : Type 0 where
  pub nothing : new.backlog.lent ≡ Nothing
  pub queue : SameQueue old.backlog.queue new.backlog.queue
  pub place : PutWhere old.backlog answer
  pub seen : PutSeen old.backlog new.backlog message answer
  pub list : IsTrue tells → (disk : List Message) → OnDisk old.backlog.queue old.files disk → OnDisk new.backlog.queue new.files (disk_after disk message answer)
  pub stands : IsTrue tells → Stands old.backlog.queue old.files → Stands new.backlog.queue new.files
  pub others : IsTrue tells → PutChanges old.backlog.queue old.files new.files answer
  pub faults : old.faults ≤ new.faults
  pub cause : PutFails old.faults new.faults answer

-- the message didn't come back: it is in the ring or on disk, or it was dropped
abbrev pub IsTaken : PutOne → Type 0
IsTaken Kept = Unit {0}
IsTaken Dropped = Unit {0}
IsTaken Spilled = Unit {0}
IsTaken (Fault back) = ⊥

-- what a call that works on the backlog leaves alone: its queue has the same name and options, what its last save left stands, no other file
-- changes, and the count of faults never falls
pub record KeepsDisk (tells : Bool) (old new : Around) : Type 0 where
  pub queue : SameQueue old.backlog.queue new.backlog.queue
  pub stands : IsTrue tells → Stands old.backlog.queue old.files → Stands new.backlog.queue new.files
  pub others : IsTrue tells → DiskChanges old.backlog.queue old.files new.files
  pub faults : old.faults ≤ new.faults
