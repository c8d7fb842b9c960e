-- What writing copies behind those that wait leaves.
use Rattle.std.specs.Prelude.{◌≡◌, ℕ, ◌+◌, Bool, ◌≤◌, List, [], ◌++◌, map, length, count_by, IsTrue}
use Rattle.nsq_outside.specs.Files.{Files}
use Rattle.v2_frame.specs.declared.message.Message.{Message}
use Rattle.backlog.specs.Seen.{Seen as Backlog}
use Rattle.backlog.specs.Lists.{OnDisk}
use Rattle.backlog.specs.declared.answers.Flushed.{Flushed}
use Rattle.backlog.specs.declared.answers.Flushed.TheVariants as flushing
use Rattle.broker_history.specs.State.{compared}
use Rattle.channel_copies.specs.declared.flight.Flight.{Flight}
use Rattle.channel_copies.specs.Deferred.{Waiting}
use Rattle.channel_copies.specs.Putting.{Around}

-- the messages of copies in flight, and of deferred ones
abbrev pub flying_messages : List Flight → List Message
flying_messages fs = map (λ f. f.message) fs

abbrev pub deferred_messages : List Waiting → List Message
deferred_messages ws = map (λ w. w.message) ws

-- of all these messages those that aren't left joined what waits, in the ring or on disk, each as often
pub record Stored (all left disk : List Message) (old new : Backlog) (files : Files) : Type 0 where
  pub to : List Message
  pub on_disk : OnDisk new.queue files to
  pub joins : (p : Message → Bool) → count_by p (map compared (old.ring ++ disk)) + count_by p (map compared all) ≡ count_by p (map compared (new.ring ++ to)) + count_by p (map compared left)

pub record Stores (tells : Bool) (all left : List Message) (old new : Around) : Type 0 where
  pub list : IsTrue tells → (disk : List Message) → OnDisk old.backlog.queue old.files disk → Stored all left disk old.backlog new.backlog new.files

-- all of them did, or nothing is claimed
abbrev pub StoresWhere : (tells : Bool) → List Message → (old new : Around) → Flushed → Type 0
StoresWhere tells messages old new flushing.Done = Stores tells messages [] old new
StoresWhere tells messages old new flushing.Fault = Unit {0}

-- what is left: none, or no more than there were
abbrev pub LeftWhere : {X : Type 0} → (old new : List X) → Flushed → Type 0
LeftWhere old new flushing.Done = new ≡ []
LeftWhere old new flushing.Fault = length new ≤ length old
