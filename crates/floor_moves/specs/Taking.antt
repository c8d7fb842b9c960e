-- What becomes of a topic as a message of it is taken.
use Rattle.std.specs.Prelude.{◌≡◌, ◌≢◌, ◌≤◌, ℕ, Bool, false, List, [], ◌∷◌, ◌++◌, IsTrue, IfSome, Option, Some, None, slice_get}
use Rattle.nsq_base.specs.Names.{TopicList}
use Rattle.nsq_outside.specs.Causes.{Rose}
use Rattle.nsq_outside.specs.Files.{Files, SameFiles}
use Rattle.nsq_outside.specs.declared.journal.End.TheVariants.{Done, Faulted}
use Rattle.v2_frame.specs.declared.message.Message.{Message}
use Rattle.backlog.specs.Seen.{SameQueue}
use Rattle.backlog.specs.Lists.{Stands, DiskChanges}
use Rattle.broker_history.specs.declared.entry.Act.{Act}
use Rattle.broker_history.specs.declared.entry.Act.TheVariants.{Took, Stuck}
use Rattle.broker_history.specs.State.{Taken, Topic}
use Rattle.broker_history.specs.Entries.{History}
use Rattle.topic_core.specs.Seen.{IsSettled}
use Rattle.topic_core.specs.Answers.{HeadSeen, HeadLends, HeadFails}
use Rattle.topic_core.specs.Rows.{IsTopicOf, Stays, HeadGives, MayTake}
use Rattle.topic_core.specs.Rows as rows
use Rattle.topic_core.specs.declared.answers.Head.{Head}
use Rattle.floor_rooms.specs.declared.room.Room.{Room}
use Rattle.floor_rooms.specs.Rooms.{topic_name, stall_names}
use Rattle.floor_rooms.specs.Sound.{rests}
use Rattle.floor_moves.specs.Moves.{Moves, Sight, entry_at}
use Rattle.floor_moves.specs.declared.made.Made.{Made}
use Rattle.floor_moves.specs.declared.made.Made.TheVariants as made

-- the topic's name with its channels' names, and the topic with these at hand
abbrev pub names_of : Room → TopicList
names_of r = (topic_name r, stall_names r) ∷ []

abbrev pub named : Room → Room
named r = record r { names = Some (names_of r) }

-- this holds of the topic at a place
pub record HasRoomAt (i : ℕ) (P : Room → Type 0) (rooms : List Room) : Type 0 where
  pub room : Room
  pub there : slice_get rooms i ≡ Some room
  pub is : P room

-- a message is to be taken next: none is taken, and there is something to do
pub record TakesNext (r : Room) : Type 0 where
  pub busy : rests r ≡ false
  pub none : r.queue.head ≡ None

-- the move by which a message of a topic is taken, by how it ended: it is owed to all of the topic's channels; or the topic is stuck
abbrev pub taking : Room → Message → Made → Act
taking r m made.Done = Took (topic_name r) m (names_of r)
taking r m made.Stuck = Stuck (topic_name r) None
taking r m made.Memory = Stuck (topic_name r) None

-- so the taking of a message of the topic at a place ended
pub record TakesFirst (tells_notes tells_files : Bool) (i : ℕ) (old new : Sight) (answer : Made) : Type 0 where
  pub room : Room
  pub there : slice_get old.hall.rooms.items i ≡ Some room
  pub message : Message
  pub moves : Moves tells_notes tells_files (taking room message answer) old new answer

-- what one call of `take_head` made of a topic
pub record DrawsRoom (tells : Bool) (answer : Head) (old new : Files) (before after : ℕ) (r r' : Room) : Type 0 where
  pub lends : HeadLends r'.queue answer
  pub seen : HeadSeen r.queue r'.queue (stall_names r) answer
  pub queue : SameQueue r.queue.backlog.queue r'.queue.backlog.queue
  pub stays : IsTrue tells → Stays r.queue old r'.queue new
  pub gives : IsTrue tells → (t : Topic) → IsTopicOf r.queue old t → HeadGives t answer
  pub stands : IsTrue tells → Stands r.queue.backlog.queue old → Stands r'.queue.backlog.queue new
  pub same : IsTrue tells → SameFiles old new
  pub faults : before ≤ after
  pub cause : HeadFails before after answer
  pub rest : r' ≡ record r { queue = r'.queue }

-- what stays of a topic, whatever became of its message
pub record LeavesRoom (tells : Bool) (old new : Files) (before after : ℕ) (r r' : Room) : Type 0 where
  pub rest : r' ≡ record r { queue = r'.queue; names = r'.names }
  pub names : IfSome r'.names (λ names. names ≡ names_of r)
  pub name : topic_name r' ≡ topic_name r
  pub paused : r'.queue.paused ≡ r.queue.paused
  pub settled : IsSettled r'.queue
  pub queue : SameQueue r.queue.backlog.queue r'.queue.backlog.queue
  pub capacity : r'.queue.backlog.capacity ≡ r.queue.backlog.capacity
  pub stands : IsTrue tells → Stands r.queue.backlog.queue old → Stands r'.queue.backlog.queue new
  pub others : IsTrue tells → DiskChanges r.queue.backlog.queue old new
  pub faults : before ≤ after

-- the message was taken, and is owed to all channels; that was noted
pub record IsTaken (tells_notes tells_files : Bool) (at : ℕ) (old new : Files) (first last : History) (r r' : Room) : Type 0 where
  pub taken : Taken
  pub head : r'.queue.head ≡ Some taken
  pub owed : taken.owed ≡ stall_names r
  pub noted : IsTrue tells_notes → last ≡ first ++ (entry_at at (Took (topic_name r) taken.message (names_of r)), Done) ∷ []
  pub row : IsTrue tells_files → (t : Topic) → IsTopicOf r.queue old t → MayTake taken t → rows.Took taken r'.queue new t

-- a disk fault kept it off, and the topic is as it was; that was noted, and where all is told the folder's count rose
pub record IsStuck (tells_notes tells_files : Bool) (at : ℕ) (old new : Files) (before after : ℕ) (first last : History) (r r' : Room) : Type 0 where
  pub none : r'.queue.head ≡ None
  pub noted : IsTrue tells_notes → last ≡ first ++ (entry_at at (Stuck (topic_name r) None), Faulted 0) ∷ []
  pub stays : IsTrue tells_files → Stays r.queue old r'.queue new
  pub waits : IsTrue tells_files → (t : Topic) → IsTopicOf r.queue old t → t.waiting ≢ []
  pub rose : IsTrue tells_files → (t : Topic) → IsTopicOf r.queue old t → Rose before after

-- nothing was noted, and the topic is as it was
pub record IsUntouched (tells_notes tells_files : Bool) (old new : Files) (first last : History) (r r' : Room) : Type 0 where
  pub none : r'.queue.head ≡ None
  pub noted : IsTrue tells_notes → last ≡ first
  pub stays : IsTrue tells_files → Stays r.queue old r'.queue new

-- by how it ended
abbrev pub TakesIn : (tells_notes tells_files : Bool) → (at : ℕ) → (old new : Files) → (before after : ℕ) → (first last : History) → (r r' : Room) → Made → Type 0
TakesIn tells_notes tells_files at old new before after first last r r' made.Done = IsTaken tells_notes tells_files at old new first last r r'
TakesIn tells_notes tells_files at old new before after first last r r' made.Stuck = IsStuck tells_notes tells_files at old new before after first last r r'
TakesIn tells_notes tells_files at old new before after first last r r' made.Memory = IsUntouched tells_notes tells_files old new first last r r'

-- what is noted of a topic that is stuck
abbrev pub Sticks : (tells_notes : Bool) → (topic : List ℕ) → (at : ℕ) → (first last : History) → Made → Type 0
Sticks tells_notes topic at first last made.Done = ⊥
Sticks tells_notes topic at first last made.Stuck = IsTrue tells_notes → last ≡ first ++ (entry_at at (Stuck topic None), Faulted 0) ∷ []
Sticks tells_notes topic at first last made.Memory = IsTrue tells_notes → last ≡ first

-- the message and the names of a move by which a message is taken
abbrev pub taken_of : Act → Option (Message × TopicList)
taken_of (Took topic m names) = Some (m, names)
taken_of act = None
