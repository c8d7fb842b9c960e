-- What the calls of a topic's queue change of it, by their answers, and when they fail.
use Rattle.std.specs.Prelude.{ℕ, ◌≡◌, ◌≢◌, ◌⊎◌, List, [], ◌++◌, map, true, false, MatchBool, Some, None}
use Rattle.nsq_base.specs.Name.{is_ephemeral}
use Rattle.nsq_outside.specs.Causes.{Rose, CountsFault}
use Rattle.nsq_outside.specs.Files.{Files}
use Rattle.v2_frame.specs.declared.message.Message.{Message}
use Rattle.backlog.specs.Seen.{DrawSeen, PutAllSeen, QueueIsSaved}
use Rattle.backlog.specs.Lists.{OnDisk, QueueFinds, stored}
use Rattle.backlog.specs.declared.backlog.Lent.TheVariants.{Nothing}
use Rattle.backlog.specs.declared.answers.Drawn.{Drawn}
use Rattle.backlog.specs.declared.answers.Drawn.TheVariants as drawn
use Rattle.backlog.specs.declared.answers.PutAll.{PutAll}
use Rattle.backlog.specs.declared.answers.PutAll.TheVariants.{Done as AllDone, Fault as AllFault}
use Rattle.backlog.specs.declared.answers.Flushed.{Flushed}
use Rattle.backlog.specs.declared.answers.Flushed.TheVariants.{Done as FlushDone, Fault as FlushFault}
use Rattle.broker_history.specs.Left.{taken_message}
use Rattle.topic_core.specs.Seen.{Seen, kept_of, counted_by}
use Rattle.topic_core.specs.declared.answers.Head.{Head}
use Rattle.topic_core.specs.declared.answers.Head.TheVariants as head

-- how many messages were put, by the answer
abbrev pub put_count : Seen → List Message → PutAll → ℕ
put_count old messages AllDone = counted_by old.message_count (kept_of old messages)
put_count old messages AllFault = old.message_count

-- what putting these messages changes: the backlog takes all or none, and those that are kept are counted
pub record PutsAll (old new : Seen) (messages : List Message) (answer : PutAll) : Type 0 where
  pub is : new ≡ record old { message_count = put_count old messages answer; backlog = new.backlog }
  pub backlog : PutAllSeen old.backlog new.backlog messages answer

-- nothing but the backlog changed, which was looked into with this answer
pub record LooksInto (old new : Seen) (answer : Drawn) : Type 0 where
  pub is : new ≡ record old { backlog = new.backlog }
  pub backlog : DrawSeen old.backlog new.backlog answer

-- the first message is drawn, and is the head, owed to these channels
pub record DrawsHead (old new : Seen) (channels : List (List ℕ)) : Type 0 where
  pub message : Message
  pub is : new ≡ record old { backlog = new.backlog; head = Some (record { message = message; owed = channels }) }
  pub backlog : DrawSeen old.backlog new.backlog (drawn.Got message)

-- what taking the first message changes
abbrev pub HeadSeen : (old new : Seen) → List (List ℕ) → Head → Type 0
HeadSeen old new channels head.Ready = DrawsHead old new channels
HeadSeen old new channels head.Empty = (new ≡ old) ⊎ LooksInto old new drawn.Empty
HeadSeen old new channels head.Fault = LooksInto old new drawn.Fault
HeadSeen old new channels head.Damaged = LooksInto old new drawn.Damaged
HeadSeen old new channels head.Memory = (new ≡ old) ⊎ LooksInto old new drawn.Memory

-- a message is drawn exactly where the answer is Ready
abbrev pub HeadLends : Seen → Head → Type 0
HeadLends q head.Ready = q.backlog.lent ≢ Nothing
HeadLends q head.Empty = q.backlog.lent ≡ Nothing
HeadLends q head.Fault = q.backlog.lent ≡ Nothing
HeadLends q head.Damaged = q.backlog.lent ≡ Nothing
HeadLends q head.Memory = q.backlog.lent ≡ Nothing

-- a fault comes only with a rise
abbrev pub HeadFails : ℕ → ℕ → Head → Type 0
HeadFails before now head.Ready = Unit {0}
HeadFails before now head.Empty = Unit {0}
HeadFails before now head.Fault = Rose before now
HeadFails before now head.Damaged = Unit {0}
HeadFails before now head.Memory = Unit {0}

-- a fault is counted, and nothing else
abbrev pub HeadCounts : ℕ → ℕ → Head → Type 0
HeadCounts before now head.Ready = CountsFault before now false
HeadCounts before now head.Empty = CountsFault before now false
HeadCounts before now head.Fault = CountsFault before now true
HeadCounts before now head.Damaged = CountsFault before now false
HeadCounts before now head.Memory = CountsFault before now false

-- all that a durable topic had in memory is on disk, and saved: nothing is taken any more
pub record FlushesAll (old new : Seen) : Type 0 where
  pub is : new ≡ record old { backlog = record (old.backlog) { ring = []; queue = new.backlog.queue }; head = None }
  pub saved : QueueIsSaved new.backlog.queue

-- what a flush changes: nothing in an ephemeral topic; after a fault some of what was in memory may be on disk
abbrev pub FlushesTopic : Seen → Seen → Flushed → Type 0
FlushesTopic old new FlushDone = MatchBool (is_ephemeral old.name) (new ≡ old) (FlushesAll old new)
FlushesTopic old new FlushFault = new ≡ record old { backlog = new.backlog; head = new.head }

-- so it is where a head is written behind all others
abbrev pub FlushesHead : Seen → Seen → Flushed → Type 0
FlushesHead old new FlushDone = FlushesAll old new
FlushesHead old new FlushFault = new ≡ record old { backlog = new.backlog; head = new.head }

-- these messages are on disk, and an opening finds them, in their order
pub record AllFound (old new : Seen) (files : Files) (messages : List Message) : Type 0 where
  pub on_disk : OnDisk new.backlog.queue files messages
  pub found : QueueFinds old.backlog.queue files messages

-- after a flush that is Done these are what was on disk, then what waited in memory, and then a head that was owed
abbrev pub FlushFindsAll : Seen → Seen → Files → List Message → Flushed → Type 0
FlushFindsAll old new files disk FlushDone = AllFound old new files (disk ++ map stored (old.backlog.ring ++ taken_message old.head))
FlushFindsAll old new files disk FlushFault = Unit {0}

-- so it is of a durable topic
abbrev pub DurableFindsAll : Seen → Seen → Files → List Message → Flushed → Type 0
DurableFindsAll old new files disk answer = is_ephemeral old.name ≡ false → FlushFindsAll old new files disk answer
