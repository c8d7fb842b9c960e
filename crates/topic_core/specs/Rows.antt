-- Which topic of a state a topic's queue is, and what each call makes of that topic.
use Rattle.std.specs.Prelude.{ℕ, ◌≡◌, ◌≢◌, Bool, false, MatchBool, List, [], ◌∷◌, ◌++◌, Option, Some, None, IfSome}
use Rattle.nsq_base.specs.Name.{is_ephemeral}
use Rattle.nsq_outside.specs.Files.{Files}
use Rattle.v2_frame.specs.declared.message.Message.{Message}
use Rattle.path_image.specs.Found.{HasMessages}
use Rattle.backlog.specs.Emptied.{Emptied}
use Rattle.backlog.specs.Emptied.TheVariants as emptying
use Rattle.backlog.specs.Seen.{Seen as Backlog}
use Rattle.backlog.specs.Lists.{OnDisk, IsFirstMessage, list_with}
use Rattle.backlog.specs.declared.backlog.Lent.{Lent}
use Rattle.backlog.specs.declared.backlog.Lent.TheVariants.{Nothing, OfRing, OfDisk}
use Rattle.backlog.specs.declared.answers.PutAll.{PutAll}
use Rattle.backlog.specs.declared.answers.PutAll.TheVariants.{Done as AllDone, Fault as AllFault}
use Rattle.backlog.specs.declared.answers.Flushed.{Flushed}
use Rattle.backlog.specs.declared.answers.Flushed.TheVariants.{Done as FlushDone, Fault as FlushFault}
use Rattle.broker_history.specs.State.{Waiting, Taken, Topic, channel_names}
use Rattle.broker_history.specs.Found.{started}
use Rattle.broker_history.specs.Left.{SameMessages, left_in_topic}
use Rattle.broker_history.specs.Topics.{Fits, HasWaiting, Takes, put_message, owed_no_more}
use Rattle.topic_core.specs.Seen.{Seen, IsDrawn}
use Rattle.topic_core.specs.declared.answers.Head.{Head}
use Rattle.topic_core.specs.declared.answers.Head.TheVariants as head

-- the messages that wait, where these are on disk: a drawn one is still the first
abbrev pub waiting_with : Backlog → Option Taken → List Message → List Message
waiting_with b None disk = b.ring ++ disk
waiting_with b (Some head) disk = list_with b head.message disk

-- what was taken: nothing while the head is only drawn
abbrev pub taken_where : Lent → Option Taken → Option Taken
taken_where Nothing head = head
taken_where OfRing head = None
taken_where OfDisk head = None

abbrev pub taken_of : Seen → Option Taken
taken_of q = taken_where q.backlog.lent q.head

-- a topic's queue is this topic of a state, in these files: name, pause and count are the same, its messages are those that wait there, as
-- often and with their delays, which may be forgotten of those that are loose, the drawn one is the first of them, and it took the same
pub record IsTopicOf (q : Seen) (files : Files) (t : Topic) : Type 0 where
  pub name : t.name ≡ q.name
  pub paused : t.paused ≡ q.paused
  pub message_count : t.message_count ≡ q.message_count
  pub taken : t.taken ≡ taken_of q
  pub disk : List Message
  pub on_disk : OnDisk q.backlog.queue files disk
  pub waiting : HasWaiting (waiting_with q.backlog q.head disk) t.waiting
  pub first : IsDrawn q → IfSome q.head (λ head. IsFirstMessage (waiting_with q.backlog q.head disk) head.message)

-- whichever topic of a state it was, it is now what this makes of that topic
abbrev pub Becomes : (old : Seen) → (before : Files) → (new : Seen) → (after : Files) → (Topic → Topic) → Type 0
Becomes old before new after change = (t : Topic) → IsTopicOf old before t → IsTopicOf new after (change t)

-- it is the same topic still
abbrev pub Stays : (old : Seen) → (before : Files) → (new : Seen) → (after : Files) → Type 0
Stays old before new after = Becomes old before new after (λ t. t)

-- the topic after these messages were put in order, where so many find room in memory
abbrev pub put_messages : ℕ → Topic → List Message → Topic
put_messages mem t [] = t
put_messages mem t (m ∷ ms) = put_messages mem (put_message mem t m) ms

-- so it is after they were put, or not
abbrev pub put_where : ℕ → List Message → PutAll → Topic → Topic
put_where mem messages AllDone t = put_messages mem t messages
put_where mem messages AllFault t = t

-- the answer of taking the first message that waits: Empty exactly where none waits, and no file is damaged
abbrev pub HeadGives : Topic → Head → Type 0
HeadGives t head.Ready = t.waiting ≢ []
HeadGives t head.Empty = t.waiting ≡ []
HeadGives t head.Fault = t.waiting ≢ []
HeadGives t head.Damaged = ⊥
HeadGives t head.Memory = t.waiting ≢ []

-- one of the waiting messages went, and is taken
pub record TakesHead (taken : Taken) (new : Seen) (files : Files) (t : Topic) : Type 0 where
  pub before : List Waiting
  pub waits : Waiting
  pub after : List Waiting
  pub was : t.waiting ≡ before ++ waits ∷ after
  pub fits : Fits waits taken.message
  pub none : t.taken ≡ None
  pub is : IsTopicOf new files (record t { waiting = before ++ after; taken = Some taken })

-- that is the row of a message that is taken
pub record Took (taken : Taken) (new : Seen) (files : Files) (t : Topic) : Type 0 where
  pub to : Topic
  pub row : Takes taken.message ((t.name, channel_names t) ∷ []) t to
  pub is : IsTopicOf new files to

-- it is so of a topic that isn't paused, where all of its channels are owed
pub record MayTake (taken : Taken) (t : Topic) : Type 0 where
  pub goes_on : t.paused ≡ false
  pub owed : channel_names t ≡ taken.owed

-- the topic after a channel is owed no more
abbrev pub paid_in : (channel : List ℕ) → Topic → Topic
paid_in channel t = record t { taken = owed_no_more t.taken channel }

-- the topic paused, or not any more
abbrev pub paused_in : Bool → Topic → Topic
paused_in on t = record t { paused = on }

-- the topic after it was emptied, or not: what it took stays
abbrev pub emptied_where : Emptied → Topic → Topic
emptied_where emptying.Done t = record t { waiting = [] }
emptied_where emptying.Fault t = t

-- what an opening finds of a topic: nothing of an ephemeral one
abbrev pub FindsMessages : Files → List ℕ → List Message → Type 0
FindsMessages files name messages = MatchBool (is_ephemeral name) (messages ≡ []) (HasMessages files name messages)

-- the topic at the start of a run, where these messages were found
abbrev pub found_topic : List ℕ → List Message → Topic
found_topic name messages = started (record { name = name; paused = false; messages = messages; channels = [] })

-- an opening finds all that was left of the topic, each message as often
pub record FindsLeft (files : Files) (t : Topic) : Type 0 where
  pub messages : List Message
  pub found : HasMessages files t.name messages
  pub left : SameMessages (left_in_topic t) messages

-- so it is of a durable topic after a flush that is Done
abbrev pub FlushLeaves : Files → Topic → Flushed → Type 0
FlushLeaves files t FlushDone = is_ephemeral t.name ≡ false → FindsLeft files t
FlushLeaves files t FlushFault = Unit {0}
