-- A publish: the messages that it makes of bodies, and what it makes of a state.
use Rattle.std.specs.Prelude.{◌≡◌, ℕ, ◌+◌, Bool, IsTrue, List, [], ◌∷◌, length, Option}
use Rattle.nsq_outside.specs.Causes.{Rose}
use Rattle.nsq_outside.specs.Files.{Files}
use Rattle.v2_frame.specs.declared.message.Message.{Message}
use Rattle.disk_queue.specs.Seen.{Seen as Queue}
use Rattle.backlog.specs.Seen.{QueueUnstages, SameQueue}
use Rattle.backlog.specs.Lists.{DiskChanges, Stands}
use Rattle.backlog.specs.declared.answers.PutAll.{PutAll}
use Rattle.broker_history.specs.State.{State, topic_or_new, with_topic}
use Rattle.broker_history.specs.Topics.{published_message}
use Rattle.broker_history.specs.Changes.{published}
use Rattle.topic_core.specs.Answers.{PutsAll}
use Rattle.topic_core.specs.Rows.{Becomes, put_messages, put_where}
use Rattle.topic_core.specs.Seen.{IsSettled}
use Rattle.floor_rooms.specs.declared.room.Room.{Room}
use Rattle.floor_topics.specs.declared.published.Published.{Published}
use Rattle.floor_topics.specs.declared.published.Published.TheVariants.{Done, Fault}

-- the messages of these bodies, in order, the first of them being the n-th of the epoch
abbrev pub messages_of : (epoch n at delay : ℕ) → List (List ℕ) → List Message
messages_of epoch n at delay [] = []
messages_of epoch n at delay (body ∷ bodies) = published_message epoch n at delay body ∷ messages_of epoch (n + 1) at delay bodies

-- what a publish makes of a state, by its answer
abbrev pub Publishes : (at delay : ℕ) → (topic : List ℕ) → (bodies : List (List ℕ)) → Published → State → State → Type 0
Publishes at delay topic bodies Done s t = t ≡ published s at delay topic bodies
Publishes at delay topic bodies Fault s t = t ≡ s

-- how many ids are used then: one more for each body, or as many as before
abbrev pub ids_after : (used count : ℕ) → Published → ℕ
ids_after used count Done = used + count
ids_after used count Fault = used

-- a fault comes only with a rise
abbrev pub PublishFails : (before now : ℕ) → Published → Type 0
PublishFails before now Done = Unit {0}
PublishFails before now Fault = Rose before now

-- the state after these messages were put into the topic, which is made if it isn't there; each uses an id
abbrev pub put_into : State → (topic : List ℕ) → List Message → State
put_into s topic messages = with_topic (record s { ids_used = s.ids_used + length messages }) (put_messages s.options.mem_queue_size (topic_or_new s topic) messages)

abbrev pub PutsInto : (topic : List ℕ) → List Message → Published → State → State → Type 0
PutsInto topic messages Done s t = t ≡ put_into s topic messages
PutsInto topic messages Fault s t = t ≡ s

-- what one call of `put_all` made of a topic's queue
pub record FillsRoom (tells : Bool) (messages : List Message) (answer : PutAll) (old new : Files) (a b : Room) : Type 0 where
  pub same : b ≡ record a { queue = b.queue }
  pub settled : IsSettled b.queue
  pub queue : SameQueue a.queue.backlog.queue b.queue.backlog.queue
  pub seen : PutsAll a.queue b.queue messages answer
  pub row : IsTrue tells → Becomes a.queue old b.queue new (put_where a.queue.backlog.capacity messages answer)
  pub stands : IsTrue tells → Stands a.queue.backlog.queue old → Stands b.queue.backlog.queue new
  pub others : IsTrue tells → DiskChanges a.queue.backlog.queue old new

-- a queue that took no message dropped what was staged, and what its last save left stands
pub record Refuses (tells : Bool) (queue : Option Queue) (old new : Files) : Type 0 where
  pub after : Option Queue
  pub unstages : QueueUnstages queue after
  pub stands : IsTrue tells → Stands queue old → Stands after new
  pub others : IsTrue tells → DiskChanges queue old new
