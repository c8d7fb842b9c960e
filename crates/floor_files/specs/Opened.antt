-- What opening a topic with its channels makes of a hall, and what it leaves of files.
use Rattle.std.specs.Prelude.{◌≡◌, ◌≢◌, ◌⊎◌, ◌≤◌, ℕ, ◌+◌, Bool, false, true, IsTrue, List, [], ◌∷◌, ◌++◌, All, Contains, map, None}
use Rattle.std.specs.List.{list_any}
use Rattle.std.specs.Str.{bytes_eq}
use Rattle.nsq_base.specs.Name.{IsName}
use Rattle.nsq_base.specs.Names.{IsAscendingBy}
use Rattle.nsq_base.specs.declared.options.Options.{Options}
use Rattle.nsq_outside.specs.Files.{Files}
use Rattle.queue_image.specs.FileNames.{IsFileOf}
use Rattle.queue_image.specs.Finds.{BadMeta, IsFound, Records}
use Rattle.queue_opening.specs.Again.{FindsSameList}
use Rattle.queue_opening.specs.declared.refusal.Open.{Open}
use Rattle.queue_opening.specs.declared.refusal.Open.TheVariants.{Memory}
use Rattle.v2_frame.specs.declared.message.Message.{Message}
use Rattle.path_image.specs.Data.{KeptChannel}
use Rattle.path_image.specs.Found.{FindsChannel, FoundChannel, HasMessages, Pairwise}
use Rattle.backlog.specs.Seen.{QueueIsSaved, longest_body}
use Rattle.backlog.specs.Lists.{OpenRefused}
use Rattle.broker_history.specs.Found.{started_channel}
use Rattle.broker_history.specs.State.{State, Topic, with_channel, with_topic}
use Rattle.topic_core.specs.Kept.{IsNamed}
use Rattle.topic_core.specs.Laws.{OwnFilesStay}
use Rattle.topic_core.specs.Rows.{found_topic, paused_in}
use Rattle.topic_core.specs.Seen.{IsSettled, queue_options}
use Rattle.channel_core.specs.Seen.{queue_name}
use Rattle.floor_rooms.specs.declared.hall.Hall.{Hall}
use Rattle.floor_rooms.specs.declared.room.Room.{Room}
use Rattle.floor_rooms.specs.declared.stall.Stall.{Stall}
use Rattle.floor_rooms.specs.Rooms.{channel_name, put_room, stall_in, topic_name}
use Rattle.floor_rooms.specs.Sound.{HasOptions, IsStallSound}
use Rattle.floor_rooms.specs.Standing.{IsRoomOf, StandsFor}

-- a channel as it is opened: it is sound, its queue is saved, and it has no client
pub record IsOpenedStall (options : Options) (topic : List ℕ) (s : Stall) : Type 0 where
  pub sound : (quiet unsaved : ℕ) → IsStallSound options topic quiet unsaved s
  pub since : s.since ≡ None
  pub clients : s.channel.clients ≡ []
  pub members : s.members.items ≡ []

-- a topic's own queue as it is opened and paused or not: it took no message, and is saved; the topic stands among those that may have something to do
pub record IsOpenedRoom (options : Options) (topic : List ℕ) (on : Bool) (r : Room) : Type 0 where
  pub named : IsName topic
  pub name : topic_name r ≡ topic
  pub paused : r.queue.paused ≡ on
  pub settled : IsSettled r.queue
  pub backlog : IsNamed topic r.queue.backlog
  pub capacity : r.queue.backlog.capacity ≡ options.mem_queue_size
  pub limits : HasOptions (queue_options options) r.queue.backlog.queue
  pub head : r.queue.head ≡ None
  pub saved : QueueIsSaved r.queue.backlog.queue
  pub since : r.since ≡ None
  pub listed : r.listed ≡ true
  pub names : r.names ≡ None

-- channels with their pauses, as the file of names keeps them
abbrev pub kept_channels : List (List ℕ × Bool) → List KeptChannel
kept_channels channels = map (λ c. record { name = c.0; paused = c.1 }) channels

-- none of them stands behind one of its name
abbrev pub AreApart : List (List ℕ × Bool) → Type 0
AreApart channels = (before after : List (List ℕ × Bool)) (c : List ℕ × Bool) → channels ≡ before ++ c ∷ after → list_any (λ d. bytes_eq c.0 d.0) before ≡ false

-- a topic of a state with channels as they were found, each put in where it belongs
abbrev pub with_channels : Topic → List FoundChannel → Topic
with_channels t [] = t
with_channels t (c ∷ found) = with_channels (with_channel t (started_channel c)) found

-- the topic that these messages and channels were found of
abbrev pub opened_topic : (topic : List ℕ) → (on : Bool) → List Message → List FoundChannel → Topic
opened_topic topic on messages found = with_channels (paused_in on (found_topic topic messages)) found

-- no file changes but those of the queues of a topic and its channels, of those that have one of their names and are set aside too
abbrev pub OnlyTopicFiles : (topic : List ℕ) → Files → Files → Type 0
OnlyTopicFiles topic old new = (file : List ℕ) → (IsFileOf topic file → ⊥) → ((channel : List ℕ) → IsFileOf (queue_name topic channel) file → ⊥) → new file ≡ old file

-- the own files of each queue stay but of the topic's and of these channels'
abbrev pub OtherQueuesStay : (topic : List ℕ) → List (List ℕ × Bool) → Files → Files → Type 0
OtherQueuesStay topic done old new = (name : List ℕ) → name ≢ topic → All (λ d. name ≢ queue_name topic d.0) done → OwnFilesStay name old new

-- the opening of the queue of one of these channels was refused, in files in which its own are those that they were
pub record RefusesOne (topic : List ℕ) (channels : List (List ℕ × Bool)) (old new : Files) (why : Open) : Type 0 where
  pub channel : List ℕ × Bool
  pub one : Contains channels channel
  pub before : Files
  pub same : OwnFilesStay (queue_name topic channel.0) old before
  pub refused : OpenRefused (queue_name topic channel.0) before new why

-- or memory was wanting
abbrev pub RefusesChannel : (topic : List ℕ) → List (List ℕ × Bool) → Files → Files → Open → Type 0
RefusesChannel topic channels old new why = (why ≡ Memory) ⊎ RefusesOne topic channels old new why

-- the opening of a topic's own queue was refused, or that of one of its channels
abbrev pub RefusesTopic : (topic : List ℕ) → List (List ℕ × Bool) → Files → Files → Open → Type 0
RefusesTopic topic channels old new why = OpenRefused topic old new why ⊎ RefusesChannel topic channels old new why

-- these channels were opened into a topic, which had none
pub record HasOpened (tells : Bool) (options : Options) (topic : List ℕ) (done : List (List ℕ × Bool)) (old new : Files) (before now : ℕ) (a b : Room) : Type 0 where
  pub rest : b ≡ record a { stalls = b.stalls }
  pub order : IsAscendingBy channel_name b.stalls.items
  pub stalls : All (IsOpenedStall options topic) b.stalls.items
  pub names : (name : List ℕ) → list_any (λ d. bytes_eq name d.0) done ≡ false → stall_in b.stalls.items name ≡ None
  pub told : IsTrue tells → (t : Topic) (found : List FoundChannel) → IsRoomOf old a t → Pairwise (FindsChannel old topic) (kept_channels done) found → IsRoomOf new b (with_channels t found)
  pub only : IsTrue tells → OnlyTopicFiles topic old new
  pub others : IsTrue tells → OtherQueuesStay topic done old new
  pub faults : before ≤ now

-- the list that an opening finds of a queue in the old files is found in the new ones, whatever the queue
abbrev pub ListsStay : Files → Files → Type 0
ListsStay old new = (name : List ℕ) → FindsSameList 26 (26 + longest_body) name old new

-- the metadata of the queue of this name is not in its grammar
abbrev pub IsBad : Files → (name : List ℕ) → Type 0
IsBad files name = IsFound 26 (26 + longest_body) files name BadMeta

-- a queue whose metadata is bad in the old files has bad metadata in the new ones
abbrev pub BadStays : Files → Files → Type 0
BadStays old new = (name : List ℕ) → IsBad old name → IsBad new name

-- none of these channels' queues has bad metadata
abbrev pub NoChannelIsBad : (topic : List ℕ) → List (List ℕ × Bool) → Files → Type 0
NoChannelIsBad topic channels files = All (λ c. IsBad files (queue_name topic c.0) → ⊥) channels

-- nor has the topic's own
pub record NoneIsBad (topic : List ℕ) (opened : List (List ℕ × Bool)) (files : Files) : Type 0 where
  pub own : IsBad files topic → ⊥
  pub channels : NoChannelIsBad topic opened files

-- an opening finds these bodies of the queue of this name, whatever files of it are bad
pub record FindsQueue (files : Files) (name : List ℕ) : Type 0 where
  pub bodies : List (List ℕ)
  pub bad : List ℕ
  pub found : IsFound 26 (26 + longest_body) files name (Records bodies bad)

-- a queue of which an opening finds bodies in the new files has bodies that it finds in the old ones
abbrev pub FindsBack : Files → Files → Type 0
FindsBack old new = (name : List ℕ) → FindsQueue new name → FindsQueue old name

-- an opening finds bodies of each of these channels' queues
abbrev pub FindsQueues : (topic : List ℕ) → List (List ℕ × Bool) → Files → Type 0
FindsQueues topic channels files = All (λ c. FindsQueue files (queue_name topic c.0)) channels

-- and of the topic's own
pub record FindsThem (topic : List ℕ) (opened : List (List ℕ × Bool)) (files : Files) : Type 0 where
  pub own : FindsQueue files topic
  pub channels : FindsQueues topic opened files

-- no file changes but those of these channels' queues, set aside or not
abbrev pub OnlyChannelFiles : (topic : List ℕ) → List (List ℕ × Bool) → Files → Files → Type 0
OnlyChannelFiles topic channels old new = (file : List ℕ) → All (λ c. IsFileOf (queue_name topic c.0) file → ⊥) channels → new file ≡ old file

-- and of the topic's own
abbrev pub OnlyTheirFiles : (topic : List ℕ) → List (List ℕ × Bool) → Files → Files → Type 0
OnlyTheirFiles topic channels old new = (file : List ℕ) → (IsFileOf topic file → ⊥) → All (λ c. IsFileOf (queue_name topic c.0) file → ⊥) channels → new file ≡ old file

-- what the opening of these channels leaves to be found: each queue's list and each queue's bad metadata. None of theirs had any, and bodies were found of
-- each; what is found of any queue was found before. Nothing changes but their files
pub record LeavesFound (topic : List ℕ) (done : List (List ℕ × Bool)) (old new : Files) : Type 0 where
  pub again : ListsStay old new
  pub good : NoChannelIsBad topic done old
  pub bad : BadStays old new
  pub finds : FindsQueues topic done old
  pub back : FindsBack old new
  pub only : OnlyChannelFiles topic done old new

-- a hall as it is once a topic was opened into it: the topic with its channels joined, all of them saved
pub record OpensRoom (options : Options) (topic : List ℕ) (on : Bool) (old new : List Room) : Type 0 where
  pub room : Room
  pub is : new ≡ put_room old room
  pub opened : IsOpenedRoom options topic on room
  pub stalls : All (IsOpenedStall options topic) room.stalls.items

-- from each state that the old hall stood for, an opening that finds these messages leads to one with the topic that has them
abbrev pub OpensTo : (topic : List ℕ) → (on : Bool) → List (List ℕ × Bool) → (old : Hall) → (before : Files) → (new : Hall) → (after : Files) → Type 0
OpensTo topic on channels old before new after =
    (messages : List Message) (found : List FoundChannel) → HasMessages before topic messages → Pairwise (FindsChannel before topic) (kept_channels channels) found → (s : State) → StandsFor old before s → StandsFor new after (with_topic s (opened_topic topic on messages found))
