-- What an opening finds in a daemon's folder.
use Rattle.std.specs.Prelude.{◌≡◌, ℕ, ◌^◌, ◌<◌, Bool, List, [], ◌∷◌, length, map, Contains, Some, None}
use Rattle.nsq_outside.specs.Files.{Files}
use Rattle.v2_frame.specs.declared.message.Message.{Message}
use Rattle.v2_frame.specs.Written.{message_bytes}
use Rattle.queue_image.specs.FileNames.{channel_queue}
use Rattle.queue_image.specs.Finds as queue
use Rattle.path_image.specs.Data.{KeptChannel, KeptTopic, Kept, IsNames, IsBadNames, data_name, last_epoch}

-- a channel that was found: its name, whether it is paused, and its messages
pub record FoundChannel : Type 0 where
  pub name : List ℕ
  pub paused : Bool
  pub messages : List Message

-- a topic that was found: its name, whether it is paused, its messages, and its channels
pub record FoundTopic : Type 0 where
  pub name : List ℕ
  pub paused : Bool
  pub messages : List Message
  pub channels : List FoundChannel

-- what was found: the epoch of the last run, and topics
pub record Found : Type 0 where
  pub epoch : ℕ
  pub topics : List FoundTopic

-- what an opening finds: bad data, no further epoch, or names with their messages
pub data Finding : Type 0 where
  BadData : Finding
  EpochSpent : Finding
  Names : Found → Finding

-- the fewest bytes of a record: those of a message without a body
abbrev pub least_record : ℕ
least_record = 26

-- the most bytes of a record: those of a message with the longest body
abbrev pub longest_record : ℕ
longest_record = 16777242

-- the record is this message, with no delay
pub record IsRecordOf (body : List ℕ) (m : Message) : Type 0 where
  pub whole : body ≡ message_bytes m
  pub id : length m.id ≡ 16
  pub stamp : m.stamp < 2 ^ 64
  pub attempts : m.attempts < 2 ^ 16
  pub delay : m.delay ≡ 0

module _ {X Y : Type 0} (R : X → Y → Type 0) where
  -- the lists are equally long, and this holds of the elements at each place
  abbrev pub Pairwise : List X → List Y → Type 0
  Pairwise [] [] = Unit {0}
  Pairwise [] (y ∷ ys) = ⊥
  Pairwise (x ∷ xs) [] = ⊥
  Pairwise (x ∷ xs) (y ∷ ys) = R x y × Pairwise xs ys

-- what an opening finds of the queue of a name
abbrev pub IsFoundQueue : Files → List ℕ → queue.Finding → Type 0
IsFoundQueue files name finding = queue.IsFound least_record longest_record files name finding

-- the queue of this name has these messages
pub record HasMessages (files : Files) (name : List ℕ) (messages : List Message) : Type 0 where
  pub bodies : List (List ℕ)
  pub bad : List ℕ
  pub queue : IsFoundQueue files name (queue.Records bodies bad)
  pub records : Pairwise IsRecordOf bodies messages

-- a channel of this topic is found in its queue
pub record FindsChannel (files : Files) (topic : List ℕ) (kept : KeptChannel) (found : FoundChannel) : Type 0 where
  pub name : found.name ≡ kept.name
  pub paused : found.paused ≡ kept.paused
  pub messages : HasMessages files (channel_queue topic kept.name) found.messages

-- a topic is found in its queue and those of its channels
pub record FindsTopic (files : Files) (kept : KeptTopic) (found : FoundTopic) : Type 0 where
  pub name : found.name ≡ kept.name
  pub paused : found.paused ≡ kept.paused
  pub messages : HasMessages files kept.name found.messages
  pub channels : Pairwise (FindsChannel files kept.name) kept.channels found.channels

-- the names of the queues of a topic and its channels
abbrev pub queues_of : KeptTopic → List (List ℕ)
queues_of topic = topic.name ∷ map (λ (c : KeptChannel). channel_queue topic.name c.name) topic.channels

-- a queue that is kept has bad metadata
pub record HasBadQueue (files : Files) (kept : Kept) : Type 0 where
  pub topic : KeptTopic
  pub name : List ℕ
  pub listed : Contains kept.topics topic
  pub own : Contains (queues_of topic) name
  pub bad : IsFoundQueue files name queue.BadMeta

-- what the files of a folder show: no file of names is none and epoch 0; a bad one is bad data; then comes the last epoch, and
-- then bad metadata of a queue
pub data IsFound (files : Files) : Finding → Type 0 where
  fresh : files data_name ≡ None → IsFound files (Names (record { epoch = 0; topics = [] }))
  spoilt : (text : List ℕ) → files data_name ≡ Some text → IsBadNames text → IsFound files BadData
  spent : (text : List ℕ) (kept : Kept) → files data_name ≡ Some text → IsNames text kept → kept.epoch ≡ last_epoch → IsFound files EpochSpent
  bad_queue : (text : List ℕ) (kept : Kept) → files data_name ≡ Some text → IsNames text kept → kept.epoch < last_epoch → HasBadQueue files kept → IsFound files BadData
  names : {found : Found} (text : List ℕ) (kept : Kept) → files data_name ≡ Some text → IsNames text kept → kept.epoch < last_epoch → found.epoch ≡ kept.epoch
      → Pairwise (FindsTopic files) kept.topics found.topics → IsFound files (Names found)
