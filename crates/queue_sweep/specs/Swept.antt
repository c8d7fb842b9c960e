-- What becomes of the files of queues that no topic and no channel of a list has.
use Rattle.std.specs.Prelude.{ℕ, ◌≡◌, ◌≢◌, ◌⊎◌, ◌^◌, ◌<◌, List, None, IsSome, Contains}
use Rattle.nsq_outside.specs.Files.{Files}
use Rattle.queue_image.specs.FileNames.{data_file, meta_file, IsQueueFile, set_aside}
use Rattle.path_image.specs.Data.{KeptChannel, KeptTopic}
use Rattle.path_image.specs.Found.{queues_of}

-- the queue of this name is that of one of these topics, or of one of its channels
pub record IsListedQueue (topics : List KeptTopic) (name : List ℕ) : Type 0 where
  pub topic : KeptTopic
  pub listed : Contains topics topic
  pub own : Contains (queues_of topic) name

-- a file with the form of a queue's, whose queue none of these topics and channels has
pub record IsUnlisted (topics : List KeptTopic) (file : List ℕ) : Type 0 where
  pub queue : IsQueueFile file
  pub absent : ¬ IsListedQueue topics queue.name

-- a file that was there has `.bad` added to its name now, in place of a file that had this name
pub record IsMovedAside (file : List ℕ) (old new : Files) : Type 0 where
  pub there : IsSome (old file)
  pub gone : new file ≡ None
  pub moved : new (set_aside file) ≡ old file

-- a file, and the one of its name with `.bad` added, are as they were
pub record IsLeftAlone (file : List ℕ) (old new : Files) : Type 0 where
  pub same : new file ≡ old file
  pub same_aside : new (set_aside file) ≡ old (set_aside file)

-- each file of an unlisted queue was set aside or is left alone, and no other file changes
pub record IsSweptTo (topics : List KeptTopic) (old new : Files) : Type 0 where
  pub others : (file : List ℕ) → ¬ IsUnlisted topics file → ((f : List ℕ) → IsUnlisted topics f → file ≢ set_aside f) → new file ≡ old file
  pub each : (file : List ℕ) → IsUnlisted topics file → IsMovedAside file old new ⊎ IsLeftAlone file old new

-- no file is there that has the form of a queue's, but those of listed queues
abbrev pub HasOnlyListed : List KeptTopic → Files → Type 0
HasOnlyListed topics files = (file : List ℕ) → IsUnlisted topics file → files file ≡ None

-- an unlisted queue has no metadata and no data file
pub record HasNoFiles (files : Files) (name : List ℕ) : Type 0 where
  pub meta : files (meta_file name) ≡ None
  pub data_files : (n : ℕ) → n < 2 ^ 64 → files (data_file name n) ≡ None

-- the names that a list is in order of
abbrev pub topic_name : KeptTopic → List ℕ
topic_name topic = topic.name

abbrev pub channel_name : KeptChannel → List ℕ
channel_name channel = channel.name
