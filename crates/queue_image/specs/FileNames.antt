-- How the files of a queue are called. The layout is go-diskqueue's.
use Rattle.std.specs.Prelude.{◌≡◌, ℕ, ◌-◌, ◌^◌, ◌<◌, ◌⊎◌, List, ◌∷◌, ◌++◌, length, replicate, codes, decimal}
use Rattle.nsq_core.specs.Name.{IsName}

-- a file's number in decimal, with zeros before it up to six digits
abbrev pub file_digits : ℕ → List ℕ
file_digits n = replicate (6 - length (decimal n)) 48 ++ decimal n

-- how the name of each file of the queue begins
abbrev pub file_beginning : List ℕ → List ℕ
file_beginning name = name ++ codes ".diskqueue."

-- the queue's data file of that number
abbrev pub data_file : List ℕ → ℕ → List ℕ
data_file name n = name ++ codes ".diskqueue." ++ file_digits n ++ codes ".dat"

-- the queue's metadata
abbrev pub meta_file : List ℕ → List ℕ
meta_file name = name ++ codes ".diskqueue.meta.dat"

-- the metadata while it is written, before it gets its name
abbrev pub meta_temp : List ℕ → List ℕ
meta_temp name = meta_file name ++ codes ".tmp"

-- the name that a bad or surplus file is given
abbrev pub set_aside : List ℕ → List ℕ
set_aside file = file ++ codes ".bad"

-- the name of the queue of a topic's channel: the two names with `:` between them
abbrev pub channel_queue : List ℕ → List ℕ → List ℕ
channel_queue topic channel = topic ++ 58 ∷ channel

-- a queue is named by a topic, or by a topic and a channel
pub data IsQueueName (name : List ℕ) : Type 0 where
  of_topic : IsName name → IsQueueName name
  of_channel : (topic channel : List ℕ) → IsName topic → IsName channel → name ≡ channel_queue topic channel → IsQueueName name

-- a file that a queue reads or writes: a data file, of any number that 64 bits hold, the metadata, or the metadata being written
pub data IsOwnFile (name file : List ℕ) : Type 0 where
  numbered : (n : ℕ) → n < 2 ^ 64 → file ≡ data_file name n → IsOwnFile name file
  metadata : file ≡ meta_file name → IsOwnFile name file
  written : file ≡ meta_temp name → IsOwnFile name file

-- a file of the queue: one that it reads or writes, or such a one set aside
pub data IsFileOf (name file : List ℕ) : Type 0 where
  own : IsOwnFile name file → IsFileOf name file
  aside : (bad : List ℕ) → IsOwnFile name bad → file ≡ set_aside bad → IsFileOf name file

-- a file that has the form of a queue's data file or metadata
pub record IsQueueFile (file : List ℕ) : Type 0 where
  pub name : List ℕ
  pub queue : IsQueueName name
  pub form : ((n : ℕ) × (n < 2 ^ 64) × (file ≡ data_file name n)) ⊎ (file ≡ meta_file name)
