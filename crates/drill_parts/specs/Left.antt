-- How many messages an opening finds in a folder.
use Rattle.std.specs.Prelude.{◌≡◌, ℕ, ◌+◌, List, length, sum_by}
use Rattle.nsq_outside.specs.Files.{Files}
use Rattle.v2_frame.specs.declared.message.Message.{Message}
use Rattle.queue_image.specs.Finds.{IsBadFile, IsGoodFile, Walks}
use Rattle.queue_image.specs.declared.positions.Positions.{Positions}
use Rattle.path_image.specs.Data.{KeptChannel, KeptTopic}
use Rattle.path_image.specs.Found.{FindsChannel, FindsTopic, Found, FoundChannel, FoundTopic, HasMessages, IsFound, Names, Pairwise, least_record, longest_record}

-- how many messages are in these channels
abbrev pub messages_within : List FoundChannel → ℕ
messages_within channels = sum_by (λ (c : FoundChannel). length c.messages) channels

-- how many messages are in a topic and in its channels
abbrev pub messages_of : FoundTopic → ℕ
messages_of t = length t.messages + messages_within t.channels

-- how many messages are in all topics and channels that were found
abbrev pub messages_in : Found → ℕ
messages_in found = sum_by messages_of found.topics

-- an opening finds names, and so many messages with them
pub record FindsMessages (files : Files) (count : ℕ) : Type 0 where
  pub found : Found
  pub is_found : IsFound files (Names found)
  pub count_is : count ≡ messages_in found

-- an opening doesn't find names
abbrev pub FindsNoNames : Files → Type 0
FindsNoNames files = (found : Found) → IsFound files (Names found) → ⊥

-- where an opening finds names, so many messages are with them
abbrev pub CountsAll : Files → ℕ → Type 0
CountsAll files count = (found : Found) → IsFound files (Names found) → count ≡ messages_in found

-- no list of messages is that of the queue of this name
abbrev pub HasNoList : Files → (name : List ℕ) → Type 0
HasNoList files name = (messages : List Message) → HasMessages files name messages → ⊥

-- each list of messages that is that of the queue of this name has so many
abbrev pub CountsQueue : Files → (name : List ℕ) → ℕ → Type 0
CountsQueue files name count = (messages : List Message) → HasMessages files name messages → count ≡ length messages

-- these channels of a topic can't be found
abbrev pub FindsNoneOf : Files → (topic : List ℕ) → List KeptChannel → Type 0
FindsNoneOf files topic kept = (found : List FoundChannel) → Pairwise (FindsChannel files topic) kept found → ⊥

-- where these channels of a topic are found, they have so many messages together
abbrev pub CountsChannels : Files → (topic : List ℕ) → List KeptChannel → ℕ → Type 0
CountsChannels files topic kept count = (found : List FoundChannel) → Pairwise (FindsChannel files topic) kept found → count ≡ messages_within found

-- this topic can't be found
abbrev pub FindsNoTopic : Files → KeptTopic → Type 0
FindsNoTopic files kept = (found : FoundTopic) → FindsTopic files kept found → ⊥

-- where this topic is found, so many messages are in it and its channels
abbrev pub CountsTopic : Files → KeptTopic → ℕ → Type 0
CountsTopic files kept count = (found : FoundTopic) → FindsTopic files kept found → count ≡ messages_of found

-- these topics can't be found
abbrev pub FindsNoTopics : Files → List KeptTopic → Type 0
FindsNoTopics files kept = (found : List FoundTopic) → Pairwise (FindsTopic files) kept found → ⊥

-- where these topics are found, so many messages are in them and their channels
abbrev pub CountsTopics : Files → List KeptTopic → ℕ → Type 0
CountsTopics files kept count = (found : List FoundTopic) → Pairwise (FindsTopic files) kept found → count ≡ sum_by messages_of found

-- a file gives so many records, or none as it is bad
pub data GivesSo (p : Positions) (k : ℕ) (bytes : List ℕ) (count : ℕ) : Type 0 where
  good : (bodies : List (List ℕ)) → IsGoodFile least_record longest_record p k bytes bodies → count ≡ length bodies → GivesSo p k bytes count
  bad : IsBadFile least_record longest_record p k bytes → count ≡ 0 → GivesSo p k bytes count

-- the walk over a queue's files up to one of this number gives so many records
pub record WalksOver (p : Positions) (bytes : ℕ → List ℕ) (k count : ℕ) : Type 0 where
  pub bodies : List (List ℕ)
  pub bad : List ℕ
  pub walk : Walks least_record longest_record p bytes k bodies bad
  pub count_is : count ≡ length bodies
