-- What a stop leaves: the names that are kept, and the messages that aren't done with.
use Rattle.std.specs.Prelude.{◌≡◌, ℕ, List, [], ◌∷◌, ◌++◌, map, filter, Option, Some, None, option_map, unwrap_or}
use Rattle.v2_frame.specs.declared.message.Message.{Message}
use Rattle.path_image.specs.Data.{KeptChannel, KeptTopic, Kept, durable}
use Rattle.path_image.specs.Found.{FoundChannel, FoundTopic, Found, Pairwise}
use Rattle.broker_history.specs.State.{Copy, Waiting, Taken, Channel, Topic, State, compared, is_live, topic_of, channel_at}
use Rattle.broker_history.specs.Channels.{AsOften}

-- the messages of a channel's copies that are queued, in flight or deferred
abbrev pub left_in_channel : Channel → List Message
left_in_channel k = map (λ (x : Copy). x.message) (filter (λ (x : Copy). is_live x.place) k.copies)

-- the message that is taken, if one is
abbrev pub taken_message : Option Taken → List Message
taken_message None = []
taken_message (Some taken) = taken.message ∷ []

-- the messages that wait in a topic, and the one that it took
abbrev pub left_in_topic : Topic → List Message
left_in_topic t = map (λ (w : Waiting). w.message) t.waiting ++ taken_message t.taken

-- the messages that are left of a topic or a channel, none where it isn't there
abbrev pub left_of_topic : State → (topic : List ℕ) → List Message
left_of_topic s topic = unwrap_or (option_map left_in_topic (topic_of s topic)) []

abbrev pub left_of_channel : State → (topic channel : List ℕ) → List Message
left_of_channel s topic channel = unwrap_or (option_map left_in_channel (channel_at s topic channel)) []

-- the same messages, each as often, in whatever order
abbrev pub SameMessages : List Message → List Message → Type 0
SameMessages ms ns = AsOften (map compared ms) (map compared ns)

-- the channels and topics whose names are kept on disk
abbrev pub durable_channels : Topic → List Channel
durable_channels t = durable (λ (k : Channel). k.name) t.channels

abbrev pub durable_topics : State → List Topic
durable_topics s = durable (λ (t : Topic). t.name) s.topics

-- a channel was found with its name, its pause and the messages that were left of it
pub record IsLeftChannel (k : Channel) (found : FoundChannel) : Type 0 where
  pub name : found.name ≡ k.name
  pub paused : found.paused ≡ k.paused
  pub messages : SameMessages (left_in_channel k) found.messages

-- a topic was found with its name, its pause, the messages that were left of it, and its durable channels
pub record IsLeftTopic (t : Topic) (found : FoundTopic) : Type 0 where
  pub name : found.name ≡ t.name
  pub paused : found.paused ≡ t.paused
  pub messages : SameMessages (left_in_topic t) found.messages
  pub channels : Pairwise IsLeftChannel (durable_channels t) found.channels

-- all that a run left was found, and nothing else: its epoch, and its durable topics and channels with their pauses and messages
pub record IsAllLeft (s : State) (found : Found) : Type 0 where
  pub epoch : found.epoch ≡ s.epoch
  pub topics : Pairwise IsLeftTopic (durable_topics s) found.topics

-- the names that the file of names keeps of a state: the run's epoch, and the durable topics and channels with their pauses
abbrev pub kept_channel : Channel → KeptChannel
kept_channel k = record { name = k.name; paused = k.paused }

abbrev pub kept_topic : Topic → KeptTopic
kept_topic t = record { name = t.name; paused = t.paused; channels = map kept_channel (durable_channels t) }

abbrev pub kept_names : State → Kept
kept_names s = record { epoch = s.epoch; topics = map kept_topic (durable_topics s) }
