-- What the entries make of a state as a whole: what is made, deleted, emptied and paused, and where in the state a topic's or a channel's row
-- takes place.
use Rattle.std.specs.Prelude.{◌≡◌, ℕ, ◌+◌, Bool, not, ◌&&◌, if◌then◌else◌, List, [], length, map, filter, fold, take, Option, Some, None, is_some}
use Rattle.std.specs.Str.{bytes_eq}
use Rattle.nsq_base.specs.Name.{is_ephemeral}
use Rattle.broker_history.specs.State.{Topic, Channel, Client, Phase, Lost, Route, State, is_empty, client_of, topic_of, channel_of, topic_or_new, channel_or_new, channel_names, with_topic, with_channel, with_client, without_client, clients_of, has_channel, is_ephemeral_channel}
use Rattle.broker_history.specs.Channels.{emptied_all}
use Rattle.broker_history.specs.Topics.{put_bodies, owed_no_more}

-- the topic of this name after messages of these bodies were published to it; it is made if it isn't there
abbrev pub published_topic : State → (at delay : ℕ) → (name : List ℕ) → List (List ℕ) → Topic
published_topic s at delay name bodies = put_bodies s.options.mem_queue_size s.epoch s.ids_used at delay (topic_or_new s name) bodies

-- the state after messages of these bodies were published; each uses an id, also one that an ephemeral topic drops
abbrev pub published : State → (at delay : ℕ) → (name : List ℕ) → List (List ℕ) → State
published s at delay name bodies = with_topic (record s { ids_used = s.ids_used + length bodies }) (published_topic s at delay name bodies)

-- the state with this topic, and with this channel in it; what isn't there yet is made
abbrev pub made_topic : State → (topic : List ℕ) → State
made_topic s topic = with_topic s (topic_or_new s topic)

abbrev pub made_channel : State → (topic channel : List ℕ) → State
made_channel s topic channel = with_topic s (with_channel (topic_or_new s topic) (channel_or_new (topic_or_new s topic) channel))

abbrev pub made : State → (topic : List ℕ) → Option (List ℕ) → State
made s topic None = made_topic s topic
made s topic (Some channel) = made_channel s topic channel

-- the state without the topic of this name, its messages and what is left of its channels
abbrev pub without_topic : State → (name : List ℕ) → State
without_topic s name = record s { topics = filter (λ (t : Topic). not (bytes_eq name t.name)) s.topics }

-- the topic without the channel of this name, which is owed nothing any more: a taken message that is owed to nobody goes
abbrev pub without_channel : Topic → (name : List ℕ) → Topic
without_channel t name = record t { taken = owed_no_more t.taken name; channels = filter (λ (c : Channel). not (bytes_eq name c.name)) t.channels }

-- the state with this topic, one of whose channels went: an ephemeral topic goes with its last channel
abbrev pub with_fewer : State → Topic → State
with_fewer s t = if is_ephemeral t.name && is_empty t.channels then without_topic s t.name else with_topic s t

-- a client whose channel was deleted
abbrev pub lost : (topic channel : List ℕ) → Client → Client
lost topic channel c = if has_channel topic channel c then record c { phase = Lost } else c

-- the state after the channel was deleted: its copies, its clients' part in it and what it was owed are gone
abbrev pub deleted_in : State → (channel : List ℕ) → Option Topic → State
deleted_in s channel None = s
deleted_in s channel (Some t) = if is_some (channel_of t channel) then with_fewer (record s { clients = map (lost t.name channel) s.clients }) (without_channel t channel) else s

abbrev pub deleted_channel : State → (topic channel : List ℕ) → State
deleted_channel s topic channel = deleted_in s channel (topic_of s topic)

-- the state after these channels of a topic were deleted, one after another
abbrev pub deleted_channels : State → (topic : List ℕ) → List (List ℕ) → State
deleted_channels s topic channels = fold (λ u channel. deleted_channel u topic channel) s channels

-- the names of a topic's channels, none where it isn't there
abbrev pub channels_in : Option Topic → List (List ℕ)
channels_in None = []
channels_in (Some t) = channel_names t

-- the state after the topic was deleted: its channels in byte order of their names, then the topic with all its messages
abbrev pub deleted_topic : State → (topic : List ℕ) → State
deleted_topic s topic = without_topic (deleted_channels s topic (channels_in (topic_of s topic))) topic

-- the state after a disk fault ended the topic's deletion behind so many channels
abbrev pub deleted_first : State → (topic : List ℕ) → (count : ℕ) → State
deleted_first s topic count = deleted_channels s topic (take count (channels_in (topic_of s topic)))

abbrev pub deleted : State → (topic : List ℕ) → Option (List ℕ) → State
deleted s topic None = deleted_topic s topic
deleted s topic (Some channel) = deleted_channel s topic channel

-- the state after a topic, or a channel of it, was changed where it is there
abbrev pub topic_changed : (Topic → Topic) → State → Option Topic → State
topic_changed f s None = s
topic_changed f s (Some t) = with_topic s (f t)

abbrev pub channel_changed_in : (Channel → Channel) → Topic → Option Channel → Topic
channel_changed_in f t None = t
channel_changed_in f t (Some c) = with_channel t (f c)

abbrev pub channel_changed : (Channel → Channel) → (channel : List ℕ) → Topic → Topic
channel_changed f channel t = channel_changed_in f t (channel_of t channel)

-- emptied: what waits in the topic goes, and what it took stays; or all of a channel's copies that aren't done with are emptied out
abbrev pub emptied : State → (topic : List ℕ) → Option (List ℕ) → State
emptied s topic None = topic_changed (λ (t : Topic). record t { waiting = [] }) s (topic_of s topic)
emptied s topic (Some channel) = topic_changed (channel_changed (λ (c : Channel). record c { copies = emptied_all c.copies }) channel) s (topic_of s topic)

-- paused, or not any more
abbrev pub set_paused : Bool → State → (topic : List ℕ) → Option (List ℕ) → State
set_paused on s topic None = topic_changed (λ (t : Topic). record t { paused = on }) s (topic_of s topic)
set_paused on s topic (Some channel) = topic_changed (channel_changed (λ (c : Channel). record c { paused = on }) channel) s (topic_of s topic)

-- the state after a client went, whose copies in flight stay there until they are due: an ephemeral channel goes with its last client
abbrev pub left_channel : State → Route → State
left_channel s route = if is_ephemeral_channel route.topic route.channel && is_empty (clients_of s route.topic route.channel) then deleted_channel s route.topic route.channel else s

abbrev pub left_by : State → Phase → Option Route → State
left_by s phase None = s
left_by s Lost (Some route) = s
left_by s phase (Some route) = left_channel s route

abbrev pub gone_client : State → (number : ℕ) → Option Client → State
gone_client s number None = s
gone_client s number (Some c) = left_by (record s { clients = without_client s.clients number }) c.phase c.route

abbrev pub gone : State → (number : ℕ) → State
gone s number = gone_client s number (client_of s number)

-- a row takes place at a topic of the state
pub record AtTopic (name : List ℕ) (Row : Topic → Topic → Type 0) (s s' : State) : Type 0 where
  pub old : Topic
  pub new : Topic
  pub there : topic_of s name ≡ Some old
  pub row : Row old new
  pub is : s' ≡ with_topic s new

-- a row takes place at a channel of a topic
pub record InChannel (name : List ℕ) (Row : Channel → Channel → Type 0) (old new : Topic) : Type 0 where
  pub from : Channel
  pub to : Channel
  pub there : channel_of old name ≡ Some from
  pub row : Row from to
  pub is : new ≡ with_channel old to

-- a row takes place at a channel of the state
abbrev pub AtChannel : (topic channel : List ℕ) → (Channel → Channel → Type 0) → State → State → Type 0
AtChannel topic channel Row s s' = AtTopic topic (InChannel channel Row) s s'

-- a client that is there changes
abbrev pub changed_client : (Client → Client) → State → Option Client → State
changed_client f s None = s
changed_client f s (Some c) = with_client s (f c)

abbrev pub at_client : (Client → Client) → State → (number : ℕ) → State
at_client f s number = changed_client f s (client_of s number)
