-- What is said to each thing that is asked over HTTP.
use Rattle.std.specs.Prelude.{◌≡◌, ℕ, ◌-◌, ◌≤◌, Bool, true, false, if◌then◌else◌, List, length, filter, Option, Some, None, is_some}
use Rattle.std.specs.Str.{bytes_eq}
use Rattle.nsq_base.specs.Name.{is_ephemeral}
use Rattle.path_image.specs.Found.{Pairwise}
use Rattle.broker_history.specs.declared.ask.Ask.{Ask}
use Rattle.broker_history.specs.declared.ask.Ask.TheVariants as ask
use Rattle.broker_history.specs.declared.ask.Said.{Said}
use Rattle.broker_history.specs.declared.ask.Said.TheVariants as said
use Rattle.broker_history.specs.declared.stats.ClientStats.{ClientStats}
use Rattle.broker_history.specs.declared.stats.ChannelStats.{ChannelStats}
use Rattle.broker_history.specs.declared.stats.TopicStats.{TopicStats}
use Rattle.broker_history.specs.declared.stats.Stats.{Stats}
use Rattle.broker_history.specs.State.{State, Topic, Channel, Client, topic_of, channel_of, clients_of, is_ephemeral_channel, queued, in_flight, deferred, flying}
use Rattle.broker_history.specs.Reply.{has_ids}

-- of a depth, so much may not be in memory: at least what finds no room there, and at most all; nothing of an ephemeral one. How it is split
-- within these bounds is free
abbrev pub IsBackendDepth : (ephemeral : Bool) → (mem depth : ℕ) → (backend : ℕ) → Type 0
IsBackendDepth true mem depth backend = backend ≡ 0
IsBackendDepth false mem depth backend = (depth - mem ≤ backend) × (backend ≤ depth)

-- what is told of a client of a channel
pub record TellsClient (k : Channel) (c : Client) (told : ClientStats) : Type 0 where
  pub client_id : told.client_id ≡ c.client_id
  pub finish_count : told.finish_count ≡ c.finish_count
  pub hostname : told.hostname ≡ c.hostname
  pub in_flight_count : told.in_flight_count ≡ flying c.number k.copies
  pub message_count : told.message_count ≡ c.message_count
  pub ready_count : told.ready_count ≡ c.ready
  pub requeue_count : told.requeue_count ≡ c.requeue_count
  pub user_agent : told.user_agent ≡ c.user_agent

-- what is told of a channel of this topic
pub record TellsChannel (s : State) (topic : List ℕ) (k : Channel) (told : ChannelStats) : Type 0 where
  pub backend_depth : IsBackendDepth (is_ephemeral_channel topic k.name) s.options.mem_queue_size (queued k.copies) told.backend_depth
  pub channel_name : told.channel_name ≡ k.name
  pub clients : Pairwise (TellsClient k) (clients_of s topic k.name) told.clients
  pub deferred_count : told.deferred_count ≡ deferred k.copies
  pub depth : told.depth ≡ queued k.copies
  pub in_flight_count : told.in_flight_count ≡ in_flight k.copies
  pub message_count : told.message_count ≡ k.message_count
  pub paused : told.paused ≡ k.paused
  pub requeue_count : told.requeue_count ≡ k.requeue_count
  pub timeout_count : told.timeout_count ≡ k.timeout_count

-- the name is the one that was asked for, or none was
abbrev pub is_wanted : Option (List ℕ) → (name : List ℕ) → Bool
is_wanted None name = true
is_wanted (Some wanted) name = bytes_eq wanted name

-- what is told of a topic, of the channel that was asked for or of all
pub record TellsTopic (s : State) (channel : Option (List ℕ)) (t : Topic) (told : TopicStats) : Type 0 where
  pub backend_depth : IsBackendDepth (is_ephemeral t.name) s.options.mem_queue_size (length t.waiting) told.backend_depth
  pub channels : Pairwise (TellsChannel s t.name) (filter (λ (k : Channel). is_wanted channel k.name) t.channels) told.channels
  pub depth : told.depth ≡ length t.waiting
  pub message_count : told.message_count ≡ t.message_count
  pub paused : told.paused ≡ t.paused
  pub topic_name : told.topic_name ≡ t.name

-- the statistics, of the topic that was asked for or of all; a name that isn't there is no refusal, and leaves an empty list
pub record Tells (s : State) (topic channel : Option (List ℕ)) (told : Stats) : Type 0 where
  pub topics : Pairwise (TellsTopic s channel) (filter (λ (t : Topic). is_wanted topic t.name) s.topics) told.topics

-- what is said of a channel of a topic that is there, or of the topic itself where no channel is named
abbrev pub said_in : Topic → Option (List ℕ) → Said
said_in t None = said.Done
said_in t (Some channel) = if is_some (channel_of t channel) then said.Done else said.NoChannel

-- what is said where a topic, or a channel of it, has to be there
abbrev pub said_of : Option Topic → Option (List ℕ) → Said
said_of None channel = said.NoTopic
said_of (Some t) channel = said_in t channel

-- what is said where a topic is to be made, or a channel of a topic that has to be there
abbrev pub said_made : Option Topic → Option (List ℕ) → Said
said_made t None = said.Done
said_made None (Some channel) = said.NoTopic
said_made (Some t) (Some channel) = said.Done

-- what may be said to what is asked
abbrev pub Says : State → Ask → Said → Type 0
Says s (ask.Publish topic delay bodies) answer = answer ≡ (if has_ids s (length bodies) then said.Done else said.Ids)
Says s (ask.Stats topic channel) answer = (told : Stats) × (answer ≡ said.Stats told) × Tells s topic channel told
Says s (ask.Create topic channel) answer = answer ≡ said_made (topic_of s topic) channel
Says s (ask.Delete topic channel) answer = answer ≡ said_of (topic_of s topic) channel
Says s (ask.Empty topic channel) answer = answer ≡ said_of (topic_of s topic) channel
Says s (ask.Pause topic channel) answer = answer ≡ said_of (topic_of s topic) channel
Says s (ask.Unpause topic channel) answer = answer ≡ said_of (topic_of s topic) channel
