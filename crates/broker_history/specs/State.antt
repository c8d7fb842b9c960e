-- What a daemon is at a moment, as plain data.
use Rattle.std.specs.Prelude.{◌≡◌, ℕ, ◌+◌, ◌-◌, ◌^◌, min, Bool, true, false, not, ◌&&◌, ◌||◌, ◌==◌, nat_le, nat_lt, List, [], ◌∷◌, ◌++◌, map, filter, find, count_by, Option, Some, None, unwrap_or, option_and_then}
use Rattle.std.specs.List.{list_any}
use Rattle.std.specs.Str.{bytes_eq}
use Rattle.nsq_base.specs.declared.options.Options.{Options}
use Rattle.nsq_base.specs.Name.{is_ephemeral}
use Rattle.nsq_base.specs.Names.{TopicList, put_by}
use Rattle.v2_frame.specs.declared.message.Message.{Message}

-- where a copy is: queued; in flight with a client, until a moment, and since a moment; deferred until a moment; or done with: finished by
-- its client, emptied out of its channel, or dropped for want of room
pub data Place : Type 0 where
  Queued : Place
  InFlight : (client due sent : ℕ) → Place
  Deferred : (due : ℕ) → Place
  Finished : Place
  Emptied : Place
  Dropped : Place

-- a channel's copy of a message; its delay is spent, so the message's is 0
pub record Copy : Type 0 where
  pub message : Message
  pub place : Place

-- a channel: its name, whether it is paused, its counts in this run (copies that joined it and weren't dropped then, copies given back by
-- clients, copies that timed out), and its copies, in the order in which they joined, also those that are done with
pub record Channel : Type 0 where
  pub name : List ℕ
  pub paused : Bool
  pub message_count : ℕ
  pub requeue_count : ℕ
  pub timeout_count : ℕ
  pub copies : List Copy

-- a message that waits in its topic; it is loose where at least mem-queue-size messages were waiting as it was put: then it may have gone
-- to disk, where its delay is forgotten
pub record Waiting : Type 0 where
  pub message : Message
  pub loose : Bool

-- the message that a topic took, and the names of the channels that are owed a copy of it
pub record Taken : Type 0 where
  pub message : Message
  pub owed : List (List ℕ)

-- a topic: its name, whether it is paused, how many messages were put into it in this run and not dropped, those that wait, in order, the
-- one that it took, if there is one, and its channels in byte order, each once
pub record Topic : Type 0 where
  pub name : List ℕ
  pub paused : Bool
  pub message_count : ℕ
  pub waiting : List Waiting
  pub taken : Option Taken
  pub channels : List Channel

-- what a client may do: it has no channel yet; it gets messages; it gets no more of them; its channel was deleted
pub data Phase : Type 0 where
  Fresh : Phase
  Subscribed : Phase
  Closing : Phase
  Lost : Phase

-- the names of a channel and its topic
pub record Route : Type 0 where
  pub topic : List ℕ
  pub channel : List ℕ

-- a client that is there: the number of its connection, its phase, its channel once it subscribed, its last accepted RDY or 0, its heartbeat
-- interval unless that is off, how long it has for a message, the texts that it said of itself, the moment of its last command or else of its
-- beginning, the moment from which its next heartbeat counts, and its counts (finished messages, sendings, messages given back)
pub record Client : Type 0 where
  pub number : ℕ
  pub phase : Phase
  pub route : Option Route
  pub ready : ℕ
  pub heartbeat : Option ℕ
  pub timeout : ℕ
  pub client_id : List ℕ
  pub hostname : List ℕ
  pub user_agent : List ℕ
  pub last_command : ℕ
  pub beat_from : ℕ
  pub finish_count : ℕ
  pub message_count : ℕ
  pub requeue_count : ℕ

-- a daemon: its options, the run's epoch, how many ids it used in this run, the moment of the last entry, whether it stopped, the numbers of
-- all connections that ever began, the clients that are there, by their numbers, and the topics in byte order, each once
pub record State : Type 0 where
  pub options : Options
  pub epoch : ℕ
  pub ids_used : ℕ
  pub moment : ℕ
  pub stopped : Bool
  pub began : List ℕ
  pub clients : List Client
  pub topics : List Topic

-- a count after one more: counts stay at 2^64 - 1
abbrev pub counted : ℕ → ℕ
counted count = min (count + 1) (2 ^ 64 - 1)

-- a message as messages are compared: by timestamp, attempts, id and body, and not by the delay
abbrev pub compared : Message → Message
compared m = record m { delay = 0 }

-- two messages are the same
abbrev pub IsSame : Message → Message → Type 0
IsSame m n = compared m ≡ compared n

-- a message after one more attempt; there are 65535 at most
abbrev pub raised : Message → Message
raised m = record m { attempts = min (m.attempts + 1) 65535 }

-- whether a list has no item
abbrev pub is_empty : {X : Type 0} → List X → Bool
is_empty [] = true
is_empty (x ∷ xs) = false

-- the client of this number, where it is there
abbrev pub client_of : State → ℕ → Option Client
client_of s number = find (λ c. c.number == number) s.clients

-- whether the client of this number is there
abbrev pub is_there : State → ℕ → Bool
is_there s number = list_any (λ c. c.number == number) s.clients

-- whether a connection of this number ever began
abbrev pub has_begun : State → ℕ → Bool
has_begun s number = list_any (λ n. n == number) s.began

-- the clients with this one at its place, in place of the one of its number
abbrev pub put_client : List Client → Client → List Client
put_client clients c = filter (λ d. nat_lt d.number c.number) clients ++ c ∷ filter (λ d. nat_lt c.number d.number) clients

-- the clients without the one of this number
abbrev pub without_client : List Client → ℕ → List Client
without_client clients number = filter (λ c. not (c.number == number)) clients

-- the state with this client, in place of the one of its number
abbrev pub with_client : State → Client → State
with_client s c = record s { clients = put_client s.clients c }

-- the state at another moment
abbrev pub at_moment : State → ℕ → State
at_moment s at = record s { moment = at }

-- the topic of this name, where there is one
abbrev pub topic_in : List Topic → List ℕ → Option Topic
topic_in topics name = find (λ t. bytes_eq name t.name) topics

abbrev pub topic_of : State → List ℕ → Option Topic
topic_of s name = topic_in s.topics name

-- the channel of this name, where there is one
abbrev pub channel_in : List Channel → List ℕ → Option Channel
channel_in channels name = find (λ c. bytes_eq name c.name) channels

abbrev pub channel_of : Topic → List ℕ → Option Channel
channel_of t name = channel_in t.channels name

-- a topic as it is made: not paused, with no message and no channel
abbrev pub new_topic : List ℕ → Topic
new_topic name = record { name = name; paused = false; message_count = 0; waiting = []; taken = None; channels = [] }

-- a channel as it is made: not paused, with no copy
abbrev pub new_channel : List ℕ → Channel
new_channel name = record { name = name; paused = false; message_count = 0; requeue_count = 0; timeout_count = 0; copies = [] }

-- the topic of this name, as it is made where there is none
abbrev pub topic_or_new : State → List ℕ → Topic
topic_or_new s name = unwrap_or (topic_of s name) (new_topic name)

-- the channel of this name, as it is made where there is none
abbrev pub channel_or_new : Topic → List ℕ → Channel
channel_or_new t name = unwrap_or (channel_of t name) (new_channel name)

-- the state with this topic at its place in byte order, in place of the one of its name
abbrev pub with_topic : State → Topic → State
with_topic s t = record s { topics = put_by (λ (u : Topic). u.name) s.topics t }

-- the topic with this channel at its place in byte order, in place of the one of its name
abbrev pub with_channel : Topic → Channel → Topic
with_channel t c = record t { channels = put_by (λ (d : Channel). d.name) t.channels c }

-- whether a client has this channel: one that is Lost has none any more, even where a channel of that name was made again
abbrev pub is_on : Option Route → (topic channel : List ℕ) → Bool
is_on None topic channel = false
is_on (Some route) topic channel = bytes_eq topic route.topic && bytes_eq channel route.channel

abbrev pub is_lost : Phase → Bool
is_lost Lost = true
is_lost phase = false

abbrev pub is_subscribed : Phase → Bool
is_subscribed Subscribed = true
is_subscribed phase = false

abbrev pub is_fresh : Phase → Bool
is_fresh Fresh = true
is_fresh phase = false

abbrev pub has_channel : (topic channel : List ℕ) → Client → Bool
has_channel topic channel c = not (is_lost c.phase) && is_on c.route topic channel

-- the clients of a channel, by their numbers; one that is closing is among them until it goes
abbrev pub clients_of : State → (topic channel : List ℕ) → List Client
clients_of s topic channel = filter (has_channel topic channel) s.clients

-- whether a channel is ephemeral: its name or its topic's name is
abbrev pub is_ephemeral_channel : (topic channel : List ℕ) → Bool
is_ephemeral_channel topic channel = is_ephemeral topic || is_ephemeral channel

-- the names of a topic's channels
abbrev pub channel_names : Topic → List (List ℕ)
channel_names t = map (λ c. c.name) t.channels

-- the names of all topics and channels
abbrev pub names_of : State → TopicList
names_of s = map (λ t. (t.name, channel_names t)) s.topics

-- a channel of a topic, where both are there
abbrev pub channel_at : State → (topic channel : List ℕ) → Option Channel
channel_at s topic channel = option_and_then (λ t. channel_of t channel) (topic_of s topic)

-- the channel of a client, where it has one that is there
abbrev pub client_channel : State → Option Route → Option Channel
client_channel s None = None
client_channel s (Some route) = channel_at s route.topic route.channel

-- tests of a place
abbrev pub is_queued : Place → Bool
is_queued Queued = true
is_queued place = false

abbrev pub is_in_flight : Place → Bool
is_in_flight (InFlight client due sent) = true
is_in_flight place = false

abbrev pub is_with : ℕ → Place → Bool
is_with number (InFlight client due sent) = client == number
is_with number place = false

abbrev pub is_deferred : Place → Bool
is_deferred (Deferred due) = true
is_deferred place = false

-- the copy isn't done with
abbrev pub is_live : Place → Bool
is_live Queued = true
is_live (InFlight client due sent) = true
is_live (Deferred due) = true
is_live place = false

-- the copy is in flight or deferred until a moment that has come
abbrev pub is_due : (at : ℕ) → Place → Bool
is_due at (InFlight client due sent) = nat_le due at
is_due at (Deferred due) = nat_le due at
is_due at place = false

-- how many copies are queued, in flight, deferred
abbrev pub queued : List Copy → ℕ
queued copies = count_by (λ x. is_queued x.place) copies

abbrev pub in_flight : List Copy → ℕ
in_flight copies = count_by (λ x. is_in_flight x.place) copies

abbrev pub deferred : List Copy → ℕ
deferred copies = count_by (λ x. is_deferred x.place) copies

-- how many copies are in flight with a client
abbrev pub flying : ℕ → List Copy → ℕ
flying number copies = count_by (λ x. is_with number x.place) copies

-- how many copies of an id are in flight, and how many of them with a client
abbrev pub flying_of : List ℕ → List Copy → ℕ
flying_of id copies = count_by (λ x. is_in_flight x.place && bytes_eq id x.message.id) copies

abbrev pub flying_with : (number : ℕ) → (id : List ℕ) → List Copy → ℕ
flying_with number id copies = count_by (λ x. is_with number x.place && bytes_eq id x.message.id) copies
