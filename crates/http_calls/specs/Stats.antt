-- The statistics of a daemon as a text in JSON (nsq.io, nsqd, `/stats`): without spaces, members in byte order of their names, lists as they
-- stand.
use Rattle.std.specs.Prelude.{ℕ, ◌/◌, Bool, if◌then◌else◌, List, ◌++◌, codes, decimal}
use Rattle.std.specs.List.{join_by}
use Rattle.std.specs.Str.Lossy.{utf8_lossy}
use Rattle.json.specs.Print.{quoted}
use Rattle.nsq_base.specs.Time.{second}
use Rattle.broker_history.specs.declared.stats.ClientStats.{ClientStats}
use Rattle.broker_history.specs.declared.stats.ChannelStats.{ChannelStats}
use Rattle.broker_history.specs.declared.stats.TopicStats.{TopicStats}
use Rattle.broker_history.specs.declared.stats.Stats.{Stats}

-- a string of what a client said; each sequence that isn't UTF-8, which IDENTIFY doesn't let in, would be shown as U+FFFD
abbrev pub said_text : List ℕ → List ℕ
said_text bytes = quoted (utf8_lossy bytes)

-- a truth value
abbrev pub flag_text : Bool → List ℕ
flag_text flag = if flag then codes "true" else codes "false"

-- texts with commas between
abbrev pub joined : {X : Type 0} → (X → List ℕ) → List X → List ℕ
joined text xs = join_by text (codes ",") xs

-- a client
abbrev pub client_text : ClientStats → List ℕ
client_text c =
    codes "{\"client_id\":" ++ said_text c.client_id
    ++ codes ",\"finish_count\":" ++ decimal c.finish_count
    ++ codes ",\"hostname\":" ++ said_text c.hostname
    ++ codes ",\"in_flight_count\":" ++ decimal c.in_flight_count
    ++ codes ",\"message_count\":" ++ decimal c.message_count
    ++ codes ",\"ready_count\":" ++ decimal c.ready_count
    ++ codes ",\"requeue_count\":" ++ decimal c.requeue_count
    ++ codes ",\"user_agent\":" ++ said_text c.user_agent
    ++ codes "}"

-- a channel
abbrev pub channel_text : ChannelStats → List ℕ
channel_text k =
    codes "{\"backend_depth\":" ++ decimal k.backend_depth
    ++ codes ",\"channel_name\":" ++ quoted k.channel_name
    ++ codes ",\"clients\":[" ++ joined client_text k.clients
    ++ codes "],\"deferred_count\":" ++ decimal k.deferred_count
    ++ codes ",\"depth\":" ++ decimal k.depth
    ++ codes ",\"in_flight_count\":" ++ decimal k.in_flight_count
    ++ codes ",\"message_count\":" ++ decimal k.message_count
    ++ codes ",\"paused\":" ++ flag_text k.paused
    ++ codes ",\"requeue_count\":" ++ decimal k.requeue_count
    ++ codes ",\"timeout_count\":" ++ decimal k.timeout_count
    ++ codes "}"

-- a topic
abbrev pub topic_text : TopicStats → List ℕ
topic_text t =
    codes "{\"backend_depth\":" ++ decimal t.backend_depth
    ++ codes ",\"channels\":[" ++ joined channel_text t.channels
    ++ codes "],\"depth\":" ++ decimal t.depth
    ++ codes ",\"message_count\":" ++ decimal t.message_count
    ++ codes ",\"paused\":" ++ flag_text t.paused
    ++ codes ",\"topic_name\":" ++ quoted t.topic_name
    ++ codes "}"

-- the whole, of a daemon that was opened at this moment (in nanoseconds); it is shown in whole seconds
abbrev pub stats_bytes : (began : ℕ) → Stats → List ℕ
stats_bytes began s =
    codes "{\"health\":\"OK\",\"start_time\":" ++ decimal (began / second)
    ++ codes ",\"topics\":[" ++ joined topic_text s.topics
    ++ codes "],\"version\":\"1.0.0\"}"
