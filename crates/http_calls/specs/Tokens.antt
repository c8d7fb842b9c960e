-- The tokens of the statistics in JSON. No public clause cites this module.
use Rattle.std.specs.Prelude.{ℕ, List, [], ◌∷◌, ◌++◌, flat_map, codes, decimal}
use Rattle.std.specs.Str.Lossy.{utf8_lossy}
use Rattle.json.specs.Token.{Token, begin_object, end_object, begin_array, end_array, key, string, number, boolean}
use Rattle.broker_history.specs.declared.stats.ClientStats.{ClientStats}
use Rattle.broker_history.specs.declared.stats.ChannelStats.{ChannelStats}
use Rattle.broker_history.specs.declared.stats.TopicStats.{TopicStats}
use Rattle.broker_history.specs.declared.stats.Stats.{Stats}

-- a count
abbrev pub count_tokens : (name : List ℕ) → ℕ → List Token
count_tokens name n = key name ∷ number (decimal n) ∷ []

-- what a client said
abbrev pub said_tokens : (name : List ℕ) → List ℕ → List Token
said_tokens name bytes = key name ∷ string (utf8_lossy bytes) ∷ []

-- a list, each item by its tokens
abbrev pub list_tokens : {X : Type 0} → (X → List Token) → (name : List ℕ) → List X → List Token
list_tokens tokens name xs = key name ∷ begin_array ∷ flat_map tokens xs ++ end_array ∷ []

-- a client
abbrev pub client_tokens : ClientStats → List Token
client_tokens c =
    begin_object ∷ (said_tokens (codes "client_id") c.client_id
    ++ count_tokens (codes "finish_count") c.finish_count
    ++ said_tokens (codes "hostname") c.hostname
    ++ count_tokens (codes "in_flight_count") c.in_flight_count
    ++ count_tokens (codes "message_count") c.message_count
    ++ count_tokens (codes "ready_count") c.ready_count
    ++ count_tokens (codes "requeue_count") c.requeue_count
    ++ said_tokens (codes "user_agent") c.user_agent
    ++ end_object ∷ [])

-- a channel
abbrev pub channel_tokens : ChannelStats → List Token
channel_tokens k =
    begin_object ∷ (count_tokens (codes "backend_depth") k.backend_depth
    ++ (key (codes "channel_name") ∷ string k.channel_name ∷ [])
    ++ list_tokens client_tokens (codes "clients") k.clients
    ++ count_tokens (codes "deferred_count") k.deferred_count
    ++ count_tokens (codes "depth") k.depth
    ++ count_tokens (codes "in_flight_count") k.in_flight_count
    ++ count_tokens (codes "message_count") k.message_count
    ++ (key (codes "paused") ∷ boolean k.paused ∷ [])
    ++ count_tokens (codes "requeue_count") k.requeue_count
    ++ count_tokens (codes "timeout_count") k.timeout_count
    ++ end_object ∷ [])

-- a topic
abbrev pub topic_tokens : TopicStats → List Token
topic_tokens t =
    begin_object ∷ (count_tokens (codes "backend_depth") t.backend_depth
    ++ list_tokens channel_tokens (codes "channels") t.channels
    ++ count_tokens (codes "depth") t.depth
    ++ count_tokens (codes "message_count") t.message_count
    ++ (key (codes "paused") ∷ boolean t.paused ∷ [])
    ++ (key (codes "topic_name") ∷ string t.topic_name ∷ [])
    ++ end_object ∷ [])

-- the whole, of a daemon that was opened at this second
abbrev pub stats_tokens : (start : ℕ) → Stats → List Token
stats_tokens start s =
    begin_object ∷ ((key (codes "health") ∷ string (codes "OK") ∷ [])
    ++ count_tokens (codes "start_time") start
    ++ list_tokens topic_tokens (codes "topics") s.topics
    ++ (key (codes "version") ∷ string (codes "1.0.0") ∷ [])
    ++ end_object ∷ [])
