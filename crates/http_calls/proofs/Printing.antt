-- The tokens of the statistics are printed as their text.
use Rattle.std.proofs.Common.{◌≡◌, ℕ, ◌/◌, Bool, true, false, List, [], ◌∷◌, ◌++◌, flat_map, append_assoc, codes, decimal}
use Rattle.std.proofs.Common.{Result, Ok, Err, OnOk, refl, sym, ap, ◌∙◌}
use Rattle.std.specs.Result.{is_err}
use Rattle.json.specs.Token.{Token, begin_object, end_object, begin_array, end_array, key, string, number, boolean}
use Rattle.json.specs.Print.{escape_byte, quoted, token_text, separator, print_from, print}
use Rattle.nsq_base.specs.Time.{second}
use Rattle.broker_history.specs.declared.stats.ClientStats.{ClientStats}
use Rattle.broker_history.specs.declared.stats.ChannelStats.{ChannelStats}
use Rattle.broker_history.specs.declared.stats.TopicStats.{TopicStats}
use Rattle.broker_history.specs.declared.stats.Stats.{Stats}
use Rattle.http_calls.specs.Stats.{said_text, flag_text, joined, client_text, channel_text, topic_text, stats_bytes}
use Rattle.http_calls.specs.Tokens.{count_tokens, client_tokens, channel_tokens, topic_tokens, stats_tokens}
use Rattle.http_calls.proofs.Appending.{before_rest, together, together_alone}

flag_is : (flag : Bool) → token_text (boolean flag) ≡ flag_text flag
flag_is true = refl
flag_is false = refl

-- the tokens of a value that is an object are printed as its text, behind a comma where a value stands before it
abbrev Prints : {X : Type 0} → (X → List Token) → (X → List ℕ) → Type 0
Prints {X} tokens text =
    (later : Bool) (x : X) (rest : List Token) → print_from later (tokens x ++ rest) ≡ separator later begin_object ++ (text x ++ print_from true rest)

-- and so a list of them
module _ {X : Type 0} (tokens : X → List Token) (text : X → List ℕ) (prints : Prints tokens text) where
  later_items : (xs : List X) (rest : List Token)
      → print_from true (flat_map tokens xs ++ end_array ∷ rest) ≡ flat_map (λ x. codes "," ++ text x) xs ++ 93 ∷ print_from true rest
  unfolding print_from
  later_items [] rest = refl
  later_items (x ∷ xs) rest =
      ap (print_from true) (append_assoc (tokens x) (flat_map tokens xs) (end_array ∷ rest))
      ∙ prints true x (flat_map tokens xs ++ end_array ∷ rest)
      ∙ ap (λ (r : List ℕ). 44 ∷ (text x ++ r)) (later_items xs rest)
      ∙ sym (append_assoc (44 ∷ text x) (flat_map (λ x. codes "," ++ text x) xs) (93 ∷ print_from true rest))

  list_prints : (xs : List X) (rest : List Token) → print_from false (flat_map tokens xs ++ end_array ∷ rest) ≡ joined text xs ++ 93 ∷ print_from true rest
  unfolding print_from
  list_prints [] rest = refl
  list_prints (x ∷ xs) rest =
      ap (print_from false) (append_assoc (tokens x) (flat_map tokens xs) (end_array ∷ rest))
      ∙ prints false x (flat_map tokens xs ++ end_array ∷ rest)
      ∙ ap (λ (r : List ℕ). text x ++ r) (later_items xs rest)
      ∙ sym (append_assoc (text x) (flat_map (λ x. codes "," ++ text x) xs) (93 ∷ print_from true rest))

client_prints : Prints client_tokens client_text
unfolding escape_byte print_from
client_prints later c rest = ap (λ (r : List ℕ). separator later begin_object ++ r) (together (codes "{\"client_id\":") (
    said_text c.client_id
    ∷ codes ",\"finish_count\":" ∷ decimal c.finish_count
    ∷ codes ",\"hostname\":" ∷ said_text c.hostname
    ∷ codes ",\"in_flight_count\":" ∷ decimal c.in_flight_count
    ∷ codes ",\"message_count\":" ∷ decimal c.message_count
    ∷ codes ",\"ready_count\":" ∷ decimal c.ready_count
    ∷ codes ",\"requeue_count\":" ∷ decimal c.requeue_count
    ∷ codes ",\"user_agent\":" ∷ said_text c.user_agent
    ∷ codes "}" ∷ []) (print_from true rest))

-- the tokens of a channel up to the last of its clients, and those behind
abbrev channel_tokens_front : ChannelStats → List Token
channel_tokens_front k =
    begin_object ∷ key (codes "backend_depth") ∷ number (decimal k.backend_depth) ∷ key (codes "channel_name") ∷ string k.channel_name
    ∷ key (codes "clients") ∷ begin_array ∷ flat_map client_tokens k.clients

abbrev channel_tokens_back : ChannelStats → List (List Token)
channel_tokens_back k =
    (end_array ∷ [])
    ∷ count_tokens (codes "deferred_count") k.deferred_count
    ∷ count_tokens (codes "depth") k.depth
    ∷ count_tokens (codes "in_flight_count") k.in_flight_count
    ∷ count_tokens (codes "message_count") k.message_count
    ∷ (key (codes "paused") ∷ boolean k.paused ∷ [])
    ∷ count_tokens (codes "requeue_count") k.requeue_count
    ∷ count_tokens (codes "timeout_count") k.timeout_count
    ∷ (end_object ∷ []) ∷ []

-- its text from the first depth up to its clients, and behind them
abbrev channel_front : ChannelStats → List (List ℕ)
channel_front k = decimal k.backend_depth ∷ codes ",\"channel_name\":" ∷ quoted k.channel_name ∷ codes ",\"clients\":[" ∷ []

abbrev channel_back : ChannelStats → (flag : List ℕ) → List (List ℕ)
channel_back k flag =
    codes "],\"deferred_count\":" ∷ decimal k.deferred_count
    ∷ codes ",\"depth\":" ∷ decimal k.depth
    ∷ codes ",\"in_flight_count\":" ∷ decimal k.in_flight_count
    ∷ codes ",\"message_count\":" ∷ decimal k.message_count
    ∷ codes ",\"paused\":" ∷ flag
    ∷ codes ",\"requeue_count\":" ∷ decimal k.requeue_count
    ∷ codes ",\"timeout_count\":" ∷ decimal k.timeout_count
    ∷ codes "}" ∷ []

channel_prints : Prints channel_tokens channel_text
unfolding escape_byte print_from
channel_prints later k rest =
    let front = λ (r : List ℕ). separator later begin_object ++ (codes "{\"backend_depth\":" ++ before_rest (channel_front k) r) in
    let clients = joined client_text k.clients in
    let more = print_from true rest in
    ap (print_from later) (sym (together (channel_tokens_front k) (channel_tokens_back k) rest))
    ∙ ap front (list_prints client_tokens client_text client_prints k.clients _)
    ∙ ap (λ (f : List ℕ). front (clients ++ before_rest (channel_back k f) more)) (flag_is k.paused)
    ∙ ap (λ (r : List ℕ). separator later begin_object ++ r) (together (codes "{\"backend_depth\":") (channel_front k ++ clients ∷ channel_back k (flag_text k.paused)) more)

-- the tokens of a topic up to the last of its channels, and those behind
abbrev topic_tokens_front : TopicStats → List Token
topic_tokens_front t =
    begin_object ∷ key (codes "backend_depth") ∷ number (decimal t.backend_depth) ∷ key (codes "channels") ∷ begin_array ∷ flat_map channel_tokens t.channels

abbrev topic_tokens_back : TopicStats → List (List Token)
topic_tokens_back t =
    (end_array ∷ [])
    ∷ count_tokens (codes "depth") t.depth
    ∷ count_tokens (codes "message_count") t.message_count
    ∷ (key (codes "paused") ∷ boolean t.paused ∷ [])
    ∷ (key (codes "topic_name") ∷ string t.topic_name ∷ [])
    ∷ (end_object ∷ []) ∷ []

-- its text from the first depth up to its channels, and behind them
abbrev topic_front : TopicStats → List (List ℕ)
topic_front t = decimal t.backend_depth ∷ codes ",\"channels\":[" ∷ []

abbrev topic_back : TopicStats → (flag : List ℕ) → List (List ℕ)
topic_back t flag =
    codes "],\"depth\":" ∷ decimal t.depth
    ∷ codes ",\"message_count\":" ∷ decimal t.message_count
    ∷ codes ",\"paused\":" ∷ flag
    ∷ codes ",\"topic_name\":" ∷ quoted t.topic_name
    ∷ codes "}" ∷ []

topic_prints : Prints topic_tokens topic_text
unfolding escape_byte print_from
topic_prints later t rest =
    let front = λ (r : List ℕ). separator later begin_object ++ (codes "{\"backend_depth\":" ++ before_rest (topic_front t) r) in
    let channels = joined channel_text t.channels in
    let more = print_from true rest in
    ap (print_from later) (sym (together (topic_tokens_front t) (topic_tokens_back t) rest))
    ∙ ap front (list_prints channel_tokens channel_text channel_prints t.channels _)
    ∙ ap (λ (f : List ℕ). front (channels ++ before_rest (topic_back t f) more)) (flag_is t.paused)
    ∙ ap (λ (r : List ℕ). separator later begin_object ++ r) (together (codes "{\"backend_depth\":") (topic_front t ++ channels ∷ topic_back t (flag_text t.paused)) more)

-- the whole
pub stats_print : (began : ℕ) (s : Stats) → print (stats_tokens (began / second) s) ≡ stats_bytes began s
unfolding escape_byte print_from
stats_print began s =
    let first = codes "{\"health\":\"OK\",\"start_time\":" in
    let start = decimal (began / second) in
    let front = begin_object ∷ key (codes "health") ∷ string (codes "OK") ∷ key (codes "start_time") ∷ number start ∷ key (codes "topics") ∷ begin_array ∷ [] in
    let back = (end_array ∷ []) ∷ (key (codes "version") ∷ string (codes "1.0.0") ∷ []) ∷ (end_object ∷ []) ∷ [] in
    ap (print_from false) (sym (together_alone (front ++ flat_map topic_tokens s.topics) back))
    ∙ ap (λ (r : List ℕ). first ++ (start ++ (codes ",\"topics\":[" ++ r))) (list_prints topic_tokens topic_text topic_prints s.topics _)
    ∙ together_alone first (start ∷ codes ",\"topics\":[" ∷ joined topic_text s.topics ∷ codes "],\"version\":\"1.0.0\"}" ∷ [])

-- the same behind what was there
pub stats_whole : (began : ℕ) (s : Stats) (old before items : List ℕ) (none tokens : List Token)
    → items ≡ before ++ print tokens → before ≡ old → tokens ≡ none ++ stats_tokens (began / second) s → none ≡ []
    → items ≡ old ++ stats_bytes began s
stats_whole began s old before items none tokens printed stays written empty =
    printed
    ∙ ap (λ (b : List ℕ). b ++ print tokens) stays
    ∙ ap (λ (ts : List Token). old ++ print ts) (written ∙ ap (λ (ts : List Token). ts ++ stats_tokens (began / second) s) empty)
    ∙ ap (λ (text : List ℕ). old ++ text) (stats_print began s)

-- what a call ensures where it gave no error
pub not_err : {T E P : Type 0} (r : Result T E) → is_err r ≡ false → OnOk r P → P
not_err (Ok x) e p = p
not_err (Err x) e p = cc
