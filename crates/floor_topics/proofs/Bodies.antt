-- Messages that are made of bodies, and what a topic is after they were put into it.
use Rattle.std.proofs.Common.{◌≡◌, ◌≤◌, ℕ, ◌+◌, suc, Bool, true, false, ◌&&◌, if◌then◌else◌, List, [], ◌∷◌, ◌++◌, length, length-append, refl, sym, ap, ◌∙◌, arith}
use Rattle.std.specs.List.{All}
use Rattle.std.proofs.lemmas.List.Elements.{All-append, All-cons, All-head, All-nil, All-tail}
use Rattle.nsq_base.specs.MsgId.{id_of}
use Rattle.nsq_base.specs.Name.{is_ephemeral}
use Rattle.v2_frame.specs.declared.message.Message.{Message}
use Rattle.backlog.specs.Seen.{FitsLimit}
use Rattle.broker_history.specs.State.{State, Topic, Waiting, topic_or_new, with_topic}
use Rattle.broker_history.specs.Topics.{is_full, published_message, put_bodies, put_message, with_waiting}
use Rattle.broker_history.specs.Changes.{published}
use Rattle.topic_core.specs.Rows.{put_messages}
use Rattle.floor_rooms.specs.Standing.{longest_delay}
use Rattle.floor_topics.specs.Publishing.{messages_of, put_into}

-- the message of one more body at the end
pub messages_more : (epoch n at delay : ℕ) (bodies : List (List ℕ)) (body : List ℕ) → messages_of epoch n at delay (bodies ++ body ∷ []) ≡ messages_of epoch n at delay bodies ++ published_message epoch (n + length bodies) at delay body ∷ []
messages_more epoch n at delay [] body = let same : n ≡ n + 0 = omega arith in ap (λ m. published_message epoch m at delay body ∷ []) same
messages_more epoch n at delay (x ∷ bodies) body =
    let same : (n + 1) + length bodies ≡ n + suc (length bodies) = omega arith in
    ap (λ ms. published_message epoch n at delay x ∷ ms) (messages_more epoch (n + 1) at delay bodies body ∙ ap (λ m. messages_of epoch (n + 1) at delay bodies ++ published_message epoch m at delay body ∷ []) same)

pub messages_count : (epoch n at delay : ℕ) (bodies : List (List ℕ)) → length (messages_of epoch n at delay bodies) ≡ length bodies
messages_count epoch n at delay [] = refl
messages_count epoch n at delay (body ∷ bodies) = ap suc (messages_count epoch (n + 1) at delay bodies)

-- they are as short as their bodies, and have the delay
pub messages_short : (epoch n at delay : ℕ) (bodies : List (List ℕ)) → All (λ body. length body ≤ 16777216) bodies → All FitsLimit (messages_of epoch n at delay bodies)
messages_short epoch n at delay [] all = All-nil FitsLimit
messages_short epoch n at delay (body ∷ bodies) all =
    let Short : List ℕ → Type 0 = λ b. length b ≤ 16777216 in
    All-cons FitsLimit (published_message epoch n at delay body) (messages_of epoch (n + 1) at delay bodies) (All-head Short body bodies all) (messages_short epoch (n + 1) at delay bodies (All-tail Short body bodies all))

pub messages_delay : (epoch n at delay : ℕ) (bodies : List (List ℕ)) → delay ≤ longest_delay → All (λ m. m.delay ≤ longest_delay) (messages_of epoch n at delay bodies)
messages_delay epoch n at delay [] within = All-nil (λ (m : Message). m.delay ≤ longest_delay)
messages_delay epoch n at delay (body ∷ bodies) within =
    All-cons (λ (m : Message). m.delay ≤ longest_delay) (published_message epoch n at delay body) (messages_of epoch (n + 1) at delay bodies) within (messages_delay epoch (n + 1) at delay bodies within)

-- bodies are put as their messages are
bodies_put : (mem epoch n at delay : ℕ) (t : Topic) (bodies : List (List ℕ)) → put_messages mem t (messages_of epoch n at delay bodies) ≡ put_bodies mem epoch n at delay t bodies
bodies_put mem epoch n at delay t [] = refl
bodies_put mem epoch n at delay t (body ∷ bodies) = bodies_put mem epoch (n + 1) at delay (put_message mem t (published_message epoch n at delay body)) bodies

-- so a publish puts the messages of its bodies
pub publish_puts : (s : State) (epoch n at delay : ℕ) (topic : List ℕ) (bodies : List (List ℕ)) → s.epoch ≡ epoch → s.ids_used ≡ n → put_into s topic (messages_of epoch n at delay bodies) ≡ published s at delay topic bodies
publish_puts s epoch n at delay topic bodies e u =
    ap (λ k. put_into s topic (messages_of k n at delay bodies)) (sym e) ∙ ap (λ k. put_into s topic (messages_of s.epoch k at delay bodies)) (sym u)
    ∙ ap (λ k. with_topic (record s { ids_used = s.ids_used + k }) (put_messages s.options.mem_queue_size (topic_or_new s topic) (messages_of s.epoch s.ids_used at delay bodies))) (messages_count s.epoch s.ids_used at delay bodies)
    ∙ ap (with_topic (record s { ids_used = s.ids_used + length bodies })) (bodies_put s.options.mem_queue_size s.epoch s.ids_used at delay (topic_or_new s topic) bodies)

-- what messages that are put leave of a topic
pub record PutKeeps (t u : Topic) : Type 0 where
  pub name : u.name ≡ t.name
  pub taken : u.taken ≡ t.taken
  pub channels : u.channels ≡ t.channels

one_keeps : (t : Topic) (m : Message) (loose drops : Bool) → PutKeeps t (if drops then t else with_waiting t m loose)
one_keeps t m loose true = record { name = refl; taken = refl; channels = refl }
one_keeps t m loose false = record { name = refl; taken = refl; channels = refl }

pub put_keeps : (mem : ℕ) (t : Topic) (ms : List Message) → PutKeeps t (put_messages mem t ms)
put_keeps mem t [] = record { name = refl; taken = refl; channels = refl }
put_keeps mem t (m ∷ ms) =
    let one : PutKeeps t (put_message mem t m) = one_keeps t m (is_full mem t) (is_ephemeral t.name && is_full mem t) in
    let more : PutKeeps (put_message mem t m) (put_messages mem (put_message mem t m) ms) = put_keeps mem (put_message mem t m) ms in
    record { name = more.name ∙ one.name; taken = more.taken ∙ one.taken; channels = more.channels ∙ one.channels }

-- no message waits with a longer delay than options allow
abbrev pub WaitsShort : Waiting → Type 0
WaitsShort w = w.message.delay ≤ longest_delay

one_delay : (t : Topic) (m : Message) (loose drops : Bool) → m.delay ≤ longest_delay → All WaitsShort t.waiting → All WaitsShort (if drops then t else with_waiting t m loose).waiting
one_delay t m loose true d all = all
one_delay t m loose false d all =
    let w : Waiting = record { message = m; loose = loose } in
    All-append WaitsShort t.waiting (w ∷ []) all (All-cons WaitsShort w [] d (All-nil WaitsShort))

pub put_delays : (mem : ℕ) (t : Topic) (ms : List Message) → All (λ m. m.delay ≤ longest_delay) ms → All WaitsShort t.waiting → All WaitsShort (put_messages mem t ms).waiting
put_delays mem t [] d all = all
put_delays mem t (m ∷ ms) d all =
    let Short : Message → Type 0 = λ m. m.delay ≤ longest_delay in
    put_delays mem (put_message mem t m) ms (All-tail Short m ms d) (one_delay t m (is_full mem t) (is_ephemeral t.name && is_full mem t) (All-head Short m ms d) all)

-- a loop over bodies that pushed the message of one more
pub messages_push : (epoch n at delay : ℕ) (bodies : List (List ℕ)) (body : List ℕ) (ms now : List Message) (number : ℕ) (id : List ℕ) → ms ≡ messages_of epoch n at delay bodies → number ≡ n + length bodies → id ≡ id_of epoch number
    → now ≡ ms ++ record { stamp = at; attempts = 0; id = id; body = body; delay = delay } ∷ [] → now ≡ messages_of epoch n at delay (bodies ++ body ∷ [])
messages_push epoch n at delay bodies body ms now number id are is made pushed =
    let message : List ℕ → Message = λ k. record { stamp = at; attempts = 0; id = k; body = body; delay = delay } in
    pushed ∙ ap (λ xs. xs ++ message id ∷ []) are ∙ ap (λ k. messages_of epoch n at delay bodies ++ message k ∷ []) (made ∙ ap (id_of epoch) is) ∙ sym (messages_more epoch n at delay bodies body)

pub pushed_count : (n number : ℕ) (bodies : List (List ℕ)) (body : List ℕ) → number ≡ n + length bodies → number + 1 ≡ n + length (bodies ++ body ∷ [])
pushed_count n number bodies body is = omega (arith, is, length-append bodies (body ∷ []))
