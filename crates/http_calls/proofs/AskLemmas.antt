-- What a request asks can be asked.
use Rattle.std.proofs.Common.{◌≡◌, ℕ, zero, suc, ◌+◌, ◌*◌, ◌<◌, ◌≤◌, ◌==◌, ◌||◌, nat_lt, nat_le, not, Bool, true, false, cond, List, [], ◌∷◌, length, drop, codes, Option, Some, None, Result, Ok, Err, IfOk, refl, sym, ap, subst, arith, length-take, inl}
use Rattle.std.specs.Prelude.{ℤ, pos, negsuc}
use Rattle.std.specs.List.{AllByRecursion, list_all}
use Rattle.std.specs.Str.{bytes_eq}
use Rattle.std.proofs.lemmas.Bool.{leb-true, and_parts, or_parts}
use Rattle.std.proofs.lemmas.Bool.Decides.{nat_tests}
use Rattle.nsq_base.specs.declared.options.Options.{Options}
use Rattle.nsq_base.specs.Options.{IsInRange}
use Rattle.nsq_base.specs.Time.{millisecond}
use Rattle.broker_history.specs.declared.ask.Ask.{Ask}
use Rattle.broker_history.specs.declared.ask.Ask.TheVariants as ask
use Rattle.broker_history.specs.Calls.{CanAsk, IsAllowedBody, longest_message}
use Rattle.http_wire.specs.declared.request.Request.{Request}
use Rattle.http_calls.specs.declared.refusal.Refusal.{Refusal}
use Rattle.http_calls.specs.declared.call.HttpCall.{HttpCall}
use Rattle.http_calls.specs.declared.route.Route.{Route}
use Rattle.http_calls.specs.declared.route.Route.TheVariants as route
use Rattle.http_calls.specs.declared.route.Verb.{Verb}
use Rattle.http_calls.specs.declared.route.Verb.TheVariants as verb
use Rattle.http_calls.specs.Arguments.{unless, argument_of, topic_in, names_in, optional_names_in}
use Rattle.http_calls.specs.Delay.{delay_by, delay_in, number_in}
use Rattle.http_calls.specs.Messages.{message_in, lines_of, lines_in, size_at, message_size_in, messages_in, batch_in, is_binary, messages_of}
use Rattle.http_calls.specs.Calls.{ask_of, asks, format_in, stats_in, publish_in, publish_many_in, on_topic_in, on_channel_in, called, is_served, judged, call_for, CanBeAsked, HasStatus}
use Rattle.http_calls.specs.Routes.{route_at, method_of}

-- what the judgements give, where they refuse nothing
given : {X Y : Type 0} (P : X → Type 0) (Q : Y → Type 0) (found : Result X Refusal) (next : X → Result Y Refusal) → IfOk found P → ((x : X) → P x → IfOk (next x) Q) → IfOk (unless found next) Q
given P Q (Ok x) next p q = q x p
given P Q (Err refusal) next p q = tt

anything : {X : Type 0} (found : Result X Refusal) → IfOk found (λ x. Unit {0})
anything (Ok x) = tt
anything (Err refusal) = tt

tested : {X : Type 0} (P : X → Type 0) (t : Bool) (x : X) (refusal : Refusal) → (t ≡ true → P x) → IfOk (cond t (Ok x) (Err refusal)) P
tested P true x refusal p = p refl
tested P false x refusal p = tt

refused_or : {X : Type 0} (P : X → Type 0) (t : Bool) (refusal : Refusal) (found : Result X Refusal) → (t ≡ false → IfOk found P) → IfOk (cond t (Err refusal) found) P
refused_or P true refusal found p = tt
refused_or P false refusal found p = p refl

-- a message that is short enough
abbrev IsShort : ℕ → List ℕ → Type 0
IsShort most message = length message ≤ most

-- messages that can be published
abbrev AreGood : ℕ → List (List ℕ) → Type 0
AreGood most messages = (0 < length messages) × AllByRecursion (IsShort most) messages

message_good : (most : ℕ) (body : List ℕ) → IfOk (message_in most body) (IsShort most)
message_good most body = refused_or (IsShort most) (length body == 0) _ _ (λ some. tested (IsShort most) (nat_le (length body) most) body _ (leb-true (length body) most))

each_short : (most : ℕ) (lines : List (List ℕ)) → list_all (λ (line : List ℕ). nat_le (length line) most) lines ≡ true → AllByRecursion (IsShort most) lines
each_short most [] e = tt
each_short most (line ∷ lines) e = let both = and_parts (nat_le (length line) most) (list_all (λ (l : List ℕ). nat_le (length l) most) lines) e in (leb-true (length line) most both.0, each_short most lines both.1)

not_zero : (n : ℕ) → (n == 0) ≡ false → 0 < n
not_zero n e = grind (arith, nat_tests)

lines_good : (most : ℕ) (body : List ℕ) → IfOk (lines_in most body) (AreGood most)
lines_good most body =
    refused_or (AreGood most) (length (lines_of body) == 0) _ _ (λ some. tested (AreGood most) _ (lines_of body) _ (λ short. (not_zero (length (lines_of body)) some, each_short most (lines_of body) short)))

-- the size of a message is within its bound, and so many bytes are there
abbrev IsThere : ℕ → List ℕ → ℕ → Type 0
IsThere most bytes size = (size ≤ most) × (4 + size ≤ length bytes)

below : (a b : ℕ) → nat_lt a b ≡ false → b ≤ a
below a b e = grind (arith, nat_tests)

size_good : (most : ℕ) (bytes : List ℕ) → IfOk (message_size_in most bytes) (IsThere most bytes)
size_good most bytes =
    let P = IsThere most bytes in
    let size = size_at bytes in
    refused_or P (nat_lt (length bytes) 4) _ _ (λ a.
    refused_or P (size == 0 || nat_lt most size) _ _ (λ b.
    refused_or P (nat_lt (length bytes) (4 + size)) _ _ (λ d.
    (below most size (or_parts (size == 0) (nat_lt most size) b).1, below (length bytes) (4 + size) d))))

-- so many short messages
abbrev AreSoMany : ℕ → ℕ → List (List ℕ) → Type 0
AreSoMany most count messages = (length messages ≡ count) × AllByRecursion (IsShort most) messages

messages_good : (most count : ℕ) (bytes : List ℕ) → IfOk (messages_in most count bytes) (AreSoMany most count)
messages_good most zero [] = (refl, tt)
messages_good most zero (b ∷ bytes) = tt
messages_good most (suc count) bytes =
    given (IsThere most bytes) (AreSoMany most (suc count)) (message_size_in most bytes) _ (size_good most bytes) (λ size there.
    given (AreSoMany most count) (AreSoMany most (suc count)) (messages_in most count (drop (4 + size) bytes)) _ (messages_good most count (drop (4 + size) bytes)) (λ ms h.
    (omega (arith, h.0), (simp length-take (omega (arith, there.0)), h.1))))

weaker : {X : Type 0} (P Q : X → Type 0) (found : Result X Refusal) → IfOk found P → ((x : X) → P x → Q x) → IfOk found Q
weaker P Q (Ok x) p f = f x p
weaker P Q (Err refusal) p f = tt

batch_good : (most : ℕ) (body : List ℕ) → IfOk (batch_in most body) (AreGood most)
batch_good most body =
    let P = AreGood most in
    let count = size_at body in
    refused_or P (nat_lt (length body) 4) _ _ (λ a.
    refused_or P (count == 0) _ _ (λ some.
    weaker (AreSoMany most count) P (messages_in most count (drop 4 body)) (messages_good most count (drop 4 body)) (λ ms h. (omega (arith, h.0, not_zero count some), h.1))))

either : {X : Type 0} (P : X → Type 0) (t : Bool) (x y : X) → P x → P y → P (cond t x y)
either P true x y p q = p
either P false x y p q = q

many_good : (o : Options) (r : Request) → IfOk (messages_of o r) (AreGood o.max_msg_size)
many_good o r =
    either (λ (found : Result (List (List ℕ)) Refusal). IfOk found (AreGood o.max_msg_size)) (is_binary (argument_of r (codes "binary"))) (batch_in o.max_msg_size r.body) (lines_in o.max_msg_size r.body)
    (batch_good o.max_msg_size r.body) (lines_good o.max_msg_size r.body)

-- a delay that is short enough
abbrev IsDelay : Options → ℕ → Type 0
IsDelay o delay = delay ≤ o.max_req_timeout

number_good : (o : Options) (number : Option ℤ) → IfOk (delay_by o number) (IsDelay o)
number_good o None = tt
number_good o (Some (pos ms)) = tested (IsDelay o) (nat_le (ms * millisecond) o.max_req_timeout) (ms * millisecond) _ (leb-true (ms * millisecond) o.max_req_timeout)
number_good o (Some (negsuc k)) = tt

delay_good : (o : Options) (argument : Option (List ℕ)) → IfOk (delay_in o argument) (IsDelay o)
delay_good o None = omega arith
delay_good o (Some word) = number_good o (number_in word)

all_allowed : (most : ℕ) (messages : List (List ℕ)) → most ≤ longest_message → AllByRecursion (IsShort most) messages → AllByRecursion IsAllowedBody messages
all_allowed most [] w h = tt
all_allowed most (m ∷ ms) w h = (omega (arith, h.0), all_allowed most ms w h.1)

can_publish : (o : Options) → IsInRange o → (topic : List ℕ) (delay : ℕ) (messages : List (List ℕ)) → IsDelay o delay → AreGood o.max_msg_size messages → CanAsk (ask.Publish topic delay messages)
can_publish o ir topic delay messages short good = (
  λ none. let some : 0 < length messages = good.0 in omega (arith, some, ap length none),
  all_allowed o.max_msg_size messages ir.sizes.max_msg_size.at_most good.1,
  omega (arith, short, ir.times.max_req_timeout.at_most),
)

publish_can : (o : Options) → IsInRange o → (r : Request) → IfOk (publish_in o r) CanAsk
publish_can o ir r =
    given (λ topic. Unit {0}) CanAsk (topic_in r) _ (anything (topic_in r)) (λ topic any.
    given (IsShort o.max_msg_size) CanAsk (message_in o.max_msg_size r.body) _ (message_good o.max_msg_size r.body) (λ message short.
    given (IsDelay o) CanAsk (delay_in o (argument_of r (codes "defer"))) _ (delay_good o (argument_of r (codes "defer"))) (λ delay d.
    can_publish o ir topic delay (message ∷ []) d (omega arith, (short, tt)))))

publish_many_can : (o : Options) → IsInRange o → (r : Request) → IfOk (publish_many_in o r) CanAsk
publish_many_can o ir r =
    given (λ topic. Unit {0}) CanAsk (topic_in r) _ (anything (topic_in r)) (λ topic any.
    given (AreGood o.max_msg_size) CanAsk (messages_of o r) _ (many_good o r) (λ messages good.
    can_publish o ir topic 0 messages (omega arith) good))

stats_can : (r : Request) → IfOk (stats_in r) CanAsk
stats_can r =
    given (λ format. Unit {0}) CanAsk (format_in (argument_of r (codes "format"))) _ (anything (format_in (argument_of r (codes "format")))) (λ format any.
    given (λ names. Unit {0}) CanAsk (optional_names_in r) _ (anything (optional_names_in r)) (λ names any. tt))

verb_can : (v : Verb) (topic : List ℕ) (channel : Option (List ℕ)) → CanAsk (ask_of v topic channel)
verb_can verb.Create topic channel = tt
verb_can verb.Delete topic channel = tt
verb_can verb.Empty topic channel = tt
verb_can verb.Pause topic channel = tt
verb_can verb.Unpause topic channel = tt

topic_can : (v : Verb) (r : Request) → IfOk (on_topic_in v r) CanAsk
topic_can v r = given (λ topic. Unit {0}) CanAsk (topic_in r) _ (anything (topic_in r)) (λ topic any. verb_can v topic None)

channel_can : (v : Verb) (r : Request) → IfOk (on_channel_in v r) CanAsk
channel_can v r = given (λ names. Unit {0}) CanAsk (names_in r) _ (anything (names_in r)) (λ names any. verb_can v names.0 (Some names.1))

asks_can : (found : Result Ask Refusal) → IfOk found CanAsk → CanBeAsked (asks found)
asks_can (Ok a) h = h
asks_can (Err refusal) h = tt

called_can : (o : Options) → IsInRange o → (began : ℕ) (r : Request) (named : Route) → CanBeAsked (called o began r named)
called_can o ir began r route.Ping = tt
called_can o ir began r route.Info = tt
called_can o ir began r route.Stats = asks_can (stats_in r) (stats_can r)
called_can o ir began r route.Publish = asks_can (publish_in o r) (publish_can o ir r)
called_can o ir began r route.PublishMany = asks_can (publish_many_in o r) (publish_many_can o ir r)
called_can o ir began r (route.OnTopic v) = asks_can (on_topic_in v r) (topic_can v r)
called_can o ir began r (route.OnChannel v) = asks_can (on_channel_in v r) (channel_can v r)
called_can o ir began r route.Stop = tt

judged_can : (o : Options) → IsInRange o → (began : ℕ) (r : Request) (named : Option Route) → CanBeAsked (judged o began r named)
judged_can o ir began r None = tt
judged_can o ir began r (Some named) =
    either CanBeAsked (not (is_served o named)) _ _ tt (either CanBeAsked (not (bytes_eq r.method (method_of named))) _ _ tt (called_can o ir began r named))

-- what a request asks can be asked
pub all_can : {E : Type 0} (o : Options) → IsInRange o → (began : ℕ) (r : Request) (found : Result HttpCall E) → IfOk found (λ call. call ≡ call_for o began r) → IfOk found CanBeAsked
all_can o ir began r (Ok call) is = subst CanBeAsked (sym is) (judged_can o ir began r (route_at r.path))
all_can o ir began r (Err e) is = tt

asks_status : (found : Result Ask Refusal) → HasStatus (asks found)
asks_status (Ok a) = tt
asks_status (Err refusal) = tt

called_status : (o : Options) (began : ℕ) (r : Request) (named : Route) → HasStatus (called o began r named)
called_status o began r route.Ping = inl refl
called_status o began r route.Info = inl refl
called_status o began r route.Stats = asks_status (stats_in r)
called_status o began r route.Publish = asks_status (publish_in o r)
called_status o began r route.PublishMany = asks_status (publish_many_in o r)
called_status o began r (route.OnTopic v) = asks_status (on_topic_in v r)
called_status o began r (route.OnChannel v) = asks_status (on_channel_in v r)
called_status o began r route.Stop = tt

judged_status : (o : Options) (began : ℕ) (r : Request) (named : Option Route) → HasStatus (judged o began r named)
judged_status o began r None = tt
judged_status o began r (Some named) =
    either HasStatus (not (is_served o named)) _ _ tt (either HasStatus (not (bytes_eq r.method (method_of named))) _ _ tt (called_status o began r named))

-- what a request is answered at once has a status
pub all_status : {E : Type 0} (o : Options) (began : ℕ) (r : Request) (found : Result HttpCall E) → IfOk found (λ call. call ≡ call_for o began r) → IfOk found HasStatus
all_status o began r (Ok call) is = subst HasStatus (sym is) (judged_status o began r (route_at r.path))
all_status o began r (Err e) is = tt
