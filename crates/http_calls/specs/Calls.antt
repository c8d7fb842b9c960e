-- What a request is by itself: the table of the calls.
use Rattle.std.specs.Prelude.{ℕ, not, if◌then◌else◌, Bool, true, List, [], ◌∷◌, Option, Some, None, Result, Ok, Err, codes}
use Rattle.std.specs.Str.{bytes_eq}
use Rattle.nsq_base.specs.declared.options.Options.{Options}
use Rattle.broker_history.specs.declared.ask.Ask.{Ask}
use Rattle.broker_history.specs.declared.ask.Ask.TheVariants as ask
use Rattle.http_wire.specs.Answer.{IsStatus}
use Rattle.http_wire.specs.declared.request.Request.{Request}
use Rattle.broker_history.specs.Calls.{CanAsk}
use Rattle.http_calls.specs.declared.call.HttpCall.{HttpCall}
use Rattle.http_calls.specs.declared.call.HttpCall.TheVariants as call
use Rattle.http_calls.specs.declared.refusal.Refusal.{Refusal}
use Rattle.http_calls.specs.declared.refusal.Refusal.TheVariants.{NotFound, MethodNotAllowed, InvalidFormat}
use Rattle.http_calls.specs.declared.route.Route.{Route}
use Rattle.http_calls.specs.declared.route.Route.TheVariants as route
use Rattle.http_calls.specs.declared.route.Verb.{Verb}
use Rattle.http_calls.specs.declared.route.Verb.TheVariants as verb
use Rattle.http_calls.specs.Answers.{text_answer, json_answer}
use Rattle.http_calls.specs.Arguments.{unless, argument_of, topic_in, names_in, optional_names_in}
use Rattle.http_calls.specs.Delay.{delay_in}
use Rattle.http_calls.specs.Messages.{message_in, messages_of}
use Rattle.http_calls.specs.Info.{info_text}
use Rattle.http_calls.specs.Routes.{route_at, method_of}

-- the format of the statistics has to be given, and is JSON
abbrev pub format_in : Option (List ℕ) → Result (List ℕ) Refusal
format_in None = Err InvalidFormat
format_in (Some format) = if bytes_eq format (codes "json") then Ok format else Err InvalidFormat

-- /stats: its format, the topic and the channel where they are given
abbrev pub stats_in : Request → Result Ask Refusal
stats_in r =
    unless (format_in (argument_of r (codes "format"))) (λ format.
    unless (optional_names_in r) (λ names.
    Ok (ask.Stats names.0 names.1)))

-- /pub: the topic, the message, the delay
abbrev pub publish_in : Options → Request → Result Ask Refusal
publish_in o r =
    unless (topic_in r) (λ topic.
    unless (message_in o.max_msg_size r.body) (λ message.
    unless (delay_in o (argument_of r (codes "defer"))) (λ delay.
    Ok (ask.Publish topic delay (message ∷ [])))))

-- /mpub: the topic, the messages
abbrev pub publish_many_in : Options → Request → Result Ask Refusal
publish_many_in o r =
    unless (topic_in r) (λ topic.
    unless (messages_of o r) (λ messages.
    Ok (ask.Publish topic 0 messages)))

-- what is asked by a verb of a topic, or of a channel of it
abbrev pub ask_of : Verb → (topic : List ℕ) → (channel : Option (List ℕ)) → Ask
ask_of verb.Create topic channel = ask.Create topic channel
ask_of verb.Delete topic channel = ask.Delete topic channel
ask_of verb.Empty topic channel = ask.Empty topic channel
ask_of verb.Pause topic channel = ask.Pause topic channel
ask_of verb.Unpause topic channel = ask.Unpause topic channel

-- /topic/..: the topic
abbrev pub on_topic_in : Verb → Request → Result Ask Refusal
on_topic_in v r = unless (topic_in r) (λ topic. Ok (ask_of v topic None))

-- /channel/..: both names
abbrev pub on_channel_in : Verb → Request → Result Ask Refusal
on_channel_in v r = unless (names_in r) (λ names. Ok (ask_of v names.0 (Some names.1)))

-- it asks something, unless it is refused
abbrev pub asks : Result Ask Refusal → HttpCall
asks (Ok a) = call.Asks a
asks (Err refusal) = call.Refused refusal

-- a call of its own method
abbrev pub called : Options → (began : ℕ) → Request → Route → HttpCall
called o began r route.Ping = call.Answered (text_answer (codes "OK"))
called o began r route.Info = call.Answered (json_answer (info_text o began))
called o began r route.Stats = asks (stats_in r)
called o began r route.Publish = asks (publish_in o r)
called o began r route.PublishMany = asks (publish_many_in o r)
called o began r (route.OnTopic v) = asks (on_topic_in v r)
called o began r (route.OnChannel v) = asks (on_channel_in v r)
called o began r route.Stop = call.Stops

-- whether a call is served: a stop only where the options say so
abbrev pub is_served : Options → Route → Bool
is_served o route.Stop = o.http_stop
is_served o _ = true

-- a call, judged by its path and then by its method
abbrev pub judged : Options → (began : ℕ) → Request → Option Route → HttpCall
judged o began r None = call.Refused NotFound
judged o began r (Some named) =
    if not (is_served o named) then call.Refused NotFound else (
    if not (bytes_eq r.method (method_of named)) then call.Refused MethodNotAllowed else
    called o began r named)

-- what a request is by itself, under these options, to a daemon that began at this moment, in nanoseconds
abbrev pub call_for : Options → (began : ℕ) → Request → HttpCall
call_for o began r = judged o began r (route_at r.path)

-- what is asked can be asked
abbrev pub CanBeAsked : HttpCall → Type 0
CanBeAsked (call.Asks a) = CanAsk a
CanBeAsked _ = Unit {0}

-- an answer that is given at once has a status that answers have
abbrev pub HasStatus : HttpCall → Type 0
HasStatus (call.Answered answer) = IsStatus answer.status
HasStatus _ = Unit {0}
