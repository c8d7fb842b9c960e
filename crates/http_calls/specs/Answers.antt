-- The answers: of a call that is served by itself, of a stop, and of what is said to what was asked.
use Rattle.std.specs.Prelude.{ℕ, if◌then◌else◌, Bool, true, false, List, [], codes}
use Rattle.broker_history.specs.declared.ask.Ask.{Ask}
use Rattle.broker_history.specs.declared.ask.Ask.TheVariants.{Publish}
use Rattle.broker_history.specs.declared.ask.Said.{Said}
use Rattle.broker_history.specs.declared.ask.Said.TheVariants as said
use Rattle.http_calls.specs.Stats.{stats_bytes}
use Rattle.http_calls.specs.declared.answer.HttpAnswer.{HttpAnswer}
use Rattle.http_calls.specs.declared.refusal.Refusal.TheVariants.{TopicNotFound, ChannelNotFound, IdsSpent, DiskFault}
use Rattle.http_calls.specs.Refusals.{refused_answer}

-- an answer 200 in plain text
abbrev pub text_answer : List ℕ → HttpAnswer
text_answer text = record { status = 200; json = false; body = text }

-- an answer 200 in JSON
abbrev pub json_answer : List ℕ → HttpAnswer
json_answer text = record { status = 200; json = true; body = text }

-- a stop is answered so, also one behind another
abbrev pub stop_answer : HttpAnswer
stop_answer = text_answer (codes "OK")

-- whether it is a publish that is asked
abbrev pub publishes : Ask → Bool
publishes (Publish topic delay bodies) = true
publishes _ = false

-- a publish that is done is answered `OK`, and all else that is done by an empty text
abbrev pub done_answer : (publish : Bool) → HttpAnswer
done_answer publish = if publish then text_answer (codes "OK") else text_answer []

-- how a daemon that began at this moment, in nanoseconds, answers by what is said to what was asked
abbrev pub answer_for : (publish : Bool) → (began : ℕ) → Said → HttpAnswer
answer_for publish began said.Done = done_answer publish
answer_for publish began said.NoTopic = refused_answer TopicNotFound
answer_for publish began said.NoChannel = refused_answer ChannelNotFound
answer_for publish began said.Ids = refused_answer IdsSpent
answer_for publish began said.Disk = refused_answer DiskFault
answer_for publish began (said.Stats stats) = json_answer (stats_bytes began stats)
