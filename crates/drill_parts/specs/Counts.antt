-- What is counted of a history and of a state: messages that were published, finished, and left.
use Rattle.std.specs.Prelude.{ℕ, ◌+◌, if◌then◌else◌, List, length, sum_by}
use Rattle.nsq_outside.specs.declared.journal.End.{End}
use Rattle.nsq_outside.specs.declared.journal.End.TheVariants.{Done}
use Rattle.v2_frame.specs.declared.command.Command.{Command}
use Rattle.v2_frame.specs.declared.command.Command.TheVariants.{Pub, Mpub, Dpub, Fin}
use Rattle.broker_history.specs.declared.ask.Ask.{Ask}
use Rattle.broker_history.specs.declared.ask.Ask.TheVariants.{Publish}
use Rattle.broker_history.specs.declared.entry.Act.{Act}
use Rattle.broker_history.specs.declared.entry.Act.TheVariants.{Did, Asked}
use Rattle.broker_history.specs.declared.entry.Entry.{Entry}
use Rattle.broker_history.specs.Entries.{History}
use Rattle.broker_history.specs.Left.{left_in_channel, left_in_topic}
use Rattle.broker_history.specs.State.{Channel, State, Topic}
use Rattle.broker_history.specs.Step.{is_done, is_kept_off}

-- how many messages a command publishes that is carried out, and how many it finishes
abbrev pub messages_in : Command → ℕ
messages_in (Pub topic body) = 1
messages_in (Mpub topic bodies) = length bodies
messages_in (Dpub topic delay body) = 1
messages_in _ = 0

abbrev pub finished_in : Command → ℕ
finished_in (Fin id) = 1
finished_in _ = 0

-- how many messages are published by what is asked and done
abbrev pub messages_asked : Ask → ℕ
messages_asked (Publish topic delay bodies) = length bodies
messages_asked _ = 0

-- how many messages an act with this end published: a command that is refused or kept off by a disk fault publishes none
abbrev pub published_as : Act → End → ℕ
published_as (Did command r) end = if is_kept_off r end then 0 else messages_in command
published_as (Asked a answer) Done = if is_done answer then messages_asked a else 0
published_as act end = 0

-- how many it finished
abbrev pub finished_as : Act → End → ℕ
finished_as (Did command r) end = if is_kept_off r end then 0 else finished_in command
finished_as act end = 0

abbrev pub published_by : Entry × End → ℕ
published_by e = published_as e.0.act e.1

abbrev pub finished_by : Entry × End → ℕ
finished_by e = finished_as e.0.act e.1

-- how many messages a history published, and how many it finished
abbrev pub published : History → ℕ
published h = sum_by published_by h

abbrev pub finished : History → ℕ
finished h = sum_by finished_by h

-- how many messages are left in a topic and its channels: waiting, or taken and not yet copied; queued, in flight, or deferred
abbrev pub left_with : Topic → ℕ
left_with t = length (left_in_topic t) + sum_by (λ (k : Channel). length (left_in_channel k)) t.channels

-- how many are left in all topics
abbrev pub left_in : List Topic → ℕ
left_in topics = sum_by left_with topics

-- how many are left in a state
abbrev pub left_of : State → ℕ
left_of s = left_in s.topics
