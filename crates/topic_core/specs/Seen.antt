-- What is seen of a topic's queue, and what its calls change of it.
use Rattle.std.specs.Prelude.{ℕ, ◌≡◌, ◌≢◌, ◌+◌, ◌-◌, ◌^◌, List, [], length, take, min, Bool, false, not, if◌then◌else◌, MatchBool, Option, Some, None, IfSome}
use Rattle.nsq_base.specs.Name.{is_ephemeral}
use Rattle.nsq_base.specs.declared.options.Options.{Options}
use Rattle.backlog.specs.QueueOptions.{QueueOptions}
use Rattle.backlog.specs.Open.{Open}
use Rattle.backlog.specs.Open.TheVariants.{Memory}
use Rattle.v2_frame.specs.declared.message.Message.{Message}
use Rattle.backlog.specs.Seen.{Seen as Backlog, fresh_backlog, longest_body, room, IsOpenedAt}
use Rattle.backlog.specs.declared.backlog.Lent.TheVariants.{Nothing}
use Rattle.broker_history.specs.State.{Taken}

-- a topic's queue: its name, whether it is paused, how many messages were put into it and not dropped, the backlog of those that wait, and
-- its head: the message that was drawn or taken, with the names of the channels that are owed a copy of it
pub record Seen : Type 0 where
  pub name : List ℕ
  pub paused : Bool
  pub message_count : ℕ
  pub backlog : Backlog
  pub head : Option Taken

-- a message with what is owed of it
abbrev pub with_owed : Option Message → List (List ℕ) → Option Taken
with_owed None owed = None
with_owed (Some message) owed = Some (record { message = message; owed = owed })

-- the channels that are owed the head: none where there is no head
abbrev pub owed_of : Option Taken → List (List ℕ)
owed_of None = []
owed_of (Some head) = head.owed

-- the head with this message in place of its own
abbrev pub with_message : Message → Option Taken → Option Taken
with_message message None = None
with_message message (Some head) = Some (record head { message = message })

-- the head is drawn: it is still the first of those that wait, until it is settled or undone
abbrev pub IsDrawn : Seen → Type 0
IsDrawn q = q.backlog.lent ≢ Nothing

-- no message is drawn that isn't settled
abbrev pub IsSettled : Seen → Type 0
IsSettled q = q.backlog.lent ≡ Nothing

-- the options of a topic's queue on disk
abbrev pub queue_options : Options → QueueOptions
queue_options options = record { max_bytes = options.max_bytes_per_file; sync_every = options.sync_every; least = 26; limit = 26 + longest_body }

-- a topic's queue as it is made: it keeps as many messages in memory as the options say, and has a queue on disk unless it is ephemeral
abbrev pub fresh_topic : List ℕ → Options → Seen
fresh_topic name options = record {
  name = name;
  paused = false;
  message_count = 0;
  backlog = fresh_backlog name options.mem_queue_size (not (is_ephemeral name)) (queue_options options);
  head = None;
}

-- the backlog as an opening makes it: all is on disk; that of an ephemeral topic is made anew
abbrev pub BacklogOpened : List ℕ → Options → Backlog → Type 0
BacklogOpened name options b =
    MatchBool (is_ephemeral name) (b ≡ (fresh_topic name options).backlog) (IfSome b.queue (IsOpenedAt name options.mem_queue_size (queue_options options) b))

-- a topic's queue as an opening makes it
pub record IsOpenedTopic (name : List ℕ) (options : Options) (q : Seen) : Type 0 where
  pub is : q ≡ record (fresh_topic name options) { backlog = q.backlog }
  pub backlog : BacklogOpened name options q.backlog

-- of so many messages, how many are kept: an ephemeral topic drops what finds no room in memory
abbrev pub kept_of : Seen → List Message → ℕ
kept_of q messages = if is_ephemeral q.name then length (take (room q.backlog) messages) else length messages

-- a count after so many more: counts stay at 2^64 - 1
abbrev pub counted_by : ℕ → ℕ → ℕ
counted_by count more = min (count + more) (2 ^ 64 - 1)

-- an opening found no memory
abbrev pub IsWant : Open → Type 0
IsWant why = why ≡ Memory
