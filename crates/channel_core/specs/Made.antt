-- A channel as it is made or opened.
use Rattle.std.specs.Prelude.{◌≡◌, ◌≤◌, ℕ, ◌^◌, false, not, List, [], MatchBool, IsSome, IfSome}
use Rattle.nsq_base.specs.declared.options.Options.{Options}
use Rattle.backlog.specs.QueueOptions.{QueueOptions}
use Rattle.backlog.specs.Open.{Open}
use Rattle.backlog.specs.Open.TheVariants.{Memory}
use Rattle.backlog.specs.Seen.{Seen as Backlog, IsOpenedAt, fresh_backlog}
use Rattle.broker_history.specs.State.{is_ephemeral_channel}
use Rattle.channel_core.specs.declared.about.About.{About}
use Rattle.channel_core.specs.declared.drawn.Drawn.TheVariants.{Nothing}
use Rattle.channel_core.specs.Seen.{Seen, queue_name}

-- the options of its queue: a record has the 26 bytes before a message's body, and then at most 16,777,216
abbrev pub queue_options : Options → QueueOptions
queue_options options = record { max_bytes = options.max_bytes_per_file; sync_every = options.sync_every; least = 26; limit = 16777242 }

-- the times of these options are such that sums of them with moments don't overflow
pub record FitsRun (options : Options) : Type 0 where
  pub msg_timeout : options.msg_timeout ≤ 2 ^ 62
  pub max_msg_timeout : options.max_msg_timeout ≤ 2 ^ 62

-- what a channel is told at its making
abbrev pub about_of : (topic name : List ℕ) → Options → About
about_of topic name options =
    record { topic = topic; name = name; mem_queue_size = options.mem_queue_size; msg_timeout = options.msg_timeout; max_msg_timeout = options.max_msg_timeout }

-- a channel with this backlog, which is not paused, with nothing counted, in flight or deferred, and with no client
abbrev pub made_channel : (topic name : List ℕ) → Options → Backlog → Seen
made_channel topic name options backlog = record {
  about = about_of topic name options;
  paused = false;
  message_count = 0;
  requeue_count = 0;
  timeout_count = 0;
  backlog = backlog;
  flights = [];
  clients = [];
  deferred = [];
  spare = 0;
  deferred_spare = 0;
  drawn = Nothing;
}

-- a channel as it is made with this backlog, with some room
pub record IsMadeWith (topic name : List ℕ) (options : Options) (backlog : Backlog) (v : Seen) : Type 0 where
  pub is : v ≡ record (made_channel topic name options backlog) { spare = v.spare; deferred_spare = v.deferred_spare }

-- the backlog of a channel as it is made: its ring holds mem-queue-size messages, and it has a queue unless it is ephemeral
abbrev pub fresh_of : (topic name : List ℕ) → Options → Backlog
fresh_of topic name options =
    fresh_backlog (queue_name topic name) options.mem_queue_size (not (is_ephemeral_channel topic name)) (queue_options options)

-- a channel as it is made
abbrev pub IsFresh : (topic name : List ℕ) → Options → Seen → Type 0
IsFresh topic name options v = IsMadeWith topic name options (fresh_of topic name options) v

-- a backlog as an opening makes it: all that the queue has is on disk
pub record IsOpenedBacklog (topic name : List ℕ) (options : Options) (b : Backlog) : Type 0 where
  pub durable : IsSome b.queue
  pub queue : IfSome b.queue (IsOpenedAt (queue_name topic name) options.mem_queue_size (queue_options options) b)

-- a channel as an opening makes it; an ephemeral one is made anew
pub record IsOpenedAs (topic name : List ℕ) (options : Options) (v : Seen) : Type 0 where
  pub made : IsMadeWith topic name options v.backlog v
  pub backlog : MatchBool (is_ephemeral_channel topic name) (v.backlog ≡ fresh_of topic name options) (IsOpenedBacklog topic name options v.backlog)

-- an opening found no memory
abbrev pub IsWant : Open → Type 0
IsWant why = why ≡ Memory
