-- The state that a run starts from. What an opening finds in a folder (`IsFound`) stands in `path_image`.
use Rattle.std.specs.Prelude.{ℕ, ◌+◌, false, [], map, None}
use Rattle.nsq_base.specs.declared.options.Options.{Options}
use Rattle.path_image.specs.Found.{FoundChannel, FoundTopic, Found}
use Rattle.broker_history.specs.State.{Queued, Channel, Topic, State}
use Rattle.broker_history.specs.Channels.{copy_at}

-- a channel at the start of a run: each message that was found is a queued copy
abbrev pub started_channel : FoundChannel → Channel
started_channel c = record { name = c.name; paused = c.paused; message_count = 0; requeue_count = 0; timeout_count = 0; copies = map (λ m. copy_at m Queued) c.messages }

-- a topic at the start of a run, with the messages that were found: none is loose, since none has a delay
abbrev pub started : FoundTopic → Topic
started t = record { name = t.name; paused = t.paused; message_count = 0; waiting = map (λ m. record { message = m; loose = false }) t.messages; taken = None; channels = map started_channel t.channels }

-- the state at the start of a run at a moment: the epoch is one above the one found, no client is there, and all counts are 0
abbrev pub start : Found → Options → (moment : ℕ) → State
start found options moment = record {
  options = options;
  epoch = found.epoch + 1;
  ids_used = 0;
  moment = moment;
  stopped = false;
  began = [];
  clients = [];
  topics = map started found.topics;
}
