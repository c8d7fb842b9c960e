-- The name of a queue, read.
use Rattle.std.specs.Prelude.{◌≡◌, List, ℕ, Option, Some, None, IfSome}
use Rattle.nsq_base.specs.Name.{IsName}
use Rattle.queue_image.specs.FileNames.{channel_queue, IsQueueName, IsQueueFile}
use Rattle.queue_sweep.specs.Forms.{HasForm}
use Rattle.queue_sweep.specs.declared.queue_name.QueueName.{QueueName}

-- the queue of a topic, or of a topic's channel
abbrev pub queue_named : List ℕ → Option (List ℕ) → List ℕ
queue_named topic None = topic
queue_named topic (Some channel) = channel_queue topic channel

-- the name as it is spelled
abbrev pub spelled : QueueName → List ℕ
spelled queue = queue_named queue.topic queue.channel

-- the topic has a name, and so has the channel
pub record HasNames (queue : QueueName) : Type 0 where
  pub of_topic : IsName queue.topic
  pub of_channel : IfSome queue.channel IsName

-- these bytes are the name of a queue, or of none
abbrev pub ReadsName : List ℕ → Option QueueName → Type 0
ReadsName name None = ¬ IsQueueName name
ReadsName name (Some queue) = (name ≡ spelled queue) × HasNames queue

-- the file has the form of that queue's files, or of no queue's
abbrev pub FindsQueue : List ℕ → Option QueueName → Type 0
FindsQueue file None = ¬ IsQueueFile file
FindsQueue file (Some queue) = HasForm (spelled queue) file × HasNames queue
