use Rattle.queue_sweep.proofs.Staying.{no_files}
use Rattle.queue_laws.proofs.Messages.{no_messages}
use Rattle.queue_laws.proofs.unlisted_queues_are_empty.Goals as goal

pub returns : goal.returns
returns c = record { files = no_files; messages = no_messages }
