use Rattle.disk_queue.proofs.Others.{holding_keeps, standing_keeps, others_stay}
use Rattle.queue_laws.proofs.queues.Goals as goal

pub returns : goal.returns
returns c = record { holding = holding_keeps; standing = standing_keeps; others = others_stay }
