use Rattle.disk_queue.proofs.Kept.{holds_fresh}
use Rattle.disk_queue.proofs.queue.Queue.fresh.Goals as goal

pub returns-clause-list : goal.returns-clause-list
returns-clause-list c = λ files. holds_fresh _ _ files
