use Rattle.backlog.proofs.backlog.Backlog.fresh.Goals as goal
use Rattle.backlog.proofs.backlog.Backlog.fresh.Goals.{then-durable+in_ok-fresh, else-durable}

pub returns-clause-stands : goal.returns-clause-stands
returns-clause-stands c = λ files idle. elim c.if-durable.branch [
  | then-durable+in_ok-fresh w ↦ rw w.queue-is (w.in_ok-fresh.ensures.stands files idle)
  | else-durable w ↦ rw w.queue-is tt
]
