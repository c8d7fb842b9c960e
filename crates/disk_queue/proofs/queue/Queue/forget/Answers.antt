use Rattle.std.proofs.Common.{subst, sym, []}
use Rattle.disk_queue.specs.Seen.{forgotten}
use Rattle.disk_queue.specs.Holding.{Holds, SaveStands}
use Rattle.disk_queue.proofs.Kept.{holds_forgotten, stands_forgotten}
use Rattle.disk_queue.proofs.queue.Queue.forget.Goals as goal

pub returns-clause-list : goal.returns-clause-list
returns-clause-list c = λ files bodies waiting h. subst (λ q. Holds (forgotten q) files bodies []) (sym c.self.view_is) (holds_forgotten c.args.self.now files bodies waiting h)

pub returns-clause-stands : goal.returns-clause-stands
returns-clause-stands c = λ files h. subst (λ q. SaveStands (forgotten q) files) (sym c.self.view_is) (stands_forgotten c.args.self.now files h)
