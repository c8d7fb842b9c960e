use Rattle.std.proofs.Common.{sym, ◌∙◌}
use Rattle.due_heap.proofs.Calls.{none_due, none_at_all, takes_first}
use Rattle.due_heap.proofs.due_heap.DueHeap.pop_due.Goals as goal

pub returns-in_err-due-clause-none : goal.returns-in_err-due-clause-none
returns-in_err-due-clause-none g c = rw c.from_residual.ensures (none_at_all c.args.now c.args.self.now.entries (sym c.in_err-due.was ∙ c.first.ensures.is))

pub returns-then-now-due-clause-none : goal.returns-then-now-due-clause-none
returns-then-now-due-clause-none g c = none_due c.args.now c.in_ok-due.due c.in_ok-due.key c.args.self.now.entries c.in_ok-due.ensures.is c.if-now-due.true

pub returns-clause-first : goal.returns-clause-first
returns-clause-first g c = takes_first c.args.now c.in_ok-due.due c.in_ok-due.key c.args.self.now.entries c.remove.new.self.entries c.remove.result c.in_ok-due.ensures.is c.in_ok-due.ensures.live c.if-now-due.false c.remove.ensures.item c.remove.ensures.rest c.remove.ensures.one c.remove.ensures.others c.remove.ensures.dead
