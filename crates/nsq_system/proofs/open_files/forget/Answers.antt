use Rattle.nsq_system.proofs.ClosedFiles.{closed-removed, closed-still}
use Rattle.nsq_system.proofs.open_files.forget.Goals as goal

pub returns-clause-closed : goal.returns-clause-closed
returns-clause-closed g c = rw c.pop.ensures.entries (closed-removed c.args.opened.now.entries c.args.name.now c.len.ensures.valid.0)

pub returns-clause-others : goal.returns-clause-others
returns-clause-others g c = λ other closed. rw c.pop.ensures.entries (closed-still c.args.opened.now.entries c.args.name.now other closed)
