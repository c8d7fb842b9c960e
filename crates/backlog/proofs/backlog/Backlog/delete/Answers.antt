use Rattle.backlog.proofs.Drawing.{same_disk}
use Rattle.backlog.proofs.backlog.Backlog.delete.Goals as goal

pub returns-in-Done-clause-others : goal.returns-in-Done-clause-others
returns-in-Done-clause-others g c = λ told. rw (← c.self.view_is, c.in-Some.is) (c.delete.ensures.others told)

pub returns-in-Done-clause-found : goal.returns-in-Done-clause-found
returns-in-Done-clause-found g c = λ told. rw (← c.self.view_is, c.in-Some.is) (c.in-Done.ensures.found told)

pub returns-in-Done-clause-gone : goal.returns-in-Done-clause-gone
returns-in-Done-clause-gone g c = λ told. rw (← c.self.view_is, c.in-Some.is) (c.in-Done.ensures.gone told)

pub returns-in-Fault-clause-others : goal.returns-in-Fault-clause-others
returns-in-Fault-clause-others g c = λ told. rw (← c.self.view_is, c.in-Some.is) (c.delete.ensures.others told)

pub returns-in-Fault-clause-list : goal.returns-in-Fault-clause-list
returns-in-Fault-clause-list g c = λ told disk. rw (← c.self.view_is, c.in-Some.is) (same_disk c.in-Some.queue c.in-Fault.queue _ _ disk (c.in-Fault.ensures.list told))

pub returns-in-Fault-clause-stands : goal.returns-in-Fault-clause-stands
returns-in-Fault-clause-stands g c = λ told. rw (← c.self.view_is, c.in-Some.is) (c.in-Fault.ensures.stands told)
