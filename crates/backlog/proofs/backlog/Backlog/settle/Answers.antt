use Rattle.backlog.proofs.Drawing.{without_first, unchanged, none_settled, ring_settled}
use Rattle.backlog.proofs.backlog.Backlog.settle.Goals as goal
use Rattle.backlog.proofs.backlog.Backlog.settle.Goals.{in-OfDisk+in-Some, in-OfDisk+in_default-queue, in_default}

pub returns-clause-list : goal.returns-clause-list
returns-clause-list g c = λ told disk. elim c.match-self.branch [
  | in-OfDisk+in-Some w ↦ rw (w.folder-is, w.self-inside-is, ← c.self.view_is, w.in-Some.is, w.in-OfDisk.is) (without_first w.in-Some.queue w.advance-sync.new.self _ _ disk (w.advance-sync.ensures.list told))
  | in-OfDisk+in_default-queue w ↦ rw (w.folder-is, w.self-inside-is, ← c.self.view_is) (none_settled c.self.inside.lent c.self.inside.queue _ disk w.in_default-queue.is)
  | in_default w ↦ rw (w.folder-is, w.self-inside-is, ← c.self.view_is) (ring_settled c.self.inside.lent c.self.inside.queue _ disk w.in_default.not-OfDisk)
]

pub returns-clause-others : goal.returns-clause-others
returns-clause-others g c = λ told. elim c.match-self.branch [
  | in-OfDisk+in-Some w ↦ rw (w.folder-is, ← c.self.view_is, w.in-Some.is) (w.advance-sync.ensures.others told)
  | in-OfDisk+in_default-queue w ↦ rw w.folder-is (unchanged _ _)
  | in_default w ↦ rw w.folder-is (unchanged _ _)
]
