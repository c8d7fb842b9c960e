use Rattle.std.proofs.Common.{◌≡◌, None, ap, subst, arith}
use Rattle.backlog.specs.Seen.{Seen as Backlog, ring_depth, disk_depth}
use Rattle.backlog.specs.declared.backlog.Lent.TheVariants.{Nothing}
use Rattle.topic_core.specs.Seen.{Seen}
use Rattle.topic_core.proofs.Heads.{depths_count, settled_view}
use Rattle.topic_core.proofs.topic_queue.TopicQueue.depths.Goals as goal

pub returns-clause-row : goal.returns-clause-row
returns-clause-row c = λ files t is.
    let inside = c.self.inside in
    let same : inside.backlog ≡ c.args.self.now.backlog = ap (λ (q : Seen). q.backlog) c.self.view_is in
    let settled = subst (λ (q : Seen). q.head ≡ None → q.backlog.lent ≡ Nothing) c.self.view_is (settled_view inside.backlog.lent inside.head inside.owed.items c.self.invariant.drawn) in
    omega (arith, c.depths.ensures.ring, c.depths.ensures.disk, ap ring_depth same, ap (λ (b : Backlog). disk_depth b.queue) same, depths_count c.args.self.now files t settled is)
