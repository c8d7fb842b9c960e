use Rattle.std.proofs.Common.{ℕ, List, ap, subst, sym}
use Rattle.queue_image.specs.FileNames.{meta_file}
use Rattle.queue_image.specs.Metas.{IsIdle}
use Rattle.backlog.specs.Seen.{Seen as Backlog}
use Rattle.backlog.specs.Lists.{Stands}
use Rattle.broker_history.specs.State.{new_topic}
use Rattle.topic_core.specs.Seen.{Seen}
use Rattle.topic_core.specs.Rows.{IsTopicOf}
use Rattle.topic_core.proofs.Saving.{new_topic_is}
use Rattle.topic_core.proofs.topic_queue.TopicQueue.fresh.Goals as goal

pub returns-clause-row : goal.returns-clause-row
returns-clause-row c = λ files.
    let b = c.in_ok-backlog.backlog in
    let seen = c.in_ok-backlog.ensures.seen in
    subst (λ (q : Seen). IsTopicOf q files (new_topic c.args.name)) (sym c.over.ensures)
    (new_topic_is c.args.name b files (ap (λ (x : Backlog). x.ring) seen) (ap (λ (x : Backlog). x.lent) seen) (c.in_ok-backlog.ensures.list files))

pub returns-clause-stands : goal.returns-clause-stands
returns-clause-stands c = λ files idle.
    subst (λ (q : Seen). Stands q.backlog.queue files) (sym c.over.ensures)
    (c.in_ok-backlog.ensures.stands files (subst (λ (name : List ℕ). IsIdle (files (meta_file name))) (sym c.as_str.ensures) idle))
