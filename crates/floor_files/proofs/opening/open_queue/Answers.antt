use Rattle.std.proofs.Common.{None, sym, subst, true}
use Rattle.topic_core.specs.Rows.{found_topic}
use Rattle.topic_core.specs.Seen.{Seen as TopicSeen}
use Rattle.backlog.specs.Lists.{Stands}
use Rattle.floor_files.proofs.Starting.{finds_messages, opened_room_of}
use Rattle.floor_files.proofs.opening.open_queue.Goals as goal

pub returns-clause-told : goal.returns-clause-told
returns-clause-told g c = λ told messages has.
    let before = g.F.Folder.files c.args.folder.now in
    let after = g.F.Folder.files c.open.new.folder in
    opened_room_of before after c.args.topic c.args.paused messages (record { queue = c.pause.new.self; since = None; listed = true; names = None; stalls = c.new.result }) has c.new.ensures.items
    (c.pause.ensures.row after (found_topic c.args.topic messages) (c.in_ok-queue.ensures.row told messages (finds_messages before c.args.topic messages c.requires has)))
    (subst (λ (q : TopicSeen). Stands q.backlog.queue after) (sym c.pause.ensures.seen) (c.in_ok-queue.ensures.stands told))

pub returns-clause-again : goal.returns-clause-again
returns-clause-again g c = λ told. c.in_ok-queue.ensures.again told c.requires
