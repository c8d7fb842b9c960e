use Rattle.std.proofs.Common.{ap}
use Rattle.topic_core.specs.Seen.{Seen}
use Rattle.topic_core.proofs.Heads.{pause_changed}
use Rattle.topic_core.proofs.topic_queue.TopicQueue.pause.Goals as goal

pub returns-clause-seen : goal.returns-clause-seen
returns-clause-seen c = ap (λ (q : Seen). record q { paused = c.args.on }) c.self.view_is

pub returns-clause-row : goal.returns-clause-row
returns-clause-row c = pause_changed c.args.self.now _ c.args.on c.requires (ap (λ (q : Seen). record q { paused = c.args.on }) c.self.view_is)
