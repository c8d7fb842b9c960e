use Rattle.topic_core.proofs.Heads.{some_count, none_count}
use Rattle.topic_core.proofs.topic_queue.TopicQueue.is_empty.Goals as goal

pub returns-then-depths-ne0 : goal.returns-then-depths-ne0
returns-then-depths-ne0 c = λ files t is. some_count t.waiting c.depths-depths.result.ring c.depths-depths.result.disk (c.depths-depths.ensures.row files t is) c.if-depths-ne0.true

pub returns : goal.returns
returns c = λ files t is. none_count t.waiting c.depths-depths.result.ring c.depths-depths.result.disk (c.depths-depths.ensures.row files t is) c.if-depths-ne0.false
