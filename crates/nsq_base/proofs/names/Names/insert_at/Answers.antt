use Rattle.nsq_base.specs.Names.{topic_of}
use Rattle.nsq_base.proofs.PutBy.{put_by-belongs}
use Rattle.nsq_base.proofs.TopicsOf.{IsInOrder-with_channels}
use Rattle.nsq_base.proofs.names.Names.insert_at.Goals as goal

pub invariant_of-self-2 : goal.invariant_of-self-2
invariant_of-self-2 c =
    let place = rw (← c.self.view_is) at c.requires.place in
    rw (c.in_ok-insert.ensures.items, ← put_by-belongs topic_of c.self.inside.topics.items (c.args.topic, c.args.channels) c.args.i place) (IsInOrder-with_channels _ _ _ c.self.invariant c.requires.named c.requires.in_order)
