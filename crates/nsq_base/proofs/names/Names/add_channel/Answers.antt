use Rattle.std.proofs.Common.{◌∙◌}
use Rattle.nsq_base.proofs.TopicsOf.{IsInOrder-with_channels, with_channel-belongs, with_channel-stands, set_topic, set_entry}
use Rattle.nsq_base.proofs.names.Names.add_channel.Goals as goal

pub invariant_of-self : goal.invariant_of-self
invariant_of-self c =
    let place = rw (← c.self.view_is) at c.in-Ok.ensures.place in
    rw (set_topic c.self.inside.topics.items c.args.topic c.in-Ok.i c.index_mut.result.now c.insert.new.self place c.index_mut.ensures.value) (IsInOrder-with_channels _ _ _ c.self.invariant c.in-Ok.ensures.named c.insert.ensures.in_order)

pub invariant_of-self-in_err-insert-in-Ok : goal.invariant_of-self-in_err-insert-in-Ok
invariant_of-self-in_err-insert-in-Ok c =
    rw (set_entry c.self.inside.topics.items c.in-Ok.i c.index_mut.result.now c.insert.new.self c.index_mut.ensures.value c.in_err-insert-in-Ok.ensures.err) c.self.invariant

pub returns-in_ok-insert-in-Ok-clause-ok : goal.returns-in_ok-insert-in-Ok-clause-ok
returns-in_ok-insert-in-Ok-clause-ok c =
    let place = rw (← c.self.view_is) at c.in-Ok.ensures.place in
    rw (← c.self.view_is) (with_channel-stands c.self.inside.topics.items c.args.topic c.args.channel c.in-Ok.i c.index_mut.result.now c.insert.new.self place c.index_mut.ensures.value c.in_ok-insert-in-Ok.ensures.ok)

pub returns-in_ok-insert_at-in-Err-clause-ok : goal.returns-in_ok-insert_at-in-Err-clause-ok
returns-in_ok-insert_at-in-Err-clause-ok c =
    c.in_ok-insert_at-in-Err.ensures.ok ∙ with_channel-belongs c.args.self.now c.args.topic c.args.channel c.in-Err.i c.in_ok-channels-in-Err.channels c.in-Err.ensures.place c.in_ok-channels-in-Err.ensures.value
