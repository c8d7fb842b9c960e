use Rattle.std.proofs.Common.{sym, ◌∙◌}
use Rattle.nsq_base.proofs.PutBy.{put_by-belongs}
use Rattle.nsq_base.proofs.TopicsOf.{AreChannels-insert_name, insert_name-stands}
use Rattle.nsq_base.proofs.channels.Channels.insert.Goals as goal

pub invariant_of-self : goal.invariant_of-self
invariant_of-self c =
    let place = rw (← c.self.view_is) at c.in-Err.ensures.place in
    rw (c.in_ok-insert.ensures.items, ← put_by-belongs (λ n. n) c.self.inside.items.items c.args.channel c.in-Err.i place) (AreChannels-insert_name _ _ c.self.invariant c.in-Err.ensures.named)

pub returns-in_ok-insert-clause-ok : goal.returns-in_ok-insert-clause-ok
returns-in_ok-insert-clause-ok c =
    let place = rw (← c.self.view_is) at c.in-Err.ensures.place in
    rw (← c.self.view_is) (c.in_ok-insert.ensures.items ∙ sym (put_by-belongs (λ n. n) c.self.inside.items.items c.args.channel c.in-Err.i place))

pub returns-in_ok-insert-clause-in_order : goal.returns-in_ok-insert-clause-in_order
returns-in_ok-insert-clause-in_order c =
    let place = rw (← c.self.view_is) at c.in-Err.ensures.place in
    rw (c.in_ok-insert.ensures.items, ← put_by-belongs (λ n. n) c.self.inside.items.items c.args.channel c.in-Err.i place) (AreChannels-insert_name _ _ c.self.invariant c.in-Err.ensures.named)

pub returns-in_default-clause-ok : goal.returns-in_default-clause-ok
returns-in_default-clause-ok c = insert_name-stands _ _ _ c.in_default.ensures.place
