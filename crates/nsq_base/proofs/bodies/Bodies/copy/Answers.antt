use Rattle.std.proofs.Common.{ℕ, ◌+◌, ap, ◌∙◌, arith}
use Rattle.nsq_base.proofs.Copies.{next_copied}
use Rattle.nsq_base.proofs.bodies.Bodies.copy.Goals as goal

pub push_reserved-requires : goal.push_reserved-requires
push_reserved-requires c = omega (arith, c.loop-body-test.true, c.loop-body.invariant.long, c.loop-body.invariant.room)

pub loop-body-preserved : goal.loop-body-preserved
loop-body-preserved c =
    let before = c.loop-body.invariant in
    let pushed = c.push_reserved.ensures in
    record {
      copied = next_copied _ c.loop-body.body-index _ c.body-item.result _ c.loop-body.items.items _ c.loop-body-test.true c.body-item.is before.copied (c.in_ok-copy.ensures ∙ c.bytes.ensures) pushed.items;
      long = pushed.len ∙ ap (λ (n : ℕ). n + 1) before.long;
      room = omega (arith, c.loop-body.invariant.room, c.push_reserved.ensures.capacity);
    }
