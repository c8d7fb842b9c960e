use Rattle.std.proofs.Common.{ℕ, ◌+◌, ap, ◌∙◌, arith}
use Rattle.broker_history.proofs.Copies.{next_copied}
use Rattle.broker_history.proofs.items.ItemsTwin.twin.Goals as goal

pub push_reserved-requires : goal.push_reserved-requires
push_reserved-requires g c = omega (arith, c.loop-item-test.true, c.loop-item.invariant.long, c.loop-item.invariant.room)

pub loop-item-preserved : goal.loop-item-preserved
loop-item-preserved g c =
    let before = c.loop-item.invariant in
    let pushed = c.push_reserved.ensures in
    record {
      copied = next_copied _ c.loop-item.item-index _ c.item-item.result _ c.loop-item.items.items _ c.loop-item-test.true c.item-item.is before.copied c.in_ok-twin.ensures pushed.items;
      long = pushed.len ∙ ap (λ (n : ℕ). n + 1) before.long;
      room = omega (arith, c.loop-item.invariant.room, c.push_reserved.ensures.capacity);
    }
