use Rattle.std.proofs.Common.{ℕ, ◌+◌, ap, ◌∙◌, arith}
use Rattle.nsq_base.proofs.Copies.{next_copied}
use Rattle.nsq_base.proofs.pairs.Pairs.copy.Goals as goal

pub push_reserved-requires : goal.push_reserved-requires
push_reserved-requires c = omega (arith, c.loop-pair-test.true, c.loop-pair.invariant.long, c.loop-pair.invariant.room)

pub loop-pair-preserved : goal.loop-pair-preserved
loop-pair-preserved c =
    let before = c.loop-pair.invariant in
    let pushed = c.push_reserved.ensures in
    record {
      copied = next_copied _ c.loop-pair.pair-index _ c.pair-item.result _ c.loop-pair.items.items _ c.loop-pair-test.true c.pair-item.is before.copied (c.in_ok-copy.ensures) pushed.items;
      long = pushed.len ∙ ap (λ (n : ℕ). n + 1) before.long;
      room = omega (arith, c.loop-pair.invariant.room, c.push_reserved.ensures.capacity);
    }
