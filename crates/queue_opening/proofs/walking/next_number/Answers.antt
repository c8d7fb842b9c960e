use Rattle.std.proofs.Common.{refl}
use Rattle.queue_opening.proofs.Walks.{next_more}
use Rattle.queue_opening.proofs.walking.next_number.Goals as goal

pub loop-number-preserved : goal.loop-number-preserved
loop-number-preserved c =
    next_more c.args.numbers.now c.loop-number.number-index c.args.from c.args.last c.loop-number.next c.nearer-next.result _ c.loop-number-test.true refl c.loop-number.invariant
    c.nearer-next.ensures.most c.nearer-next.ensures.least c.nearer-next.ensures.number
