use Rattle.path_image.specs.Found.{IsRecordOf}
use Rattle.path_plain.proofs.FindingLemmas.{pairwise_next}
use Rattle.path_plain.proofs.findings.messages_of.Goals as goal

pub loop-body-preserved : goal.loop-body-preserved
loop-body-preserved c =
    pairwise_next IsRecordOf c.args.bodies.now c.loop-body.body-index _ c.body-item.result c.loop-body.messages.items c.push.new.self.items c.in_ok-message_of.field-0
    (rw c.as_slice-body-items.ensures at c.loop-body-test.true) (rw c.as_slice-body-items.ensures at c.body-item.is) c.loop-body.invariant c.in_ok-message_of.ensures c.in_ok-push.ensures.items
