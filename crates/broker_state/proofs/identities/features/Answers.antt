use Rattle.std.proofs.Common.{ap}
use Rattle.broker_history.specs.Reply.{response}
use Rattle.broker_state.proofs.Identifying.{put_together}
use Rattle.broker_state.proofs.identities.features.Goals as goal

pub returns : goal.returns
returns c =
    ap response
    (put_together _ _ _ _ _ _ _ _ _ _ _ _ _ _ _ c.new-text.ensures.items c.from.ensures c.from-2.ensures c.in_ok-put_number.ensures c.in_ok-put_number-2.ensures c.in_ok-put_number-3.ensures c.in_ok-extend_from_slice.ensures.items c.of.ensures)
