use Rattle.std.proofs.Common.{◌∙◌}
use Rattle.std.proofs.lemmas.Result.{IfOk-from_err}
use Rattle.drill_parts.proofs.Picking.{publish_bytes}
use Rattle.drill_parts.proofs.callers.publish_piece.Goals as goal

pub returns-in_err-bytes : goal.returns-in_err-bytes
returns-in_err-bytes c = IfOk-from_err c.from_residual.result _ c.from_residual.ensures.0

pub returns-in_err-push : goal.returns-in_err-push
returns-in_err-push c = IfOk-from_err c.from_residual-in_err-push.result _ c.from_residual-in_err-push.ensures.0

pub returns-in_err-push-2 : goal.returns-in_err-push-2
returns-in_err-push-2 c = IfOk-from_err c.from_residual-in_err-push-2.result _ c.from_residual-in_err-push-2.ensures.0

pub returns-in_err-extend_from_slice : goal.returns-in_err-extend_from_slice
returns-in_err-extend_from_slice c = IfOk-from_err c.from_residual-in_err-extend_from_slice.result _ c.from_residual-in_err-extend_from_slice.ensures.0

pub returns-in_err-resize : goal.returns-in_err-resize
returns-in_err-resize c = IfOk-from_err c.from_residual-in_err-resize.result _ c.from_residual-in_err-resize.ensures.0

pub returns : goal.returns
returns c =
    c.of.ensures
    ∙ publish_bytes c.args.publish.now c.digit.result c.len.result _ c.in_ok-bytes.bytes.items c.push.new.self.items c.push-2.new.self.items c.extend_from_slice.new.self.items _ c.resize.new.self.items
    c.in_ok-bytes.ensures.items c.digit.ensures c.in_ok-push.ensures.items c.in_ok-push-2.ensures.items c.to_be_bytes.ensures c.in_ok-extend_from_slice.ensures.items c.len.ensures c.extend_from_slice.new.self.ok.0 c.in_ok-resize.ensures.items
