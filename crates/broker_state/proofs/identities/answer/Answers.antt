use Rattle.std.proofs.Common.{◌≡◌, IfOk, codes, sym, ap, subst, ◌∙◌}
use Rattle.serde_json.specs.Find.{get}
use Rattle.broker_history.specs.Identify.{number_in}
use Rattle.serde_json.specs.View.{view}
use Rattle.v2_frame.specs.declared.frame.Frame.{Frame}
use Rattle.broker_history.specs.Reply.{response}
use Rattle.broker_state.specs.Features.{features_by, timeout_ms}
use Rattle.broker_state.proofs.Identifying.{answer_is}
use Rattle.broker_state.proofs.identities.answer.Goals as goal

pub returns : goal.returns
returns c =
    let o = c.args.options.now in
    let d = view c.args.value.now in
    let ms : c.timeout_in-timeout.result ≡ timeout_ms o (number_in (get (codes "msg_timeout") d)) = c.timeout_in-timeout.ensures ∙ ap (timeout_ms o) c.number_in.ensures in
    let text = (answer_is o d c.accepts.result c.flag_in.result (sym c.is_object.ensures ∙ c.if-not-is_object.false) c.accepts.ensures c.flag_in.ensures).2 c.if-not-accepts.false c.if-not-flag_in.false in
    subst (λ x. IfOk c.features.result (λ (f : Frame). f ≡ x)) (ap (λ n. response (features_by o n)) ms ∙ sym text) c.features.ensures
