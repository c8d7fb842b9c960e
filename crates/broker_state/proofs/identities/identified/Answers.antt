use Rattle.std.proofs.Common.{◌≡◌, IfOk, sym, subst, ◌∙◌}
use Rattle.std.proofs.lemmas.Bool.{false≢true}
use Rattle.serde_json.specs.View.{view}
use Rattle.v2_frame.specs.declared.frame.Frame.{Frame}
use Rattle.broker_history.specs.Reply.{identified}
use Rattle.broker_state.proofs.Identifying.{identity_is, no_identity}
use Rattle.broker_state.proofs.identities.identified.Goals as goal

pub returns-in-Ok : goal.returns-in-Ok
returns-in-Ok c =
    let o = c.args.options.now in
    subst (λ x. IfOk c.answer.result (λ (f : Frame). f ≡ identified o x)) (sym (identity_is o c.args.body.now (view c.in-Ok.value) c.in-Ok.ensures.ok.0 c.in-Ok.ensures.ok.1)) c.answer.ensures

pub returns-else-is_memory : goal.returns-else-is_memory
returns-else-is_memory c =
    let o = c.args.options.now in
    let none = no_identity o c.args.body.now (c.in-Err.ensures.err (λ m. false≢true (sym c.if-is_memory.false ∙ c.is_memory.ensures.1 m))) in
    subst (λ x. IfOk c.bad_json.result (λ (f : Frame). f ≡ identified o x)) (sym none) c.bad_json.ensures
