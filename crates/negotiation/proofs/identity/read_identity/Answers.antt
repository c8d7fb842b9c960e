use Rattle.std.proofs.Common.{◌≡◌, IfOk, Option, option_map, sym, subst, ◌∙◌}
use Rattle.std.proofs.lemmas.Bool.{false≢true}
use Rattle.serde_json.specs.View.{view}
use Rattle.negotiation.specs.Said.{said}
use Rattle.negotiation.specs.declared.identity.Identity.{Identity}
use Rattle.negotiation.proofs.Reading.{identity_is, no_identity}
use Rattle.negotiation.proofs.identity.read_identity.Goals as goal

pub returns-in-Ok-clause-value : goal.returns-in-Ok-clause-value
returns-in-Ok-clause-value c =
    let o = c.args.options.now in
    subst (λ x. IfOk c.identity_in.result (λ (found : Option Identity). option_map said found ≡ x)) (sym (identity_is o c.args.body.now (view c.in-Ok.value) c.in-Ok.ensures.ok.0 c.in-Ok.ensures.ok.1)) c.identity_in.ensures.value

pub returns-else-is_memory-clause-value : goal.returns-else-is_memory-clause-value
returns-else-is_memory-clause-value c = sym (no_identity c.args.options.now c.args.body.now (c.in-Err.ensures.err (λ m. false≢true (sym c.if-is_memory.false ∙ c.is_memory.ensures.1 m))))
