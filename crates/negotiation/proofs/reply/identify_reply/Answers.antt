use Rattle.std.proofs.Common.{◌∙◌}
use Rattle.negotiation.proofs.Answering.{answers_features}
use Rattle.negotiation.proofs.reply.identify_reply.Goals as goal

pub returns-clause-value : goal.returns-clause-value
returns-clause-value c = answers_features c.args.options.now c.args.found c.in-Some.identity c.of.result c.in-Some.is c.if-not-identity.false (c.of.ensures ∙ c.in_ok-text.ensures.text)
