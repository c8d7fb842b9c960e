use Rattle.std.proofs.Common.{is_some, sym, ap, ◌∙◌}
use Rattle.serde_json.specs.View.{view}
use Rattle.negotiation.proofs.Joining.{no_flags, no_times, all_said}
use Rattle.negotiation.proofs.identity.identity_in.Goals as goal

pub returns-in_default-clause-value : goal.returns-in_default-clause-value
returns-in_default-clause-value c = no_flags c.args.options.now (view c.args.value.now) c.negotiates_in.result c.negotiates_in.ensures (ap is_some c.in_default.is)

pub returns-in_default-times_in-clause-value : goal.returns-in_default-times_in-clause-value
returns-in_default-times_in-clause-value c = no_times c.args.options.now (view c.args.value.now) c.times_in.result c.times_in.ensures.value (ap is_some c.in_default-times_in.is)

pub returns-clause-value : goal.returns-clause-value
returns-clause-value c = all_said c.args.options.now (view c.args.value.now) c.in-Some.negotiates c.in-Some-times_in.times c.in-Some-2.texts (sym c.is_object.ensures ∙ c.if-not-is_object.false) c.in-Some.ensures c.in-Some-times_in.ensures.value (rw c.in-Some-2.is at c.in_ok-texts.ensures)

pub returns-clause-timely : goal.returns-clause-timely
returns-clause-timely c = record { heartbeat = c.in-Some-times_in.ensures.heartbeat; timeout = c.in-Some-times_in.ensures.timeout }
