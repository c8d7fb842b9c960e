use Rattle.std.proofs.Common.{sym}
use Rattle.serde_json.specs.View.{view}
use Rattle.names_reading.proofs.Listing.{epoch_bad, failed, no_value, object_bad, topics_bad}
use Rattle.names_reading.proofs.names.names_in.Goals as goal

pub returns-then-not-is_object : goal.returns-then-not-is_object
returns-then-not-is_object c = record { value = tt; bad = λ b. object_bad (view c.args.value.now) (sym c.if-not-is_object.ensures) }

pub returns-in_default : goal.returns-in_default
returns-in_default c = record { value = tt; bad = λ b. epoch_bad (view c.args.value.now) c.in_default.ensures }

pub returns-in_err-topics : goal.returns-in_err-topics
returns-in_err-topics c = record {
  value = no_value c.from_residual.result _ c.from_residual.ensures.0;
  bad = failed c.from_residual.result c.in_err-topics.field-0.0 c.from_residual.ensures (λ b. topics_bad (view c.args.value.now) (c.in_err-topics.ensures.bad b));
}

pub returns : goal.returns
returns c = record {
  value = record { object = sym c.if-not-is_object.ensures; epoch = c.in-Some.ensures; topics = c.in_ok-topics.ensures.value };
  bad = tt;
}
