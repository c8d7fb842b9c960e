use Rattle.serde_json.specs.View.{view}
use Rattle.names_reading.proofs.Listing.{failed, topic_bad}
use Rattle.names_reading.proofs.items.KeptTopicListed.read.Goals as goal

pub returns-in_err-channels-clause-bad : goal.returns-in_err-channels-clause-bad
returns-in_err-channels-clause-bad c = failed c.from_residual.result c.in_err-channels.field-0.0 c.from_residual.ensures (λ b. topic_bad (view c.args.item.now) (c.in_err-channels.ensures.bad b))
