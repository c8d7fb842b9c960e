use Rattle.std.proofs.Common.{◌≡◌, Option, None, refl}
use Rattle.v2_frame.specs.declared.frame.Frame.{Frame}
use Rattle.floor_acts.proofs.Replying.{handed_said, handed_short}
use Rattle.floor_acts.proofs.command.message_reply.Goals as goal

pub returns-clause-said : goal.returns-clause-said
returns-clause-said c = handed_said (λ (f : Option Frame). f) c.flight_reply.result c.perhaps.result c.perhaps.ensures (λ reply said. said ≡ None) (λ x. refl)

pub returns-clause-short : goal.returns-clause-short
returns-clause-short c = handed_short (λ (f : Option Frame). f) c.flight_reply.result c.perhaps.result c.perhaps.ensures c.flight_reply.ensures.short
