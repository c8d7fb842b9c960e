use Rattle.std.proofs.Common.{◌≡◌, Option, subst, sym, ap}
use Rattle.std.specs.Prelude.{IfOk}
use Rattle.v2_frame.specs.declared.command.Command.{Command}
use Rattle.v2_frame.specs.declared.frame.Frame.{Frame}
use Rattle.broker_history.specs.Reply.{disk_reply}
use Rattle.floor_acts.proofs.command.disk_reply.Goals as goal

pub returns-in-Pub-clause-value : goal.returns-in-Pub-clause-value
returns-in-Pub-clause-value c = subst (λ (command : Command). IfOk c.disk_error.result (λ (reply : Option Frame). reply ≡ disk_reply command)) (sym c.in-Pub.is) c.disk_error.ensures.value

pub returns-in-Mpub-clause-value : goal.returns-in-Mpub-clause-value
returns-in-Mpub-clause-value c = subst (λ (command : Command). IfOk c.disk_error-in-Mpub.result (λ (reply : Option Frame). reply ≡ disk_reply command)) (sym c.in-Mpub.is) c.disk_error-in-Mpub.ensures.value

pub returns-in-Dpub-clause-value : goal.returns-in-Dpub-clause-value
returns-in-Dpub-clause-value c = subst (λ (command : Command). IfOk c.disk_error-in-Dpub.result (λ (reply : Option Frame). reply ≡ disk_reply command)) (sym c.in-Dpub.is) c.disk_error-in-Dpub.ensures.value

pub returns-in-Req-clause-value : goal.returns-in-Req-clause-value
returns-in-Req-clause-value c = subst (λ (command : Command). IfOk c.disk_error-in-Req.result (λ (reply : Option Frame). reply ≡ disk_reply command)) (sym c.in-Req.is) c.disk_error-in-Req.ensures.value
