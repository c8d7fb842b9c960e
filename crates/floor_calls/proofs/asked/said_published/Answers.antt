use Rattle.std.proofs.Common.{ap, ℕ, if◌then◌else◌, length, ◌∙◌}
use Rattle.broker_history.specs.declared.ask.Said.TheVariants.{Done, Ids}
use Rattle.broker_history.specs.Reply.{are_left}
use Rattle.floor_calls.proofs.Saying.{published_is}
use Rattle.floor_calls.proofs.asked.said_published.Goals as goal

pub returns : goal.returns
returns c files s holds =
    c.left_said.ensures ∙ ap (λ (n : ℕ). if are_left c.args.hall.now.ids_used n then Done else Ids) c.count-count.ensures ∙ published_is c.args.hall.now (length c.args.bodies.now) files s holds
