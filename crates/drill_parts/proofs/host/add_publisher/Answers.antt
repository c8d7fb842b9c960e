use Rattle.std.proofs.Common.{[], ◌∷◌, ◌++◌, ◌∙◌, ap}
use Rattle.drill_parts.specs.Callers.{publisher}
use Rattle.drill_parts.proofs.host.add_publisher.Goals as goal

pub returns : goal.returns
returns c = record {
  caller = c.in_ok-caller_of.field-0;
  sends = c.in_ok-caller_of.ensures (publisher c.args.publishes.now) c.in_ok-pieces.ensures;
  is = c.push_reserved.ensures.items ∙ ap (λ cs. cs ++ c.in_ok-caller_of.field-0 ∷ []) c.reserve.ensures.items;
}
