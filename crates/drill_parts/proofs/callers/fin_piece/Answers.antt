use Rattle.std.proofs.Common.{◌*◌, ap, ◌∙◌, flat_map}
use Rattle.std.proofs.lemmas.Result.{IfOk-weaker}
use Rattle.drill_parts.specs.Callers.{fin}
use Rattle.drill_parts.proofs.Lists.{front_of_rest}
use Rattle.drill_parts.proofs.callers.fin_piece.Goals as goal

pub returns : goal.returns
returns c = IfOk-weaker c.fins.result _ _ (λ piece e. e ∙ ap (flat_map fin) (front_of_rest c.args.publishes.now (64 * c.args.k) 64 c.min.result c.min.ensures)) c.fins.ensures
