use Rattle.std.proofs.Common.{[], ◌∷◌, ◌++◌, ap, map, refl, ◌∙◌}
use Rattle.std.proofs.lemmas.List.{take_all}
use Rattle.std.proofs.lemmas.Result.{IfOk-from_err}
use Rattle.v2_frame.specs.Script.{magic}
use Rattle.nsq_fakes.specs.declared.script.Piece.TheVariants.{Bytes}
use Rattle.drill_parts.specs.Callers.{publish_piece, publisher}
use Rattle.drill_parts.proofs.Lists.{map_next}
use Rattle.drill_parts.proofs.callers.publisher.Goals as goal

pub loop-publish-init : goal.loop-publish-init
loop-publish-init c = c.in_ok-add_piece.ensures magic c.copy.ensures ∙ ap (λ ps. ps ++ Bytes magic ∷ []) c.new-pieces.ensures.items

pub loop-publish-preserved : goal.loop-publish-preserved
loop-publish-preserved c =
    map_next (λ b. Bytes b) publish_piece _ c.args.publishes.now c.loop-publish.publish-index _ _ _ _ c.loop-publish-test.true refl c.loop-publish.invariant (c.in_ok-add_piece-2.ensures _ c.publish_piece.ensures)

pub returns-in_err-add_piece : goal.returns-in_err-add_piece
returns-in_err-add_piece c = IfOk-from_err c.from_residual.result _ c.from_residual.ensures.0

pub returns-in_err-add_piece-2 : goal.returns-in_err-add_piece-2
returns-in_err-add_piece-2 c = IfOk-from_err c.from_residual-in_err-add_piece-2.result _ c.from_residual-in_err-add_piece-2.ensures.0

pub returns : goal.returns
returns c = c.loop-publish.invariant ∙ ap (λ ps. map (λ b. Bytes b) (publisher ps)) (take_all c.loop-publish.publish-index c.args.publishes.now c.loop-publish-test.false)
