use Rattle.std.proofs.Common.{◌+◌, ◌≤◌, ◌^◌, List, ℕ, length, refl, sym, subst, codes}
use Rattle.std.specs.List.{All}
use Rattle.v2_frame.specs.declared.command.Command.TheVariants as command
use Rattle.floor_serving.specs.Commands.{IsPublish}
use Rattle.floor_serving.proofs.Bodies.{pub_is, unpublished}
use Rattle.floor_serving.proofs.Conditions.{pub_ids, pub_short}
use Rattle.floor_serving.proofs.publishing.publish_one.Goals as goal

pub returns-in_default : goal.returns-in_default
returns-in_default g c = unpublished g.F.Folder.tells_files c.args.k (command.Pub c.args.topic c.args.body) c.args.hall.now (g.F.Folder.files c.args.folder.now) (g.F.Folder.folder_faults c.args.folder.now) _ c.requires.sound

pub publish_as-requires-clause-client : goal.publish_as-requires-clause-client
publish_as-requires-clause-client g c = c.requires.accepted.within

pub publish_as-requires-clause-ids : goal.publish_as-requires-clause-ids
publish_as-requires-clause-ids g c = subst (λ (xs : List (List ℕ)). c.args.hall.now.ids_used + length xs ≤ 2 ^ 40) (sym c.in-Ok.ensures) (pub_ids c.args.hall.now c.args.k c.args.topic c.args.body c.requires.accepted)

pub publish_as-requires-clause-short : goal.publish_as-requires-clause-short
publish_as-requires-clause-short g c = subst (All (λ (b : List ℕ). length b ≤ 16777216)) (sym c.in-Ok.ensures) (pub_short c.args.topic c.args.body c.requires.accepted.whole)

pub returns : goal.returns
returns g c = c.publish_as.ensures (command.Pub c.args.topic c.args.body) (subst (λ (xs : List (List ℕ)). IsPublish (command.Pub c.args.topic c.args.body) c.args.topic 0 xs (codes "E_PUB_FAILED")) (sym c.in-Ok.ensures) (pub_is c.args.topic c.args.body (codes "E_PUB_FAILED") refl))
