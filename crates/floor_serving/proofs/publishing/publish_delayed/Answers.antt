use Rattle.std.proofs.Common.{rules, SFits, w64, to_z, of_z, min, ◌≡◌, ◌+◌, ◌≤◌, ◌^◌, List, ℕ, length, refl, sym, subst, codes}
use Rattle.std.proofs.lemmas.Int.{to_z-of_z}
use Rattle.std.specs.List.{All}
use Rattle.v2_frame.specs.declared.command.Command.TheVariants as command
use Rattle.broker_history.specs.Reply.{span_of}
use Rattle.floor_serving.specs.Commands.{IsPublish}
use Rattle.floor_serving.proofs.Bodies.{dpub_is, unpublished}
use Rattle.floor_serving.proofs.Conditions.{dpub_ids, dpub_short, dpub_span, dpub_longest}
use Rattle.floor_serving.proofs.publishing.publish_delayed.Goals as goal

pub returns-in_default : goal.returns-in_default
returns-in_default g c = unpublished g.F.Folder.tells_files c.args.k (command.Dpub c.args.topic c.args.delay c.args.body) c.args.hall.now (g.F.Folder.files c.args.folder.now) (g.F.Folder.folder_faults c.args.folder.now) _ c.requires.sound

pub publish_as-requires-clause-client : goal.publish_as-requires-clause-client
publish_as-requires-clause-client g c = c.requires.accepted.within

pub publish_as-requires-clause-ids : goal.publish_as-requires-clause-ids
publish_as-requires-clause-ids g c = subst (λ (xs : List (List ℕ)). c.args.hall.now.ids_used + length xs ≤ 2 ^ 40) (sym c.in-Ok.ensures) (dpub_ids c.args.hall.now c.args.k c.args.topic c.args.delay c.args.body c.requires.accepted)

pub publish_as-requires-clause-short : goal.publish_as-requires-clause-short
publish_as-requires-clause-short g c = subst (All (λ (b : List ℕ). length b ≤ 16777216)) (sym c.in-Ok.ensures) (dpub_short c.args.topic c.args.delay c.args.body c.requires.accepted.whole)

pub publish_as-requires-clause-delay : goal.publish_as-requires-clause-delay
publish_as-requires-clause-delay g c =
    let small : SFits w64 c.args.delay = search rules in
    let whole : to_z w64 (of_z w64 c.args.delay) ≡ c.args.delay = to_z-of_z w64 c.args.delay small in
    dpub_longest c.args.hall.now c.args.k c.args.topic c.args.delay c.args.body c.requires.accepted c.requires.sound.options c.span_of-delay.result (subst (λ z. c.span_of-delay.result ≡ min (span_of z) c.args.hall.now.options.max_req_timeout) whole c.span_of-delay.ensures)

pub returns : goal.returns
returns g c =
    let small : SFits w64 c.args.delay = search rules in
    let whole : to_z w64 (of_z w64 c.args.delay) ≡ c.args.delay = to_z-of_z w64 c.args.delay small in
    c.publish_as.ensures (command.Dpub c.args.topic c.args.delay c.args.body)
    (subst (λ (n : ℕ). IsPublish (command.Dpub c.args.topic c.args.delay c.args.body) c.args.topic n c.in-Ok.bodies.items (codes "E_DPUB_FAILED")) (sym (dpub_span c.args.hall.now c.args.k c.args.topic c.args.delay c.args.body c.requires.accepted c.span_of-delay.result (subst (λ z. c.span_of-delay.result ≡ min (span_of z) c.args.hall.now.options.max_req_timeout) whole c.span_of-delay.ensures)))
    (subst (λ (xs : List (List ℕ)). IsPublish (command.Dpub c.args.topic c.args.delay c.args.body) c.args.topic (span_of c.args.delay) xs (codes "E_DPUB_FAILED")) (sym c.in-Ok.ensures) (dpub_is c.args.topic c.args.delay c.args.body (codes "E_DPUB_FAILED") refl)))
