use Rattle.std.proofs.Common.{rules, ◌≡◌, ◌<◌, ◌^◌, SFits, w64, to_z, of_z, refl, subst}
use Rattle.std.proofs.lemmas.Int.{to_z-of_z}
use Rattle.broker_history.specs.Reply.{count_of}
use Rattle.v2_frame.specs.declared.command.Command.TheVariants as command
use Rattle.broker_history.specs.Step.{ready_for, spoke}
use Rattle.floor_serving.proofs.Commanding.{command_done}
use Rattle.floor_serving.proofs.Conditions.{ready_told}
use Rattle.floor_serving.proofs.Staying.{same_changed, stays_kept}
use Rattle.floor_serving.proofs.commands.ready.Goals as goal

pub set_ready-requires-clause-client : goal.set_ready-requires-clause-client
set_ready-requires-clause-client c = c.requires.accepted.within

pub returns : goal.returns
returns c = λ tells files faults.
    let small : SFits w64 c.args.count = search rules in
    let whole : to_z w64 (of_z w64 c.args.count) ≡ c.args.count = to_z-of_z w64 c.args.count small in
    command_done tells c.args.k (command.Rdy c.args.count) c.args.hall.now c.set_ready.new.hall files faults (stays_kept c.args.hall.now c.set_ready.new.hall _ c.set_ready.ensures.rest refl refl refl refl refl refl c.set_ready.ensures.keeps) c.set_ready.ensures.sound
    (same_changed c.args.hall.now c.set_ready.new.hall c.args.k (λ d. record (spoke c.args.hall.now.moment d) { ready = ready_for d.phase c.count_of.result d.ready }) c.requires.sound c.requires.accepted.within (λ d. refl) c.set_ready.ensures.clients _ c.set_ready.ensures.rest refl)
    (ready_told c.args.hall.now c.set_ready.new.hall c.args.k c.args.count c.count_of.result files c.requires.accepted c.requires.sound.options (subst (λ z. count_of z < 2 ^ 32 → c.count_of.result ≡ count_of z) whole c.count_of.ensures) (c.set_ready.ensures.told files))
