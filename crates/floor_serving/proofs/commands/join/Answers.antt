use Rattle.std.proofs.Common.{refl, arith}
use Rattle.v2_frame.specs.declared.command.Command.TheVariants as command
use Rattle.broker_history.specs.Step.{spoke, subscribed}
use Rattle.floor_serving.proofs.Commanding.{command_done, command_not, free_at}
use Rattle.floor_serving.proofs.Conditions.{sub_fresh}
use Rattle.floor_serving.proofs.Staying.{same_changed, same_equal, stays_by}
use Rattle.floor_serving.proofs.commands.join.Goals as goal

pub index-requires : goal.index-requires
index-requires c =
    let within = c.requires.accepted.within in
    omega (arith, within, c.args.hall.now.clients.ok.0)

pub subscribe-requires-clause-client : goal.subscribe-requires-clause-client
subscribe-requires-clause-client c = c.requires.accepted.within

pub subscribe-requires-clause-free : goal.subscribe-requires-clause-free
subscribe-requires-clause-free c =
    free_at c.args.hall.now c.args.k (command.Sub c.args.topic c.args.channel) c.requires.accepted c.index.result.now c.index.ensures c.fresh_has_none.ensures (sub_fresh c.args.hall.now c.args.k c.args.topic c.args.channel c.requires.accepted)

pub returns-in-Err : goal.returns-in-Err
returns-in-Err c = λ tells files faults.
    (command_not tells c.args.k (command.Sub c.args.topic c.args.channel) c.args.hall.now c.subscribe.new.hall files faults _ (stays_by c.args.hall.now c.subscribe.new.hall _ c.subscribe.ensures.rest refl refl refl refl refl c.subscribe.ensures.names c.subscribe.ensures.since) c.subscribe.ensures.sound
    (same_equal c.args.hall.now c.subscribe.new.hall _ c.subscribe.ensures.rest c.in-Err.ensures.unchanged.clients refl) (c.in-Err.ensures.stays files))

pub returns-in-Ok : goal.returns-in-Ok
returns-in-Ok c = λ tells files faults.
    command_done tells c.args.k (command.Sub c.args.topic c.args.channel) c.args.hall.now c.subscribe.new.hall files faults (stays_by c.args.hall.now c.subscribe.new.hall _ c.subscribe.ensures.rest refl refl refl refl refl c.subscribe.ensures.names c.subscribe.ensures.since) c.subscribe.ensures.sound
    (same_changed c.args.hall.now c.subscribe.new.hall c.args.k (λ d. subscribed c.args.topic c.args.channel (spoke c.args.hall.now.moment d)) c.requires.sound c.requires.accepted.within (λ d. refl) c.in-Ok.ensures.clients _ c.subscribe.ensures.rest refl) (c.in-Ok.ensures.told files)
