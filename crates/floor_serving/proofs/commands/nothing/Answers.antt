use Rattle.std.proofs.Common.{refl}
use Rattle.v2_frame.specs.declared.command.Command.TheVariants as command
use Rattle.broker_history.specs.Step.{spoke}
use Rattle.floor_serving.proofs.Commanding.{command_done}
use Rattle.floor_serving.proofs.Staying.{same_changed, stays_clients}
use Rattle.floor_serving.proofs.commands.nothing.Goals as goal

pub speak-requires-clause-client : goal.speak-requires-clause-client
speak-requires-clause-client c = c.requires.accepted.within

pub returns : goal.returns
returns c = λ tells files faults.
    command_done tells c.args.k command.Nop c.args.hall.now c.speak.new.hall files faults (stays_clients c.args.hall.now c.speak.new.hall c.speak.ensures.rest) c.speak.ensures.sound
    (same_changed c.args.hall.now c.speak.new.hall c.args.k (spoke c.args.hall.now.moment) c.requires.sound c.requires.accepted.within (λ d. refl) c.speak.ensures.clients _ c.speak.ensures.rest refl) (c.speak.ensures.nop files)
