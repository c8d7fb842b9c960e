use Rattle.std.proofs.Common.{refl, arith}
use Rattle.broker_history.specs.declared.ask.Ask.TheVariants as ask
use Rattle.floor_serving.proofs.Asking.{ask_done, ask_not}
use Rattle.floor_serving.proofs.Staying.{around_by, only_same, same_equal}
use Rattle.floor_serving.proofs.requests.serve_creation.Goals as goal

pub returns-in-Ok : goal.returns-in-Ok
returns-in-Ok c = λ tells files faults.
    ask_done tells (ask.Create c.args.topic c.args.channel) c.args.hall.now c.create.new.hall files files faults faults (around_by tells c.args.hall.now c.create.new.hall _ files files faults faults c.create.ensures.rest refl refl refl refl refl c.create.ensures.names c.create.ensures.since c.create.ensures.sound (λ told. only_same files) (omega arith)) (same_equal c.args.hall.now c.create.new.hall _ c.create.ensures.rest refl refl) (λ told. c.in-Ok.ensures.made files)

pub returns-in-Err : goal.returns-in-Err
returns-in-Err c = λ tells files faults.
    ask_not tells (ask.Create c.args.topic c.args.channel) c.args.hall.now c.create.new.hall files files faults faults (around_by tells c.args.hall.now c.create.new.hall _ files files faults faults c.create.ensures.rest refl refl refl refl refl c.create.ensures.names c.create.ensures.since c.create.ensures.sound (λ told. only_same files) (omega arith)) (same_equal c.args.hall.now c.create.new.hall _ c.create.ensures.rest refl refl) _ (λ told. c.in-Err.ensures.stays files)
