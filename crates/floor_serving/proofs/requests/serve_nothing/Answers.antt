use Rattle.std.proofs.Common.{refl}
use Rattle.broker_history.specs.declared.ask.Ask.TheVariants as ask
use Rattle.floor_serving.proofs.Asking.{ask_done}
use Rattle.floor_serving.proofs.Staying.{around_same, same_hall}
use Rattle.floor_serving.proofs.requests.serve_nothing.Goals as goal

pub returns : goal.returns
returns c = λ tells files faults. ask_done tells (ask.Stats c.args.topic c.args.channel) c.args.hall.now c.args.hall.now files files faults faults (around_same tells c.args.hall.now files faults c.requires) (same_hall c.args.hall.now) (λ told s holds. (s, refl, holds))
