use Rattle.std.proofs.Common.{refl}
use Rattle.broker_history.specs.declared.entry.Act.TheVariants.{Stop}
use Rattle.broker_history.specs.declared.turned.Turned.TheVariants as turned
use Rattle.floor_serving.specs.Carrying.{basis}
use Rattle.floor_serving.proofs.Closing.{act_made, stop_leaves, stop_stays}
use Rattle.floor_serving.proofs.Staying.{around_kept}
use Rattle.floor_serving.proofs.acts.carry_stop.Goals as goal

pub returns : goal.returns
returns c = λ tells number files faults.
    act_made tells number Stop (basis c.args.hall.now files faults) (basis c.stop.new.hall files faults) turned.Stopping c.done.result c.done.ensures (around_kept tells c.args.hall.now c.stop.new.hall files faults (stop_stays c.args.hall.now c.stop.new.hall c.stop.ensures.rest) c.stop.ensures.sound)
    (λ told. c.stop.ensures.told files) refl (stop_leaves c.args.hall.now c.stop.new.hall number c.stop.ensures.rest) tt
