use Rattle.std.proofs.Common.{refl}
use Rattle.broker_history.specs.declared.entry.Act.TheVariants.{Began}
use Rattle.broker_history.specs.declared.turned.Turned.TheVariants as turned
use Rattle.floor_serving.specs.Carrying.{basis}
use Rattle.floor_serving.proofs.Closing.{act_made, act_not, begin_leaves}
use Rattle.floor_serving.proofs.Staying.{around_clients, same_equal}
use Rattle.floor_serving.proofs.acts.carry_begin.Goals as goal

pub returns-in-Err : goal.returns-in-Err
returns-in-Err c = λ tells files faults.
    (act_not tells c.args.number Began (basis c.args.hall.now files faults) (basis c.begin.new.hall files faults) _ (around_clients tells c.args.hall.now c.begin.new.hall files faults c.begin.ensures.rest c.begin.ensures.sound) (λ told. c.in-Err.ensures.stays files)
    (same_equal c.args.hall.now c.begin.new.hall _ c.begin.ensures.rest c.in-Err.ensures.same refl))

pub returns-in-Ok : goal.returns-in-Ok
returns-in-Ok c = λ tells files faults.
    act_made tells c.args.number Began (basis c.args.hall.now files faults) (basis c.begin.new.hall files faults) turned.Begun c.done.result c.done.ensures (around_clients tells c.args.hall.now c.begin.new.hall files faults c.begin.ensures.rest c.begin.ensures.sound) (λ told. c.in-Ok.ensures.told files) refl
    (begin_leaves c.args.hall.now c.begin.new.hall c.args.number c.begin.ensures.rest c.in-Ok.ensures.clients) tt
