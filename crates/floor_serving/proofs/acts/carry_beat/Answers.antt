use Rattle.std.proofs.Common.{◌≡◌, refl, ap}
use Rattle.broker_history.specs.State.{Client}
use Rattle.broker_history.specs.Changes.{at_client}
use Rattle.broker_history.specs.declared.entry.Act.TheVariants.{Beat}
use Rattle.broker_history.specs.declared.turned.Turned.TheVariants as turned
use Rattle.floor_serving.specs.Carrying.{basis}
use Rattle.floor_serving.proofs.Closing.{act_made, act_not, beat_leaves, by_number, is_placed}
use Rattle.floor_serving.proofs.Staying.{around_clients, around_same, same_changed, same_hall}
use Rattle.floor_serving.proofs.acts.carry_beat.Goals as goal

pub returns-in_default : goal.returns-in_default
returns-in_default c = λ tells files faults.
    (act_not tells c.args.number Beat (basis c.args.hall.now files faults) (basis c.args.hall.now files faults) _ (around_same tells c.args.hall.now files faults c.requires.sound) (λ told s holds. (s, refl, holds)) (same_hall c.args.hall.now))

pub unreachable-requires : goal.unreachable-requires
unreachable-requires c = is_placed c.args.hall.now c.args.number c.requires.there c.in_default-client_place.ensures

pub beat-requires-clause-client : goal.beat-requires-clause-client
beat-requires-clause-client c = c.in-Some.ensures.in_range

pub returns : goal.returns
returns c = λ tells files faults.
    act_made tells c.args.number Beat (basis c.args.hall.now files faults) (basis c.beat.new.hall files faults) (turned.Send c.in-Ok.frame) c.done.result c.done.ensures (around_clients tells c.args.hall.now c.beat.new.hall files faults c.beat.ensures.rest c.beat.ensures.sound)
    (λ told. by_number c.args.hall.now c.beat.new.hall files files c.args.number c.in-Some.k c.in-Some.ensures (λ n s t. t ≡ at_client (λ (d : Client). record d { beat_from = c.args.hall.now.moment }) s n) (c.beat.ensures.told files))
    (ap turned.Send c.in-Ok.ensures.value)
    (beat_leaves c.args.hall.now c.beat.new.hall c.args.number (same_changed c.args.hall.now c.beat.new.hall c.in-Some.k (λ (d : Client). record d { beat_from = c.args.hall.now.moment }) c.requires.sound c.in-Some.ensures.in_range (λ d. refl) c.beat.ensures.clients _ c.beat.ensures.rest refl))
    c.in-Ok.ensures.short
