use Rattle.std.proofs.Common.{None, refl}
use Rattle.broker_history.specs.State.{Client}
use Rattle.broker_history.specs.Step.{ready_for}
use Rattle.floor_acts.specs.Spots.{IsSpotFor}
use Rattle.floor_acts.proofs.Putting.{carries_at, read_holds, sound_client}
use Rattle.floor_acts.proofs.Readying.{readied}
use Rattle.floor_acts.proofs.ready.ready_alone.Goals as goal

pub returns-clause-sound : goal.returns-clause-sound
returns-clause-sound c =
    let h = c.args.hall.now in
    sound_client h _ c.args.k c.index_mut.result.now c.set_ready.new.self c.requires.sound c.requires.client c.index_mut.ensures.value
    (readied h.rooms.items c.args.count c.index_mut.result.now c.set_ready.new.self c.set_ready.ensures
    (read_holds (λ (d : Client). IsSpotFor h.rooms.items d None) h.clients.items c.args.k c.index_mut.result.now c.requires.client c.index_mut.ensures.value c.requires.none)) refl refl

pub returns-clause-told : goal.returns-clause-told
returns-clause-told c = λ files.
    carries_at c.args.hall.now _ c.args.k (λ (d : Client). record d { ready = ready_for d.phase c.args.count d.ready }) c.index_mut.result.now c.set_ready.new.self c.requires.sound c.requires.client c.index_mut.ensures.value c.set_ready.ensures refl refl refl files
