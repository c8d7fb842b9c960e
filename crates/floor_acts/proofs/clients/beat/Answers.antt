use Rattle.std.proofs.Common.{refl, subst, sym}
use Rattle.broker_history.specs.State.{Client}
use Rattle.floor_acts.proofs.Putting.{SameMember, carries_found, sound_client}
use Rattle.floor_acts.proofs.clients.beat.Goals as goal

pub returns-clause-sound : goal.returns-clause-sound
returns-clause-sound c =
    sound_client c.args.hall.now _ c.args.k c.index_mut.result.now c.beat.new.self c.requires.sound c.requires.client c.index_mut.ensures.value
    (subst (SameMember c.index_mut.result.now) (sym c.beat.ensures) (record { number = refl; held = refl; member = λ topic channel. refl; ready = λ asks. asks })) refl refl

pub returns-clause-told : goal.returns-clause-told
returns-clause-told c = λ files.
    carries_found c.args.hall.now _ c.args.k (λ (d : Client). record d { beat_from = c.args.hall.now.moment }) c.index_mut.result.now c.beat.new.self c.requires.sound c.requires.client c.index_mut.ensures.value c.beat.ensures refl refl refl files
