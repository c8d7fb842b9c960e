use Rattle.std.proofs.Common.{◌≡◌, ◌∙◌, ◌≤◌, refl, subst, sym}
use Rattle.broker_history.specs.Step.{new_client}
use Rattle.floor_rooms.specs.ClientPlaces.{AreInOrder, StandsAt}
use Rattle.floor_rooms.specs.declared.hall.Hall.{Hall}
use Rattle.floor_rooms.specs.Standing.{Carries}
use Rattle.floor_acts.proofs.Putting.{begins_at, carries_begun, in_error, none_stands, sound_begun, still_sound, still_told, timeout_fits}
use Rattle.floor_acts.proofs.clients.begin.Goals as goal

pub returns-in_err-reserve-clause-rest : goal.returns-in_err-reserve-clause-rest
returns-in_err-reserve-clause-rest c = refl

pub returns-in_err-reserve-clause-sound : goal.returns-in_err-reserve-clause-sound
returns-in_err-reserve-clause-sound c = still_sound c.args.hall.now _ c.requires.sound refl c.reserve.ensures.items

pub returns-in_err-reserve-clause-stays : goal.returns-in_err-reserve-clause-stays
returns-in_err-reserve-clause-stays c = λ files.
    let h : Hall = record (c.args.hall.now) { clients = c.reserve.new.self } in
    in_error c.from_residual.result (Carries c.args.hall.now files h files (λ s t. t ≡ s)) (still_told c.args.hall.now h files refl c.reserve.ensures.items)

pub place_of-requires : goal.place_of-requires
place_of-requires c = subst AreInOrder (sym (c.deref.ensures.value ∙ c.reserve.ensures.items)) c.requires.sound.client_order

pub unreachable-requires : goal.unreachable-requires
unreachable-requires c =
    none_stands c.args.hall.now.clients.items c.args.number c.in_default.field-0
    (subst (λ cs. StandsAt cs c.args.number c.in_default.field-0) (c.deref.ensures.value ∙ c.reserve.ensures.items) c.in_default.ensures) c.requires.new

pub new-client-requires : goal.new-client-requires
new-client-requires c = timeout_fits c.args.hall.now c.requires.sound

pub insert-requires : goal.insert-requires
insert-requires c = subst (λ n. c.in-Err.k ≤ n) c.deref.ensures.len c.in-Err.ensures.in_range

pub returns-clause-rest : goal.returns-clause-rest
returns-clause-rest c = refl

pub returns-clause-clients : goal.returns-clause-clients
returns-clause-clients c =
    begins_at c.args.hall.now.clients.items c.reserve.new.self.items c.deref.result.now c.insert.new.self.items c.args.number c.in-Err.k c.new-client.result (new_client c.args.hall.now.options c.args.hall.now.moment c.args.number) c.reserve.ensures.items c.deref.ensures.value c.in-Err.ensures
    c.new-client.ensures refl c.in-Ok.ensures.items

pub returns-clause-sound : goal.returns-clause-sound
returns-clause-sound c = sound_begun c.args.hall.now _ c.args.number c.requires.sound c.requires.new refl (returns-clause-clients c)

pub returns-clause-told : goal.returns-clause-told
returns-clause-told c = λ files. carries_begun c.args.hall.now _ c.args.number files refl (returns-clause-clients c)
