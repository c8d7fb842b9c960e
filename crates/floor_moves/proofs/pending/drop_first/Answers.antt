use Rattle.std.proofs.Common.{drop, refl, ap, ◌∙◌}
use Rattle.floor_rooms.specs.declared.hall.Hall.{Hall}
use Rattle.floor_moves.proofs.Unlisting.{dropped_sound, with_pending}
use Rattle.floor_moves.proofs.pending.drop_first.Goals as goal

pub returns-clause-sound : goal.returns-clause-sound
returns-clause-sound c = λ name more was.
    let h : Hall = c.args.hall.now in
    dropped_sound h (record h { pending = c.pop_front.new.self }) name more c.requires.sound was (c.pop_front.ensures.rest ∙ ap (drop 1) was) (c.requires.unlisted name more was)

pub returns-clause-stands : goal.returns-clause-stands
returns-clause-stands c = λ files s holds.
    let h : Hall = c.args.hall.now in
    with_pending h (record h { pending = c.pop_front.new.self }) files s refl holds

pub returns-clause-drops : goal.returns-clause-drops
returns-clause-drops c = λ name more was. c.pop_front.ensures.rest ∙ ap (drop 1) was
