use Rattle.std.proofs.Common.{refl}
use Rattle.floor_rooms.proofs.Dating.{keeps_equal, since_kept}
use Rattle.floor_rooms.proofs.Naming.{names_kept}
use Rattle.floor_rooms.proofs.Spacing.{order_read, place_read}
use Rattle.floor_rooms.proofs.Growing.{both_there}
use Rattle.floor_rooms.proofs.Coming.{both_found}
use Rattle.floor_rooms.proofs.hall.Hall.make_stall.Goals as goal

pub returns-in-Ok-place_of-clause-stands : goal.returns-in-Ok-place_of-clause-stands
returns-in-Ok-place_of-clause-stands c = λ files s holds.
    both_there c.args.self.now c.args.topic c.args.channel c.in-Ok.i c.in-Ok-place_of.field-0 c.index.result.now c.in-Ok.ensures c.index.ensures c.in-Ok-place_of.ensures files s holds

pub returns-in-Ok-place_of-clause-there : goal.returns-in-Ok-place_of-clause-there
returns-in-Ok-place_of-clause-there c =
    both_found c.args.self.now.rooms.items c.args.topic c.args.channel c.in-Ok.i c.in-Ok-place_of.field-0 c.index.result.now c.in-Ok.ensures c.index.ensures c.in-Ok-place_of.ensures

pub returns-in-Ok-place_of-clause-names : goal.returns-in-Ok-place_of-clause-names
returns-in-Ok-place_of-clause-names c =
    let h = c.args.self.now in
    names_kept h.moment h h refl (keeps_equal h.moment h.rooms.items h.rooms.items refl)

pub returns-in-Ok-place_of-clause-since : goal.returns-in-Ok-place_of-clause-since
returns-in-Ok-place_of-clause-since c =
    let h = c.args.self.now in
    since_kept h.moment h.rooms.items h.rooms.items (keeps_equal h.moment h.rooms.items h.rooms.items refl)

pub place_of-requires : goal.place_of-requires
place_of-requires c = c.requires

pub place_of-requires-in-Ok : goal.place_of-requires-in-Ok
place_of-requires-in-Ok c = order_read c.args.self.now c.in-Ok.i c.args.topic c.index.result.now c.requires c.in-Ok.ensures c.index.ensures

pub grow-requires-clause-sound : goal.grow-requires-clause-sound
grow-requires-clause-sound c = c.requires

pub grow-requires-clause-there : goal.grow-requires-clause-there
grow-requires-clause-there c = c.in-Ok.ensures

pub make_both-requires-clause-sound : goal.make_both-requires-clause-sound
make_both-requires-clause-sound c = c.requires

pub make_both-requires-clause-place : goal.make_both-requires-clause-place
make_both-requires-clause-place c = c.in-Err.ensures

pub returns-in-Ok-place_of-clause-sound : goal.returns-in-Ok-place_of-clause-sound
returns-in-Ok-place_of-clause-sound c = c.requires

pub grow-requires-clause-place : goal.grow-requires-clause-place
grow-requires-clause-place c = place_read c.args.self.now c.in-Ok.i c.in-Err-place_of.j c.args.topic c.args.channel c.index.result.now c.in-Ok.ensures c.index.ensures c.in-Err-place_of.ensures
