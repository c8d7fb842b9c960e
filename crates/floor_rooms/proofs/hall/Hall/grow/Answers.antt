use Rattle.std.proofs.Common.{◌≡◌, refl, ap}
use Rattle.floor_rooms.specs.declared.hall.Hall.{Hall}
use Rattle.floor_rooms.specs.Standing.{Carries}
use Rattle.floor_rooms.proofs.Growing.{added_stall_sound, added_stall_stands, else_both, else_spaced, on_error, reserved_place, reserved_stands_at}
use Rattle.floor_rooms.proofs.Dating.{keeps_reserved, since_kept}
use Rattle.floor_rooms.proofs.Naming.{names_kept}
use Rattle.floor_rooms.proofs.Spacing.{range_spaced, ranges_spaced, stall_called, stall_spaced}
use Rattle.floor_rooms.proofs.Coming.{grew_names, grew_since, grew_there}
use Rattle.floor_rooms.proofs.hall.Hall.grow.Goals as goal

pub add_stall-requires-clause-place : goal.add_stall-requires-clause-place
add_stall-requires-clause-place c =
    stall_spaced c.args.self.now.rooms.items c.reserve_stall.new.self.rooms.items c.args.i c.args.j c.args.topic c.args.channel c.reserve_stall.new.self.options c.in_ok-stall.stall c.reserve_stall.ensures.room c.requires.place c.in_ok-stall.ensures.stall

pub returns-clause-sound : goal.returns-clause-sound
returns-clause-sound c =
    let sound = c.reserve_stall.ensures.sound c.requires.sound in
    added_stall_sound c.reserve_stall.new.self c.add_stall.new.self c.args.i c.args.j c.args.topic c.args.channel c.in_ok-stall.stall sound c.add_stall.ensures.rest c.add_stall.ensures.room
    (reserved_stands_at c.args.self.now.rooms.items c.reserve_stall.new.self.rooms.items c.args.i c.args.topic c.reserve_stall.ensures.room sound.room_order c.requires.there)
    (reserved_place c.args.self.now.rooms.items c.reserve_stall.new.self.rooms.items c.args.i c.args.j c.args.channel c.reserve_stall.ensures.room c.requires.place) c.in_ok-stall.ensures.stall

pub returns-clause-stands : goal.returns-clause-stands
returns-clause-stands c = λ files s holds.
    let sound = c.reserve_stall.ensures.sound c.requires.sound in
    added_stall_stands c.reserve_stall.new.self c.add_stall.new.self c.args.i c.args.j c.args.topic c.args.channel c.in_ok-stall.stall sound c.add_stall.ensures.rest c.add_stall.ensures.room
    (reserved_stands_at c.args.self.now.rooms.items c.reserve_stall.new.self.rooms.items c.args.i c.args.topic c.reserve_stall.ensures.room sound.room_order c.requires.there)
    (reserved_place c.args.self.now.rooms.items c.reserve_stall.new.self.rooms.items c.args.i c.args.j c.args.channel c.reserve_stall.ensures.room c.requires.place) c.in_ok-stall.ensures.stall
    files s (c.in_ok-stall.ensures.stands files) (c.reserve_stall.ensures.stands files s holds)

pub returns-in_err-reserve_stall-clause-names : goal.returns-in_err-reserve_stall-clause-names
returns-in_err-reserve_stall-clause-names c =
    let h = c.args.self.now in
    names_kept h.moment h c.reserve_stall.new.self (ap (λ (x : Hall). x.unsaved_names) c.reserve_stall.ensures.rest) (keeps_reserved h.moment c.args.i h.rooms.items c.reserve_stall.new.self.rooms.items c.reserve_stall.ensures.room)

pub returns-in_err-reserve_stall-clause-since : goal.returns-in_err-reserve_stall-clause-since
returns-in_err-reserve_stall-clause-since c =
    let h = c.args.self.now in
    since_kept h.moment h.rooms.items c.reserve_stall.new.self.rooms.items (keeps_reserved h.moment c.args.i h.rooms.items c.reserve_stall.new.self.rooms.items c.reserve_stall.ensures.room)

pub returns-in_err-stall-clause-names : goal.returns-in_err-stall-clause-names
returns-in_err-stall-clause-names c =
    let h = c.args.self.now in
    names_kept h.moment h c.reserve_stall.new.self (ap (λ (x : Hall). x.unsaved_names) c.reserve_stall.ensures.rest) (keeps_reserved h.moment c.args.i h.rooms.items c.reserve_stall.new.self.rooms.items c.reserve_stall.ensures.room)

pub returns-in_err-stall-clause-since : goal.returns-in_err-stall-clause-since
returns-in_err-stall-clause-since c =
    let h = c.args.self.now in
    since_kept h.moment h.rooms.items c.reserve_stall.new.self.rooms.items (keeps_reserved h.moment c.args.i h.rooms.items c.reserve_stall.new.self.rooms.items c.reserve_stall.ensures.room)

pub returns-clause-names : goal.returns-clause-names
returns-clause-names c =
    grew_names c.args.self.now c.reserve_stall.new.self c.add_stall.new.self c.args.topic c.args.channel c.args.i c.args.j c.in_ok-stall.stall c.reserve_stall.ensures.rest c.reserve_stall.ensures.room c.add_stall.ensures.room c.add_stall.ensures.unsaved
    (stall_spaced c.args.self.now.rooms.items c.reserve_stall.new.self.rooms.items c.args.i c.args.j c.args.topic c.args.channel c.reserve_stall.new.self.options c.in_ok-stall.stall c.reserve_stall.ensures.room c.requires.place c.in_ok-stall.ensures.stall)

pub returns-clause-since : goal.returns-clause-since
returns-clause-since c =
    grew_since c.args.self.now c.reserve_stall.new.self c.add_stall.new.self c.args.topic c.args.channel c.args.i c.args.j c.in_ok-stall.stall c.reserve_stall.ensures.rest c.reserve_stall.ensures.room c.add_stall.ensures.room c.add_stall.ensures.unsaved
    (stall_spaced c.args.self.now.rooms.items c.reserve_stall.new.self.rooms.items c.args.i c.args.j c.args.topic c.args.channel c.reserve_stall.new.self.options c.in_ok-stall.stall c.reserve_stall.ensures.room c.requires.place c.in_ok-stall.ensures.stall) c.in_ok-stall.ensures.stall.since

pub returns-clause-there : goal.returns-clause-there
returns-clause-there c =
    let sound = c.reserve_stall.ensures.sound c.requires.sound in
    grew_there c.args.self.now c.reserve_stall.new.self c.add_stall.new.self c.args.topic c.args.channel c.args.i c.args.j c.in_ok-stall.stall c.reserve_stall.ensures.rest c.reserve_stall.ensures.room c.add_stall.ensures.room c.add_stall.ensures.unsaved
    (stall_spaced c.args.self.now.rooms.items c.reserve_stall.new.self.rooms.items c.args.i c.args.j c.args.topic c.args.channel c.reserve_stall.new.self.options c.in_ok-stall.stall c.reserve_stall.ensures.room c.requires.place c.in_ok-stall.ensures.stall) sound.room_order
    (reserved_stands_at c.args.self.now.rooms.items c.reserve_stall.new.self.rooms.items c.args.i c.args.topic c.reserve_stall.ensures.room sound.room_order c.requires.there) (stall_called c.args.topic c.args.channel c.reserve_stall.new.self.options c.in_ok-stall.stall c.in_ok-stall.ensures.stall)

pub returns-clause-rest : goal.returns-clause-rest
returns-clause-rest c = else_both c.args.self.now c.reserve_stall.new.self c.add_stall.new.self c.reserve_stall.ensures.rest c.add_stall.ensures.rest

pub returns-in_err-reserve_stall-clause-rest : goal.returns-in_err-reserve_stall-clause-rest
returns-in_err-reserve_stall-clause-rest c = else_spaced c.args.self.now c.reserve_stall.new.self c.reserve_stall.ensures.rest

pub returns-in_err-stall-clause-rest : goal.returns-in_err-stall-clause-rest
returns-in_err-stall-clause-rest c = else_spaced c.args.self.now c.reserve_stall.new.self c.reserve_stall.ensures.rest

pub reserve_stall-requires : goal.reserve_stall-requires
reserve_stall-requires c = c.requires.there.in_range

pub free_stall-requires : goal.free_stall-requires
free_stall-requires c = ranges_spaced c.args.self.now c.reserve_stall.new.self c.requires.sound c.reserve_stall.ensures.rest

pub add_stall-requires-clause-room : goal.add_stall-requires-clause-room
add_stall-requires-clause-room c = range_spaced c.args.self.now.rooms.items c.reserve_stall.new.self.rooms.items c.args.i c.reserve_stall.ensures.room

pub returns-in_err-reserve_stall-clause-sound : goal.returns-in_err-reserve_stall-clause-sound
returns-in_err-reserve_stall-clause-sound c = c.reserve_stall.ensures.sound c.requires.sound

pub returns-in_err-stall-clause-sound : goal.returns-in_err-stall-clause-sound
returns-in_err-stall-clause-sound c = c.reserve_stall.ensures.sound c.requires.sound

pub returns-in_err-reserve_stall-clause-stays : goal.returns-in_err-reserve_stall-clause-stays
returns-in_err-reserve_stall-clause-stays c = λ files. on_error c.from_residual.result (Carries c.args.self.now files c.reserve_stall.new.self files (λ s t. t ≡ s)) (λ s holds. (s, refl, c.reserve_stall.ensures.stands files s holds))

pub returns-in_err-stall-clause-stays : goal.returns-in_err-stall-clause-stays
returns-in_err-stall-clause-stays c = λ files. on_error c.from_residual-in_err-stall.result (Carries c.args.self.now files c.reserve_stall.new.self files (λ s t. t ≡ s)) (λ s holds. (s, refl, c.reserve_stall.ensures.stands files s holds))

pub add_stall-requires-clause-space : goal.add_stall-requires-clause-space
add_stall-requires-clause-space c = c.in_ok-reserve_stall.ensures.space

pub add_stall-requires-clause-list : goal.add_stall-requires-clause-list
add_stall-requires-clause-list c = c.in_ok-reserve_stall.ensures.list
