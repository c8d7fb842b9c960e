use Rattle.std.proofs.Common.{◌≡◌, None, refl, ap, sym, subst}
use Rattle.std.specs.List.{All}
use Rattle.std.proofs.lemmas.List.Elements.{All-nil}
use Rattle.floor_rooms.specs.declared.hall.Hall.{Hall}
use Rattle.floor_rooms.specs.Standing.{Carries}
use Rattle.floor_rooms.specs.declared.stall.Stall.{Stall}
use Rattle.floor_rooms.specs.Rooms.{topic_name}
use Rattle.floor_rooms.proofs.Placing.{there_standing}
use Rattle.floor_rooms.proofs.Forming.{added_made, added_sound, added_stands, added_there, fresh_before, makes_there, there_stands}
use Rattle.floor_rooms.proofs.Dating.{keeps_equal, since_kept}
use Rattle.floor_rooms.proofs.Growing.{else_put, else_spaced, on_error}
use Rattle.floor_rooms.proofs.Naming.{names_kept}
use Rattle.floor_rooms.proofs.Spacing.{place_spaced, room_called}
use Rattle.floor_rooms.proofs.Coming.{came_names, came_since}
use Rattle.floor_rooms.proofs.hall.Hall.make_room.Goals as goal

pub returns-in-Ok-clause-there : goal.returns-in-Ok-clause-there
returns-in-Ok-clause-there c = there_standing topic_name c.args.self.now.rooms.items c.args.topic c.in-Ok.i c.in-Ok.ensures

pub returns-in-Ok-clause-made : goal.returns-in-Ok-clause-made
returns-in-Ok-clause-made c = makes_there c.args.self.now c.args.topic c.in-Ok.i c.in-Ok.ensures

pub returns-in-Ok-clause-stands : goal.returns-in-Ok-clause-stands
returns-in-Ok-clause-stands c = λ files s holds. there_stands c.args.self.now c.args.topic c.in-Ok.i c.in-Ok.ensures files s holds

pub returns-in_ok-room-in-Err-clause-there : goal.returns-in_ok-room-in-Err-clause-there
returns-in_ok-room-in-Err-clause-there c =
    let reserved = c.reserve_room.ensures in
    added_there c.args.self.now c.reserve_room.new.self c.add_room.new.self c.args.topic c.in-Err.i c.in_ok-room-in-Err.room _ reserved.rest c.add_room.ensures.rest reserved.rooms c.add_room.ensures.rooms reserved.pending c.in-Err.ensures c.requires (fresh_before c.args.self.now c.reserve_room.new.self c.args.topic c.in_ok-room-in-Err.room reserved.rest c.in_ok-room-in-Err.ensures.room)

pub returns-in_ok-room-in-Err-clause-made : goal.returns-in_ok-room-in-Err-clause-made
returns-in_ok-room-in-Err-clause-made c =
    let reserved = c.reserve_room.ensures in
    added_made c.args.self.now c.reserve_room.new.self c.add_room.new.self c.args.topic c.in-Err.i c.in_ok-room-in-Err.room _ reserved.rest c.add_room.ensures.rest reserved.rooms c.add_room.ensures.rooms reserved.pending c.in-Err.ensures c.requires (fresh_before c.args.self.now c.reserve_room.new.self c.args.topic c.in_ok-room-in-Err.room reserved.rest c.in_ok-room-in-Err.ensures.room) refl

pub returns-in_ok-room-in-Err-clause-sound : goal.returns-in_ok-room-in-Err-clause-sound
returns-in_ok-room-in-Err-clause-sound c =
    let reserved = c.reserve_room.ensures in
    added_sound c.args.self.now c.reserve_room.new.self c.add_room.new.self c.args.topic c.in-Err.i c.in_ok-room-in-Err.room _ reserved.rest c.add_room.ensures.rest reserved.rooms c.add_room.ensures.rooms reserved.pending c.in-Err.ensures c.requires (fresh_before c.args.self.now c.reserve_room.new.self c.args.topic c.in_ok-room-in-Err.room reserved.rest c.in_ok-room-in-Err.ensures.room)

pub returns-in_ok-room-in-Err-clause-stands : goal.returns-in_ok-room-in-Err-clause-stands
returns-in_ok-room-in-Err-clause-stands c = λ files s holds.
    let reserved = c.reserve_room.ensures in
    added_stands c.args.self.now c.reserve_room.new.self c.add_room.new.self c.args.topic c.in-Err.i c.in_ok-room-in-Err.room _ reserved.rest c.add_room.ensures.rest reserved.rooms c.add_room.ensures.rooms reserved.pending c.in-Err.ensures c.requires (fresh_before c.args.self.now c.reserve_room.new.self c.args.topic c.in_ok-room-in-Err.room reserved.rest c.in_ok-room-in-Err.ensures.room)
    files s (c.in_ok-room-in-Err.ensures.stands files) holds

pub returns-in_err-room-in-Err-clause-since : goal.returns-in_err-room-in-Err-clause-since
returns-in_err-room-in-Err-clause-since c =
    let h = c.args.self.now in
    since_kept h.moment h.rooms.items c.reserve_room.new.self.rooms.items (keeps_equal h.moment h.rooms.items c.reserve_room.new.self.rooms.items c.reserve_room.ensures.rooms)

pub returns-in_err-reserve_room-in-Err-clause-since : goal.returns-in_err-reserve_room-in-Err-clause-since
returns-in_err-reserve_room-in-Err-clause-since c =
    let h = c.args.self.now in
    since_kept h.moment h.rooms.items c.reserve_room.new.self.rooms.items (keeps_equal h.moment h.rooms.items c.reserve_room.new.self.rooms.items c.reserve_room.ensures.rooms)

pub returns-in_ok-room-in-Err-clause-names : goal.returns-in_ok-room-in-Err-clause-names
returns-in_ok-room-in-Err-clause-names c =
    let reserved = c.reserve_room.ensures in
    came_names c.args.self.now c.reserve_room.new.self c.add_room.new.self c.args.topic c.in-Err.i c.in_ok-room-in-Err.room reserved.rest c.add_room.ensures.rest reserved.rooms c.add_room.ensures.rooms c.in-Err.ensures
    (room_called c.args.topic c.reserve_room.new.self.options c.in_ok-room-in-Err.room c.in_ok-room-in-Err.ensures.room.queue)

pub returns-in_ok-room-in-Err-clause-since : goal.returns-in_ok-room-in-Err-clause-since
returns-in_ok-room-in-Err-clause-since c =
    let reserved = c.reserve_room.ensures in
    let fresh = c.in_ok-room-in-Err.ensures.room in
    came_since c.args.self.now c.reserve_room.new.self c.add_room.new.self c.args.topic c.in-Err.i c.in_ok-room-in-Err.room reserved.rest c.add_room.ensures.rest reserved.rooms c.add_room.ensures.rooms c.in-Err.ensures
    (room_called c.args.topic c.reserve_room.new.self.options c.in_ok-room-in-Err.room fresh.queue) fresh.since (subst (All (λ (s : Stall). s.since ≡ None)) (sym fresh.stalls) (All-nil (λ (s : Stall). s.since ≡ None)))

pub returns-in_ok-room-in-Err-clause-rest : goal.returns-in_ok-room-in-Err-clause-rest
returns-in_ok-room-in-Err-clause-rest c = else_put c.args.self.now c.reserve_room.new.self c.add_room.new.self _ c.reserve_room.ensures.rest c.add_room.ensures.rest

pub returns-in_err-reserve_room-in-Err-clause-rest : goal.returns-in_err-reserve_room-in-Err-clause-rest
returns-in_err-reserve_room-in-Err-clause-rest c = else_spaced c.args.self.now c.reserve_room.new.self c.reserve_room.ensures.rest

pub returns-in_err-reserve_room-in-Err-clause-names : goal.returns-in_err-reserve_room-in-Err-clause-names
returns-in_err-reserve_room-in-Err-clause-names c =
    let h = c.args.self.now in
    names_kept h.moment h c.reserve_room.new.self (ap (λ (x : Hall). x.unsaved_names) c.reserve_room.ensures.rest) (keeps_equal h.moment h.rooms.items c.reserve_room.new.self.rooms.items c.reserve_room.ensures.rooms)

pub returns-in_err-room-in-Err-clause-rest : goal.returns-in_err-room-in-Err-clause-rest
returns-in_err-room-in-Err-clause-rest c = else_spaced c.args.self.now c.reserve_room.new.self c.reserve_room.ensures.rest

pub returns-in_err-room-in-Err-clause-names : goal.returns-in_err-room-in-Err-clause-names
returns-in_err-room-in-Err-clause-names c =
    let h = c.args.self.now in
    names_kept h.moment h c.reserve_room.new.self (ap (λ (x : Hall). x.unsaved_names) c.reserve_room.ensures.rest) (keeps_equal h.moment h.rooms.items c.reserve_room.new.self.rooms.items c.reserve_room.ensures.rooms)

pub returns-in-Ok-clause-names : goal.returns-in-Ok-clause-names
returns-in-Ok-clause-names c =
    let h = c.args.self.now in
    names_kept h.moment h h refl (keeps_equal h.moment h.rooms.items h.rooms.items refl)

pub returns-in-Ok-clause-since : goal.returns-in-Ok-clause-since
returns-in-Ok-clause-since c =
    let h = c.args.self.now in
    since_kept h.moment h.rooms.items h.rooms.items (keeps_equal h.moment h.rooms.items h.rooms.items refl)

pub place_of-requires : goal.place_of-requires
place_of-requires c = c.requires

pub add_room-requires-clause-place : goal.add_room-requires-clause-place
add_room-requires-clause-place c =
    place_spaced c.args.self.now.rooms.items c.reserve_room.new.self.rooms.items c.args.topic (topic_name c.in_ok-room-in-Err.room) c.in-Err.i c.reserve_room.ensures.rooms (room_called c.args.topic c.reserve_room.new.self.options c.in_ok-room-in-Err.room c.in_ok-room-in-Err.ensures.room.queue) c.in-Err.ensures

pub returns-in-Ok-clause-sound : goal.returns-in-Ok-clause-sound
returns-in-Ok-clause-sound c = c.requires

pub returns-in_err-reserve_room-in-Err-clause-sound : goal.returns-in_err-reserve_room-in-Err-clause-sound
returns-in_err-reserve_room-in-Err-clause-sound c = c.reserve_room.ensures.sound c.requires

pub returns-in_err-reserve_room-in-Err-clause-pending : goal.returns-in_err-reserve_room-in-Err-clause-pending
returns-in_err-reserve_room-in-Err-clause-pending c = c.reserve_room.ensures.pending

pub returns-in_err-room-in-Err-clause-sound : goal.returns-in_err-room-in-Err-clause-sound
returns-in_err-room-in-Err-clause-sound c = c.reserve_room.ensures.sound c.requires

pub returns-in_err-room-in-Err-clause-pending : goal.returns-in_err-room-in-Err-clause-pending
returns-in_err-room-in-Err-clause-pending c = c.reserve_room.ensures.pending

pub returns-in_err-reserve_room-in-Err-clause-stays : goal.returns-in_err-reserve_room-in-Err-clause-stays
returns-in_err-reserve_room-in-Err-clause-stays c = λ files. on_error c.from_residual.result (Carries c.args.self.now files c.reserve_room.new.self files (λ s t. t ≡ s)) (λ s holds. (s, refl, c.reserve_room.ensures.stands files s holds))

pub returns-in_err-room-in-Err-clause-stays : goal.returns-in_err-room-in-Err-clause-stays
returns-in_err-room-in-Err-clause-stays c = λ files. on_error c.from_residual-in_err-room-in-Err.result (Carries c.args.self.now files c.reserve_room.new.self files (λ s t. t ≡ s)) (λ s holds. (s, refl, c.reserve_room.ensures.stands files s holds))

pub add_room-requires-clause-space : goal.add_room-requires-clause-space
add_room-requires-clause-space c = c.in_ok-reserve_room-in-Err.ensures.space
