use Rattle.std.proofs.Common.{◌≡◌, List, [], None, refl, ◌∙◌, ap, sym, subst}
use Rattle.std.specs.List.{All}
use Rattle.std.proofs.lemmas.List.Elements.{All-cons, All-nil}
use Rattle.floor_rooms.specs.declared.hall.Hall.{Hall}
use Rattle.floor_rooms.specs.Standing.{Carries}
use Rattle.floor_rooms.specs.declared.stall.Stall.{Stall}
use Rattle.floor_rooms.specs.declared.room.Room.{Room}
use Rattle.floor_rooms.specs.Rooms.{room_in, topic_name}
use Rattle.floor_rooms.proofs.Placing.{none_belonging}
use Rattle.floor_rooms.proofs.Growing.{else_added, else_put, else_spaced, on_error, with_sound, with_stands}
use Rattle.floor_rooms.proofs.Dating.{keeps_equal, since_kept}
use Rattle.floor_rooms.proofs.Naming.{names_kept}
use Rattle.floor_rooms.proofs.Spacing.{place_spaced, ranges_spaced, room_called, stall_called}
use Rattle.floor_rooms.proofs.Coming.{came_names, came_since, came_there}
use Rattle.floor_rooms.proofs.hall.Hall.make_both.Goals as goal

pub returns-clause-sound : goal.returns-clause-sound
returns-clause-sound c =
    let rest = c.add_room.ensures.rest in
    with_sound c.reserve_room.new.self c.add_room.new.self c.args.topic c.args.channel c.in_ok-room.room (c.reserve_room.ensures.sound c.requires.sound) (else_added c.reserve_room.new.self c.add_room.new.self _ rest) (ap (λ (x : Hall). x.quiet_until) rest)
    (ap (λ (x : Hall). x.unsaved_from) rest) (ap (λ (x : Hall). x.pending.items) rest)
    (ap (λ (xs : List Room). room_in xs c.args.topic) c.reserve_room.ensures.rooms ∙ none_belonging topic_name c.args.self.now.rooms.items c.args.topic c.args.i c.requires.place) c.in_ok-room.ensures.room c.add_room.ensures.rooms

pub returns-clause-stands : goal.returns-clause-stands
returns-clause-stands c = λ files s holds.
    let rest = c.add_room.ensures.rest in
    with_stands c.reserve_room.new.self c.add_room.new.self c.args.topic c.args.channel c.in_ok-room.room (c.reserve_room.ensures.sound c.requires.sound) (else_added c.reserve_room.new.self c.add_room.new.self _ rest) (ap (λ (x : Hall). x.quiet_until) rest)
    (ap (λ (x : Hall). x.unsaved_from) rest) (ap (λ (x : Hall). x.pending.items) rest)
    (ap (λ (xs : List Room). room_in xs c.args.topic) c.reserve_room.ensures.rooms ∙ none_belonging topic_name c.args.self.now.rooms.items c.args.topic c.args.i c.requires.place) c.in_ok-room.ensures.room c.add_room.ensures.rooms
    files s c.in_ok-room.ensures.room.fresh.named (c.in_ok-room.ensures.stands files) (c.reserve_room.ensures.stands files s holds)

pub returns-clause-there : goal.returns-clause-there
returns-clause-there c =
    let reserved = c.reserve_room.ensures in
    let room = c.in_ok-room.ensures.room in
    came_there c.args.self.now c.reserve_room.new.self c.add_room.new.self c.args.topic c.args.i c.in_ok-room.room reserved.rest c.add_room.ensures.rest reserved.rooms c.add_room.ensures.rooms c.requires.place
    (room_called c.args.topic c.reserve_room.new.self.options c.in_ok-room.room room.queue) c.args.channel room.stall room.stalls (stall_called c.args.topic c.args.channel c.reserve_room.new.self.options room.stall room.fresh)

pub returns-clause-names : goal.returns-clause-names
returns-clause-names c =
    let reserved = c.reserve_room.ensures in
    let room = c.in_ok-room.ensures.room in
    came_names c.args.self.now c.reserve_room.new.self c.add_room.new.self c.args.topic c.args.i c.in_ok-room.room reserved.rest c.add_room.ensures.rest reserved.rooms c.add_room.ensures.rooms c.requires.place
    (room_called c.args.topic c.reserve_room.new.self.options c.in_ok-room.room room.queue)

pub returns-clause-since : goal.returns-clause-since
returns-clause-since c =
    let reserved = c.reserve_room.ensures in
    let room = c.in_ok-room.ensures.room in
    came_since c.args.self.now c.reserve_room.new.self c.add_room.new.self c.args.topic c.args.i c.in_ok-room.room reserved.rest c.add_room.ensures.rest reserved.rooms c.add_room.ensures.rooms c.requires.place
    (room_called c.args.topic c.reserve_room.new.self.options c.in_ok-room.room room.queue) room.since
    (subst (All (λ (s : Stall). s.since ≡ None)) (sym room.stalls) (All-cons (λ (s : Stall). s.since ≡ None) room.stall [] room.fresh.since (All-nil (λ (s : Stall). s.since ≡ None))))

pub returns-clause-rest : goal.returns-clause-rest
returns-clause-rest c = else_put c.args.self.now c.reserve_room.new.self c.add_room.new.self _ c.reserve_room.ensures.rest c.add_room.ensures.rest

pub returns-in_err-reserve_room-clause-rest : goal.returns-in_err-reserve_room-clause-rest
returns-in_err-reserve_room-clause-rest c = else_spaced c.args.self.now c.reserve_room.new.self c.reserve_room.ensures.rest

pub returns-in_err-reserve_room-clause-names : goal.returns-in_err-reserve_room-clause-names
returns-in_err-reserve_room-clause-names c =
    let h = c.args.self.now in
    names_kept h.moment h c.reserve_room.new.self (ap (λ (x : Hall). x.unsaved_names) c.reserve_room.ensures.rest) (keeps_equal h.moment h.rooms.items c.reserve_room.new.self.rooms.items c.reserve_room.ensures.rooms)

pub returns-in_err-reserve_room-clause-since : goal.returns-in_err-reserve_room-clause-since
returns-in_err-reserve_room-clause-since c =
    let h = c.args.self.now in
    since_kept h.moment h.rooms.items c.reserve_room.new.self.rooms.items (keeps_equal h.moment h.rooms.items c.reserve_room.new.self.rooms.items c.reserve_room.ensures.rooms)

pub returns-in_err-room-clause-rest : goal.returns-in_err-room-clause-rest
returns-in_err-room-clause-rest c = else_spaced c.args.self.now c.reserve_room.new.self c.reserve_room.ensures.rest

pub returns-in_err-room-clause-names : goal.returns-in_err-room-clause-names
returns-in_err-room-clause-names c =
    let h = c.args.self.now in
    names_kept h.moment h c.reserve_room.new.self (ap (λ (x : Hall). x.unsaved_names) c.reserve_room.ensures.rest) (keeps_equal h.moment h.rooms.items c.reserve_room.new.self.rooms.items c.reserve_room.ensures.rooms)

pub returns-in_err-room-clause-since : goal.returns-in_err-room-clause-since
returns-in_err-room-clause-since c =
    let h = c.args.self.now in
    since_kept h.moment h.rooms.items c.reserve_room.new.self.rooms.items (keeps_equal h.moment h.rooms.items c.reserve_room.new.self.rooms.items c.reserve_room.ensures.rooms)

pub room_with-requires : goal.room_with-requires
room_with-requires c = ranges_spaced c.args.self.now c.reserve_room.new.self c.requires.sound c.reserve_room.ensures.rest

pub add_room-requires-clause-place : goal.add_room-requires-clause-place
add_room-requires-clause-place c =
    place_spaced c.args.self.now.rooms.items c.reserve_room.new.self.rooms.items c.args.topic (topic_name c.in_ok-room.room) c.args.i c.reserve_room.ensures.rooms (room_called c.args.topic c.reserve_room.new.self.options c.in_ok-room.room c.in_ok-room.ensures.room.queue) c.requires.place

pub returns-in_err-reserve_room-clause-sound : goal.returns-in_err-reserve_room-clause-sound
returns-in_err-reserve_room-clause-sound c = c.reserve_room.ensures.sound c.requires.sound

pub returns-in_err-room-clause-sound : goal.returns-in_err-room-clause-sound
returns-in_err-room-clause-sound c = c.reserve_room.ensures.sound c.requires.sound

pub returns-in_err-reserve_room-clause-stays : goal.returns-in_err-reserve_room-clause-stays
returns-in_err-reserve_room-clause-stays c = λ files. on_error c.from_residual.result (Carries c.args.self.now files c.reserve_room.new.self files (λ s t. t ≡ s)) (λ s holds. (s, refl, c.reserve_room.ensures.stands files s holds))

pub returns-in_err-room-clause-stays : goal.returns-in_err-room-clause-stays
returns-in_err-room-clause-stays c = λ files. on_error c.from_residual-in_err-room.result (Carries c.args.self.now files c.reserve_room.new.self files (λ s t. t ≡ s)) (λ s holds. (s, refl, c.reserve_room.ensures.stands files s holds))

pub add_room-requires-clause-space : goal.add_room-requires-clause-space
add_room-requires-clause-space c = c.in_ok-reserve_room.ensures.space
