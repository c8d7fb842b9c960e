use Rattle.std.proofs.Common.{refl, ap, arith}
use Rattle.floor_rooms.proofs.Marked.{MarksRoom, at_room_read, marked_room_sound, marked_room_stands}
use Rattle.floor_rooms.proofs.Spacing.{mark_leaves}
use Rattle.floor_rooms.proofs.hall.Hall.mark_room.Goals as goal

pub returns-clause-room : goal.returns-clause-room
returns-clause-room c =
    let room = c.index_mut-room.result.now in
    at_room_read c.args.i (MarksRoom c.args.self.now.moment) c.args.self.now.rooms.items room _ c.requires.room c.index_mut-room.ensures.value (ap (λ since. record room { since = since }) c.marked-room.ensures)

pub returns-clause-sound : goal.returns-clause-sound
returns-clause-sound c = marked_room_sound c.args.self.now _ c.args.i c.requires.sound refl refl refl c.min-self.ensures (returns-clause-room c)

pub returns-clause-stands : goal.returns-clause-stands
returns-clause-stands c = λ files s holds. marked_room_stands c.args.self.now _ files s c.args.i refl (returns-clause-room c) holds

pub returns-clause-rest : goal.returns-clause-rest
returns-clause-rest c = mark_leaves c.args.self.now _ _ refl c.min-self.ensures

pub index_mut-room-requires : goal.index_mut-room-requires
index_mut-room-requires c =
    let within = c.requires.room in
    let long = c.args.self.now.rooms.ok.0 in
    omega (arith, within, long)
