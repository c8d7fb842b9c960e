use Rattle.std.proofs.Common.{refl, arith}
use Rattle.floor_rooms.proofs.Marked.{ListsRoom, at_room_read, listed_already, listed_now, listed_room_sound, listed_room_stands}
use Rattle.floor_rooms.proofs.hall.Hall.list_room.Goals as goal

pub returns-then-room-clause-room : goal.returns-then-room-clause-room
returns-then-room-clause-room c =
    let room = c.index_mut-room.result.now in
    let pending = c.args.self.now.pending.items in
    at_room_read c.args.i (ListsRoom pending pending) c.args.self.now.rooms.items room room c.requires.room c.index_mut-room.ensures.value (listed_already room pending c.if-room.true)

pub returns-clause-room : goal.returns-clause-room
returns-clause-room c =
    let room = c.index_mut-room.result.now in
    let pending = c.args.self.now.pending.items in
    at_room_read c.args.i (ListsRoom pending c.push_back_reserved.new.self.items) c.args.self.now.rooms.items room _ c.requires.room c.index_mut-room.ensures.value
    (listed_now room pending c.push_back_reserved.new.self.items c.name-name.result c.if-room.false c.name-name.ensures c.push_back_reserved.ensures.items)

pub returns-then-room-clause-sound : goal.returns-then-room-clause-sound
returns-then-room-clause-sound c = λ sound. listed_room_sound c.args.self.now _ c.args.i sound refl refl refl (returns-then-room-clause-room c)

pub returns-clause-sound : goal.returns-clause-sound
returns-clause-sound c = λ sound. listed_room_sound c.args.self.now _ c.args.i sound refl refl refl (returns-clause-room c)

pub returns-clause-stands : goal.returns-clause-stands
returns-clause-stands c = λ files s holds. listed_room_stands c.args.self.now _ files s c.args.i c.args.self.now.pending.items c.push_back_reserved.new.self.items refl (returns-clause-room c) holds

pub index_mut-room-requires : goal.index_mut-room-requires
index_mut-room-requires c =
    let within = c.requires.room in
    let long = c.args.self.now.rooms.ok.0 in
    omega (arith, within, long)

pub returns-then-room-clause-stands : goal.returns-then-room-clause-stands
returns-then-room-clause-stands c = λ files s holds. listed_room_stands c.args.self.now _ files s c.args.i c.args.self.now.pending.items c.args.self.now.pending.items refl (returns-then-room-clause-room c) holds
