use Rattle.std.proofs.Common.{◌<◌, length, refl, ap, arith}
use Rattle.floor_rooms.specs.Changes.{InRoom}
use Rattle.floor_rooms.proofs.Marked.{MarksStall, at_room_read, in_room_read, marked_stall_sound, marked_stall_stands, range_of}
use Rattle.floor_rooms.proofs.Spacing.{mark_leaves}
use Rattle.floor_rooms.proofs.hall.Hall.mark_stall.Goals as goal

pub index_mut-stall-requires : goal.index_mut-stall-requires
index_mut-stall-requires c =
    let room = c.index_mut.result.now in
    let within : c.args.j < length room.stalls.items = range_of c.args.j c.args.self.now.rooms.items c.args.i room c.index_mut.ensures.value c.requires.stall in
    let long = room.stalls.ok.0 in
    omega (arith, within, long)

pub returns-clause-stall : goal.returns-clause-stall
returns-clause-stall c =
    let room = c.index_mut.result.now in
    let stall = c.index_mut-stall.result.now in
    at_room_read c.args.i (InRoom c.args.j (MarksStall c.args.self.now.moment)) c.args.self.now.rooms.items room _ c.requires.room c.index_mut.ensures.value
    (in_room_read c.args.j (MarksStall c.args.self.now.moment) room _ stall _ (range_of c.args.j c.args.self.now.rooms.items c.args.i room c.index_mut.ensures.value c.requires.stall) c.index_mut-stall.ensures.value refl refl
    (ap (λ since. record stall { since = since }) c.marked-stall.ensures))

pub returns-clause-sound : goal.returns-clause-sound
returns-clause-sound c = marked_stall_sound c.args.self.now _ c.args.i c.args.j c.requires.sound refl refl refl c.min-self.ensures (returns-clause-stall c)

pub returns-clause-stands : goal.returns-clause-stands
returns-clause-stands c = λ files s holds. marked_stall_stands c.args.self.now _ files s c.args.i c.args.j refl (returns-clause-stall c) holds

pub returns-clause-rest : goal.returns-clause-rest
returns-clause-rest c = mark_leaves c.args.self.now _ _ refl c.min-self.ensures

pub index_mut-requires : goal.index_mut-requires
index_mut-requires c =
    let within = c.requires.room in
    let long = c.args.self.now.rooms.ok.0 in
    omega (arith, within, long)
