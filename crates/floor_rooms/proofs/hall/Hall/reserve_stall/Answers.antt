use Rattle.std.proofs.Common.{refl, arith}
use Rattle.floor_rooms.specs.Made.{SameStalls}
use Rattle.floor_rooms.proofs.Marked.{at_room_read}
use Rattle.floor_rooms.proofs.Growing.{reserved_sound, reserved_stands}
use Rattle.floor_rooms.proofs.hall.Hall.reserve_stall.Goals as goal

pub returns-in_err-reserve-clause-room : goal.returns-in_err-reserve-clause-room
returns-in_err-reserve-clause-room c = at_room_read c.args.i SameStalls c.args.self.now.rooms.items c.index_mut-room.result.now _ c.requires c.index_mut-room.ensures.value (record { is = refl; stalls = c.reserve.ensures.items })

pub returns-in_err-reserve-clause-sound : goal.returns-in_err-reserve-clause-sound
returns-in_err-reserve-clause-sound c = λ sound. reserved_sound c.args.self.now _ c.args.i refl (returns-in_err-reserve-clause-room c) sound refl refl refl

pub returns-in_err-reserve-clause-stands : goal.returns-in_err-reserve-clause-stands
returns-in_err-reserve-clause-stands c = λ files s holds. reserved_stands c.args.self.now _ c.args.i refl (returns-in_err-reserve-clause-room c) files s holds

pub returns-in_err-reserve-2-clause-room : goal.returns-in_err-reserve-2-clause-room
returns-in_err-reserve-2-clause-room c = at_room_read c.args.i SameStalls c.args.self.now.rooms.items c.index_mut-room.result.now _ c.requires c.index_mut-room.ensures.value (record { is = refl; stalls = c.reserve.ensures.items })

pub returns-in_err-reserve-2-clause-sound : goal.returns-in_err-reserve-2-clause-sound
returns-in_err-reserve-2-clause-sound c = λ sound. reserved_sound c.args.self.now _ c.args.i refl (returns-in_err-reserve-2-clause-room c) sound refl refl c.reserve-2.ensures.items

pub returns-in_err-reserve-2-clause-stands : goal.returns-in_err-reserve-2-clause-stands
returns-in_err-reserve-2-clause-stands c = λ files s holds. reserved_stands c.args.self.now _ c.args.i refl (returns-in_err-reserve-2-clause-room c) files s holds

pub returns-clause-room : goal.returns-clause-room
returns-clause-room c = at_room_read c.args.i SameStalls c.args.self.now.rooms.items c.index_mut-room.result.now _ c.requires c.index_mut-room.ensures.value (record { is = refl; stalls = c.reserve.ensures.items })

pub returns-clause-sound : goal.returns-clause-sound
returns-clause-sound c = λ sound. reserved_sound c.args.self.now _ c.args.i refl (returns-clause-room c) sound refl refl c.reserve-2.ensures.items

pub returns-clause-stands : goal.returns-clause-stands
returns-clause-stands c = λ files s holds. reserved_stands c.args.self.now _ c.args.i refl (returns-clause-room c) files s holds

pub index_mut-room-requires : goal.index_mut-room-requires
index_mut-room-requires c =
    let within = c.requires in
    let long = c.args.self.now.rooms.ok.0 in
    omega (arith, within, long)

pub returns-in_err-reserve-clause-pending : goal.returns-in_err-reserve-clause-pending
returns-in_err-reserve-clause-pending c = refl

pub returns-in_err-reserve-2-clause-pending : goal.returns-in_err-reserve-2-clause-pending
returns-in_err-reserve-2-clause-pending c = c.reserve-2.ensures.items

pub returns-clause-pending : goal.returns-clause-pending
returns-clause-pending c = c.reserve-2.ensures.items
