use Rattle.std.proofs.Common.{◌<◌, refl, subst, sym}
use Rattle.std.specs.Vec.{with_item}
use Rattle.floor_rooms.specs.declared.room.Room.{Room}
use Rattle.floor_rooms.specs.declared.hall.Hall.{Hall}
use Rattle.floor_moves.proofs.Clearing.{paid_at, pay_keeps, pay_sound, pay_stands}
use Rattle.floor_moves.specs.Copying.{Owes}
use Rattle.floor_moves.proofs.Placed.{has_within, read_has, read_sound}
use Rattle.floor_moves.proofs.paying.pay.Goals as goal

pub index_mut-requires : goal.index_mut-requires
index_mut-requires c = subst (λ n. c.args.i < n) (sym c.args.hall.now.rooms.ok.0) (has_within c.args.i (Owes c.args.channel) c.args.hall.now.rooms.items c.requires.owes)

pub paid-requires-clause-settled : goal.paid-requires-clause-settled
paid-requires-clause-settled c =
    let is = read_sound c.args.hall.now c.args.i (Owes c.args.channel) c.index_mut.result.now c.requires.sound c.requires.owes c.index_mut.ensures.value in
    is.settled

pub paid-requires-clause-owed : goal.paid-requires-clause-owed
paid-requires-clause-owed c = read_has c.args.i (Owes c.args.channel) c.args.hall.now.rooms.items c.index_mut.result.now c.requires.owes c.index_mut.ensures.value

pub returns-clause-rest : goal.returns-clause-rest
returns-clause-rest c = refl

pub returns-clause-room : goal.returns-clause-room
returns-clause-room c =
    let h0 : Hall = c.args.hall.now in
    let r : Room = c.index_mut.result.now in
    let r' : Room = record r { queue = c.paid.new.self } in
    let h1 : Hall = record h0 { rooms = with_item h0.rooms c.args.i r' } in
    paid_at h0 h1 c.args.i c.args.channel c.requires.sound c.requires.owes refl r r' c.index_mut.ensures.value refl (record { same = refl; seen = c.paid.ensures.seen; row = c.paid.ensures.row })

pub returns-clause-stands : goal.returns-clause-stands
returns-clause-stands c =
    let h0 : Hall = c.args.hall.now in
    let r : Room = c.index_mut.result.now in
    let r' : Room = record r { queue = c.paid.new.self } in
    let h1 : Hall = record h0 { rooms = with_item h0.rooms c.args.i r' } in
    pay_stands h0 h1 c.args.i c.args.channel c.requires.sound c.requires.owes refl r r' c.index_mut.ensures.value refl (record { same = refl; seen = c.paid.ensures.seen; row = c.paid.ensures.row })

pub returns-clause-sound : goal.returns-clause-sound
returns-clause-sound c =
    let h0 : Hall = c.args.hall.now in
    let r : Room = c.index_mut.result.now in
    let r' : Room = record r { queue = c.paid.new.self } in
    let h1 : Hall = record h0 { rooms = with_item h0.rooms c.args.i r' } in
    pay_sound h0 h1 c.args.i c.args.channel c.requires.sound c.requires.owes refl r r' c.index_mut.ensures.value refl (record { same = refl; seen = c.paid.ensures.seen; row = c.paid.ensures.row })

pub returns-clause-keeps : goal.returns-clause-keeps
returns-clause-keeps c =
    let h0 : Hall = c.args.hall.now in
    let r : Room = c.index_mut.result.now in
    let r' : Room = record r { queue = c.paid.new.self } in
    let h1 : Hall = record h0 { rooms = with_item h0.rooms c.args.i r' } in
    pay_keeps h0 h1 c.args.i c.args.channel c.requires.sound c.requires.owes refl r r' c.index_mut.ensures.value refl (record { same = refl; seen = c.paid.ensures.seen; row = c.paid.ensures.row })
