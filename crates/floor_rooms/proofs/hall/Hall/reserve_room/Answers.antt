use Rattle.std.proofs.Common.{refl}
use Rattle.floor_rooms.proofs.Holding.{holds_same}
use Rattle.floor_rooms.proofs.Marked.{else_stays, same_sound}
use Rattle.floor_rooms.proofs.hall.Hall.reserve_room.Goals as goal

pub returns-in_err-reserve-clause-sound : goal.returns-in_err-reserve-clause-sound
returns-in_err-reserve-clause-sound c = λ sound. same_sound c.args.self.now _ sound refl refl refl refl c.reserve.ensures.items

pub returns-in_err-reserve-clause-stands : goal.returns-in_err-reserve-clause-stands
returns-in_err-reserve-clause-stands c = λ files s holds. holds_same c.args.self.now _ files s (else_stays c.args.self.now _ refl) c.reserve.ensures.items holds

pub returns-in_err-reserve-2-clause-sound : goal.returns-in_err-reserve-2-clause-sound
returns-in_err-reserve-2-clause-sound c = λ sound. same_sound c.args.self.now _ sound refl refl refl c.reserve-2.ensures.items c.reserve.ensures.items

pub returns-in_err-reserve-2-clause-stands : goal.returns-in_err-reserve-2-clause-stands
returns-in_err-reserve-2-clause-stands c = λ files s holds. holds_same c.args.self.now _ files s (else_stays c.args.self.now _ refl) c.reserve.ensures.items holds

pub returns-clause-sound : goal.returns-clause-sound
returns-clause-sound c = λ sound. same_sound c.args.self.now _ sound refl refl refl c.reserve-2.ensures.items c.reserve.ensures.items

pub returns-clause-stands : goal.returns-clause-stands
returns-clause-stands c = λ files s holds. holds_same c.args.self.now _ files s (else_stays c.args.self.now _ refl) c.reserve.ensures.items holds

pub returns-in_err-reserve-clause-rooms : goal.returns-in_err-reserve-clause-rooms
returns-in_err-reserve-clause-rooms c = c.reserve.ensures.items

pub returns-in_err-reserve-clause-pending : goal.returns-in_err-reserve-clause-pending
returns-in_err-reserve-clause-pending c = refl

pub returns-in_err-reserve-2-clause-rooms : goal.returns-in_err-reserve-2-clause-rooms
returns-in_err-reserve-2-clause-rooms c = c.reserve.ensures.items

pub returns-in_err-reserve-2-clause-pending : goal.returns-in_err-reserve-2-clause-pending
returns-in_err-reserve-2-clause-pending c = c.reserve-2.ensures.items

pub returns-clause-rooms : goal.returns-clause-rooms
returns-clause-rooms c = c.reserve.ensures.items

pub returns-clause-pending : goal.returns-clause-pending
returns-clause-pending c = c.reserve-2.ensures.items
