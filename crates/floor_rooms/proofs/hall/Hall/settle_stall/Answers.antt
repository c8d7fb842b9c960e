use Rattle.std.proofs.Common.{refl, arith}
use Rattle.floor_rooms.proofs.Marked.{quiet_at, quiet_none, quiet_some}
use Rattle.floor_rooms.proofs.Sounding.{sound_touched}
use Rattle.floor_rooms.proofs.hall.Hall.settle_stall.Goals as goal

pub returns-in-Some-clause-quiet : goal.returns-in-Some-clause-quiet
returns-in-Some-clause-quiet c =
    quiet_at c.args.self.now.rooms.items c.args.i c.args.j c.index.result.now c.index-2.result.now c.min-self.result c.requires.room c.requires.stall c.index.ensures c.index-2.ensures
    (quiet_some c.index-2.result.now.channel c.in-Some.moment c.args.self.now.quiet_until c.min-self.result c.in-Some.ensures c.min-self.ensures)

pub returns-in-Some-clause-sound : goal.returns-in-Some-clause-sound
returns-in-Some-clause-sound c = λ before touches. let is = c.min-self.ensures in sound_touched before c.args.self.now _ c.args.i c.args.j touches refl (omega (arith, is)) (returns-in-Some-clause-quiet c)

pub returns-in_default-clause-quiet : goal.returns-in_default-clause-quiet
returns-in_default-clause-quiet c =
    quiet_at c.args.self.now.rooms.items c.args.i c.args.j c.index.result.now c.index-2.result.now c.args.self.now.quiet_until c.requires.room c.requires.stall c.index.ensures c.index-2.ensures
    (quiet_none c.index-2.result.now.channel c.args.self.now.quiet_until c.in_default.ensures)

pub returns-in_default-clause-sound : goal.returns-in_default-clause-sound
returns-in_default-clause-sound c = λ before touches. sound_touched before c.args.self.now _ c.args.i c.args.j touches refl (omega arith) (returns-in_default-clause-quiet c)
