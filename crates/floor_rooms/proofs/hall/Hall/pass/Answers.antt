use Rattle.std.proofs.Common.{arith, refl}
use Rattle.floor_rooms.proofs.Holding.{holds_same}
use Rattle.floor_rooms.proofs.Sounding.{sound_same}
use Rattle.floor_rooms.proofs.hall.Hall.pass.Goals as goal

pub returns-clause-sound : goal.returns-clause-sound
returns-clause-sound c =
    let early = c.requires.moment in
    let read = c.min.ensures in
    let is = c.max-self.ensures in
    sound_same c.args.self.now _ c.requires (record {
      lowers = record { options = refl; quiet = omega arith; unsaved = omega arith; pending = λ name has. has };
      epoch = refl;
      ids_used = refl;
      moment = omega (arith, early, read, is);
      later = omega (arith, is);
      clients = refl;
    }) refl

pub returns-clause-stands : goal.returns-clause-stands
returns-clause-stands c = λ files s holds.
    let is = c.max-self.ensures in
    holds_same c.args.self.now _ files s (record { options = refl; epoch = refl; ids_used = refl; moment = omega (arith, is); stopped = refl; clients = refl }) refl holds
