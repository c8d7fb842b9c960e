use Rattle.std.proofs.Common.{◌^◌, min, refl}
use Rattle.floor_rooms.proofs.Forming.{empty_opens, empty_stands}
use Rattle.floor_rooms.proofs.hall.Hall.new.Goals as goal

pub returns-clause-opens : goal.returns-clause-opens
returns-clause-opens c = λ files.
    empty_opens c.args.options c.args.epoch (min c.args.reading (2 ^ 62)) _ files (record {
      options = refl;
      epoch = refl;
      began_at = c.min-moment.ensures;
      ids_used = refl;
      moment = c.min-moment.ensures;
      stopped = refl;
      stuck = refl;
      unsaved_names = refl;
      clients = c.new.ensures.items;
      rooms = c.new-2.ensures.items;
      pending = c.new-3.ensures.items;
    })

pub returns-clause-stands : goal.returns-clause-stands
returns-clause-stands c = λ files unused.
    empty_stands c.args.options c.args.epoch (min c.args.reading (2 ^ 62)) _ files (record {
      options = refl;
      epoch = refl;
      began_at = c.min-moment.ensures;
      ids_used = refl;
      moment = c.min-moment.ensures;
      stopped = refl;
      stuck = refl;
      unsaved_names = refl;
      clients = c.new.ensures.items;
      rooms = c.new-2.ensures.items;
      pending = c.new-3.ensures.items;
    }) unused
