use Rattle.std.proofs.Common.{List, sym, subst}
use Rattle.broker_history.specs.State.{Client}
use Rattle.floor_rooms.specs.ClientPlaces.{AreInOrder, BelongsAt, StandsAt}
use Rattle.floor_rooms.proofs.hall.Hall.client_place.Goals as goal

pub returns-in-Ok : goal.returns-in-Ok
returns-in-Ok c = subst (λ (cs : List Client). StandsAt cs c.args.number c.in-Ok.k) c.deref.ensures.value c.in-Ok.ensures

pub returns-in-Err : goal.returns-in-Err
returns-in-Err c = let belongs = subst (λ (cs : List Client). BelongsAt cs c.args.number c.in-Err.field-0) c.deref.ensures.value c.in-Err.ensures in belongs.found

pub place_of-requires : goal.place_of-requires
place_of-requires c = subst AreInOrder (sym c.deref.ensures.value) c.requires.client_order
