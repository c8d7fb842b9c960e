-- A copy's place as the definitions have it.
use Rattle.broker_history.specs.State as state
use Rattle.broker_state.specs.declared.place.Place.{Place}
use Rattle.broker_state.specs.declared.place.Place.TheVariants.{Queued, InFlight, Deferred, Finished, Emptied, Dropped}

abbrev pub place_of : Place → state.Place
place_of Queued = state.Queued
place_of (InFlight client due sent) = state.InFlight client due sent
place_of (Deferred due) = state.Deferred due
place_of Finished = state.Finished
place_of Emptied = state.Emptied
place_of Dropped = state.Dropped
