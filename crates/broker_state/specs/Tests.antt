-- Tests of a copy's place.
use Rattle.std.specs.Prelude.{Bool}
use Rattle.broker_history.specs.State as state
use Rattle.broker_state.specs.declared.copies.Test.{Test}
use Rattle.broker_state.specs.declared.copies.Test.TheVariants.{Queued, InFlight, Deferred, With}

abbrev pub passes : Test → state.Place → Bool
passes Queued place = state.is_queued place
passes InFlight place = state.is_in_flight place
passes Deferred place = state.is_deferred place
passes (With number) place = state.is_with number place
