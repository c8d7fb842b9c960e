-- A client of the program as the client of a state that it is.
use Rattle.std.specs.Prelude.{◌≡◌, ℕ, List, Option, Some, None}
use Rattle.broker_history.specs.State.{Client, Phase, Fresh, Subscribed, Closing, Lost, Route, Channel, flying}
use Rattle.broker_history.specs.Identify.{Identity}
use Rattle.broker_history.specs.Said.{TellsClient}
use Rattle.broker_history.specs.Step.{known_as}
use Rattle.broker_history.specs.declared.stats.ClientStats.{ClientStats}
use Rattle.floor_rooms.specs.declared.standing.Standing.{Standing}
use Rattle.floor_rooms.specs.declared.standing.Standing.TheVariants as stands

-- what the client may do, and its channel
abbrev pub phase_of : Standing → Phase
phase_of stands.Fresh = Fresh
phase_of (stands.Subscribed topic channel) = Subscribed
phase_of (stands.Closing topic channel) = Closing
phase_of (stands.Lost topic channel) = Lost

abbrev pub route : (topic channel : List ℕ) → Option Route
route topic channel = Some (record { topic = topic; channel = channel })

abbrev pub route_of : Standing → Option Route
route_of stands.Fresh = None
route_of (stands.Subscribed topic channel) = route topic channel
route_of (stands.Closing topic channel) = route topic channel
route_of (stands.Lost topic channel) = route topic channel

-- the names of a channel and its topic, as a route
abbrev pub route_named : List ℕ × List ℕ → Route
route_named names = record { topic = names.0; channel = names.1 }

-- the channel that a client has: one that is lost has none any more
abbrev pub channel_of : Standing → Option Route
channel_of stands.Fresh = None
channel_of (stands.Subscribed topic channel) = route topic channel
channel_of (stands.Closing topic channel) = route topic channel
channel_of (stands.Lost topic channel) = None

abbrev pub held_channel : Phase → Option Route → Option Route
held_channel Lost route = None
held_channel phase route = route

-- the client said this of itself
abbrev pub Introduces : (at : ℕ) → Identity → (old new : Client) → Type 0
Introduces at said old new = new ≡ known_as at said old

-- what is told of the client where so many copies are in flight with it
abbrev pub TellsOf : Client → (in_flight : ℕ) → ClientStats → Type 0
TellsOf c in_flight told = (k : Channel) → in_flight ≡ flying c.number k.copies → TellsClient k c told
