-- Where the channel of a client stands in a hall.
use Rattle.std.specs.Prelude.{◌≡◌, ℕ, true, false, List, Option, Some, None, slice_get}
use Rattle.broker_history.specs.State.{Client, Route, has_channel, is_subscribed}
use Rattle.floor_rooms.specs.declared.stall.Stall.{Stall}
use Rattle.floor_rooms.specs.declared.room.Room.{Room}
use Rattle.floor_rooms.specs.Rooms.{channel_name, topic_name}
use Rattle.floor_acts.specs.declared.spots.Spot.{Spot}

-- the channel of these names stands there
pub record StandsIn (rooms : List Room) (spot : Spot) (route : Route) : Type 0 where
  pub room : Room
  pub stall : Stall
  pub there : slice_get rooms spot.room ≡ Some room
  pub has : slice_get room.stalls.items spot.stall ≡ Some stall
  pub topic : topic_name room ≡ route.topic
  pub channel : channel_name stall ≡ route.channel

-- where the channel of these names stands; None exactly where there are none
abbrev pub IsSpotOf : List Room → Option Route → Option Spot → Type 0
IsSpotOf rooms None None = Unit {0}
IsSpotOf rooms None (Some spot) = ⊥
IsSpotOf rooms (Some route) None = ⊥
IsSpotOf rooms (Some route) (Some spot) = StandsIn rooms spot route

-- the client gets messages of the channel that stands there
pub record GetsOf (rooms : List Room) (spot : Spot) (c : Client) : Type 0 where
  pub route : Route
  pub on : c.route ≡ Some route
  pub gets : is_subscribed c.phase ≡ true
  pub stands : StandsIn rooms spot route

-- where the channel stands whose messages a client gets; None where it gets none
abbrev pub IsSpotFor : List Room → Client → Option Spot → Type 0
IsSpotFor rooms c None = is_subscribed c.phase ≡ true → (topic channel : List ℕ) → has_channel topic channel c ≡ false
IsSpotFor rooms c (Some spot) = GetsOf rooms spot c
