-- What is told of the parts of a hall: it is told of each part of a state for which the part stands.
use Rattle.std.specs.Prelude.{◌≡◌, ℕ, List, Option, Some}
use Rattle.nsq_outside.specs.Files.{Files}
use Rattle.broker_history.specs.declared.stats.ClientStats.{ClientStats}
use Rattle.broker_history.specs.declared.stats.ChannelStats.{ChannelStats}
use Rattle.broker_history.specs.declared.stats.TopicStats.{TopicStats}
use Rattle.broker_history.specs.State.{Channel, Client, State, Topic}
use Rattle.broker_history.specs.Said.{TellsChannel, TellsClient, TellsTopic}
use Rattle.floor_rooms.specs.declared.stall.Stall.{Stall}
use Rattle.floor_rooms.specs.declared.room.Room.{Room}
use Rattle.floor_rooms.specs.declared.hall.Hall.{Hall}
use Rattle.floor_rooms.specs.Rooms.{client_in}
use Rattle.floor_rooms.specs.Standing.{HoldsFor, IsRoomOf, IsStallOf}

-- this is told of a client of a channel
abbrev pub IsToldOfClient : Stall → Client → ClientStats → Type 0
IsToldOfClient x c told = (files : Files) (k : Channel) → IsStallOf files x k → TellsClient k c told

-- of the client of a number
abbrev pub IsToldOfNumber : List Client → Stall → (number : ℕ) → ClientStats → Type 0
IsToldOfNumber clients x number told = (c : Client) → client_in clients number ≡ Some c → IsToldOfClient x c told

-- of a channel of a topic
abbrev pub IsToldOfStall : Hall → (topic : List ℕ) → Stall → ChannelStats → Type 0
IsToldOfStall h topic x told = (files : Files) (s : State) (k : Channel) → HoldsFor h files s → IsStallOf files x k → TellsChannel s topic k told

-- of a topic, and of the channel that was asked for or of all
abbrev pub IsToldOfRoom : Hall → (channel : Option (List ℕ)) → Room → TopicStats → Type 0
IsToldOfRoom h channel r told = (files : Files) (s : State) (t : Topic) → HoldsFor h files s → IsRoomOf files r t → TellsTopic s channel t told
