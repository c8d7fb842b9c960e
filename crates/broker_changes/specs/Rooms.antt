-- How much room a channel has, as the definitions have it.
use Rattle.broker_history.specs.Channels as channels
use Rattle.broker_changes.specs.declared.channels.Room.{Room}

abbrev pub room_of : Room → channels.Room
room_of room = record { ephemeral = room.ephemeral; mem = room.mem }
