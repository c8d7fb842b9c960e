-- What pausing a topic or a channel, or letting it go on, changes of it.
use Rattle.std.specs.Prelude.{◌≡◌, Bool}
use Rattle.floor_rooms.specs.declared.room.Room.{Room}
use Rattle.floor_rooms.specs.declared.stall.Stall.{Stall}

abbrev pub PausesRoom : (on : Bool) → Room → Room → Type 0
PausesRoom on a b = b ≡ record a { queue = record (a.queue) { paused = on } }

abbrev pub PausesStall : (on : Bool) → Stall → Stall → Type 0
PausesStall on a b = b ≡ record a { channel = record (a.channel) { paused = on } }
