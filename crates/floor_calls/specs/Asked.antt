-- What is said to what is asked, by what a hall has.
use Rattle.std.specs.Prelude.{ℕ, if◌then◌else◌, List, Option, Some, None, is_some}
use Rattle.broker_history.specs.declared.ask.Said.{Said}
use Rattle.broker_history.specs.declared.ask.Said.TheVariants.{Done, NoTopic, NoChannel}
use Rattle.floor_rooms.specs.declared.room.Room.{Room}
use Rattle.floor_rooms.specs.Rooms.{stall_in}

-- what is said where a topic, or a channel of it, has to be there
abbrev pub found_where : Option Room → Option (List ℕ) → Said
found_where None channel = NoTopic
found_where (Some r) None = Done
found_where (Some r) (Some channel) = if is_some (stall_in r.stalls.items channel) then Done else NoChannel

-- what is said where a topic is to be made, or a channel of a topic that has to be there
abbrev pub made_where : Option Room → Option (List ℕ) → Said
made_where r None = Done
made_where None (Some channel) = NoTopic
made_where (Some r) (Some channel) = Done
