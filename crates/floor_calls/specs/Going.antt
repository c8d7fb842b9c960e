-- When a channel goes with its last client, and what is left of a hall once something went.
use Rattle.std.specs.Prelude.{ℕ, Bool, ◌&&◌, List, IsSome}
use Rattle.broker_history.specs.State.{is_empty, is_ephemeral_channel}
use Rattle.floor_rooms.specs.declared.stall.Stall.{Stall}
use Rattle.floor_rooms.specs.declared.room.Room.{Room}
use Rattle.floor_rooms.specs.Rooms.{channel_name, room_in, stall_at}

-- whether a channel of a topic is ephemeral and has no client
abbrev pub is_deserted : (topic : List ℕ) → Stall → Bool
is_deserted topic x = is_ephemeral_channel topic (channel_name x) && is_empty x.members.items

-- each topic and each channel that is there was there before
pub record NoneComes (old new : List Room) : Type 0 where
  pub topics : (topic : List ℕ) → IsSome (room_in new topic) → IsSome (room_in old topic)
  pub channels : (topic channel : List ℕ) → IsSome (stall_at new topic channel) → IsSome (stall_at old topic channel)
