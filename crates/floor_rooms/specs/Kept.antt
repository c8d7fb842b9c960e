-- What the file of names keeps of a hall, and that a change of it is told.
use Rattle.std.specs.Prelude.{◌≡◌, false, List, map}
use Rattle.path_image.specs.Data.{KeptChannel, KeptTopic, durable}
use Rattle.floor_rooms.specs.declared.stall.Stall.{Stall}
use Rattle.floor_rooms.specs.declared.room.Room.{Room}
use Rattle.floor_rooms.specs.declared.hall.Hall.{Hall}
use Rattle.floor_rooms.specs.Rooms.{channel_name, topic_name}

-- a channel, a topic with its durable channels, and the durable topics of a hall, as they are kept
abbrev pub stall_kept : Stall → KeptChannel
stall_kept x = record { name = channel_name x; paused = x.channel.paused }

abbrev pub room_kept : Room → KeptTopic
room_kept r = record { name = topic_name r; paused = r.queue.paused; channels = map stall_kept (durable channel_name r.stalls.items) }

abbrev pub hall_kept : Hall → List KeptTopic
hall_kept h = map room_kept (durable topic_name h.rooms.items)

-- where nothing is said to be unsaved nothing was before, and what is kept is as it was
pub record NamesTold (old new : Hall) : Type 0 where
  pub before : new.unsaved_names ≡ false → old.unsaved_names ≡ false
  pub same : new.unsaved_names ≡ false → hall_kept new ≡ hall_kept old
