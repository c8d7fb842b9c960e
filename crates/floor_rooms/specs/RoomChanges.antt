-- What changes of a hall as one of its topics does with its own queue.
use Rattle.std.specs.Prelude.{◌≡◌, ◌≤◌, ℕ, List, All, Some, IfSome}
use Rattle.nsq_outside.specs.Files.{Files}
use Rattle.channel_core.specs.Lists.{Stands}
use Rattle.broker_history.specs.State.{Topic}
use Rattle.topic_core.specs.Rows.{IsTopicOf}
use Rattle.floor_rooms.specs.declared.room.Room.{Room}
use Rattle.floor_rooms.specs.declared.hall.Hall.{Hall}
use Rattle.floor_rooms.specs.Rooms.{topic_name, room_in, put_room}
use Rattle.floor_rooms.specs.Standing.{longest_delay}
use Rattle.floor_rooms.specs.Changes.{OthersStay}

-- one topic of the hall became another of its name with the same channels, with nothing else but marks and facts for speed; and on disk nothing
-- but the topic's own queue changed
pub record RoomChange (h h' : Hall) (old new : Files) (topic : List ℕ) (room to : Room) : Type 0 where
  pub there : room_in h.rooms.items topic ≡ Some room
  pub named : topic_name to ≡ topic
  pub stalls : to.stalls.items ≡ room.stalls.items
  pub rooms : h'.rooms.items ≡ put_room h.rooms.items to
  pub options : h'.options ≡ h.options
  pub epoch : h'.epoch ≡ h.epoch
  pub ids_used : h'.ids_used ≡ h.ids_used
  pub moment : h.moment ≤ h'.moment
  pub stopped : h'.stopped ≡ h.stopped
  pub clients : h'.clients.items ≡ h.clients.items
  pub others : OthersStay topic old new

-- the topic of a state changes by the row, and the room's queue is the changed one's in these files; the topic's channels stay
pub record LiftsRoom (Row : Topic → Topic → Type 0) (files : Files) (r : Room) (t : Topic) : Type 0 where
  pub to : Topic
  pub row : Row t to
  pub queue : IsTopicOf r.queue files to
  pub stands : Stands r.queue.backlog.queue files
  pub delays : All (λ w. w.message.delay ≤ longest_delay) to.waiting
  pub taken : IfSome to.taken (λ x. x.message.delay ≤ longest_delay)
  pub channels : to.channels ≡ t.channels
