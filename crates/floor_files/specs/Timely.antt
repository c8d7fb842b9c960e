-- Which queues of a hall are saved, and which were marked as unsaved not long ago.
use Rattle.std.specs.Prelude.{◌⊎◌, ◌<◌, ℕ, ◌+◌, ◌-◌, ◌^◌, All, IsTrue, Option, Some, None}
use Rattle.disk_queue.specs.Seen.{Seen as Queue}
use Rattle.backlog.specs.Seen.{QueueIsSaved}
use Rattle.floor_rooms.specs.declared.hall.Hall.{Hall}
use Rattle.floor_rooms.specs.declared.room.Room.{Room}
use Rattle.floor_rooms.specs.declared.stall.Stall.{Stall}

-- marked as unsaved, less than the timeout before this moment
abbrev pub IsMarkedLately : (at timeout : ℕ) → (since : Option ℕ) → Type 0
IsMarkedLately at timeout None = ⊥
IsMarkedLately at timeout (Some moment) = at < moment + timeout

-- a queue is saved, or was marked as unsaved less than the sync timeout ago
abbrev pub IsQueueTimely : (at timeout : ℕ) → (since : Option ℕ) → Option Queue → Type 0
IsQueueTimely at timeout since queue = QueueIsSaved queue ⊎ IsMarkedLately at timeout since

pub record IsRoomTimely (at timeout : ℕ) (r : Room) : Type 0 where
  pub queue : IsQueueTimely at timeout r.since r.queue.backlog.queue
  pub stalls : All (λ (s : Stall). IsQueueTimely at timeout s.since s.channel.backlog.queue) r.stalls.items

-- so it is of each queue of a hall
abbrev pub IsTimely : Hall → Type 0
IsTimely h = All (IsRoomTimely h.moment h.options.sync_timeout) h.rooms.items

-- the last save of the queue that was tried failed
abbrev pub HasFailed : Option Queue → Type 0
HasFailed None = ⊥
HasFailed (Some q) = IsTrue q.saved.failed

-- a queue is timely, or a save of it was tried and failed
abbrev pub IsQueueTried : (at timeout : ℕ) → (since : Option ℕ) → Option Queue → Type 0
IsQueueTried at timeout since queue = IsQueueTimely at timeout since queue ⊎ HasFailed queue

pub record IsRoomTried (at timeout : ℕ) (r : Room) : Type 0 where
  pub queue : IsQueueTried at timeout r.since r.queue.backlog.queue
  pub stalls : All (λ (s : Stall). IsQueueTried at timeout s.since s.channel.backlog.queue) r.stalls.items

-- so it is of each queue of a hall
abbrev pub IsTried : Hall → Type 0
IsTried h = All (IsRoomTried h.moment h.options.sync_timeout) h.rooms.items

-- no queue is due to be saved at the hall's moment, by what the hall knows without looking at them
abbrev pub IsEarly : Hall → Type 0
IsEarly h = h.moment < h.unsaved_from + h.options.sync_timeout

-- the mark of a queue, or the greatest number where it has none
abbrev pub mark_or_last : Option ℕ → ℕ
mark_or_last None = 2 ^ 64 - 1
mark_or_last (Some moment) = moment
