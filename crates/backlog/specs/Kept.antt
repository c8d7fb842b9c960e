-- What every backlog keeps.
use Rattle.std.specs.Prelude.{ℕ, ◌≡◌, ◌<◌, ◌≤◌, List, [], All, length, Option, Some, None, IsSome}
use Rattle.v2_frame.specs.declared.message.Message.{Message}
use Rattle.disk_queue.specs.Seen.{Seen as Queue}
use Rattle.backlog.specs.Seen.{ForMessages, FitsLimit}
use Rattle.backlog.specs.declared.backlog.Lent.{Lent}
use Rattle.backlog.specs.declared.backlog.Lent.TheVariants.{Nothing, OfRing, OfDisk}

-- a queue of messages in which nothing is staged
pub record IsQueue (q : Queue) : Type 0 where
  pub options : ForMessages q.options
  pub none_staged : q.staged.count ≡ 0

abbrev pub IsQueueWhere : Option Queue → Type 0
IsQueueWhere None = Unit {0}
IsQueueWhere (Some q) = IsQueue q

-- a queue whose first record is marked
abbrev pub IsMarked : Option Queue → Type 0
IsMarked None = ⊥
IsMarked (Some q) = IsSome q.mark

-- the place of a message that was drawn from the ring stays free; one from disk was drawn past an empty ring, and is marked there
abbrev pub IsLent : List Message → ℕ → Option Queue → Lent → Type 0
IsLent ring capacity queue Nothing = Unit {0}
IsLent ring capacity queue OfRing = length ring < capacity
IsLent ring capacity queue OfDisk = (ring ≡ []) × IsMarked queue

-- the ring is never longer than its capacity, its messages are short, the queue is one of messages, and what is lent can be taken back
pub record IsSound (ring : List Message) (capacity : ℕ) (q : Option Queue) (l : Lent) : Type 0 where
  pub within : length ring ≤ capacity
  pub short : All FitsLimit ring
  pub queue : IsQueueWhere q
  pub lent : IsLent ring capacity q l
