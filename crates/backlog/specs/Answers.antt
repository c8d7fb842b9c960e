-- When the calls of a backlog fail: only where the folder's count of faults rose in that call, and what is counted where it counts exactly.
use Rattle.std.specs.Prelude.{ℕ, ◌≡◌, ◌⊎◌, Option, None, Some, IfSome, IsTrue, true, false}
use Rattle.nsq_outside.specs.Causes.{Rose, CountsFault}
use Rattle.disk_queue.specs.Seen.{Seen as Queue}
use Rattle.disk_queue.specs.declared.answers.Emptied.{Emptied}
use Rattle.disk_queue.specs.declared.answers.Emptied.TheVariants as emptying
use Rattle.backlog.specs.declared.answers.PutOne.{PutOne}
use Rattle.backlog.specs.declared.answers.PutOne.TheVariants.{Kept, Dropped, Spilled, Fault}
use Rattle.backlog.specs.declared.answers.PutAll.{PutAll}
use Rattle.backlog.specs.declared.answers.PutAll.TheVariants.{Done as AllDone, Fault as AllFault}
use Rattle.backlog.specs.declared.answers.Drawn.{Drawn}
use Rattle.backlog.specs.declared.answers.Drawn.TheVariants as drawn
use Rattle.backlog.specs.declared.answers.Flushed.{Flushed}
use Rattle.backlog.specs.declared.answers.Flushed.TheVariants.{Done as FlushDone, Fault as FlushFault}

abbrev pub PutFails : ℕ → ℕ → PutOne → Type 0
PutFails before now Kept = now ≡ before
PutFails before now Dropped = now ≡ before
PutFails before now Spilled = Unit {0}
PutFails before now (Fault back) = Rose before now

-- a fault is counted, and nothing else but that the save in a put failed
abbrev pub PutCounts : ℕ → ℕ → PutOne → Type 0
PutCounts before now Kept = CountsFault before now false
PutCounts before now Dropped = CountsFault before now false
PutCounts before now Spilled = CountsFault before now false ⊎ CountsFault before now true
PutCounts before now (Fault back) = CountsFault before now true

abbrev pub PutAllFails : ℕ → ℕ → PutAll → Type 0
PutAllFails before now AllDone = Unit {0}
PutAllFails before now AllFault = Rose before now

abbrev pub DrawFails : ℕ → ℕ → Drawn → Type 0
DrawFails before now (drawn.Got message) = Unit {0}
DrawFails before now drawn.Empty = Unit {0}
DrawFails before now drawn.Fault = Rose before now
DrawFails before now drawn.Damaged = Unit {0}
DrawFails before now drawn.Memory = Unit {0}

abbrev pub DrawCounts : ℕ → ℕ → Drawn → Type 0
DrawCounts before now (drawn.Got message) = CountsFault before now false
DrawCounts before now drawn.Empty = CountsFault before now false
DrawCounts before now drawn.Fault = CountsFault before now true
DrawCounts before now drawn.Damaged = CountsFault before now false
DrawCounts before now drawn.Memory = CountsFault before now false

abbrev pub FlushFails : ℕ → ℕ → Flushed → Type 0
FlushFails before now FlushDone = Unit {0}
FlushFails before now FlushFault = Rose before now

-- so does a removal that failed after the emptying, which counts as a failed save
abbrev pub EmptyFails : ℕ → ℕ → Option Queue → Emptied → Type 0
EmptyFails before now queue emptying.Done = IfSome queue (λ q. IsTrue q.saved.failed → Rose before now)
EmptyFails before now queue emptying.Fault = Rose before now

-- where it was emptied, it is counted exactly where the queue's save counts as failed
abbrev pub EmptyCounts : ℕ → ℕ → Option Queue → Emptied → Type 0
EmptyCounts before now None emptying.Done = CountsFault before now false
EmptyCounts before now (Some q) emptying.Done = CountsFault before now q.saved.failed
EmptyCounts before now queue emptying.Fault = CountsFault before now true
