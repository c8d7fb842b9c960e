-- A backlog's ring holds as many after each call.
use Rattle.std.proofs.Common.{◌≡◌, ap}
use Rattle.v2_frame.specs.declared.message.Message.{Message}
use Rattle.backlog.specs.Emptied.{Emptied}
use Rattle.backlog.specs.Emptied.TheVariants as emptying
use Rattle.backlog.specs.Seen.{Seen as Backlog, PutSeen, DrawSeen, DrawsOne, FindsNone, of_ring, of_disk, no_queue, no_record, SettleSeen, FlushSeen, EmptySeen}
use Rattle.backlog.specs.declared.backlog.Lent.{Lent}
use Rattle.backlog.specs.declared.backlog.Lent.TheVariants as lending
use Rattle.backlog.specs.declared.answers.PutOne.{PutOne}
use Rattle.backlog.specs.declared.answers.PutOne.TheVariants.{Kept, Dropped, Spilled, Fault}
use Rattle.backlog.specs.declared.answers.Drawn.{Drawn as FromBacklog}
use Rattle.backlog.specs.declared.answers.Drawn.TheVariants as drawing
use Rattle.backlog.specs.declared.answers.Flushed.{Flushed}
use Rattle.backlog.specs.declared.answers.Flushed.TheVariants.{Done as FlushDone, Fault as FlushFault}

pub put_capacity : (old new : Backlog) (m : Message) (answer : PutOne) → PutSeen old new m answer → new.capacity ≡ old.capacity
put_capacity old new m Kept s = ap (λ (b : Backlog). b.capacity) s
put_capacity old new m Dropped s = ap (λ (b : Backlog). b.capacity) s
put_capacity old new m Spilled s = ap (λ (b : Backlog). b.capacity) s.is
put_capacity old new m (Fault back) s = ap (λ (b : Backlog). b.capacity) s.1

one_capacity : (old new : Backlog) (m : Message) → DrawsOne old new m → new.capacity ≡ old.capacity
one_capacity old new m (of_ring was is) = ap (λ (b : Backlog). b.capacity) is
one_capacity old new m (of_disk p) = ap (λ (b : Backlog). b.capacity) p.is

none_capacity : (old new : Backlog) → FindsNone old new → new.capacity ≡ old.capacity
none_capacity old new (no_queue ring queue is) = ap (λ (b : Backlog). b.capacity) is
none_capacity old new (no_record p) = ap (λ (b : Backlog). b.capacity) p.is

pub draw_capacity : (old new : Backlog) (answer : FromBacklog) → DrawSeen old new answer → new.capacity ≡ old.capacity
draw_capacity old new (drawing.Got m) s = one_capacity old new m s
draw_capacity old new drawing.Empty s = none_capacity old new s
draw_capacity old new drawing.Fault s = ap (λ (b : Backlog). b.capacity) s.is
draw_capacity old new drawing.Damaged s = ap (λ (b : Backlog). b.capacity) s.peeks.is
draw_capacity old new drawing.Memory s = ap (λ (b : Backlog). b.capacity) s.peeks.is

pub settle_capacity : (l : Lent) (old new : Backlog) → SettleSeen l old new → new.capacity ≡ old.capacity
settle_capacity lending.Nothing old new s = absurd s
settle_capacity lending.OfRing old new s = ap (λ (b : Backlog). b.capacity) s
settle_capacity lending.OfDisk old new s = ap (λ (b : Backlog). b.capacity) s.is

pub flush_capacity : (old new : Backlog) (answer : Flushed) → FlushSeen old new answer → new.capacity ≡ old.capacity
flush_capacity old new FlushDone s = ap (λ (b : Backlog). b.capacity) s.0.is
flush_capacity old new FlushFault s = ap (λ (b : Backlog). b.capacity) s.0.is

pub empty_capacity : (old new : Backlog) (answer : Emptied) → EmptySeen old new answer → new.capacity ≡ old.capacity
empty_capacity old new emptying.Done s = ap (λ (b : Backlog). b.capacity) s.0
empty_capacity old new emptying.Fault s = ap (λ (b : Backlog). b.capacity) s.0
