-- What putting a message into the backlog makes of the queued copies.
use Rattle.std.proofs.Common.{◌≡◌, ℕ, ◌+◌, ◌≤◌, ◌<◌, Bool, true, false, ◌&&◌, if◌then◌else◌, List, [], ◌∷◌, ◌++◌, length, Option, Some, None, IsSome, IsTrue, refl, ap, ◌∙◌, arith, length-append}
use Rattle.std.specs.List.{count_by}
use Rattle.nsq_outside.specs.Files.{Files}
use Rattle.v2_frame.specs.declared.message.Message.{Message}
use Rattle.backlog.specs.Queues.{Seen as Queue}
use Rattle.backlog.specs.Seen.{Seen as Backlog}
use Rattle.backlog.specs.Lists.{OnDisk, stored}
use Rattle.backlog.specs.declared.answers.PutOne.{PutOne}
use Rattle.backlog.specs.declared.answers.PutOne.TheVariants.{Kept, Dropped as WasDropped, Spilled, Fault}
use Rattle.broker_history.specs.State.{Copy, Place, Queued, Dropped, is_live}
use Rattle.broker_history.specs.Channels.{one, copy_at, put_back}
use Rattle.channel_copies.specs.Putting.{Around, Puts, IsTaken}
use Rattle.channel_copies.proofs.Counts.{count-cons, count-append}
use Rattle.channel_copies.proofs.Soonest.{not_due, is_due}
use Rattle.channel_core.specs.Seen.{queued_copy}

abbrev pub has_no_disk : Option Queue → Bool
has_no_disk None = true
has_no_disk (Some q) = false

-- where a copy goes that is put back into this backlog, with these on disk
abbrev pub back_place : Option Queue → (capacity : ℕ) → (ring disk : List Message) → Place
back_place queue capacity ring disk = put_back (has_no_disk queue) capacity (length (ring ++ disk))

pub kept_place : (queue : Option Queue) (capacity : ℕ) (ring disk : List Message) (files : Files) → OnDisk queue files disk → length ring < capacity → back_place queue capacity ring disk ≡ Queued
kept_place None capacity ring disk files on room = ap (λ b. if b then Dropped else Queued) (not_due (length (ring ++ disk)) capacity (omega (arith, length-append ring disk, ap length on, room)))
kept_place (Some q) capacity ring disk files on room = refl

pub dropped_place : (queue : Option Queue) (capacity : ℕ) (ring disk : List Message) → queue ≡ None → capacity ≤ length ring → back_place queue capacity ring disk ≡ Dropped
dropped_place queue capacity ring disk none full =
    ap (λ q. back_place q capacity ring disk) none ∙ ap (λ b. if b then Dropped else Queued) (is_due (length (ring ++ disk)) capacity (omega (arith, length-append ring disk, full)))

pub spilled_place : (queue : Option Queue) (capacity : ℕ) (ring disk : List Message) → IsSome queue → back_place queue capacity ring disk ≡ Queued
spilled_place None capacity ring disk some = absurd (let no : ⊥ = cc in no)
spilled_place (Some q) capacity ring disk some = refl

-- the copies that are queued with these messages in the ring and on disk
abbrev pub waits_count : (p : Copy → Bool) → (ring disk : List Message) → ℕ
waits_count p ring disk = count_by (λ m. p (queued_copy m)) (ring ++ disk)

pub waits-split : (p : Copy → Bool) (ring disk : List Message) → waits_count p ring disk ≡ count_by (λ m. p (queued_copy m)) ring + count_by (λ m. p (queued_copy m)) disk
waits-split p ring disk = count-append (λ m. p (queued_copy m)) ring disk

one_more : (p : Copy → Bool) (m : Message) (ms : List Message) → count_by (λ m. p (queued_copy m)) (ms ++ m ∷ []) ≡ count_by (λ m. p (queued_copy m)) ms + one (p (queued_copy m))
one_more p m ms = omega (arith, count-append (λ m. p (queued_copy m)) ms (m ∷ []), count-cons (λ m. p (queued_copy m)) m [])

-- the message joined the queued copies, or was dropped
pub record PutIn (b : Backlog) (disk : List Message) (m : Message) (b' : Backlog) (files : Files) : Type 0 where
  pub to : List Message
  pub on_disk : OnDisk b'.queue files to
  pub counts : (p : Copy → Bool) → waits_count p b.ring disk + one (is_live (back_place b.queue b.capacity b.ring disk) && p (copy_at m (back_place b.queue b.capacity b.ring disk))) ≡ waits_count p b'.ring to

joins : (p : Copy → Bool) (m : Message) (place : Place) → place ≡ Queued → one (is_live place && p (copy_at m place)) ≡ one (p (queued_copy m))
joins p m place is = ap (λ x. one (is_live x && p (copy_at m x))) is

pub put_in : (tells : Bool) (m : Message) (answer : PutOne) (old new : Around) (disk : List Message) → IsTrue tells → IsTaken answer → Puts tells m answer old new → OnDisk old.backlog.queue old.files disk → PutIn old.backlog disk m new.backlog new.files
put_in tells m Kept old new disk told taken p on = record {
  to = disk;
  on_disk = p.list told disk on;
  counts = λ t. omega (
    arith,
    joins t m _ (kept_place old.backlog.queue old.backlog.capacity old.backlog.ring disk old.files on p.place),
    ap (λ (b : Backlog). waits_count t b.ring disk) p.seen,
    waits-split t old.backlog.ring disk,
    waits-split t (old.backlog.ring ++ m ∷ []) disk,
    one_more t m old.backlog.ring,
  );
}
put_in tells m WasDropped old new disk told taken p on = record {
  to = disk;
  on_disk = p.list told disk on;
  counts = λ t. omega (
    arith,
    ap (λ x. one (is_live x && t (copy_at m x))) (dropped_place old.backlog.queue old.backlog.capacity old.backlog.ring disk p.place.1 p.place.0),
    ap (λ (b : Backlog). waits_count t b.ring disk) p.seen,
  );
}
put_in tells m Spilled old new disk told taken p on = record {
  to = disk ++ stored m ∷ [];
  on_disk = p.list told disk on;
  counts = λ t. omega (
    arith,
    joins t m _ (spilled_place old.backlog.queue old.backlog.capacity old.backlog.ring disk p.place.1),
    ap (λ (b : Backlog). waits_count t b.ring (disk ++ stored m ∷ [])) p.seen.is,
    waits-split t old.backlog.ring disk,
    waits-split t old.backlog.ring (disk ++ stored m ∷ []),
    one_more t (stored m) disk,
  );
}
put_in tells m (Fault back) old new disk told taken p on = absurd taken

-- a message that was refused leaves the queued copies
pub record PutNone (b : Backlog) (disk : List Message) (b' : Backlog) (files : Files) : Type 0 where
  pub on_disk : OnDisk b'.queue files disk
  pub same : b'.ring ++ disk ≡ b.ring ++ disk

pub put_none : (tells : Bool) (m back : Message) (old new : Around) (disk : List Message) → IsTrue tells → Puts tells m (Fault back) old new → OnDisk old.backlog.queue old.files disk → PutNone old.backlog disk new.backlog new.files
put_none tells m back old new disk told p on = record { on_disk = p.list told disk on; same = ap (λ (b : Backlog). b.ring ++ disk) p.seen.1 }
