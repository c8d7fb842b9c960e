-- How a flush ends.
use Rattle.std.proofs.Common.{◌≡◌, ◌⊎◌, inl, inr, ℕ, Bool, true, false, List, refl, ap, sym, subst, ◌∙◌}
use Rattle.std.proofs.lemmas.Bool.{false≢true}
use Rattle.nsq_outside.specs.Causes.{Rose}
use Rattle.nsq_outside.specs.Files.{Files}
use Rattle.backlog.specs.Answers.{FlushFails}
use Rattle.backlog.specs.declared.answers.Flushed.{Flushed}
use Rattle.backlog.specs.declared.answers.Flushed.TheVariants.{Done, Fault}
use Rattle.broker_history.specs.State.{State}
use Rattle.floor_rooms.specs.declared.hall.Hall.{Hall}
use Rattle.floor_serving.specs.Flushing.{LeavesOthers, LeavesWhere, MissesFew}
use Rattle.broker_floor.specs.Ending.{FloorFlushFails, flushed_at}

abbrev is_done : Flushed → Bool
is_done Done = true
is_done Fault = false

fault≢done : Fault ≡ Done → ⊥
fault≢done is = false≢true (ap is_done is)

left_at : (stuck : Bool) (flushed : Flushed) (s : State) (files : Files) → LeavesWhere flushed s files → LeavesWhere (flushed_at stuck flushed) s files
left_at true flushed s files h = tt
left_at false flushed s files h = h

pub left_flushed : (stuck : Bool) (flushed answer : Flushed) (s : State) (files : Files) → answer ≡ flushed_at stuck flushed → LeavesWhere flushed s files → LeavesWhere answer s files
left_flushed stuck flushed answer s files is h = subst (λ a. LeavesWhere a s files) (sym is) (left_at stuck flushed s files h)

fails_at : (stuck : Bool) (before now : ℕ) (flushed : Flushed) → FlushFails before now flushed → FloorFlushFails stuck before now (flushed_at stuck flushed)
fails_at true before now flushed h = inr refl
fails_at false before now Done h = refl
fails_at false before now Fault h = inl h

pub fails_flushed : (stuck : Bool) (before now : ℕ) (flushed answer : Flushed) → answer ≡ flushed_at stuck flushed → FlushFails before now flushed → FloorFlushFails stuck before now answer
fails_flushed stuck before now flushed answer is h = subst (FloorFlushFails stuck before now) (sym is) (fails_at stuck before now flushed h)

few_at : (stuck : Bool) (flushed : Flushed) (before now : ℕ) (missed : List (List ℕ)) → MissesFew flushed before now missed → MissesFew (flushed_at stuck flushed) before now missed
few_at true flushed before now missed few = record { done = λ is. absurd (fault≢done is); rose = few.rose }
few_at false flushed before now missed few = few

-- what few queues were missed of is the same, whatever a stop's turn left
pub others_flushed : (stuck : Bool) (flushed answer : Flushed) (before now : ℕ) (h : Hall) (old new : Files) → answer ≡ flushed_at stuck flushed → LeavesOthers flushed before now h old new → LeavesOthers answer before now h old new
others_flushed stuck flushed answer before now h old new is others =
    subst (λ a. LeavesOthers a before now h old new) (sym is) (record { missed = others.missed; few = few_at stuck flushed before now others.missed others.few; left = others.left })
