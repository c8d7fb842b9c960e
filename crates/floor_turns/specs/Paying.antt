-- What is paid in a turn before its act: moves that are due, one after another.
use Rattle.std.specs.Prelude.{◌≡◌, ◌≢◌, ◌<◌, ◌≤◌, ℕ, Bool, true, false, IsTrue, [], ◌++◌, length}
use Rattle.nsq_outside.specs.Causes.{Rose}
use Rattle.broker_history.specs.State.{State}
use Rattle.broker_history.specs.Entries.{History, faults_of}
use Rattle.broker_history.specs.Before.{MayAct, MayStop, is_any_due, is_stuck_at, most_moves}
use Rattle.broker_history.specs.Legal.{Legal}
use Rattle.floor_rooms.specs.declared.hall.Hall.{Hall}
use Rattle.floor_rooms.specs.Sound.{IsSound}
use Rattle.floor_rooms.specs.Standing.{HoldsFor}
use Rattle.floor_moves.specs.Moves.{Sight, Notes, NothingNoted, RoseBy}
use Rattle.floor_moves.specs.declared.made.Made.{Made}
use Rattle.floor_moves.specs.declared.made.Made.TheVariants as made
use Rattle.floor_laws.specs.Laid.{AreMoved, AreHeldBack, EndsStuck, IsMoved}
use Rattle.floor_turns.specs.declared.paying.Paid.{Paid}
use Rattle.floor_turns.specs.declared.paying.Paid.TheVariants.{Clear, Most, Stuck, Wants}
use Rattle.floor_turns.specs.declared.paying.Moved.{Moved}
use Rattle.floor_turns.specs.declared.paying.Moved.TheVariants as moved

-- entries were noted, which lead from each state that the hall stood for to one that it stands for
pub record Extends (tells_notes tells_files : Bool) (Is : History → Type 0) (old new : Sight) : Type 0 where
  pub added : History
  pub is : Is added
  pub noted : IsTrue tells_notes → new.noted ≡ old.noted ++ added
  pub legal : IsTrue tells_files → (s : State) → HoldsFor old.hall old.files s → (t : State) × Legal s added t × HoldsFor new.hall new.files t
  pub rose : IsTrue tells_files → (s : State) → HoldsFor old.hall old.files s → RoseBy (faults_of added) old.faults new.faults
  pub faults : old.faults ≤ new.faults

-- so many moves of this moment were made
pub record AreMade (at made : ℕ) (h : History) : Type 0 where
  pub moved : AreMoved at h
  pub count : length h ≡ made

-- moves of this moment were made, and no more than so many
pub record AreFew (at most : ℕ) (h : History) : Type 0 where
  pub moved : AreMoved at h
  pub few : length h ≤ most

-- what was noted, by how the paying ended
abbrev pub IsPayment : (at most : ℕ) → Paid → History → Type 0
IsPayment at most Clear h = AreFew at most h
IsPayment at most Most h = AreMade at most h
IsPayment at most Stuck h = EndsStuck at most h
IsPayment at most Wants h = AreFew at most h

-- nothing is due in the hall at its moment
pub record IsClear (h : Hall) : Type 0 where
  pub quiet : h.moment < h.quiet_until
  pub none : h.pending.items ≡ []

-- what holds of the hall then, and of the folder's count of faults, by how the paying ended
abbrev pub LeavesHall : Paid → Hall → Type 0
LeavesHall Clear h = IsClear h
LeavesHall _ h = Unit {0}

abbrev pub CountsStuck : (tells_files : Bool) → (old new : Sight) → Paid → Type 0
CountsStuck tells_files old new Stuck = IsTrue tells_files → (s : State) → HoldsFor old.hall old.files s → Rose old.faults new.faults
CountsStuck tells_files old new _ = Unit {0}

-- due moves of the hall's moment were made, no more than so many: until nothing was due any more, until they were so many, until one got stuck, or until
-- memory was wanting
pub record Pays (tells_notes tells_files : Bool) (most : ℕ) (old new : Sight) (paid : Paid) : Type 0 where
  pub extends : Extends tells_notes tells_files (IsPayment old.hall.moment most paid) old new
  pub leaves : LeavesHall paid new.hall
  pub stuck : CountsStuck tells_files old new paid

-- behind what was paid a turn may make its act, also behind what was held back then, where that left no more due
abbrev pub MayActBehind : (at : ℕ) → (paid : History) → State → Type 0
MayActBehind at paid t = (held : History) (u : State) → AreHeldBack at held → (is_any_due t at ≡ false → is_any_due u at ≡ false) → MayAct (paid ++ held) u at

-- so it may wherever memory wasn't wanting, if as many moves were allowed as a turn makes
abbrev pub PaidMayAct : Type 0
PaidMayAct = (tells_notes tells_files : Bool) (most : ℕ) (old new : Sight) (paid : Paid) (pays : Pays tells_notes tells_files most old new paid) → most_moves ≤ most → paid ≢ Wants → IsSound new.hall → new.hall.moment ≡ old.hall.moment
    → (t : State) → HoldsFor new.hall new.files t → MayActBehind old.hall.moment pays.extends.added t

-- and a Stop may be noted unless more was to be paid
abbrev pub PaidMayStop : Type 0
PaidMayStop = (tells_notes tells_files : Bool) (most : ℕ) (old new : Sight) (paid : Paid) (pays : Pays tells_notes tells_files most old new paid) → paid ≢ Wants → paid ≢ Most → IsSound new.hall
    → (t : State) → HoldsFor new.hall new.files t → MayStop pays.extends.added t old.hall.moment

-- how one move ended that was due: it was made at the hall's moment; or a disk fault kept it off, and where all is told the count rose; or nothing was
-- done, as memory was wanting, or nothing is due
abbrev pub MovesNext : (tells_notes tells_files : Bool) → (old new : Sight) → Moved → Type 0
MovesNext tells_notes tells_files old new moved.Done = Notes tells_notes tells_files (IsMoved old.hall.moment) old new
MovesNext tells_notes tells_files old new moved.Stuck = Notes tells_notes tells_files (λ e. is_stuck_at old.hall.moment e ≡ true) old new × (IsTrue tells_files → (s : State) → HoldsFor old.hall old.files s → Rose old.faults new.faults)
MovesNext tells_notes tells_files old new moved.Memory = NothingNoted tells_notes tells_files old new
MovesNext tells_notes tells_files old new moved.Nothing = NothingNoted tells_notes tells_files old new × IsClear new.hall

-- how it ended, by how the one that was tried did
abbrev pub ended : Made → Moved
ended made.Done = moved.Done
ended made.Stuck = moved.Stuck
ended made.Memory = moved.Memory
