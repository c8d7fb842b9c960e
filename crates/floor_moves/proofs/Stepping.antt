-- One entry was noted with its end, and that is a step.
use Rattle.std.proofs.Common.{◌≡◌, ◌≤◌, ℕ, Bool, false, [], ◌∷◌, ◌++◌, Option, Some, refl, ap, subst, ◌∙◌, arith}
use Rattle.std.specs.Prelude.{IsTrue, IfSome}
use Rattle.nsq_outside.specs.Causes.{Rose}
use Rattle.nsq_outside.specs.Files.{Files}
use Rattle.nsq_outside.specs.Journals as journals
use Rattle.nsq_outside.specs.declared.journal.End.{End}
use Rattle.nsq_outside.specs.declared.journal.End.TheVariants.{Done, Faulted}
use Rattle.broker_history.specs.declared.entry.Act.{Act}
use Rattle.broker_history.specs.declared.entry.Entry.{Entry}
use Rattle.broker_history.specs.State.{State, at_moment}
use Rattle.broker_history.specs.Entries.{History}
use Rattle.broker_history.specs.Step.{Step, DoesAct, IsAllowedAct, IsDaemons}
use Rattle.floor_rooms.specs.declared.hall.Hall.{Hall}
use Rattle.floor_rooms.specs.Sound.{IsSound}
use Rattle.floor_rooms.specs.Standing.{HoldsFor}
use Rattle.floor_rooms.proofs.Orders.{holds_at}
use Rattle.floor_moves.specs.Moves.{sight, NothingNoted, RoseBy, Keeps, entry_at}

-- what was aside is noted
abbrev pub Noted : (tells : Bool) (old mid new : History) (kept : Option Entry) (entry : Entry) (end : End) → Type 0
Noted tells old mid new kept entry end = (IsTrue tells → kept ≡ Some entry) × (IsTrue tells → mid ≡ old) × (IsTrue tells → IfSome kept (λ e. journals.Notes mid new e end))

if_some : {X : Type 0} (o : Option X) (x : X) (P : X → Type 0) → o ≡ Some x → IfSome o P → P x
if_some o x P e h = subst (λ u. IfSome u P) e h

pub noted_done : (tells : Bool) (old mid new : History) (kept : Option Entry) (entry : Entry) → Noted tells old mid new kept entry Done → IsTrue tells → new ≡ old ++ (entry, Done) ∷ []
noted_done tells old mid new kept entry h told = if_some kept entry (λ e. journals.Notes mid new e Done) (h.0 told) (h.2 told) ∙ ap (λ xs. xs ++ (entry, Done) ∷ []) (h.1 told)

pub noted_fault : (tells : Bool) (old mid new : History) (kept : Option Entry) (entry : Entry) → Noted tells old mid new kept entry (Faulted 0) → IsTrue tells → new ≡ old ++ (entry, Faulted 0) ∷ []
noted_fault tells old mid new kept entry h told = if_some kept entry (λ e. journals.Notes mid new e (Faulted 0)) (h.0 told) (h.2 told) ∙ ap (λ xs. xs ++ (entry, Faulted 0) ∷ []) (h.1 told)

-- the daemon is running where the hall is
pub daemon : (h : Hall) (files : Files) (s : State) → h.stopped ≡ false → HoldsFor h files s → IsDaemons s 0
daemon h files s running holds = record { daemon = refl; running = holds.stands.stopped ∙ running }

-- a state that the hall stands for, with what an act makes of it, steps there at the hall's moment
pub steps_to : (h h' : Hall) (old new : Files) (s t : State) (act : Act) (end : End) → IsSound h → Keeps h h' → HoldsFor h old s → IsAllowedAct s h.moment 0 act end → DoesAct s h.moment 0 act end t → HoldsFor h' new t
    → (u : State) × Step s (entry_at h.moment act, end) u × HoldsFor h' new u
steps_to h h' old new s t act end sound keeps holds allowed does after =
    let same = keeps.moment in (
      at_moment t h.moment,
      record { allowed = allowed; later = holds.stands.moment; bounded = sound.moment; between = t; does = does; is = refl },
      holds_at h' new t h.moment (omega (arith, same)) after,
    )

-- no fault, one fault
pub rose_none : (before now : ℕ) → before ≤ now → RoseBy 0 before now
rose_none before now h = omega (arith, h)

pub rose_one : (before now : ℕ) → Rose before now → RoseBy 1 before now
rose_one before now h = h

-- nothing was done
pub rests_same : (tells_notes tells_files : Bool) (h : Hall) (old new : History) (files : Files) (faults : ℕ) → (IsTrue tells_notes → new ≡ old) → NothingNoted tells_notes tells_files (sight h old files faults) (sight h new files faults)
rests_same tells_notes tells_files h old new files faults noted = record { noted = noted; same = λ told s holds. holds; faults = omega arith }
