-- The causes of endings.
use Rattle.std.proofs.Common.{◌≡◌, ◌≢◌, ◌≤◌, inl, inr, ℕ, Bool, true, false, refl, sym, ◌∙◌, ap, subst, arith}
use Rattle.std.specs.Prelude.{◌⊎◌, IsTrue}
use Rattle.nsq_outside.specs.Causes.{Rose}
use Rattle.nsq_outside.specs.Files.{Files}
use Rattle.path_image.specs.Found.{BadData, EpochSpent, Finding, Found, IsFound, Names}
use Rattle.path_image.proofs.FindingOnce.{one_found}
use Rattle.broker_floor.specs.Opening.{HaveBytes, IsNamesFinding, IsWhy}
use Rattle.daemon_endings.specs.declared.ends.Why.{Why}
use Rattle.daemon_endings.specs.declared.ends.Why.TheVariants as why
use Rattle.broker_floor.specs.Closings.{ShutFails, WhereClean}
use Rattle.daemon_endings.specs.declared.ends.ShutEnd.{ShutEnd}
use Rattle.daemon_endings.specs.declared.ends.ShutEnd.TheVariants as shut
use Rattle.daemon_endings.specs.declared.ends.LoopEnd.{LoopEnd}
use Rattle.daemon_endings.specs.declared.ends.LoopEnd.TheVariants as loop
use Rattle.daemon_endings.specs.Endings.{ending_of, refusal_of, status_of}
use Rattle.daemon_main.specs.Endings.{IsCaused, IsComplete, IsOrWants}
use Rattle.daemon_main.specs.Runs.{IsShut}
use Rattle.daemon_main.specs.Sights.{Counts, NoFault}
use Rattle.daemon_endings.specs.declared.serving.ServeEnd.{ServeEnd}
use Rattle.daemon_endings.specs.declared.serving.ServeEnd.TheVariants as end

-- no count of the folder or the listeners is lower
pub record NoFewer (a b : Counts) : Type 0 where
  pub folder : a.folder ≤ b.folder
  pub accept : a.accept ≤ b.accept

pub rose_wider : (a0 a a' a2 : ℕ) → a0 ≤ a → a' ≤ a2 → Rose a a' → Rose a0 a2
rose_wider a0 a a' a2 l m r = omega (arith, l, m, r)

-- an ending's cause, from earlier counts to later ones
pub caused_wider : (tells_files tells_notes : Bool) (e : ServeEnd) (files : Files) (k0 k k' k2 : Counts) → NoFewer k0 k → NoFewer k' k2 → IsCaused e tells_files tells_notes files k k' → IsCaused e tells_files tells_notes files k0 k2
caused_wider tf tn end.Clean files k0 k k' k2 p q c = c
caused_wider tf tn end.BadData files k0 k k' k2 p q c = c
caused_wider tf tn end.EpochSpent files k0 k k' k2 p q c = c
caused_wider tf tn end.OpeningFault files k0 k k' k2 p q c = rose_wider k0.folder k.folder k'.folder k2.folder p.folder q.folder c
caused_wider tf tn end.StopFault files k0 k k' k2 p q c = λ told tells bytes. rose_wider k0.folder k.folder k'.folder k2.folder p.folder q.folder (c told tells bytes)
caused_wider tf tn end.AcceptFailed files k0 k k' k2 p q c = rose_wider k0.accept k.accept k'.accept k2.accept p.accept q.accept c
caused_wider tf tn end.Memory files k0 k k' k2 p q c = tt

-- numbers by which endings are told apart
abbrev pub end_number : ServeEnd → ℕ
end_number end.Clean = 0
end_number end.BadData = 1
end_number end.EpochSpent = 2
end_number end.OpeningFault = 3
end_number end.StopFault = 4
end_number end.AcceptFailed = 5
end_number end.Memory = 6

pub not_same : (a b : ServeEnd) (P : Type 0) → end_number a ≢ end_number b → a ≡ b → P
not_same a b P d e = absurd (d (ap end_number e))

-- how a run ends whose folder wasn't opened
pub refused_caused : (w : Why) (tells_files tells_notes : Bool) (files files' : Files) (k k' : Counts) → IsWhy w tells_files files files' k.folder k'.folder → IsCaused (refusal_of w) tells_files tells_notes files k k'
refused_caused why.BadData tf tn files files' k k' h = h
refused_caused why.EpochSpent tf tn files files' k k' h = λ told. (h told).0
refused_caused why.Fault tf tn files files' k k' h = h
refused_caused why.Memory tf tn files files' k k' h = tt

pub refused_ends : (w : Why) → (status_of (refusal_of w) ≡ 2) ⊎ (refusal_of w ≡ end.Memory)
refused_ends why.BadData = inl refl
refused_ends why.EpochSpent = inl refl
refused_ends why.Fault = inl refl
refused_ends why.Memory = inr refl

pub refused_unfailed : (w : Why) (P : Type 0) → refusal_of w ≡ end.AcceptFailed → P
refused_unfailed why.BadData P e = not_same _ _ P (λ x. absurd (omega (arith, x))) e
refused_unfailed why.EpochSpent P e = not_same _ _ P (λ x. absurd (omega (arith, x))) e
refused_unfailed why.Fault P e = not_same _ _ P (λ x. absurd (omega (arith, x))) e
refused_unfailed why.Memory P e = not_same _ _ P (λ x. absurd (omega (arith, x))) e

-- the loop ended neither by listeners that failed nor for want of memory
abbrev pub EndsWell : LoopEnd → Type 0
EndsWell loop.Halted = Unit {0}
EndsWell loop.Stopped = Unit {0}
EndsWell loop.Failed = ⊥
EndsWell loop.Memory = ⊥

-- what an ending of a run that served tells of its parts
module _ (looped : LoopEnd) (stopped : Bool) (shutting : ShutEnd) (ended : ServeEnd) (is : ended ≡ ending_of looped stopped shutting) where
  pub record Parts : Type 0 where
    pub stop_noted : ended ≢ end.Memory → stopped ≡ true
    pub shut_clean : IsShut ended → shutting ≡ shut.Clean
    pub shut_fault : ended ≡ end.StopFault → shutting ≡ shut.Fault
    pub loop_failed : ended ≡ end.AcceptFailed → looped ≡ loop.Failed
    pub loop_wants : looped ≡ loop.Memory → ended ≡ end.Memory
    pub loop_well : ended ≡ end.Clean → EndsWell looped

  from_shut : (a : ServeEnd) (P : Type 0) → ended ≡ a → end_number a ≢ 0 → end_number a ≢ 5 → IsShut ended → P
  from_shut a P e d f (inl s) = absurd (d (ap end_number (sym e ∙ s)))
  from_shut a P e d f (inr s) = absurd (f (ap end_number (sym e ∙ s)))

  off : (a b : ServeEnd) (P : Type 0) → ended ≡ a → end_number a ≢ end_number b → ended ≡ b → P
  off a b P e d f = not_same a b P d (sym e ∙ f)

  abbrev loop_number : LoopEnd → ℕ
  loop_number loop.Halted = 0
  loop_number loop.Failed = 1
  loop_number loop.Stopped = 2
  loop_number loop.Memory = 3

  not_loop : (a b : LoopEnd) (P : Type 0) → loop_number a ≢ loop_number b → a ≡ b → P
  not_loop a b P d e = absurd (d (ap loop_number e))

  wants : ended ≡ end.Memory → Parts
  wants e = record {
    stop_noted = λ d. absurd (d e);
    shut_clean = from_shut end.Memory _ e (λ x. absurd (omega (arith, x))) (λ x. absurd (omega (arith, x)));
    shut_fault = off end.Memory end.StopFault _ e (λ x. absurd (omega (arith, x)));
    loop_failed = off end.Memory end.AcceptFailed _ e (λ x. absurd (omega (arith, x)));
    loop_wants = λ _. e;
    loop_well = off end.Memory end.Clean _ e (λ x. absurd (omega (arith, x)));
  }

  faults : ended ≡ end.StopFault → stopped ≡ true → shutting ≡ shut.Fault → looped ≢ loop.Memory → Parts
  faults e holds_so f d = record {
    stop_noted = λ _. holds_so;
    shut_clean = from_shut end.StopFault _ e (λ x. absurd (omega (arith, x))) (λ x. absurd (omega (arith, x)));
    shut_fault = λ _. f;
    loop_failed = off end.StopFault end.AcceptFailed _ e (λ x. absurd (omega (arith, x)));
    loop_wants = λ w. absurd (d w);
    loop_well = off end.StopFault end.Clean _ e (λ x. absurd (omega (arith, x)));
  }

  fails : ended ≡ end.AcceptFailed → stopped ≡ true → shutting ≡ shut.Clean → looped ≡ loop.Failed → Parts
  fails e holds_so f l = record {
    stop_noted = λ _. holds_so;
    shut_clean = λ _. f;
    shut_fault = off end.AcceptFailed end.StopFault _ e (λ x. absurd (omega (arith, x)));
    loop_failed = λ _. l;
    loop_wants = λ w. not_loop loop.Failed loop.Memory _ (λ x. absurd (omega (arith, x))) (sym l ∙ w);
    loop_well = off end.AcceptFailed end.Clean _ e (λ x. absurd (omega (arith, x)));
  }

  cleans : ended ≡ end.Clean → stopped ≡ true → shutting ≡ shut.Clean → EndsWell looped → Parts
  cleans e holds_so f well = record {
    stop_noted = λ _. holds_so;
    shut_clean = λ _. f;
    shut_fault = off end.Clean end.StopFault _ e (λ x. absurd (omega (arith, x)));
    loop_failed = off end.Clean end.AcceptFailed _ e (λ x. absurd (omega (arith, x)));
    loop_wants = λ w. absurd (subst (λ x. EndsWell x) w well);
    loop_well = λ _. well;
  }

  parts_by : (l : LoopEnd) (s : Bool) (h : ShutEnd) → looped ≡ l → stopped ≡ s → shutting ≡ h → ended ≡ ending_of l s h → Parts
  parts_by l false h ls ss hs e = wants e
  parts_by loop.Memory true h ls ss hs e = wants e
  parts_by loop.Halted true shut.Memory ls ss hs e = wants e
  parts_by loop.Failed true shut.Memory ls ss hs e = wants e
  parts_by loop.Stopped true shut.Memory ls ss hs e = wants e
  parts_by loop.Halted true shut.Fault ls ss hs e = faults e ss hs (λ w. not_loop loop.Halted loop.Memory _ (λ x. absurd (omega (arith, x))) (sym ls ∙ w))
  parts_by loop.Failed true shut.Fault ls ss hs e = faults e ss hs (λ w. not_loop loop.Failed loop.Memory _ (λ x. absurd (omega (arith, x))) (sym ls ∙ w))
  parts_by loop.Stopped true shut.Fault ls ss hs e = faults e ss hs (λ w. not_loop loop.Stopped loop.Memory _ (λ x. absurd (omega (arith, x))) (sym ls ∙ w))
  parts_by loop.Failed true shut.Clean ls ss hs e = fails e ss hs ls
  parts_by loop.Halted true shut.Clean ls ss hs e = cleans e ss hs (subst (λ x. EndsWell x) (sym ls) tt)
  parts_by loop.Stopped true shut.Clean ls ss hs e = cleans e ss hs (subst (λ x. EndsWell x) (sym ls) tt)

  pub parts : Parts
  parts = parts_by looped stopped shutting refl refl refl is

  -- a run that served ends in one of four ways
  module _ (P : ServeEnd → Type 0) (clean : P end.Clean) (fault : P end.StopFault) (failed : P end.AcceptFailed) (memory : P end.Memory) where
    served_at : (l : LoopEnd) (s : Bool) (h : ShutEnd) → P (ending_of l s h)
    served_at l false h = memory
    served_at loop.Memory true h = memory
    served_at loop.Halted true shut.Memory = memory
    served_at loop.Failed true shut.Memory = memory
    served_at loop.Stopped true shut.Memory = memory
    served_at loop.Halted true shut.Fault = fault
    served_at loop.Failed true shut.Fault = fault
    served_at loop.Stopped true shut.Fault = fault
    served_at loop.Failed true shut.Clean = failed
    served_at loop.Halted true shut.Clean = clean
    served_at loop.Stopped true shut.Clean = clean

    pub served_ends : P ended
    served_ends = subst P (sym is) (served_at looped stopped shutting)

-- at a clean shutting
pub at_clean : (shutting : ShutEnd) (P : Type 0) → shutting ≡ shut.Clean → WhereClean shutting P → P
at_clean shutting P e w = subst (λ s. WhereClean s P) e w

pub at_fault : (stuck : Bool) (before now : ℕ) (shutting : ShutEnd) → shutting ≡ shut.Fault → ShutFails stuck before now shutting → Rose before now ⊎ (stuck ≡ true)
at_fault stuck before now shutting e f = subst (λ s. ShutFails stuck before now s) e f

-- where no count rose, an ending is that of what was found
module _ (e : ServeEnd) (files : Files) (k k' : Counts) (bytes : HaveBytes files) (cause : IsCaused e true true files k k') where
  cleanly : (c : ServeEnd) (found : Found) → e ≡ c → IsCaused c true true files k k' → IsFound files (Names found) → NoFault k k' → IsOrWants end.Clean e
  cleanly end.Clean found is c f calm = inl is
  cleanly end.Memory found is c f calm = inr is
  cleanly end.BadData found is c f calm = absurd (subst (λ (x : Finding). IsNamesFinding x) (one_found files (Names found) BadData f (c refl)) tt)
  cleanly end.EpochSpent found is c f calm = absurd (subst (λ (x : Finding). IsNamesFinding x) (one_found files (Names found) EpochSpent f (c refl)) tt)
  cleanly end.OpeningFault found is c f calm = absurd (calm.folder c)
  cleanly end.StopFault found is c f calm = absurd (calm.folder (c refl refl bytes))
  cleanly end.AcceptFailed found is c f calm = absurd (calm.accept c)

  badly : (c : ServeEnd) → e ≡ c → IsCaused c true true files k k' → IsFound files BadData → NoFault k k' → IsOrWants end.BadData e
  badly end.BadData is c f calm = inl is
  badly end.Memory is c f calm = inr is
  badly end.Clean is c f calm = absurd (c refl BadData f)
  badly end.EpochSpent is c f calm = absurd (subst (λ (x : Finding). IsBad x) (one_found files BadData EpochSpent f (c refl)) tt)
    where
      IsBad : Finding → Type 0
      IsBad BadData = Unit {0}
      IsBad EpochSpent = ⊥
      IsBad (Names found) = ⊥
  badly end.OpeningFault is c f calm = absurd (calm.folder c)
  badly end.StopFault is c f calm = absurd (calm.folder (c refl refl bytes))
  badly end.AcceptFailed is c f calm = absurd (calm.accept c)

  spent_so : (c : ServeEnd) → e ≡ c → IsCaused c true true files k k' → IsFound files EpochSpent → NoFault k k' → IsOrWants end.EpochSpent e
  spent_so end.EpochSpent is c f calm = inl is
  spent_so end.Memory is c f calm = inr is
  spent_so end.Clean is c f calm = absurd (c refl EpochSpent f)
  spent_so end.BadData is c f calm = absurd (subst (λ (x : Finding). IsSpent x) (one_found files EpochSpent BadData f (c refl)) tt)
    where
      IsSpent : Finding → Type 0
      IsSpent BadData = ⊥
      IsSpent EpochSpent = Unit {0}
      IsSpent (Names found) = ⊥
  spent_so end.OpeningFault is c f calm = absurd (calm.folder c)
  spent_so end.StopFault is c f calm = absurd (calm.folder (c refl refl bytes))
  spent_so end.AcceptFailed is c f calm = absurd (calm.accept c)

  pub completes : IsComplete e files k k'
  completes = record { names = λ found. cleanly e found refl cause; bad_data = badly e refl cause; spent = spent_so e refl cause }

pub completes_told : (e : ServeEnd) (tells_files tells_notes : Bool) (files : Files) (k k' : Counts) → IsTrue tells_files → IsTrue tells_notes → HaveBytes files → IsCaused e tells_files tells_notes files k k' → IsComplete e files k k'
completes_told e tells_files tells_notes files k k' told tells bytes cause = completes e files k k' bytes (subst (λ t. IsCaused e true t files k k') tells (subst (λ t. IsCaused e t tells_notes files k k') told cause))
