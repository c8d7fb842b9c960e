-- Messages along a history that keeps them all.
use Rattle.std.proofs.Common.{ℕ, List, [], ◌∷◌, ◌++◌, refl, arith}
use Rattle.std.proofs.lemmas.List.Sums.{sum_by_push}
use Rattle.std.proofs.lemmas.List.Elements.{All-nil}
use Rattle.nsq_outside.specs.declared.journal.End.{End}
use Rattle.broker_history.specs.declared.entry.Entry.{Entry}
use Rattle.broker_history.specs.Entries.{History}
use Rattle.broker_history.specs.Legal.{Legal, more, none}
use Rattle.broker_history.specs.State.{State}
use Rattle.drill_parts.specs.Conserving.{HasOne, HaveOnes, KeepAll, Keeps, MessagesAreConserved, OnesStay}
use Rattle.drill_parts.specs.Counts.{finished, finished_by, published, published_by}
use Rattle.drill_parts.proofs.Acts.{step_keeps}
use Rattle.drill_parts.proofs.States.{StateKeeps, state_same}

module _ (only : List ℕ → List ℕ) where
  -- the front of such a history, and its last entry
  all_front : (h : History) (e : Entry × End) → KeepAll only (h ++ e ∷ []) → KeepAll only h
  all_front [] e all = tt
  all_front (f ∷ h) e all = (all.0, all_front h e all.1)

  all_last : (h : History) (e : Entry × End) → KeepAll only (h ++ e ∷ []) → Keeps only e
  all_last [] e all = all.0
  all_last (f ∷ h) e all = all_last h e all.1

  pub history_keeps : {s u : State} {h : History} → HaveOnes only s.topics → KeepAll only h → Legal s h u → StateKeeps only (published h) (finished h) s u
  history_keeps {s = s} ones all none = state_same only s s ones refl
  history_keeps {s = s} ones all (more {t = t} {u = u} {h = h} {e = e} legal paid step) =
      let before = history_keeps ones (all_front h e all) legal in
      let last = step_keeps only t u e before.ones (all_last h e all) step in
      let a = before.sum in
      let b = last.sum in
      let p = sum_by_push published_by h e in
      let f = sum_by_push finished_by h e in
      record { ones = last.ones; sum = omega (arith, a, b, p, f) }

pub conserved : MessagesAreConserved
conserved only s u h ones all legal = let k = history_keeps only ones all legal in k.sum

pub ones_stay : OnesStay
ones_stay only s u h ones all legal = let k = history_keeps only ones all legal in k.ones

-- without topics there is nothing to keep
pub no_topics : (only : List ℕ → List ℕ) → HaveOnes only []
no_topics only = record { ascending = λ i j d l m. absurd (omega (arith, m)); each = All-nil (HasOne only) }
