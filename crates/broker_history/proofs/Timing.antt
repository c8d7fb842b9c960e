-- Entries that were noted in turns have their moments by the readings of a clock.
use Rattle.std.proofs.Common.{◌≡◌, ℕ, ◌+◌, ◌≤◌, Bool, true, false, not, if◌then◌else◌, [], ◌∷◌, ◌++◌, length, refl, sym, ap, subst, ◌∙◌, append_assoc, length-append, arith}
use Rattle.std.specs.List.{AllByRecursion, filter}
use Rattle.std.proofs.lemmas.List.{append-nil}
use Rattle.std.proofs.lemmas.List.Elements.{filter-append}
use Rattle.nsq_outside.specs.declared.journal.End.{End}
use Rattle.broker_history.specs.declared.entry.Entry.{Entry}
use Rattle.broker_history.specs.Entries.{History, is_free_act}
use Rattle.broker_history.specs.Moments.{acts_of, IsFree, IsAt, IsTimed, starts, turn, HasReadings, none, next}

-- acts of two lists
acts-append : (h k : History) → acts_of (h ++ k) ≡ acts_of h + acts_of k
acts-append h k = ap length (filter-append (λ e. not (is_free_act e.0.act)) h k) ∙ length-append (filter (λ e. not (is_free_act e.0.act)) h) (filter (λ e. not (is_free_act e.0.act)) k)

free_none : (h : History) → AllByRecursion IsFree h → acts_of h ≡ 0
free_none [] a = refl
free_none (e ∷ h) a = rw a.0 (free_none h a.1)

-- how far the readings go behind a history
record Goes (coming : ℕ → ℕ) (first : ℕ) (h : History) (most : ℕ) : Type 0 where
  readings : ℕ
  has : HasReadings coming first h readings
  few : readings ≤ most

-- the free entries of a turn, one after another
frees : (coming : ℕ → ℕ) (first made : ℕ) (h k : History) → Goes coming first h (made + 1) → first + acts_of h ≤ made → AllByRecursion IsFree k → AllByRecursion (IsAt coming (made + 1)) k → Goes coming first (h ++ k) (made + 1)
frees coming first made h [] g few free at = subst (λ x. Goes coming first x (made + 1)) (sym (append-nil h)) g
frees coming first made h (e ∷ k) g few free at =
    let one : Goes coming first (h ++ e ∷ []) (made + 1) = record { readings = made + 1; has = next e g.has g.few (omega (arith, few)) at.0; few = omega arith } in
    let same : acts_of (h ++ e ∷ []) ≡ acts_of h + acts_of (e ∷ []) = acts-append h (e ∷ []) in
    let no : acts_of (e ∷ []) ≡ 0 = free_none (e ∷ []) (free.0, tt) in
    subst (λ x. Goes coming first x (made + 1)) (append_assoc h (e ∷ []) k) (frees coming first made (h ++ e ∷ []) k one (omega (arith, few, same, no)) free.1 at.1)

-- there are no more acts than entries
small_one : (e : Entry × End) (k : History) (b : Bool) → acts_of k ≤ length k → length (if b then e ∷ filter (λ x. not (is_free_act x.0.act)) k else filter (λ x. not (is_free_act x.0.act)) k) ≤ length (e ∷ k)
small_one e k true le = omega (arith, le)
small_one e k false le = omega (arith, le)

acts_small : (k : History) → acts_of k ≤ length k
acts_small [] = omega arith
acts_small (e ∷ k) = small_one e k (not (is_free_act e.0.act)) (acts_small k)

-- the act of a turn, if there is one
act_last : (coming : ℕ → ℕ) (first made : ℕ) (h k : History) → Goes coming first h (made + 1) → first + acts_of h ≤ made → length k ≤ 1 → AllByRecursion (IsAt coming (made + 1)) k → Goes coming first (h ++ k) (made + 1)
act_last coming first made h [] g few short at = subst (λ x. Goes coming first x (made + 1)) (sym (append-nil h)) g
act_last coming first made h (e ∷ []) g few short at = record { readings = made + 1; has = next e g.has g.few (omega (arith, few)) at.0; few = omega arith }
act_last coming first made h (e ∷ f ∷ k) g few short at = absurd (let no : ⊥ = omega (arith, short) in no)

parts : (coming : ℕ → ℕ) (r : ℕ) (h k : History) → AllByRecursion (IsAt coming r) (h ++ k) → AllByRecursion (IsAt coming r) h × AllByRecursion (IsAt coming r) k
parts coming r [] k a = (tt, a)
parts coming r (e ∷ h) k a = let p = parts coming r h k a.1 in ((a.0, p.0), p.1)

record Timed (coming : ℕ → ℕ) (first : ℕ) (h : History) (made : ℕ) : Type 0 where
  goes : Goes coming first h made
  few : first + acts_of h ≤ made

wider : (coming : ℕ → ℕ) (first m : ℕ) (h : History) → Goes coming first h m → Goes coming first h (m + 1)
wider coming first m h g = record { readings = g.readings; has = g.has; few = omega (arith, g.few) }

timed : {coming : ℕ → ℕ} {first made : ℕ} {h : History} → IsTimed coming first h made → Timed coming first h made
timed {coming} {first} starts = record { goes = record { readings = first; has = none; few = omega arith }; few = omega arith }
timed {coming} {first} (turn {h = h} {readings = made} moves acts t free short at) =
    let i = timed t in
    let p = parts coming (made + 1) moves acts at in
    let a : Goes coming first (h ++ moves) (made + 1) = frees coming first made h moves (wider coming first made h i.goes) i.few free p.0 in
    let no : acts_of moves ≡ 0 = free_none moves free in
    let same : acts_of (h ++ moves) ≡ acts_of h + acts_of moves = acts-append h moves in
    let b : Goes coming first ((h ++ moves) ++ acts) (made + 1) = act_last coming first made (h ++ moves) acts a (omega (arith, i.few, same, no)) short p.1 in
    let all : acts_of (h ++ (moves ++ acts)) ≡ acts_of h + acts_of (moves ++ acts) = acts-append h (moves ++ acts) in
    let both : acts_of (moves ++ acts) ≡ acts_of moves + acts_of acts = acts-append moves acts in
    record {
      goes = subst (λ x. Goes coming first x (made + 1)) (append_assoc h moves acts) b;
      few = omega (arith, i.few, all, both, no, acts_small acts, short);
    }

pub turns_read : (coming : ℕ → ℕ) (first made : ℕ) (h : History) → IsTimed coming first h made → (readings : ℕ) × HasReadings coming first h readings × (readings ≤ made)
turns_read coming first made h t = let i = timed t in (i.goes.readings, i.goes.has, i.goes.few)
