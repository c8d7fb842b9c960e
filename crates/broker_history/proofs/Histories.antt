-- Legal histories join, and their fronts are legal.
use Rattle.std.proofs.Common.{◌≡◌, ◌⊎◌, inl, inr, ℕ, ◌+◌, ◌≤◌, Bool, true, false, if◌then◌else◌, [], ◌∷◌, ◌++◌, refl, sym, ap, subst, ◌∙◌, append_assoc, arith}
use Rattle.std.specs.Prelude.{reverse}
use Rattle.std.proofs.lemmas.List.{append-nil, reverse-append}
use Rattle.nsq_outside.specs.declared.journal.End.{End}
use Rattle.broker_history.specs.declared.entry.Entry.{Entry}
use Rattle.broker_history.specs.State.{State}
use Rattle.broker_history.specs.Entries.{History, is_held}
use Rattle.broker_history.specs.Before.{is_moved_at, moves_at_front, moves_in, moves_before, is_stuck_at, stuck_in, stuck_before, first_stuck, stuck_last, MayAct, MayStop, IsPaid}
use Rattle.broker_history.specs.Step.{Step}
use Rattle.broker_history.specs.Legal.{Legal, none, more}

-- more entries before are no fewer moves
one_more : (here : Bool) (m n : ℕ) → m ≤ n → (if here then m + 1 else 0) ≤ (if here then n + 1 else 0)
one_more true m n le = omega (arith, le)
one_more false m n le = omega arith

front_more : (at : ℕ) (k h : History) → moves_at_front at k ≤ moves_at_front at (k ++ h)
front_more at [] h = omega arith
front_more at (e ∷ k) h = one_more (is_moved_at at e) (moves_at_front at k) (moves_at_front at (k ++ h)) (front_more at k h)

either_more : (held : Bool) (m n i j : ℕ) → m ≤ n → i ≤ j → (if held then m else i) ≤ (if held then n else j)
either_more true m n i j a b = a
either_more false m n i j a b = b

moves_more : (at : ℕ) (k h : History) → moves_in at k ≤ moves_in at (k ++ h)
moves_more at [] h = omega arith
moves_more at (e ∷ k) h = either_more (is_held e.0.act) (moves_in at k) (moves_in at (k ++ h)) (moves_at_front at (e ∷ k)) (moves_at_front at ((e ∷ k) ++ h)) (moves_more at k h) (front_more at (e ∷ k) h)

pub moves_later : (at : ℕ) (h k : History) → moves_before at k ≤ moves_before at (h ++ k)
moves_later at h k = subst (λ x. moves_before at k ≤ moves_in at x) (sym (reverse-append h k)) (moves_more at (reverse k) (reverse h))

-- what got stuck behind a front got stuck behind a longer one
stuck_one : (here held b c : Bool) → (b ≡ true → c ≡ true) → (if here then true else (if held then b else false)) ≡ true → (if here then true else (if held then c else false)) ≡ true
stuck_one true held b c le e = refl
stuck_one false true b c le e = le e
stuck_one false false b c le e = e

stuck_more : (at : ℕ) (k h : History) → stuck_in at k ≡ true → stuck_in at (k ++ h) ≡ true
stuck_more at [] h e = absurd cc
stuck_more at (x ∷ k) h e = stuck_one (is_stuck_at at x) (is_held x.0.act) (stuck_in at k) (stuck_in at (k ++ h)) (stuck_more at k h) e

pub stuck_later : (at : ℕ) (h k : History) → stuck_before at k ≡ true → stuck_before at (h ++ k) ≡ true
stuck_later at h k e = ap (stuck_in at) (reverse-append h k) ∙ stuck_more at (reverse k) (reverse h) e

first_more : (at : ℕ) (k h : History) → first_stuck at k ≡ true → first_stuck at (k ++ h) ≡ true
first_more at [] h e = absurd cc
first_more at (x ∷ k) h e = e

last_later : (at : ℕ) (h k : History) → stuck_last at k ≡ true → stuck_last at (h ++ k) ≡ true
last_later at h k e = ap (first_stuck at) (reverse-append h k) ∙ first_more at (reverse k) (reverse h) e

-- what stands before an entry stands before it in a longer history
act_later : (h k : History) (s : State) (at : ℕ) → MayAct k s at → MayAct (h ++ k) s at
act_later h k s at (inl calm) = inl calm
act_later h k s at (inr (inl most)) = inr (inl (omega (arith, most, moves_later at h k)))
act_later h k s at (inr (inr stuck)) = inr (inr (stuck_later at h k stuck))

stop_later : (h k : History) (s : State) (at : ℕ) → MayStop k s at → MayStop (h ++ k) s at
stop_later h k s at (inl free) = inl free
stop_later h k s at (inr stuck) = inr (last_later at h k stuck)

free_or : {P Q R : Type 0} → (Q → R) → P ⊎ Q → P ⊎ R
free_or f (inl p) = inl p
free_or f (inr q) = inr (f q)

pub paid_later : (h k : History) (s : State) (e : Entry × End) → IsPaid k s e → IsPaid (h ++ k) s e
paid_later h k s e p = record { moved = free_or (act_later h k s e.0.at) p.moved; paid = free_or (stop_later h k s e.0.at) p.paid }

-- two legal histories, the second from where the first leads
pub Legal-append : {s t u : State} {h k : History} → Legal s h t → Legal t k u → Legal s (h ++ k) u
Legal-append {s} {u = u} {h = h} a none = subst (λ x. Legal s x u) (sym (append-nil h)) a
Legal-append {s} {u = u} {h = h} a (more {t = t} {h = k} {e = e} b paid step) = subst (λ x. Legal s x u) (append_assoc h k (e ∷ [])) (more (Legal-append a b) (paid_later h k t e paid) step)

-- behind a front, the history leads from the first state to the second, seen from its first entry on: what stands before an entry goes back over
-- the front
unfoldable pub Runs : (front : History) → State → History → State → Type 0
Runs front s [] u = s ≡ u
Runs front s (e ∷ h) u = (t : State) × IsPaid front s e × Step s e t × Runs (front ++ e ∷ []) t h u

-- a run of a history and then of another
pub Runs-append : (front : History) (s t u : State) (h k : History) → Runs front s h t → Runs (front ++ h) t k u → Runs front s (h ++ k) u
unfolding Runs
Runs-append front s t u [] k a b = subst (λ x. Runs x s k u) (append-nil front) (subst (λ x. Runs (front ++ []) x k u) (sym a) b)
Runs-append front s t u (e ∷ h) k a b = (a.0, a.1, a.2, Runs-append (front ++ e ∷ []) a.0 t u h k a.3 (subst (λ x. Runs x t k u) (sym (append_assoc front (e ∷ []) h)) b))

-- a run of two histories passes a state between them
pub Runs-split : (front : History) (s u : State) (h k : History) → Runs front s (h ++ k) u → (t : State) × Runs front s h t × Runs (front ++ h) t k u
unfolding Runs
Runs-split front s u [] k r = (s, refl, subst (λ x. Runs x s k u) (sym (append-nil front)) r)
Runs-split front s u (e ∷ h) k r = let q = Runs-split (front ++ e ∷ []) r.0 u h k r.3 in (q.0, (r.0, r.1, r.2, q.1), subst (λ x. Runs x q.0 k u) (append_assoc front (e ∷ []) h) q.2)

-- a legal history runs
pub runs_from_legal : {s u : State} {h : History} → Legal s h u → Runs [] s h u
unfolding Runs
runs_from_legal none = refl
runs_from_legal (more {s} {t} {u} {h} {e} a paid step) = Runs-append [] s t u h (e ∷ []) (runs_from_legal a) (u, paid, step, refl)

-- what runs behind a legal front is a legal history
pub legal_from_runs : (s t u : State) (front h : History) → Legal s front t → Runs front t h u → Legal s (front ++ h) u
unfolding Runs
legal_from_runs s t u front [] a r = subst (λ x. Legal s x u) (sym (append-nil front)) (subst (λ x. Legal s front x) r a)
legal_from_runs s t u front (e ∷ h) a r = subst (λ x. Legal s x u) (append_assoc front (e ∷ []) h) (legal_from_runs s r.0 u (front ++ e ∷ []) h (more a r.1 r.2) r.3)

-- a legal history's front is legal, and what stands behind it runs behind it
pub Legal-split : (s u : State) (h k : History) → Legal s (h ++ k) u → (t : State) × Legal s h t × Runs h t k u
unfolding Runs
Legal-split s u h k a = let q = Runs-split [] s u h k (runs_from_legal a) in (q.0, legal_from_runs s s q.0 [] h none q.1, q.2)

pub Legal-front : (s u : State) (h k : History) → Legal s (h ++ k) u → (t : State) × Legal s h t
Legal-front s u h k a = let q = Legal-split s u h k a in (q.0, q.1)

-- an entry's moment is that of the state behind it
step_moment : (s t : State) (e : Entry × End) → Step s e t → t.moment ≡ e.0.at
step_moment s t e a = ap (λ (x : State). x.moment) a.is

-- moments never fall
pub moment-Runs : (front : History) (s u : State) (h : History) → Runs front s h u → s.moment ≤ u.moment
unfolding Runs
moment-Runs front s u [] r = let e = ap (λ (x : State). x.moment) r in omega arith
moment-Runs front s u (e ∷ h) r =
    let a : s.moment ≤ e.0.at = r.2.later in
    let b : r.0.moment ≡ e.0.at = step_moment s r.0 e r.2 in
    let c : r.0.moment ≤ u.moment = moment-Runs (front ++ e ∷ []) r.0 u h r.3 in
    omega arith

-- the moment of each entry lies between those of the states at the ends
pub moment-Legal : (s u : State) (h k : History) (e : Entry × End) → Legal s ((h ++ e ∷ []) ++ k) u → (s.moment ≤ e.0.at) × (e.0.at ≤ u.moment)
unfolding Runs
moment-Legal s u h k e whole =
    let front = Runs-split [] s u (h ++ e ∷ []) k (runs_from_legal whole) in
    let parts = Runs-split [] s front.0 h (e ∷ []) front.1 in
    let one : Runs h parts.0 (e ∷ []) front.0 = parts.2 in
    let a : s.moment ≤ parts.0.moment = moment-Runs [] s parts.0 h parts.1 in
    let b : parts.0.moment ≤ e.0.at = one.2.later in
    let c : one.0.moment ≡ e.0.at = step_moment parts.0 one.0 e one.2 in
    let d : one.0.moment ≡ front.0.moment = ap (λ (x : State). x.moment) one.3 in
    let f : front.0.moment ≤ u.moment = moment-Runs (h ++ e ∷ []) front.0 u k front.2 in
    (omega arith, omega arith)
