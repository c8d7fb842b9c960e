-- What stands in a turn before its act.
use Rattle.std.proofs.Common.{◌≡◌, ℕ, ◌+◌, ◌==◌, Bool, true, false, if◌then◌else◌, [], ◌∷◌, ◌++◌, length, refl, sym, ap, ◌∙◌, append_assoc, arith}
use Rattle.std.specs.Prelude.{reverse}
use Rattle.std.proofs.lemmas.Bool.{false≢true}
use Rattle.std.proofs.lemmas.List.{append-nil, reverse-append}
use Rattle.nsq_outside.specs.declared.journal.End.{End}
use Rattle.broker_history.specs.declared.entry.Act.{Act}
use Rattle.broker_history.specs.declared.entry.Act.TheVariants.{HeldBack}
use Rattle.broker_history.specs.declared.entry.Entry.{Entry}
use Rattle.broker_history.specs.Entries.{History, is_held, is_due_move}
use Rattle.broker_history.specs.Before.{moves_at_front, moves_in, moves_before, is_stuck_at, stuck_in, stuck_before, first_stuck, stuck_last}
use Rattle.floor_laws.specs.Paying.{AreMoves, AreHeld}
use Rattle.floor_laws.proofs.Counting.{parts}

-- the last entry comes first where a history is read from its end
last_first : (h : History) (e : Entry × End) → reverse (h ++ e ∷ []) ≡ e ∷ reverse h
last_first h e = reverse-append h (e ∷ [])

-- one entry further
one_further : (front h : History) (e : Entry × End) → front ++ e ∷ h ≡ (front ++ e ∷ []) ++ h
one_further front h e = sym (append_assoc front (e ∷ []) h)

-- what was held back is passed over
held_one : (at : ℕ) (front : History) (e : Entry × End) → is_held e.0.act ≡ true → moves_before at (front ++ e ∷ []) ≡ moves_before at front
held_one at front e held = ap (moves_in at) (last_first front e) ∙ ap (λ b. if b then moves_in at (reverse front) else moves_at_front at (e ∷ reverse front)) held

held_kept : (at : ℕ) (front held : History) → AreHeld held → moves_before at (front ++ held) ≡ moves_before at front
held_kept at front [] h = ap (moves_before at) (append-nil front)
held_kept at front (e ∷ held) h = ap (moves_before at) (one_further front held e) ∙ held_kept at (front ++ e ∷ []) held h.1 ∙ held_one at front e h.0

-- a due move isn't held back
due_free : (act : Act) → is_due_move act ≡ true → is_held act ≡ false
due_free (HeldBack topic channel id) h = absurd (false≢true h)
due_free act h = refl

-- moves are counted one by one
counted : (at : ℕ) (front moves : History) → AreMoves at moves → moves_at_front at (reverse (front ++ moves)) ≡ moves_at_front at (reverse front) + length moves
counted at front [] h = ap (λ x. moves_at_front at (reverse x)) (append-nil front) ∙ omega arith
counted at front (e ∷ moves) h =
    let one : moves_at_front at (reverse (front ++ e ∷ [])) ≡ moves_at_front at (reverse front) + 1 = ap (moves_at_front at) (last_first front e) ∙ ap (λ b. if b then moves_at_front at (reverse front) + 1 else 0) h.0 in
    ap (λ x. moves_at_front at (reverse x)) (one_further front moves e) ∙ counted at (front ++ e ∷ []) moves h.1 ∙ omega (arith, one)

-- where the last entry is a move, all are looked at
abbrev ends_free : History → Bool
ends_free [] = true
ends_free (e ∷ h) = if is_held e.0.act then false else true

in_front : (at : ℕ) (h : History) → ends_free h ≡ true → moves_in at h ≡ moves_at_front at h
in_front at [] f = refl
in_front at (e ∷ h) f = front_one (is_held e.0.act) (moves_in at h) (moves_at_front at (e ∷ h)) f
  where
    front_one : (b : Bool) (m n : ℕ) → (if b then false else true) ≡ true → (if b then m else n) ≡ n
    front_one true m n f = absurd (false≢true f)
    front_one false m n f = refl

ends : (at : ℕ) (front moves : History) → ends_free (reverse front) ≡ true → AreMoves at moves → ends_free (reverse (front ++ moves)) ≡ true
ends at front [] f h = ap (λ x. ends_free (reverse x)) (append-nil front) ∙ f
ends at front (e ∷ moves) f h =
    let free : is_held e.0.act ≡ false = due_free e.0.act (parts (is_due_move e.0.act) (e.0.at == at) h.0).0 in
    let one : ends_free (reverse (front ++ e ∷ [])) ≡ true = ap ends_free (last_first front e) ∙ ap (λ b. if b then false else true) free in
    ap (λ x. ends_free (reverse x)) (one_further front moves e) ∙ ends at (front ++ e ∷ []) moves one h.1

pub moves_counted : (at : ℕ) (moves held : History) → AreMoves at moves → AreHeld held → moves_before at (moves ++ held) ≡ length moves
moves_counted at moves held h k =
    held_kept at moves held k ∙ in_front at (reverse moves) (ends at [] moves refl h) ∙ counted at [] moves h ∙ omega arith

-- a stuck entry is seen through what was held back
held_stuck : (at : ℕ) (front held : History) → AreHeld held → stuck_before at front ≡ true → stuck_before at (front ++ held) ≡ true
held_stuck at front [] h s = ap (stuck_before at) (append-nil front) ∙ s
held_stuck at front (e ∷ held) h s =
    let one : stuck_before at (front ++ e ∷ []) ≡ true = ap (stuck_in at) (last_first front e) ∙ through (is_stuck_at at e) (is_held e.0.act) (stuck_in at (reverse front)) h.0 s in
    ap (stuck_before at) (one_further front held e) ∙ held_stuck at (front ++ e ∷ []) held h.1 one
  where
    through : (here held b : Bool) → held ≡ true → b ≡ true → (if here then true else (if held then b else false)) ≡ true
    through true held b h s = refl
    through false held b h s = ap (λ c. if c then b else false) h ∙ s

pub stuck_seen : (at : ℕ) (moves held : History) (e : Entry × End) → is_stuck_at at e ≡ true → AreHeld held → stuck_before at ((moves ++ e ∷ []) ++ held) ≡ true
stuck_seen at moves held e s h =
    held_stuck at (moves ++ e ∷ []) held h (ap (stuck_in at) (last_first moves e) ∙ ap (λ b. if b then true else (if is_held e.0.act then stuck_in at (reverse moves) else false)) s)

pub stuck_ends : (at : ℕ) (moves : History) (e : Entry × End) → is_stuck_at at e ≡ true → stuck_last at (moves ++ e ∷ []) ≡ true
stuck_ends at moves e s = ap (first_stuck at) (last_first moves e) ∙ s
