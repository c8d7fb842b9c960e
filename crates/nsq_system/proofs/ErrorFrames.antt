-- Frames are passed from the front until the last one is found.
use Rattle.std.proofs.Common.{◌≡◌, ℕ, ◌+◌, ◌≤◌, ◌<◌, List, length, take, drop, ap, sym, ◌∙◌, subst, arith}
use Rattle.std.proofs.lemmas.List.{drop-drop}
use Rattle.std.specs.Int.{w32, from_be_bytes}
use Rattle.nsq_system.specs.Frames.{EndsInError, number_at}
use Rattle.nsq_system.specs.Frames.EndsInError.{last, next}

-- a frame stands at the front of bytes, as far as they reach: its size n, and what is behind the size
pub record IsSplit (n : ℕ) (bytes front frame : List ℕ) : Type 0 where
  pub head : front ≡ take 4 bytes
  pub behind : frame ≡ drop 4 bytes
  pub whole : length frame + 4 ≡ length bytes
  pub size : n ≡ from_be_bytes w32 front

size_is : (n : ℕ) (bytes front frame : List ℕ) → IsSplit n bytes front frame → n ≡ number_at bytes
size_is n bytes front frame s = s.size ∙ ap (from_be_bytes w32) s.head

behind_is : (n : ℕ) (bytes front frame : List ℕ) → IsSplit n bytes front frame → drop n frame ≡ drop (4 + number_at bytes) bytes
behind_is n bytes front frame s = ap (drop n) s.behind ∙ drop-drop n 4 bytes ∙ ap (λ (m : ℕ). drop (4 + m) bytes) (size_is n bytes front frame s)

-- the last frame is an error frame
pub error_is_last : (n : ℕ) (bytes front frame : List ℕ) → IsSplit n bytes front frame → length frame ≡ n → (4 ≤ length frame) × (number_at frame ≡ 1) → EndsInError bytes
error_is_last n bytes front frame s end h =
    last (omega (arith, end, s.whole, size_is n bytes front frame s)) (omega (arith, h.0, s.whole)) (ap number_at (sym s.behind) ∙ h.1)

-- behind a frame that isn't the last, the rest ends so
pub goes_on : (n : ℕ) (bytes front frame : List ℕ) → IsSplit n bytes front frame → n < length frame → EndsInError bytes → EndsInError (drop n frame)
goes_on n bytes front frame s more (last whole long kind) = absurd (omega (arith, more, whole, s.whole, size_is n bytes front frame s))
goes_on n bytes front frame s more (next _ rest) = subst EndsInError (sym (behind_is n bytes front frame s)) rest

-- and so do the bytes with it
pub goes_back : (n : ℕ) (bytes front frame : List ℕ) → IsSplit n bytes front frame → n < length frame → EndsInError (drop n frame) → EndsInError bytes
goes_back n bytes front frame s more rest =
    next (omega (arith, more, s.whole, size_is n bytes front frame s)) (subst EndsInError (behind_is n bytes front frame s) rest)

-- a frame of which a part is wanting ends nothing
pub too_short : (n : ℕ) (bytes front frame : List ℕ) → IsSplit n bytes front frame → length frame < n → EndsInError bytes → ⊥
too_short n bytes front frame s short (last whole long kind) = omega (arith, short, whole, s.whole, size_is n bytes front frame s)
too_short n bytes front frame s short (next more rest) = omega (arith, short, more, s.whole, size_is n bytes front frame s)

-- where the last frame ends the bytes, it is an error frame
pub last_is_error : (n : ℕ) (bytes front frame : List ℕ) → IsSplit n bytes front frame → length frame ≡ n → EndsInError bytes → (4 ≤ length frame) × (number_at frame ≡ 1)
last_is_error n bytes front frame s end (last whole long kind) = (omega (arith, long, s.whole), ap number_at s.behind ∙ kind)
last_is_error n bytes front frame s end (next more rest) = absurd (omega (arith, more, end, s.whole, size_is n bytes front frame s))
