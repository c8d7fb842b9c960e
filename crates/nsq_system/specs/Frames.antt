-- Frames of NSQ's TCP protocol: 4 bytes of a size, most significant first, and so many bytes, of which the first 4 are the type.
use Rattle.std.specs.Prelude.{ℕ, ◌≡◌, ◌+◌, ◌≤◌, ◌<◌, List, length, take, drop}
use Rattle.std.specs.Int.{w32, from_be_bytes}

-- the number that the first 4 bytes are
abbrev pub number_at : List ℕ → ℕ
number_at bytes = from_be_bytes w32 (take 4 bytes)

-- whole frames from the first byte on, the last of which is an error frame, of type 1
pub data EndsInError : List ℕ → Type 0 where
  last : {bytes : List ℕ} → length bytes ≡ 4 + number_at bytes → 8 ≤ length bytes → number_at (drop 4 bytes) ≡ 1 → EndsInError bytes
  next : {bytes : List ℕ} → 4 + number_at bytes < length bytes → EndsInError (drop (4 + number_at bytes) bytes) → EndsInError bytes
