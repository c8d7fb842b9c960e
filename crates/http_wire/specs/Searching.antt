-- What a search for the end of a head knows.
use Rattle.std.specs.Prelude.{◌≡◌, ℕ, ◌<◌, ◌≤◌, false, List, length, take, slice_index}
use Rattle.httparse.specs.Grammar.{AllPass}
use Rattle.http_wire.specs.Head.{longest_head, is_line_end, EndsHead}

-- no head ends with so many bytes at the front, or with fewer
abbrev pub HasNoEnd : List ℕ → ℕ → Type 0
HasNoEnd bytes most = (n : ℕ) → n ≤ most → ¬ (EndsHead (take n bytes))

-- so many line ends stand at the front, and they are all that were looked at, or a byte of the head stands behind them
pub record IsBegun (bytes : List ℕ) (begin : ℕ) : Type 0 where
  pub within : begin ≤ length bytes
  pub line_ends : AllPass is_line_end (take begin bytes)
  pub head : begin < length bytes → is_line_end (slice_index bytes begin) ≡ false

-- so many line ends stand at the front, and no head ends with so many bytes
pub record IsSearched (bytes : List ℕ) (begin done : ℕ) : Type 0 where
  pub line_ends : AllPass is_line_end (take begin bytes)
  pub begin_within : begin ≤ length bytes
  pub begin_longest : begin ≤ longest_head
  pub done_within : done ≤ length bytes
  pub done_longest : done ≤ longest_head
  pub none : HasNoEnd bytes done
