-- Where the head of a request ends, over all bytes of a connection so far.
use Rattle.std.specs.Prelude.{◌≡◌, ◌⊎◌, ℕ, ◌<◌, ◌≤◌, ◌==◌, ◌||◌, Bool, List, [], ◌∷◌, ◌++◌, length, take}
use Rattle.httparse.specs.Grammar.{AllPass}

-- the most bytes of a head, the line ends before it and the empty line behind it included
abbrev pub longest_head : ℕ
longest_head = 16384

-- a carriage return or a line feed
abbrev pub is_line_end : ℕ → Bool
is_line_end byte = byte == 13 || byte == 10

-- the bytes end with an empty line: a line feed, and then another one, perhaps behind a carriage return
abbrev pub EndsBlank : List ℕ → Type 0
EndsBlank bytes = (front : List ℕ) × ((bytes ≡ front ++ 10 ∷ 10 ∷ []) ⊎ (bytes ≡ front ++ 10 ∷ 13 ∷ 10 ∷ []))

-- a head ends with these bytes: one of them at least is neither a carriage return nor a line feed, so that a head has begun,
-- and they end with an empty line. That empty line stands behind the byte that the head begins with, which is none of its bytes
pub record EndsHead (bytes : List ℕ) : Type 0 where
  pub begun : ¬ (AllPass is_line_end bytes)
  pub blank : EndsBlank bytes

-- so many bytes at the front are the head, with the line ends before it: the fewest that end one
pub record EndsAt (bytes : List ℕ) (end : ℕ) : Type 0 where
  pub within : end ≤ length bytes
  pub ends : EndsHead (take end bytes)
  pub first : (n : ℕ) → n < end → ¬ (EndsHead (take n bytes))

-- the head can be judged: its end is there, or as many bytes are there as a head may have
abbrev pub IsJudged : List ℕ → Type 0
IsJudged bytes = (longest_head ≤ length bytes) ⊎ ((end : ℕ) × EndsAt bytes end)
