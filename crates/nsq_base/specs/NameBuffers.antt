-- How a name lies in a buffer of 64 bytes.
use Rattle.std.specs.Prelude.{◌≡◌, ℕ, ◌-◌, List, ◌++◌, length, take, replicate}
use Rattle.std.proofs.Common.{ap, sym, ◌∙◌}
use Rattle.nsq_core.specs.Name.{IsName}

-- a buffer of 64 bytes begins with a name of this length, and has zeros behind it
pub record HoldsName (buffer : List ℕ) (len : ℕ) : Type 0 where
  pub is_name : IsName (take len buffer)
  pub whole : length (take len buffer) ≡ len
  pub blank : buffer ≡ take len buffer ++ replicate (64 - len) 0

-- the buffer that holds the name
abbrev pub buffer_of : List ℕ → List ℕ
buffer_of name = name ++ replicate (64 - length name) 0

-- a buffer is known by the name that it holds
pub buffer_of-take : (buffer : List ℕ) (len : ℕ) → HoldsName buffer len → buffer_of (take len buffer) ≡ buffer
buffer_of-take buffer len h = ap (λ (n : ℕ). take len buffer ++ replicate (64 - n) 0) h.whole ∙ sym h.blank
