-- What a drill draws: the numbers of a generator, and the publishes that they make.
use Rattle.std.specs.Prelude.{ℕ, zero, suc, ◌+◌, ◌*◌, ◌/◌, ◌%◌, ◌^◌, List, [], ◌∷◌, ◌++◌}
use Rattle.drill_parts.specs.declared.draws.Publish.{Publish}

-- the state of the generator behind one draw
abbrev pub next : ℕ → ℕ
next x = (x * 6364136223846793005 + 1442695040888963407) % 2 ^ 64

-- the number that is drawn where the generator comes to this state
abbrev pub drawn : ℕ → ℕ
drawn x = x / 2 ^ 33

-- the state behind so many publishes, of two draws each
abbrev pub behind : (seed : ℕ) → (count : ℕ) → ℕ
behind seed zero = seed
behind seed (suc n) = next (next (behind seed n))

-- the publish of this number, by the two draws from this state on: the first picks one of four topics, the second a length of 1 to 200
abbrev pub publish_from : (x : ℕ) → (number : ℕ) → Publish
publish_from x number = record { number = number; topic = drawn (next x) % 4; length = drawn (next (next x)) % 200 + 1 }

-- so many publishes, numbered from 0
abbrev pub publishes : (seed : ℕ) → (count : ℕ) → List Publish
publishes seed zero = []
publishes seed (suc n) = publishes seed n ++ publish_from (behind seed n) n ∷ []
