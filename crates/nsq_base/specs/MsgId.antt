-- How a message's id is spelled.
use Rattle.std.specs.Prelude.{◌≡◌, ℕ, zero, suc, ◌+◌, ◌/◌, ◌%◌, ◌^◌, ◌<◌, nat_lt, if◌then◌else◌, List, [], ◌∷◌, ◌++◌}

-- the lower-case hexadecimal digit of a number below 16: `0` to `9`, then `a` to `f`
abbrev pub hex_digit : ℕ → ℕ
hex_digit n = if nat_lt n 10 then 48 + n else 87 + n

-- the lowest digits of a number in base 16, so many, most significant first
abbrev pub hex_digits : ℕ → ℕ → List ℕ
hex_digits zero n = []
hex_digits (suc count) n = hex_digits count (n / 16) ++ hex_digit (n % 16) ∷ []

-- the id of the n-th message of an epoch: six digits of the epoch, then ten of the number
abbrev pub id_of : ℕ → ℕ → List ℕ
id_of epoch n = hex_digits 6 epoch ++ hex_digits 10 n

-- two messages that have one id have one epoch and one number
abbrev pub IdsDiffer : Type 0
IdsDiffer = (e f n m : ℕ) → e < 2 ^ 24 → f < 2 ^ 24 → n < 2 ^ 40 → m < 2 ^ 40 → id_of e n ≡ id_of f m → (e ≡ f) × (n ≡ m)
