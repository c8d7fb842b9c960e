-- Of two numbers at most one is lower.
use Rattle.std.proofs.Common.{◌≡◌, ℕ, true, false, nat_lt, arith}

pub lower_once : (a b : ℕ) → nat_lt a b ≡ true → nat_lt b a ≡ false
lower_once a b h = grind arith
