-- A buffer that was lent for a read, a count that rose, and an endless loop.
use Rattle.std.proofs.Common.{◌≡◌, ℕ, ◌<◌, ◌≤◌, List, ◌++◌, take, length, length-take, length-append, arith, Option, Some, None, IsSome}
use Rattle.std.proofs.lemmas.Bool.{false≢true}
use Rattle.nsq_outside.specs.Causes.{Rose}
use Rattle.broker_history.specs.Talk.{longest_piece}

-- the buffer is as long as before
pub lent_whole : (size whole : ℕ) (into rest : List ℕ) → length into ≡ size → size ≡ whole → length (take size (into ++ rest)) ≡ whole
lent_whole size whole into rest all same = omega (arith, length-take size (into ++ rest), length-append into rest, all, same)

-- there is room for a byte at least
pub lent_room : (size : ℕ) → size ≡ longest_piece → 0 < size
lent_room size same = omega (arith, same)

-- what was read stands in what is looked at
pub lent_within : (count size whole : ℕ) (looked : List ℕ) → count ≤ size → size ≡ whole → length looked ≡ whole → count ≡ length (take count looked)
lent_within count size whole looked amount same all = omega (arith, length-take count looked, amount, same, all)

-- the piece has a byte at least
pub took_some : (count size : ℕ) (into : List ℕ) → 0 < count → count ≤ size → length into ≡ size → 0 < length (take count into)
took_some count size into some amount all = omega (arith, length-take count into, some, amount, all)

-- and no more than fit
pub took_few : (count size : ℕ) (into : List ℕ) → length into ≡ size → size ≡ longest_piece → length (take count into) ≤ longest_piece
took_few count size into all same = omega (arith, length-take count into, all, same)

-- a count that rose since a later value rose since an earlier one
pub rose_since : (before between now : ℕ) → before ≤ between → Rose between now → Rose before now
rose_since before between now more rose = omega (arith, more, rose)

-- what always gives something didn't give nothing
pub always_gives : {A : Type 0} (given : Option A) → given ≡ None → IsSome given → ⊥
always_gives None is some = false≢true some
always_gives (Some x) is some = cc
