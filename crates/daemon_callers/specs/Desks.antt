-- Where a caller is for whose going memory was wanting.
use Rattle.std.specs.Prelude.{ℕ, ◌<◌, Bool, IsTrue}
use Rattle.broker_history.specs.Entries.{History, own}
use Rattle.broker_history.specs.Calls.{IsHere}

-- where memory was wanting for noting that the connection of this number is gone, it began and is still there
abbrev pub StaysThere : (tells : Bool) → (number wanted : ℕ) → History → Type 0
StaysThere tells number wanted notes = IsTrue tells → 0 < wanted → IsHere (own number notes)
