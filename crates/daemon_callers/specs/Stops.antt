-- The daemon's Stop.
use Rattle.std.specs.Prelude.{◌≡◌, ◌⊎◌, Bool, true, false}
use Rattle.broker_history.specs.Entries.{History}
use Rattle.broker_history.specs.declared.call.Call.TheVariants as call
use Rattle.broker_history.specs.declared.turned.Turned.{Turned}
use Rattle.broker_history.specs.declared.turned.Turned.TheVariants as turned
use Rattle.broker_history.specs.Answers.{Joins}

-- the answer of a turn is that the daemon stops
abbrev pub says_stopping : Turned → Bool
says_stopping turned.Stopping = true
says_stopping _ = false

-- a turn for the Stop added it to the daemon's own entries, or it had been noted before; where it didn't stop, it added nothing
abbrev pub AddsStop : (own own' : History) → (stopped : Bool) → Type 0
AddsStop own own' true = (own' ≡ own) ⊎ Joins 0 own own' call.Stop turned.Stopping
AddsStop own own' false = own' ≡ own
