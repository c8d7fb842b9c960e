-- How a turn of the daemon that ticks is answered.
use Rattle.std.specs.Prelude.{◌≡◌, ◌+◌, ◌≤◌, true}
use Rattle.broker_history.specs.Entries.{History, has_stop}
use Rattle.broker_history.specs.Answers.{ticks_of}
use Rattle.broker_history.specs.declared.turned.Turned.{Turned}
use Rattle.broker_history.specs.declared.turned.Turned.TheVariants as turned
use Rattle.daemon_tick.specs.declared.ticking.Ticked.{Ticked}
use Rattle.daemon_tick.specs.declared.ticking.Ticked.TheVariants as ticked

-- how a tick was answered
abbrev pub ticked_of : Turned → Ticked
ticked_of turned.Quiet = ticked.Quiet
ticked_of turned.Stopping = ticked.Stopping
ticked_of answer = ticked.Memory

-- the tick was noted; or a Stop stands in the history; or memory was wanting
abbrev pub IsTicked : Ticked → (old new : History) → Type 0
IsTicked ticked.Quiet old new = ticks_of old + 1 ≤ ticks_of new
IsTicked ticked.Stopping old new = has_stop new ≡ true
IsTicked ticked.Memory old new = Unit {0}
