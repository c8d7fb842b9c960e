-- Which calls are ticks, and which of them save.
use Rattle.std.specs.Prelude.{Bool, true, false, ◌&&◌}
use Rattle.broker_history.specs.declared.call.Call.{Call}
use Rattle.broker_history.specs.declared.call.Call.TheVariants as call
use Rattle.broker_history.specs.declared.turned.Turned.{Turned}
use Rattle.broker_history.specs.declared.turned.Turned.TheVariants as turned

-- whether a call is a tick
abbrev pub is_ticking : Call → Bool
is_ticking call.Tick = true
is_ticking c = false

-- whether a call is answered Quiet
abbrev pub is_quiet_answer : Turned → Bool
is_quiet_answer turned.Quiet = true
is_quiet_answer answer = false

-- whether a turn saves what is due: it is a tick's, and answers Quiet
abbrev pub is_saving : (ticking : Bool) → Turned → Bool
is_saving ticking answer = ticking && is_quiet_answer answer
