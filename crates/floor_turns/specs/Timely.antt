-- What a tick leaves unsaved.
use Rattle.std.specs.Prelude.{◌⊎◌, ℕ}
use Rattle.nsq_outside.specs.Causes.{Rose}
use Rattle.broker_history.specs.declared.call.Call.{Call}
use Rattle.broker_history.specs.declared.call.Call.TheVariants as call
use Rattle.broker_history.specs.declared.turned.Turned.{Turned}
use Rattle.broker_history.specs.declared.turned.Turned.TheVariants as turned
use Rattle.floor_rooms.specs.declared.hall.Hall.{Hall}
use Rattle.floor_files.specs.Timely.{IsTimely}

-- what a tick leaves that is answered Quiet, unless the folder's count of faults rose
abbrev pub TicksTimely : Call → Turned → Hall → (before now : ℕ) → Type 0
TicksTimely call.Tick turned.Quiet h before now = IsTimely h ⊎ Rose before now
TicksTimely c answer h before now = Unit {0}
