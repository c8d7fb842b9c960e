use Rattle.std.proofs.Common.{◌-◌, ◌≤◌, length, drop}
use Rattle.v2_frame.specs.Script.{Row}
use Rattle.streams_plain.proofs.script.script_of.Given as goal

-- the commands so far stand in a row behind the magic, as far as the place
abbrev pub invariant-commands : goal.invariant-commands
invariant-commands l = record { low : 4 ≤ l.start; within : l.start ≤ length l.bytes; row : Row l.limits (drop 4 l.bytes) l.commands.items (drop l.start l.bytes) }

abbrev pub decreases-commands : goal.decreases-commands
decreases-commands l = length l.bytes - l.start
