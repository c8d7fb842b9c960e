-- Which commands stand at the front of the bytes of a conversation.
use Rattle.std.specs.Prelude.{◌≡◌, ℕ, List, [], ◌++◌}
use Rattle.v2_frame.specs.declared.command.Command.{Command}
use Rattle.v2_frame.specs.declared.fault.Limits.{Limits}
use Rattle.v2_frame.specs.Script.{magic, Row}

-- no commands, or commands that stand in a row behind the magic at the front of the bytes
pub data StandAtFront (limits : Limits) (bytes : List ℕ) (commands : List Command) : Type 0 where
  no_commands : commands ≡ [] → StandAtFront limits bytes commands
  in_row : (after left : List ℕ) → bytes ≡ magic ++ after → Row limits after commands left → StandAtFront limits bytes commands
