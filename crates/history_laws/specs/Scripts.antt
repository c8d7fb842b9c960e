-- That conversations follow the scripts of their bytes.
use Rattle.std.specs.Prelude.{ℕ, Bool, List}
use Rattle.v2_frame.specs.declared.fault.Limits.{Limits}
use Rattle.v2_frame.specs.declared.fault.Rest.TheVariants.{Unfinished}
use Rattle.v2_frame.specs.Script.{IsScript}
use Rattle.broker_history.specs.declared.ended.Ended.{Ended}
use Rattle.broker_history.specs.declared.ended.Ended.TheVariants.{EndOfInput}
use Rattle.broker_history.specs.Entries.{History}
use Rattle.broker_history.specs.Talk.{IsTalk, bytes_of, commands_of}
use Rattle.broker_history.specs.Scripts.{StandAtFront}

-- the commands of a conversation are the first ones of its bytes, in order, however they came in rounds
abbrev pub TalksTakeCommandsInOrder : Type 0
TalksTakeCommandsInOrder = (limits : Limits) (stopped : Bool) (wanted : ℕ) (pieces : List (List ℕ)) (own : History) (out : List ℕ) (ended : Ended)
    → IsTalk limits stopped wanted pieces own out ended → StandAtFront limits (bytes_of pieces) (commands_of own)

-- a conversation that came to the end of the input took all commands of its bytes, and no fault stands in them
abbrev pub FinishedTalksTakeAll : Type 0
FinishedTalksTakeAll = (limits : Limits) (stopped : Bool) (wanted : ℕ) (pieces : List (List ℕ)) (own : History) (out : List ℕ)
    → IsTalk limits stopped wanted pieces own out EndOfInput → IsScript limits (bytes_of pieces) (commands_of own) Unfinished
