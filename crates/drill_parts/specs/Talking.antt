-- What conversations give: their entries, and the commands of a caller whose bytes spell them.
use Rattle.std.specs.Prelude.{◌≡◌, ℕ, Bool, List, [], ◌++◌, flat_map, Some}
use Rattle.std.specs.List.{AllByRecursion}
use Rattle.nsq_outside.specs.declared.journal.End.{End}
use Rattle.v2_frame.specs.declared.command.Command.{Command}
use Rattle.v2_frame.specs.declared.fault.Limits.{Limits}
use Rattle.v2_frame.specs.Command.{IsWritable, canonical}
use Rattle.v2_frame.specs.Script.{magic}
use Rattle.broker_history.specs.declared.ended.Ended.{Ended}
use Rattle.broker_history.specs.declared.ended.Ended.TheVariants.{EndOfInput}
use Rattle.broker_history.specs.declared.entry.Act.{Act}
use Rattle.broker_history.specs.declared.entry.Act.TheVariants.{Began, Did, Refused, Sent, Beat, Idle, Silent, Dropped, Gone, Stuck}
use Rattle.broker_history.specs.declared.entry.Entry.{Entry}
use Rattle.broker_history.specs.Entries.{History}
use Rattle.broker_history.specs.Talk.{IsTalk, bytes_of, commands_of}

-- an act of a conversation: nothing that is asked over HTTP, and no Stop
abbrev pub IsTalking : Act → Type 0
IsTalking Began = Unit {0}
IsTalking (Did command r) = Unit {0}
IsTalking (Refused fault frame) = Unit {0}
IsTalking (Sent m) = Unit {0}
IsTalking Beat = Unit {0}
IsTalking Idle = Unit {0}
IsTalking Silent = Unit {0}
IsTalking Dropped = Unit {0}
IsTalking Gone = Unit {0}
IsTalking (Stuck topic (Some channel)) = Unit {0}
IsTalking act = ⊥

-- the entry is one of a conversation
abbrev pub Talks : Entry × End → Type 0
Talks e = IsTalking e.0.act

-- the entries of a conversation are so
abbrev pub ConversationsTalk : Type 0
ConversationsTalk = (limits : Limits) (stopped : Bool) (wanted : ℕ) (pieces : List (List ℕ)) (own : History) (out : List ℕ) (ended : Ended) → IsTalk limits stopped wanted pieces own out ended → AllByRecursion Talks own

-- bytes that were sent, and those that are left, are the magic and these commands in their canonical spelling
pub record Spell (limits : Limits) (commands : List Command) (sent left : List ℕ) : Type 0 where
  pub whole : sent ++ left ≡ magic ++ flat_map canonical commands
  pub writable : AllByRecursion (IsWritable limits) commands

-- of a caller that sends commands the first ones were taken
abbrev pub CallersGiveTheirCommands : Type 0
CallersGiveTheirCommands = (limits : Limits) (stopped : Bool) (wanted : ℕ) (pieces : List (List ℕ)) (own : History) (out : List ℕ) (ended : Ended) (commands : List Command) (left : List ℕ)
    → IsTalk limits stopped wanted pieces own out ended → Spell limits commands (bytes_of pieces) left → (behind : List Command) × (commands ≡ commands_of own ++ behind)

-- and all of them where it came to the end of its bytes
abbrev pub FinishedCallersGiveAll : Type 0
FinishedCallersGiveAll = (limits : Limits) (stopped : Bool) (wanted : ℕ) (pieces : List (List ℕ)) (own : History) (out : List ℕ) (commands : List Command) → IsTalk limits stopped wanted pieces own out EndOfInput
    → Spell limits commands (bytes_of pieces) [] → commands_of own ≡ commands
