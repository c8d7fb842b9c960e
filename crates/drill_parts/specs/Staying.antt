-- Clients that stay as long as they like: in no time nobody is silent for too long, and where nothing is deleted nobody loses a channel.
use Rattle.std.specs.Prelude.{◌≡◌, ℕ, ◌<◌, Bool, true, false, List, [], Option}
use Rattle.std.specs.List.{AllByRecursion}
use Rattle.nsq_outside.specs.declared.journal.End.{End}
use Rattle.v2_frame.specs.declared.command.Command.{Command}
use Rattle.v2_frame.specs.declared.command.Command.TheVariants.{Identify}
use Rattle.v2_frame.specs.declared.fault.Limits.{Limits}
use Rattle.v2_frame.specs.declared.frame.Frame.{Frame}
use Rattle.broker_history.specs.declared.ended.Ended.TheVariants.{Closed}
use Rattle.broker_history.specs.declared.entry.Act.{Act}
use Rattle.broker_history.specs.declared.entry.Act.TheVariants.{Did, Dropped, Silent}
use Rattle.broker_history.specs.declared.entry.Entry.{Entry}
use Rattle.broker_history.specs.Entries.{History}
use Rattle.broker_history.specs.Legal.{Legal}
use Rattle.broker_history.specs.Reply.{answered, closes_answer}
use Rattle.broker_history.specs.State.{State}
use Rattle.broker_history.specs.Talk.{IsTalk, bytes_of}
use Rattle.drill_parts.specs.Conserving.{HaveOnes, Keeps}
use Rattle.drill_parts.specs.Talking.{Spell}

-- no client says anything of itself
abbrev pub SaysNoMore : Act → Type 0
SaysNoMore (Did (Identify body) r) = ⊥
SaysNoMore act = Unit {0}

-- an entry of this moment keeps all messages, and is no IDENTIFY
pub record IsCalm (only : List ℕ → List ℕ) (at : ℕ) (e : Entry × End) : Type 0 where
  pub keeps : Keeps only e
  pub now : e.0.at ≡ at
  pub plain : SaysNoMore e.0.act

-- the act is no closing of a client that was silent or lost its channel
abbrev pub StaysOpen : Act → Type 0
StaysOpen Silent = ⊥
StaysOpen Dropped = ⊥
StaysOpen act = Unit {0}

-- from a state without clients on, entries of one moment close none
abbrev pub NobodyIsClosed : Type 0
NobodyIsClosed = (only : List ℕ → List ℕ) (at : ℕ) (s u : State) (h : History) → HaveOnes only s.topics → s.clients ≡ [] → 0 < s.options.max_heartbeat_interval → AllByRecursion (IsCalm only at) h → Legal s h u
    → AllByRecursion (λ (e : Entry × End). StaysOpen e.0.act) h

-- an answer to a command isn't one that closes
abbrev pub AnswersOpen : Act → Option Frame → Type 0
AnswersOpen (Did command r) answer = closes_answer answer ≡ false
AnswersOpen act answer = Unit {0}

-- the entry is no closing of a client, nor a command whose answer closes
pub record LeavesOpen (e : Entry × End) : Type 0 where
  pub stays : StaysOpen e.0.act
  pub answer : AnswersOpen e.0.act (answered e)

-- a caller that sends commands, whose entries leave its conversation open, is closed by a Stop alone: its bytes are never refused
abbrev pub ClosedByStop : Type 0
ClosedByStop = (limits : Limits) (stopped : Bool) (wanted : ℕ) (pieces : List (List ℕ)) (own : History) (out : List ℕ) (commands : List Command) (left : List ℕ) → IsTalk limits stopped wanted pieces own out Closed
    → Spell limits commands (bytes_of pieces) left → AllByRecursion LeavesOpen own → stopped ≡ true
