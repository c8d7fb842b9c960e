-- What a call notes, and what it is answered: one relation of call, entry with its end, and answer, for turns of a floor and of desks alike.
use Rattle.std.specs.Prelude.{◌≡◌, ◌⊎◌, ℕ, ◌+◌, ◌^◌, ◌<◌, ◌≤◌, ◌&&◌, Bool, true, false, [], ◌∷◌, ◌++◌, length, filter, Option, Some, None}
use Rattle.nsq_outside.specs.declared.journal.End.{End}
use Rattle.nsq_outside.specs.declared.journal.End.TheVariants as end
use Rattle.v2_frame.specs.declared.command.Command.{Command}
use Rattle.v2_frame.specs.declared.fault.Fault.{Fault}
use Rattle.v2_frame.specs.declared.frame.Frame.{Frame}
use Rattle.broker_history.specs.declared.ask.Ask.{Ask}
use Rattle.broker_history.specs.declared.ask.Said.{Said}
use Rattle.broker_history.specs.declared.ask.Said.TheVariants as said
use Rattle.broker_history.specs.declared.entry.Act.TheVariants as act
use Rattle.broker_history.specs.declared.entry.Entry.{Entry}
use Rattle.broker_history.specs.Entries.{History, is_common, is_tick, has_stop}
use Rattle.broker_history.specs.Reply.{answered, closes}
use Rattle.broker_history.specs.Talk.{IsDid, IsSending, IsRest}
use Rattle.broker_history.specs.declared.call.Call.{Call}
use Rattle.broker_history.specs.declared.call.Call.TheVariants as call
use Rattle.broker_history.specs.declared.turned.Turned.{Turned}
use Rattle.broker_history.specs.declared.turned.Turned.TheVariants as turned

-- the entry took the command, and its client got this
abbrev pub Takes : Command → Option Frame → Entry × End → Type 0
Takes command answer e = IsDid command e.0.act × (answered e ≡ answer)

-- a command that was taken is answered by what its client gets, and the connection is closed after a frame that closes; or its client's channel was
-- deleted
abbrev pub AnswersCommand : Command → Entry × End → Turned → Type 0
AnswersCommand command e (turned.Reply frame closing) = Takes command (Some frame) e × (closing ≡ closes frame)
AnswersCommand command e turned.Quiet = Takes command None e
AnswersCommand command e turned.Deleted = e.0.act ≡ act.Dropped
AnswersCommand command e _ = ⊥

-- a fault is answered by its refusal, and the connection is closed
abbrev pub AnswersBad : Fault → Entry × End → Turned → Type 0
AnswersBad fault e (turned.Reply frame closing) = (e.0.act ≡ act.Refused fault frame) × (closing ≡ true)
AnswersBad fault e _ = ⊥

-- what is to be sent is the frame of a message or of a heartbeat; there is none, or a disk fault kept it off; the client was silent; its channel was
-- deleted
abbrev pub AnswersNext : Entry × End → Turned → Type 0
AnswersNext e (turned.Send frame) = IsSending e.0.act × (answered e ≡ Some frame)
AnswersNext e turned.Idle = IsRest e.0.act
AnswersNext e turned.Silent = e.0.act ≡ act.Silent
AnswersNext e turned.Deleted = e.0.act ≡ act.Dropped
AnswersNext e _ = ⊥

-- what is said to what was asked, by the entry's end: a disk fault is said in place of what would have been
abbrev pub said_at : Said → End → Said
said_at s end.Done = s
said_at s (end.Faulted count) = said.Disk
said_at s end.Skip = s

-- what was asked is answered by what is said
abbrev pub AnswersAsk : Ask → Entry × End → Turned → Type 0
AnswersAsk a e (turned.Said told) = (s : Said) × (e.0.act ≡ act.Asked a s) × (told ≡ said_at s e.1)
AnswersAsk a e _ = ⊥

-- the call noted this entry, and was answered so
abbrev pub Answers : Call → Entry × End → Turned → Type 0
Answers call.Begin e turned.Begun = e.0.act ≡ act.Began
Answers (call.Command command) e answer = AnswersCommand command e answer
Answers (call.Bad fault) e answer = AnswersBad fault e answer
Answers call.Next e answer = AnswersNext e answer
Answers call.Gone e turned.Ended = e.0.act ≡ act.Gone
Answers (call.Ask a) e answer = AnswersAsk a e answer
Answers call.Names e (turned.Listed names at) = (e.0.act ≡ act.Listed names) × (at ≡ e.0.at)
Answers call.Tick e turned.Quiet = e.0.act ≡ act.Ticked
Answers call.Stop e turned.Stopping = e.0.act ≡ act.Stop
Answers _ e _ = ⊥

-- the call comes from a client that has to be there, or mustn't be there yet
abbrev pub NamesClient : Call → Type 0
NamesClient (call.Ask a) = ⊥
NamesClient call.Names = ⊥
NamesClient call.Tick = ⊥
NamesClient call.Stop = ⊥
NamesClient _ = Unit {0}

-- the call leads to nothing behind a Stop
abbrev pub EndsAtStop : Call → Type 0
EndsAtStop call.Begin = ⊥
EndsAtStop call.Gone = ⊥
EndsAtStop call.Names = ⊥
EndsAtStop _ = Unit {0}

-- the call was answered so, and made no act: its client isn't as it should be; a Stop was noted; or memory is wanting, which may come in place of
-- any other answer
abbrev pub HasNoAct : Call → Turned → Type 0
HasNoAct c turned.Strange = NamesClient c
HasNoAct c turned.Stopping = EndsAtStop c
HasNoAct c turned.Memory = Unit {0}
HasNoAct c _ = ⊥

-- the answers that a call can have, whatever is told of entries
abbrev pub IsAnswerTo : Call → Turned → Type 0
IsAnswerTo call.Begin turned.Begun = Unit {0}
IsAnswerTo (call.Command command) (turned.Reply frame closing) = Unit {0}
IsAnswerTo (call.Command command) turned.Quiet = Unit {0}
IsAnswerTo (call.Command command) turned.Deleted = Unit {0}
IsAnswerTo (call.Bad fault) (turned.Reply frame closing) = closing ≡ true
IsAnswerTo call.Next (turned.Send frame) = Unit {0}
IsAnswerTo call.Next turned.Idle = Unit {0}
IsAnswerTo call.Next turned.Silent = Unit {0}
IsAnswerTo call.Next turned.Deleted = Unit {0}
IsAnswerTo call.Gone turned.Ended = Unit {0}
IsAnswerTo (call.Ask a) (turned.Said told) = Unit {0}
IsAnswerTo call.Names (turned.Listed names at) = Unit {0}
IsAnswerTo call.Tick turned.Quiet = Unit {0}
IsAnswerTo c answer = HasNoAct c answer

-- the later history begins with the earlier one
pub record Grows (earlier later : History) : Type 0 where
  pub added : History
  pub whole : later ≡ earlier ++ added

-- one entry joined a connection's own: it names the connection, isn't common, and is what the call notes where it is answered so
pub record Joins (number : ℕ) (own own' : History) (c : Call) (answer : Turned) : Type 0 where
  pub entry : Entry × End
  pub whole : own' ≡ own ++ entry ∷ []
  pub names : entry.0.conn ≡ number
  pub apart : is_common entry.0.act ≡ false
  pub answers : Answers c entry answer

-- the call was answered so, and nothing joined a connection's own entries: it made no act, or one that is common
abbrev pub AddsNothing : Call → Turned → Type 0
AddsNothing call.Tick turned.Quiet = Unit {0}
AddsNothing c answer = HasNoAct c answer

-- what the turn of a number added to its own entries, for its call and its answer
abbrev pub Adds : (number : ℕ) → (own own' : History) → Call → Turned → Type 0
Adds number own own' c answer = ((own' ≡ own) × AddsNothing c answer) ⊎ Joins number own own' c answer

-- a turn answers that the daemon stops only where a Stop stands in the history
abbrev pub StopsSeen : History → Turned → Type 0
StopsSeen seen turned.Stopping = has_stop seen ≡ true
StopsSeen seen _ = Unit {0}

-- how often the daemon ticked
abbrev pub ticks_of : History → ℕ
ticks_of h = length (filter (λ e. is_tick e.0.act) h)

-- a tick that is answered Quiet was noted
abbrev pub TicksNoted : Turned → Call → (earlier later : History) → Type 0
TicksNoted turned.Quiet call.Tick earlier later = ticks_of earlier + 1 ≤ ticks_of later
TicksNoted _ _ earlier later = Unit {0}

-- a frame that is answered has a body of fewer than 2^31 bytes
abbrev pub IsShortAnswer : Turned → Type 0
IsShortAnswer (turned.Reply frame closing) = length frame.body < 2 ^ 31
IsShortAnswer (turned.Send frame) = length frame.body < 2 ^ 31
IsShortAnswer _ = Unit {0}

-- whether a connection is to go
abbrev pub goes : Call → Bool
goes call.Gone = true
goes _ = false

-- whether memory was wanting
abbrev pub wants_memory : Turned → Bool
wants_memory turned.Memory = true
wants_memory _ = false

-- whether a connection was to go, and memory was wanting for noting that
abbrev pub stays_for_memory : Call → Turned → Bool
stays_for_memory c answer = goes c && wants_memory answer
