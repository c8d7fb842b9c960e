-- What a call leads to.
use Rattle.std.specs.Prelude.{◌≡◌, ◌<◌, ℕ, Bool, true, false, not, MatchBool, Option, Some, None, is_some}
use Rattle.nsq_outside.specs.Files.{Files}
use Rattle.nsq_outside.specs.declared.journal.End.TheVariants.{Done}
use Rattle.nsq_base.specs.declared.options.Options.{Options}
use Rattle.v2_frame.specs.declared.command.Command.{Command}
use Rattle.broker_history.specs.declared.ask.Said.{Said}
use Rattle.broker_history.specs.declared.entry.Act.{Act}
use Rattle.broker_history.specs.declared.entry.Act.TheVariants as act
use Rattle.broker_history.specs.State.{Client, State, has_begun, is_lost}
use Rattle.broker_history.specs.Reply.{refusal}
use Rattle.broker_history.specs.Step.{IsAllowedAct}
use Rattle.broker_history.specs.declared.call.Call.{Call}
use Rattle.broker_history.specs.declared.call.Call.TheVariants as call
use Rattle.broker_history.specs.Answers.{EndsAtStop}
use Rattle.negotiation.specs.declared.identity.Identity.{Identity}
use Rattle.floor_rooms.specs.declared.hall.Hall.{Hall}
use Rattle.floor_rooms.specs.Rooms.{client_in, hall_names}
use Rattle.floor_rooms.specs.Standing.{HoldsFor}
use Rattle.floor_acts.specs.Replies.{IsShort, IsShortFrame, KnowsOf, reply_in}
use Rattle.floor_acts.specs.Dues.{GetsFrom, IsDueTo}
use Rattle.floor_acts.specs.declared.due.NextDue.TheVariants as due
use Rattle.broker_history.specs.Credit.{is_quiet}
use Rattle.floor_acts.specs.declared.plan.Plan.{Plan}
use Rattle.floor_acts.specs.declared.plan.Plan.TheVariants as plan

-- whether a call doesn't fit its number: the client of that number isn't there, or the one that is to begin is
abbrev pub is_strange : Call → (there : Bool) → Bool
is_strange call.Begin there = there
is_strange (call.Command command) there = not there
is_strange (call.Bad fault) there = not there
is_strange call.Next there = not there
is_strange call.Gone there = not there
is_strange (call.Ask a) there = false
is_strange call.Names there = false
is_strange call.Tick there = false
is_strange call.Stop there = false

-- the call fits its number, and no Stop keeps it from an act
pub record Serves (h : Hall) (number : ℕ) (c : Call) : Type 0 where
  pub fits : is_strange c (is_some (client_in h.clients.items number)) ≡ false
  pub running : EndsAtStop c → h.stopped ≡ false

-- this holds of the client of a number
pub record OfNumber (h : Hall) (number : ℕ) (Is : Client → Type 0) : Type 0 where
  pub client : Client
  pub there : client_in h.clients.items number ≡ Some client
  pub is : Is client

-- a command of a client is taken with its reply, unless its channel was deleted
abbrev pub IsCommandAct : Hall → Command → Act → Client → Type 0
IsCommandAct h command a c = MatchBool (is_lost c.phase) (a ≡ act.Dropped) (a ≡ act.Did command (reply_in h c command))

-- what is due to a client, but for a message
abbrev pub IsNextAct : Hall → Act → Client → Type 0
IsNextAct h act.Dropped c = IsDueTo h c due.Dropped
IsNextAct h act.Silent c = IsDueTo h c due.Silent
IsNextAct h act.Beat c = IsDueTo h c due.Beat
IsNextAct h act.Idle c = IsDueTo h c due.Nothing
IsNextAct h _ c = ⊥

-- which act a call leads to
abbrev pub IsCallsAct : Hall → (number : ℕ) → Call → Act → Type 0
IsCallsAct h number call.Begin a = a ≡ act.Began
IsCallsAct h number (call.Command command) a = OfNumber h number (IsCommandAct h command a)
IsCallsAct h number (call.Bad fault) a = a ≡ act.Refused fault (refusal fault)
IsCallsAct h number call.Next a = OfNumber h number (IsNextAct h a)
IsCallsAct h number call.Gone a = a ≡ act.Gone
IsCallsAct h number (call.Ask asked) a = (said : Said) × (a ≡ act.Asked asked said)
IsCallsAct h number call.Names a = a ≡ act.Listed (hall_names h)
IsCallsAct h number call.Tick a = a ≡ act.Ticked
IsCallsAct h number call.Stop a = a ≡ act.Stop

-- a client that is quiet is to be sent a message of the channel at these places
pub record DrawsAt (h : Hall) (number i j : ℕ) : Type 0 where
  pub client : Client
  pub there : client_in h.clients.items number ≡ Some client
  pub quiet : is_quiet h.moment client ≡ true
  pub from : GetsFrom h client i j

-- a call leads to one of its acts; one for what is to be sent, perhaps to a message
abbrev pub IsPlanOf : Hall → (number : ℕ) → Call → Plan → Type 0
IsPlanOf h number c (plan.Act p) = IsCallsAct h number c p.act
IsPlanOf h number c (plan.Draw i j) = (c ≡ call.Next) × DrawsAt h number i j

-- whose entry a call makes: a tick's is the daemon's own
abbrev pub number_of : Call → (number : ℕ) → ℕ
number_of call.Tick number = 0
number_of c number = number

-- a connection that begins has a number that none had before
abbrev pub MayBegin : State → (number : ℕ) → Call → Type 0
MayBegin s number call.Begin = (0 < number) × (has_begun s number ≡ false)
MayBegin s number c = Unit {0}

-- the act may stand behind each state that the hall stands for
abbrev pub IsAllowedPlan : Hall → (number : ℕ) → Call → Plan → Type 0
IsAllowedPlan h number c (plan.Act p) = (files : Files) (s : State) → HoldsFor h files s → MayBegin s number c → IsAllowedAct s h.moment (number_of c number) p.act Done
IsAllowedPlan h number c (plan.Draw i j) = Unit {0}

-- what an IDENTIFY that is accepted said is at hand
abbrev pub KnowsAct : Options → Act → Option Identity → Type 0
KnowsAct o (act.Did command reply) said = KnowsOf o command reply said
KnowsAct o _ said = said ≡ None

abbrev pub KnowsPlan : Options → Plan → Type 0
KnowsPlan o (plan.Act p) = KnowsAct o p.act p.said
KnowsPlan o (plan.Draw i j) = Unit {0}

-- the frame of an act has a body of fewer than 2^31 bytes
abbrev pub IsShortAct : Act → Type 0
IsShortAct (act.Did command reply) = IsShort reply
IsShortAct (act.Refused fault frame) = IsShortFrame frame
IsShortAct _ = Unit {0}

abbrev pub IsShortPlan : Plan → Type 0
IsShortPlan (plan.Act p) = IsShortAct p.act
IsShortPlan (plan.Draw i j) = Unit {0}
