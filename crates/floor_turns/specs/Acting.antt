-- What a call makes of a hall behind what was paid: what is held back where something is to be sent, and one act.
use Rattle.std.specs.Prelude.{◌≡◌, ◌⊎◌, ◌≤◌, ◌||◌, ◌&&◌, ◌==◌, not, ℕ, Bool, true, false, if◌then◌else◌, IsTrue, [], ◌∷◌, ◌++◌, Option, Some, None, is_some}
use Rattle.nsq_outside.specs.Causes.{Rose}
use Rattle.nsq_outside.specs.Files.{Files}
use Rattle.nsq_outside.specs.declared.journal.End.{End}
use Rattle.nsq_outside.specs.declared.journal.End.TheVariants as end
use Rattle.v2_frame.specs.declared.frame.Frame.{Frame}
use Rattle.broker_history.specs.declared.entry.Act.{Act}
use Rattle.broker_history.specs.declared.entry.Act.TheVariants as act
use Rattle.broker_history.specs.State.{State}
use Rattle.broker_history.specs.Reply.{beat_frame, closes, did_answered, message_frame}
use Rattle.broker_history.specs.Entries.{History, faults_of, is_faulted, is_stop, is_tick}
use Rattle.broker_history.specs.Before.{is_any_due}
use Rattle.broker_history.specs.Step.{DoesAct, IsAllowedAct, Step}
use Rattle.broker_history.specs.Legal.{Legal}
use Rattle.broker_history.specs.declared.call.Call.{Call}
use Rattle.broker_history.specs.declared.call.Call.TheVariants as call
use Rattle.broker_history.specs.declared.turned.Turned.{Turned}
use Rattle.broker_history.specs.declared.turned.Turned.TheVariants as turned
use Rattle.broker_history.specs.Answers.{IsShortAnswer, said_at}
use Rattle.broker_history.specs.Calls.{CanCall}
use Rattle.negotiation.specs.declared.identity.Identity.{Identity}
use Rattle.floor_rooms.specs.declared.hall.Hall.{Hall}
use Rattle.floor_rooms.specs.Rooms.{client_in}
use Rattle.floor_rooms.specs.Changes.{KeepsSince}
use Rattle.floor_rooms.specs.Kept.{NamesTold}
use Rattle.floor_rooms.specs.Standing.{HoldsFor}
use Rattle.floor_acts.specs.Plans.{IsAllowedPlan, IsCallsAct, IsShortAct, KnowsAct, MayBegin, Serves, number_of}
use Rattle.floor_acts.specs.declared.plan.Plan.TheVariants as plan
use Rattle.floor_moves.specs.Moves.{Sight, RoseBy}
use Rattle.floor_laws.specs.Laid.{AreHeldBack, IsActFor}

-- a call of this number leads to this act in this hall
pub record IsPlanned (h : Hall) (number : ℕ) (a : Act) (said : Option Identity) : Type 0 where
  pub of : Call
  pub can : CanCall of
  pub serves : Serves h number of
  pub is : IsCallsAct h number of a
  pub stands : IsAllowedPlan h number of (plan.Act (record { act = a; said = said }))
  pub knows : KnowsAct h.options a said
  pub short : IsShortAct a

-- so that call does
pub record IsPlannedFor (h : Hall) (number : ℕ) (c : Call) (a : Act) : Type 0 where
  pub is : IsCallsAct h number c a
  pub stands : (files : Files) (s : State) → HoldsFor h files s → MayBegin s number c → IsAllowedAct s h.moment (number_of c number) a end.Done

-- what a command with this reply is answered
abbrev pub answer_to : Option Frame → Turned
answer_to None = turned.Quiet
answer_to (Some frame) = turned.Reply frame (closes frame)

-- what a call is answered by its act, at a moment, with the act's end
abbrev pub answer_of : (at : ℕ) → Act → End → Turned
answer_of at act.Began e = turned.Begun
answer_of at (act.Did command r) e = answer_to (did_answered command r e)
answer_of at (act.Refused fault frame) e = turned.Reply frame true
answer_of at (act.Sent m) e = turned.Send (message_frame m)
answer_of at act.Beat e = turned.Send beat_frame
answer_of at act.Idle e = turned.Idle
answer_of at act.Silent e = turned.Silent
answer_of at act.Dropped e = turned.Deleted
answer_of at act.Gone e = turned.Ended
answer_of at (act.Asked a answer) e = turned.Said (said_at answer e)
answer_of at (act.Listed names) e = turned.Listed names at
answer_of at act.Ticked e = turned.Quiet
answer_of at act.Stop e = turned.Stopping
answer_of at (act.Stuck topic channel) e = turned.Idle
answer_of at _ e = turned.Memory

-- an end that leaves an entry
abbrev pub IsNoted : End → Type 0
IsNoted end.Skip = ⊥
IsNoted _ = Unit {0}

-- an act of a connection was carried out with this end, which it may have then: from each state behind which it may be done, as the definitions say
pub record ActsTo (h : Hall) (before : Files) (h' : Hall) (after : Files) (number : ℕ) (a : Act) (e : End) (s : State) : Type 0 where
  pub allowed : IsAllowedAct s h.moment number a e
  pub to : State
  pub does : DoesAct s h.moment number a e to
  pub holds : HoldsFor h' after to

abbrev pub ActCarries : (h : Hall) → (before : Files) → (h' : Hall) → (after : Files) → (number : ℕ) → Act → End → Type 0
ActCarries h before h' after number a e = (s : State) → HoldsFor h before s → IsAllowedAct s h.moment number a end.Done → ActsTo h before h' after number a e s

-- whether a client of a number is there, once an act of a connection was carried out
abbrev pub there_after : Act → (number m : ℕ) → (there : Bool) → Bool
there_after act.Began number m there = (number == m) || there
there_after act.Gone number m there = not (number == m) && there
there_after _ number m there = there

-- what no act changes of a hall
pub record StaysSet (old new : Hall) : Type 0 where
  pub options : new.options ≡ old.options
  pub epoch : new.epoch ≡ old.epoch
  pub began_at : new.began_at ≡ old.began_at
  pub moment : new.moment ≡ old.moment
  pub stuck : new.stuck ≡ old.stuck
  pub names : NamesTold old new
  pub since : KeepsSince old.moment old.rooms.items new.rooms.items

-- which clients there are then, and whether a Stop was noted
pub record LeavesClients (a : Act) (number : ℕ) (old new : Hall) : Type 0 where
  pub there : (m : ℕ) → is_some (client_in new.clients.items m) ≡ there_after a number m (is_some (client_in old.clients.items m))
  pub stopped : new.stopped ≡ (old.stopped || is_stop a)

-- or nothing was done
pub record SameClients (old new : Hall) : Type 0 where
  pub there : (m : ℕ) → is_some (client_in new.clients.items m) ≡ is_some (client_in old.clients.items m)
  pub stopped : new.stopped ≡ old.stopped

-- memory was wanting, and the call made no act; or it made one, by which it was answered
abbrev pub ActsBy : (at number : ℕ) → Call → Turned → History → Type 0
ActsBy at number c answer [] = answer ≡ turned.Memory
ActsBy at number c answer (e ∷ []) = IsActFor at number c answer e
ActsBy at number c answer (e ∷ f ∷ h) = ⊥

-- so the clients and the Stop are as the act left them
abbrev pub ClientsBy : History → (old new : Hall) → Type 0
ClientsBy [] old new = SameClients old new
ClientsBy (e ∷ h) old new = LeavesClients e.0.act e.0.conn old new

-- the act, where there is one, is a step from this state to that
abbrev pub Steps : State → History → State → Type 0
Steps s [] t = t ≡ s
Steps s (e ∷ []) t = Step s e t
Steps s (e ∷ f ∷ h) t = ⊥

-- from a state, what was held back leads to another, with no more due, and the act from there to one that the hall stands for
pub record Passes (at : ℕ) (held acts : History) (s : State) (new : Sight) : Type 0 where
  pub between : State
  pub back : Legal s held between
  pub calm : is_any_due s at ≡ false → is_any_due between at ≡ false
  pub same : held ≡ [] → between ≡ s
  pub to : State
  pub steps : Steps between acts to
  pub holds : HoldsFor new.hall new.files to

-- what is answered by a disk fault comes only where the count rose
abbrev pub FaultRose : (before now : ℕ) → Act → Type 0
FaultRose before now (act.Stuck topic channel) = Unit {0}
FaultRose before now _ = Rose before now

abbrev pub FaultsRose : (before now : ℕ) → History → Type 0
FaultsRose before now [] = Unit {0}
FaultsRose before now (e ∷ h) = is_faulted e.1 ≡ true → FaultRose before now e.0.act

-- what a call of a number made behind what was paid, and its answer
pub record Acts (tells_notes tells_files : Bool) (number : ℕ) (c : Call) (answer : Turned) (old new : Sight) : Type 0 where
  pub held : History
  pub acts : History
  pub held_back : AreHeldBack old.hall.moment held
  pub sending : (held ≡ []) ⊎ (c ≡ call.Next)
  pub act : ActsBy old.hall.moment number c answer acts
  pub short : IsShortAnswer answer
  pub noted : IsTrue tells_notes → new.noted ≡ old.noted ++ (held ++ acts)
  pub leads : IsTrue tells_files → (s : State) → HoldsFor old.hall old.files s → MayBegin s number c → Passes old.hall.moment held acts s new
  pub rose : IsTrue tells_files → (s : State) → HoldsFor old.hall old.files s → RoseBy (faults_of acts) old.faults new.faults
  pub caused : FaultsRose old.faults new.faults acts
  pub faults : old.faults ≤ new.faults
  pub clients : ClientsBy acts old.hall new.hall
  pub stays : StaysSet old.hall new.hall

-- whose entry an act is: a Ticked is the daemon's own
abbrev pub conn_of : Act → (number : ℕ) → ℕ
conn_of a number = if is_tick a then 0 else number
