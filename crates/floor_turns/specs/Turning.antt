-- What a turn makes of a hall once the clock was read: what is due is moved, and the call makes its act.
use Rattle.std.specs.Prelude.{◌≡◌, ◌≢◌, ◌⊎◌, ◌≤◌, ◌^◌, ◌-◌, ◌||◌, not, ℕ, Bool, true, false, IsTrue, List, [], ◌++◌, Option, Some, None, IfSome, is_some}
use Rattle.nsq_outside.specs.Causes.{Rose}
use Rattle.broker_history.specs.State.{State}
use Rattle.broker_history.specs.Entries.{History, faults_apart, faults_of}
use Rattle.broker_history.specs.Before.{MayStop, most_moves}
use Rattle.broker_history.specs.Legal.{Legal}
use Rattle.broker_history.specs.declared.call.Call.{Call}
use Rattle.broker_history.specs.declared.call.Call.TheVariants as call
use Rattle.broker_history.specs.declared.turned.Turned.{Turned}
use Rattle.broker_history.specs.declared.turned.Turned.TheVariants as turned
use Rattle.broker_history.specs.Answers.{EndsAtStop, IsShortAnswer}
use Rattle.floor_rooms.specs.declared.hall.Hall.{Hall}
use Rattle.floor_rooms.specs.declared.room.Room.{Room}
use Rattle.floor_rooms.specs.Rooms.{client_in, room_in, stall_at}
use Rattle.floor_rooms.specs.Changes.{room_since, stall_since}
use Rattle.floor_rooms.specs.Kept.{NamesTold}
use Rattle.floor_rooms.specs.Standing.{HoldsFor}
use Rattle.floor_acts.specs.Plans.{MayBegin, Serves, is_strange}
use Rattle.floor_moves.specs.Moves.{RoseBy, Sight}
use Rattle.floor_files.specs.Saving.{MarksGo}
use Rattle.floor_laws.specs.Laid.{IsLaid}
use Rattle.floor_turns.specs.declared.paying.Paid.{Paid}
use Rattle.floor_turns.specs.declared.paying.Paid.TheVariants as paid
use Rattle.floor_turns.specs.Paying.{CountsStuck, Extends, IsPayment, MayActBehind}
use Rattle.floor_turns.specs.Acting.{ActsBy, ClientsBy, FaultsRose}
use Rattle.floor_turns.specs.Timely.{TicksTimely}

-- whether a call is for a Stop, and whether a Stop keeps it from all else
abbrev pub is_stopping : Call → Bool
is_stopping call.Stop = true
is_stopping c = false

abbrev pub ends_at_stop : Call → Bool
ends_at_stop call.Begin = false
ends_at_stop call.Gone = false
ends_at_stop call.Names = false
ends_at_stop c = true

-- how many moves a call's turn makes at most: without bound for a Stop
abbrev pub most_for : (stopping : Bool) → ℕ
most_for true = 2 ^ 64 - 1
most_for false = most_moves

-- what was paid before a call's act allows it
pub record PaysFor (tells_notes tells_files : Bool) (stopping : Bool) (old new : Sight) (ended : Paid) : Type 0 where
  pub extends : Extends tells_notes tells_files (IsPayment old.hall.moment (most_for stopping) ended) old new
  pub stuck : CountsStuck tells_files old new ended
  pub act : ended ≢ paid.Wants → (t : State) → HoldsFor new.hall new.files t → MayActBehind old.hall.moment extends.added t
  pub stop : stopping ≡ true → ended ≢ paid.Wants → ended ≢ paid.Most → (t : State) → HoldsFor new.hall new.files t → MayStop extends.added t old.hall.moment

-- the client of the call's number isn't as it should be: nothing was noted
pub record IsTurnedAway (h : Hall) (number : ℕ) (c : Call) (answer : Turned) (added : History) : Type 0 where
  pub strange : is_strange c (is_some (client_in h.clients.items number)) ≡ true
  pub answered : answer ≡ turned.Strange
  pub nothing : added ≡ []

-- a Stop keeps the call from all else: nothing was noted
pub record IsStopped (h : Hall) (number : ℕ) (c : Call) (answer : Turned) (added : History) : Type 0 where
  pub fits : is_strange c (is_some (client_in h.clients.items number)) ≡ false
  pub ends : EndsAtStop c
  pub stopped : h.stopped ≡ true
  pub answered : answer ≡ turned.Stopping
  pub nothing : added ≡ []

-- the call made its act, by which it was answered, or memory was wanting
pub record IsServed (h : Hall) (at number : ℕ) (c : Call) (answer : Turned) (acts : History) : Type 0 where
  pub serves : Serves h number c
  pub act : ActsBy at number c answer acts

abbrev pub IsAnswered : Hall → (at number : ℕ) → Call → Turned → (added acts : History) → Type 0
IsAnswered h at number c answer added acts = IsTurnedAway h number c answer added ⊎ (IsStopped h number c answer added ⊎ IsServed h at number c answer acts)

-- the Stop was noted behind what a disk fault kept off; no entry that counts apart from it ended so
pub record IsStuckStop (tells_files : Bool) (c : Call) (added : History) (old new : Sight) : Type 0 where
  pub call : c ≡ call.Stop
  pub apart : IsTrue tells_files → (s : State) → HoldsFor old.hall old.files s → faults_apart added ≡ 0
  pub rose : IsTrue tells_files → (s : State) → HoldsFor old.hall old.files s → Rose old.faults new.faults

-- since when a queue is marked as unsaved, where it is: where it was marked, since the same moment, and where it wasn't, since this one
abbrev pub IsMarkOf : (at : ℕ) → (old since : Option ℕ) → Type 0
IsMarkOf at None since = IfSome since (λ moment. moment ≡ at)
IsMarkOf at (Some before) since = IfSome since (λ moment. moment ≡ before)

-- so no mark begins anew: a queue that was marked and is marked still is marked since the moment since which it was, whatever topics and channels come and go
pub record MarksStay (at : ℕ) (old new : List Room) : Type 0 where
  pub topics : (topic : List ℕ) → IfSome (room_in new topic) (λ r. IsMarkOf at (room_since old topic) r.since)
  pub channels : (topic channel : List ℕ) → IfSome (stall_at new topic channel) (λ s. IsMarkOf at (stall_since old topic channel) s.since)

-- what no turn changes of a hall, and what it leaves of marks
pub record StaysOn (old new : Hall) : Type 0 where
  pub options : new.options ≡ old.options
  pub epoch : new.epoch ≡ old.epoch
  pub began_at : new.began_at ≡ old.began_at
  pub moment : new.moment ≡ old.moment
  pub names : NamesTold old new
  pub marks : MarksStay old.moment old.rooms.items new.rooms.items

-- what a turn leaves behind its act: nothing is noted, each mark stays as it is or goes, and the hall stands for the same states
pub record Settles (tells_files : Bool) (old new : Sight) : Type 0 where
  pub clients : new.hall.clients ≡ old.hall.clients
  pub stopped : new.hall.stopped ≡ old.hall.stopped
  pub stays : StaysOn old.hall new.hall
  pub marks : MarksGo old.hall.rooms.items new.hall.rooms.items
  pub noted : new.noted ≡ old.noted
  pub holds : IsTrue tells_files → (s : State) → HoldsFor old.hall old.files s → HoldsFor new.hall new.files s
  pub faults : old.faults ≤ new.faults

-- one turn of a number at the hall's moment, for its call, and its answer
pub record TakesTurn (tells_notes tells_files : Bool) (number : ℕ) (c : Call) (answer : Turned) (old new : Sight) : Type 0 where
  pub added : History
  pub laid : IsLaid old.hall.moment number c answer added
  pub why : IsAnswered old.hall old.hall.moment number c answer added laid.acts
  pub noted : IsTrue tells_notes → new.noted ≡ old.noted ++ added
  pub legal : IsTrue tells_files → (s : State) → HoldsFor old.hall old.files s → MayBegin s number c → (t : State) × Legal s added t × HoldsFor new.hall new.files t
  pub rose : IsTrue tells_files → (s : State) → HoldsFor old.hall old.files s → MayBegin s number c → RoseBy (faults_of added) old.faults new.faults
  pub caused : FaultsRose old.faults new.faults laid.acts
  pub faults : old.faults ≤ new.faults
  pub clients : ClientsBy laid.acts old.hall new.hall
  pub stays : StaysOn old.hall new.hall
  pub short : IsShortAnswer answer
  pub timely : TicksTimely c answer new.hall old.faults new.faults
  pub stuck : new.hall.stuck ≡ true → (old.hall.stuck ≡ true) ⊎ IsStuckStop tells_files c added old new

-- whether enough was paid for an act: memory wasn't wanting, and all for a Stop unless a disk fault kept it off
abbrev pub is_enough : Paid → (stopping : Bool) → Bool
is_enough paid.Clear stopping = true
is_enough paid.Most stopping = not stopping
is_enough paid.Stuck stopping = true
is_enough paid.Wants stopping = false

-- whether a disk fault kept the Stop's turn from paying all: it did before, or it did now and the call is answered that the daemon stops
abbrev pub stops_stuck : Paid → Turned → Bool
stops_stuck paid.Stuck turned.Stopping = true
stops_stuck paid answer = false

abbrev pub is_stuck_stop : (before : Bool) → Paid → Turned → Bool
is_stuck_stop before paid answer = before || stops_stuck paid answer
