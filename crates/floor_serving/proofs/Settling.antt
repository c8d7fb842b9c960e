-- What a turn leaves behind its act.
use Rattle.std.proofs.Common.{◌≡◌, ◌⊎◌, ◌≤◌, ℕ, Bool, true, false, ◌&&◌, refl, sym, ap, subst, ◌∙◌, arith}
use Rattle.std.specs.Prelude.{IsTrue}
use Rattle.std.proofs.lemmas.Bool.{false≢true}
use Rattle.nsq_outside.specs.Causes.{Rose}
use Rattle.nsq_outside.specs.Files.{Files}
use Rattle.broker_history.specs.Entries.{History}
use Rattle.broker_history.specs.declared.call.Call.{Call}
use Rattle.broker_history.specs.declared.call.Call.TheVariants as call
use Rattle.broker_history.specs.declared.turned.Turned.{Turned}
use Rattle.broker_history.specs.declared.turned.Turned.TheVariants as turned
use Rattle.floor_rooms.specs.declared.hall.Hall.{Hall}
use Rattle.floor_rooms.specs.Kept.{NamesTold, hall_kept}
use Rattle.floor_rooms.specs.Standing.{Carries, HoldsFor}
use Rattle.floor_turns.specs.Moves.{sight}
use Rattle.floor_turns.specs.Timely.{TicksTimely}
use Rattle.floor_turns.specs.Turning.{MarksStay, Settles, StaysOn}
use Rattle.floor_turns.proofs.Marking.{marks_gone, marks_same}
use Rattle.floor_turns.specs.Saving.{MarksGo}
use Rattle.floor_turns.specs.TimelySaving.{IsTimely}
use Rattle.floor_turns.proofs.Raising.{same_marks}
use Rattle.floor_turns.proofs.Whole.{holds_marked, stays_then}
use Rattle.floor_serving.specs.Ticks.{is_saving, is_ticking}

-- that a disk fault kept the Stop's turn from paying all is kept
stays_marked : (h h' : Hall) → h' ≡ record h { stuck = h'.stuck } → StaysOn h h'
stays_marked h h' is = record {
  options = ap (λ (x : Hall). x.options) is;
  epoch = ap (λ (x : Hall). x.epoch) is;
  began_at = ap (λ (x : Hall). x.began_at) is;
  moment = ap (λ (x : Hall). x.moment) is;
  names = record { before = λ e. sym (ap (λ (x : Hall). x.unsaved_names) is) ∙ e; same = λ e. ap hall_kept is };
  marks = subst (λ (x : Hall). MarksStay h.moment h.rooms.items x.rooms.items) (sym is) (marks_same h.moment h.rooms.items);
}

pub settles_marked : (tells_files : Bool) (h h' : Hall) (noted : History) (files : Files) (k : ℕ) → h' ≡ record h { stuck = h'.stuck } → Settles tells_files (sight h noted files k) (sight h' noted files k)
settles_marked tells_files h h' noted files k is = record {
  clients = ap (λ (x : Hall). x.clients) is;
  stopped = ap (λ (x : Hall). x.stopped) is;
  stays = stays_marked h h' is;
  marks = subst (λ (x : Hall). MarksGo h.rooms.items x.rooms.items) (sym is) (same_marks h);
  noted = refl;
  holds = λ told s holds. holds_marked h h' files s is holds;
  faults = omega arith;
}

-- then the queues whose saving was due were saved
pub stays_saved : (h h' : Hall) → h' ≡ record h { rooms = h'.rooms; unsaved_from = h'.unsaved_from } → MarksGo h.rooms.items h'.rooms.items → NamesTold h h' → StaysOn h h'
stays_saved h h' is marks names = record {
  options = ap (λ (x : Hall). x.options) is;
  epoch = ap (λ (x : Hall). x.epoch) is;
  began_at = ap (λ (x : Hall). x.began_at) is;
  moment = ap (λ (x : Hall). x.moment) is;
  names = names;
  marks = marks_gone h.moment h.rooms.items h'.rooms.items marks;
}

pub settles_saved : (tells_files : Bool) (h mid h' : Hall) (noted : History) (files files' : Files) (k k' : ℕ) → mid ≡ record h { stuck = mid.stuck } → h' ≡ record mid { rooms = h'.rooms; unsaved_from = h'.unsaved_from } → MarksGo mid.rooms.items h'.rooms.items → NamesTold mid h'
    → (IsTrue tells_files → Carries mid files h' files' (λ s t. t ≡ s)) → k ≤ k' → Settles tells_files (sight h noted files k) (sight h' noted files' k')
settles_saved tells_files h mid h' noted files files' k k' marked rest marks names carries faults =
    let first : Settles tells_files (sight h noted files k) (sight mid noted files k) = settles_marked tells_files h mid noted files k marked in
    record {
      clients = ap (λ (x : Hall). x.clients) rest ∙ first.clients;
      stopped = ap (λ (x : Hall). x.stopped) rest ∙ first.stopped;
      stays = stays_then h mid h' first.stays (stays_saved mid h' rest marks names) marks;
      marks = subst (λ (x : Hall). MarksGo x.rooms.items h'.rooms.items) marked marks;
      noted = refl;
      holds = λ told s before. let to = carries told s (first.holds told s before) in subst (λ t. HoldsFor h' files' t) to.1 to.2;
      faults = faults;
    }

pub stuck_saved : (h mid h' : Hall) (is : Bool) → h' ≡ record mid { rooms = h'.rooms; unsaved_from = h'.unsaved_from } → mid.stuck ≡ is → h'.stuck ≡ is
stuck_saved h mid h' is rest stuck = ap (λ (x : Hall). x.stuck) rest ∙ stuck

-- a tick that is answered Quiet, and any other call
pub timely_saved : (c : Call) (answer : Turned) (h : Hall) (before now : ℕ) → IsTimely h ⊎ Rose before now → TicksTimely c answer h before now
timely_saved call.Tick turned.Quiet h before now t = t
timely_saved call.Tick answer h before now t = tt
timely_saved c answer h before now t = tt

pub timely_other : (c : Call) (answer : Turned) (ticking : Bool) (h : Hall) (before now : ℕ) → is_ticking c ≡ ticking → is_saving ticking answer ≡ false → TicksTimely c answer h before now
timely_other call.Tick turned.Quiet ticking h before now is not_saving = absurd (false≢true (sym not_saving ∙ ap (λ b. b && true) (sym is)))
timely_other call.Tick answer ticking h before now is not_saving = tt
timely_other c answer ticking h before now is not_saving = tt
