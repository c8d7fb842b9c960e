-- A turn as a whole: what was paid, and the act behind it.
use Rattle.std.proofs.Common.{◌≡◌, ◌≢◌, ◌⊎◌, inl, inr, ◌≤◌, ◌&&◌, ◌||◌, not, ℕ, ◌+◌, Bool, true, false, if◌then◌else◌, List, [], ◌∷◌, ◌++◌, length, is_some, refl, sym, ap, subst, ◌∙◌, append_assoc, arith}
use Rattle.std.specs.Prelude.{IsTrue}
use Rattle.std.specs.List.{AllByRecursion, list_any}
use Rattle.std.proofs.lemmas.Bool.{false≢true}
use Rattle.std.proofs.lemmas.List.{append-nil}
use Rattle.std.proofs.lemmas.List.Elements.{All-weaker}
use Rattle.std.specs.Global.{Vec}
use Rattle.nsq_outside.specs.Causes.{Rose}
use Rattle.nsq_outside.specs.Files.{Files}
use Rattle.nsq_outside.specs.declared.journal.End.{End}
use Rattle.nsq_outside.specs.declared.journal.End.TheVariants.{Done, Faulted, Skip}
use Rattle.v2_frame.specs.declared.command.Command.{Command}
use Rattle.broker_history.specs.declared.entry.Act.{Act}
use Rattle.broker_history.specs.declared.entry.Act.TheVariants.{Stop, Stuck}
use Rattle.broker_history.specs.declared.entry.Entry.{Entry}
use Rattle.broker_history.specs.State.{Client, State, has_begun}
use Rattle.broker_history.specs.Talk.{IsSending, IsRest}
use Rattle.broker_history.specs.Entries.{History, IsCommon, faults_apart, faults_of, is_faulted, is_stop, own}
use Rattle.broker_history.specs.Before.{IsPaid, MayAct, MayStop, is_any_due, is_stuck_at, is_topic_due, most_moves}
use Rattle.broker_history.specs.Legal.{Legal, more, none}
use Rattle.broker_history.specs.Step.{IsAllowedAct}
use Rattle.broker_history.specs.Moments.{IsFree}
use Rattle.broker_history.proofs.Histories.{Legal-append}
use Rattle.broker_history.proofs.Own.{common_none}
use Rattle.broker_history.specs.declared.call.Call.{Call}
use Rattle.broker_history.specs.declared.call.Call.TheVariants as call
use Rattle.broker_history.specs.declared.turned.Turned.{Turned}
use Rattle.broker_history.specs.declared.turned.Turned.TheVariants as turned
use Rattle.broker_history.specs.Answers.{Answers, EndsAtStop, HasNoAct, IsShortAnswer}
use Rattle.broker_history.specs.Calls.{has_began}
use Rattle.floor_rooms.specs.declared.hall.Hall.{Hall}
use Rattle.floor_rooms.specs.Rooms.{client_in}
use Rattle.floor_rooms.specs.Sound.{IsRoomSound, IsSound}
use Rattle.floor_rooms.specs.Changes.{KeepsSince}
use Rattle.floor_rooms.proofs.Holding.{holds_same}
use Rattle.floor_rooms.proofs.Sounding.{Lowers, room_lowered}
use Rattle.floor_rooms.proofs.Dating.{since_kept, since_kept_then}
use Rattle.floor_rooms.proofs.Naming.{names_kept, names_then}
use Rattle.floor_rooms.specs.Standing.{HoldsFor}
use Rattle.floor_acts.specs.Plans.{MayBegin, Serves, is_strange}
use Rattle.floor_moves.specs.Moves.{Keeps, RoseBy, Sight}
use Rattle.floor_laws.specs.Laid.{AreActsFor, AreHeldBack, AreMoved, AreStuck, EndsStuck, IsLaid, IsMoved}
use Rattle.floor_laws.proofs.Allowing.{moves_allow}
use Rattle.floor_laws.proofs.Beginning.{legal_begins}
use Rattle.floor_laws.proofs.Faulting.{apart-cons, faults-append, no_fault, one_where}
use Rattle.floor_laws.proofs.Laying.{all_both, all_so, free_common, moved_free, sticks_free}
use Rattle.floor_turns.specs.declared.paying.Paid.{Paid}
use Rattle.floor_turns.specs.declared.paying.Paid.TheVariants as paid
use Rattle.floor_turns.specs.Paying.{CountsStuck, IsPayment, Pays}
use Rattle.floor_turns.specs.Acting.{Acts, ActsBy, ClientsBy, FaultRose, FaultsRose, Steps, there_after}
use Rattle.floor_files.specs.Saving.{MarksGo}
use Rattle.floor_files.specs.Timely.{IsTimely}
use Rattle.floor_turns.specs.Timely.{TicksTimely}
use Rattle.floor_turns.specs.Turning.{IsAnswered, IsStuckStop, PaysFor, Settles, StaysOn, TakesTurn, ends_at_stop, is_enough, is_stopping, is_stuck_stop, most_for, stops_stuck}
use Rattle.floor_turns.proofs.Clearing.{paid_may_act, paid_may_stop}
use Rattle.floor_turns.proofs.Marking.{marks_kept, marks_same, marks_then}
use Rattle.floor_moves.proofs.Stepping.{rose_none}

-- behind a Stop nothing is due
stopped_calm : (h : Hall) (files : Files) (t : State) (at : ℕ) → h.stopped ≡ true → HoldsFor h files t → is_any_due t at ≡ false
stopped_calm h files t at stopped holds = ap (λ b. not b && list_any (is_topic_due at) t.topics) (holds.stands.stopped ∙ stopped)

pub pays_stopped : (tells_notes tells_files : Bool) (stopping : Bool) (old : Sight) → (stopping ≡ true → old.hall.stopped ≡ false) → old.hall.stopped ≡ true → PaysFor tells_notes tells_files stopping old old paid.Clear
pays_stopped tells_notes tells_files stopping old once stopped = record {
  extends = record {
    added = [];
    is = record { moved = tt; few = omega arith };
    noted = λ told. sym (append-nil old.noted);
    legal = λ told s holds. (s, none, holds);
    rose = λ told s holds. rose_none old.faults old.faults (omega arith);
    faults = omega arith;
  };
  stuck = tt;
  act = λ some t holds held u back calm. moves_allow old.hall.moment [] held u tt back (inl (calm (stopped_calm old.hall old.files t old.hall.moment stopped holds)));
  stop = λ stops some less t holds. absurd (false≢true (sym (once stops) ∙ stopped));
}

enough_moves : (stopping : Bool) → most_moves ≤ most_for stopping
enough_moves true = omega arith
enough_moves false = omega arith

pub pays_running : (tells_notes tells_files : Bool) (stopping : Bool) (most : ℕ) (old new : Sight) (answer : Paid) → most ≡ most_for stopping → IsSound new.hall → Keeps old.hall new.hall → Pays tells_notes tells_files most old new answer
    → PaysFor tells_notes tells_files stopping old new answer
pays_running tells_notes tells_files stopping most old new answer is sound keeps p =
    let pays : Pays tells_notes tells_files (most_for stopping) old new answer = subst (λ m. Pays tells_notes tells_files m old new answer) is p in
    record {
      extends = pays.extends;
      stuck = pays.stuck;
      act = λ some t holds. paid_may_act tells_notes tells_files (most_for stopping) old new answer pays (enough_moves stopping) some sound keeps.moment t holds;
      stop = λ stops some less t holds. paid_may_stop tells_notes tells_files (most_for stopping) old new answer pays some less sound t holds;
    }

-- the moves and what got stuck of a payment
record Parts (at most : ℕ) (h : History) : Type 0 where
  moves : History
  stuck : History
  whole : h ≡ moves ++ stuck
  moved : AreMoved at moves
  is_stuck : AreStuck at stuck
  one : length stuck ≤ 1
  few : length (moves ++ stuck) ≤ most

few_parts : (at most : ℕ) (h : History) → AreMoved at h → length h ≤ most → Parts at most h
few_parts at most h moved few = record { moves = h; stuck = []; whole = sym (append-nil h); moved = moved; is_stuck = tt; one = omega arith; few = subst (λ x. length x ≤ most) (sym (append-nil h)) few }

length_one : (h : History) (e : Entry × End) → length (h ++ e ∷ []) ≡ length h + 1
length_one [] e = omega arith
length_one (f ∷ h) e = omega (arith, length_one h e)

parts : (at most : ℕ) (answer : Paid) (h : History) → IsPayment at most answer h → Parts at most h
parts at most paid.Clear h p = few_parts at most h p.moved p.few
parts at most paid.Most h p = few_parts at most h p.moved (let same = p.count in omega (arith, same))
parts at most paid.Stuck h p = record { moves = p.moves; stuck = p.entry ∷ []; whole = p.whole; moved = p.moved; is_stuck = (p.stuck, tt); one = omega arith; few = let fewer = p.fewer in omega (arith, fewer, length_one p.moves p.entry) }
parts at most paid.Wants h p = few_parts at most h p.moved p.few

-- whether a call is for a Stop
is_for_stop : (c : Call) → is_stopping c ≡ true → c ≡ call.Stop
is_for_stop call.Stop e = refl
is_for_stop c e = absurd (false≢true e)

most_of : (c : Call) (n : ℕ) (b : Bool) → is_stopping c ≡ b → n ≤ most_for b → (n ≤ most_moves) ⊎ (c ≡ call.Stop)
most_of c n true is few = inr (is_for_stop c is)
most_of c n false is few = inl few

-- an entry by which no Stop is answered isn't one
other_act : (e : Entry × End) (act : Act) → e.0.act ≡ act → is_stop act ≡ false → is_stop e.0.act ≡ false
other_act e act is other = ap is_stop is ∙ other

sends_other : (act : Act) → IsSending act → is_stop act ≡ false
sends_other Stop h = absurd h
sends_other act h = refl

rests_other : (act : Act) → IsRest act → is_stop act ≡ false
rests_other Stop h = absurd h
rests_other act h = refl

command_other : (command : Command) (answer : Turned) (e : Entry × End) → Answers (call.Command command) e answer → is_stop e.0.act ≡ false
command_other command (turned.Reply frame closing) e h = ap is_stop h.0.0.1
command_other command turned.Quiet e h = ap is_stop h.0.1
command_other command turned.Deleted e h = ap is_stop h
command_other command answer e h = absurd h

next_other : (answer : Turned) (e : Entry × End) → Answers call.Next e answer → is_stop e.0.act ≡ false
next_other (turned.Send frame) e h = sends_other e.0.act h.0
next_other turned.Idle e h = rests_other e.0.act h
next_other turned.Silent e h = ap is_stop h
next_other turned.Deleted e h = ap is_stop h
next_other answer e h = absurd h

pub no_stop : (c : Call) (answer : Turned) (e : Entry × End) → is_stopping c ≡ false → Answers c e answer → is_stop e.0.act ≡ false
no_stop call.Begin turned.Begun e other h = ap is_stop h
no_stop call.Begin answer e other h = absurd h
no_stop (call.Command command) answer e other h = command_other command answer e h
no_stop (call.Bad fault) (turned.Reply frame closing) e other h = ap is_stop h.0
no_stop (call.Bad fault) answer e other h = absurd h
no_stop call.Next answer e other h = next_other answer e h
no_stop call.Gone turned.Ended e other h = ap is_stop h
no_stop call.Gone answer e other h = absurd h
no_stop (call.Ask a) (turned.Said told) e other h = ap is_stop h.1
no_stop (call.Ask a) answer e other h = absurd h
no_stop call.Names (turned.Listed names moment) e other h = ap is_stop h.0
no_stop call.Names answer e other h = absurd h
no_stop call.Tick turned.Quiet e other h = ap is_stop h
no_stop call.Tick answer e other h = absurd h
no_stop call.Stop answer e other h = absurd (false≢true (sym other))

-- whether enough was paid
not_wants : (answer : Paid) (stopping : Bool) → is_enough answer stopping ≡ true → answer ≢ paid.Wants
not_wants paid.Clear stopping e = λ same. absurd cc
not_wants paid.Most stopping e = λ same. absurd cc
not_wants paid.Stuck stopping e = λ same. absurd cc
not_wants paid.Wants stopping e = absurd (false≢true e)

not_most : (answer : Paid) → is_enough answer true ≡ true → answer ≢ paid.Most
not_most paid.Clear e = λ same. absurd cc
not_most paid.Most e = absurd (false≢true e)
not_most paid.Stuck e = λ same. absurd cc
not_most paid.Wants e = λ same. absurd cc

pub not_false : (b : Bool) → not b ≡ false → b ≡ true
not_false true e = refl
not_false false e = absurd (false≢true (sym e))

-- what a payment noted is free
payment_free : (at most : ℕ) (h : History) → Parts at most h → AllByRecursion IsFree h
payment_free at most h p =
    subst (λ x. AllByRecursion IsFree x) (sym p.whole)
    (all_both IsFree p.moves p.stuck (all_so (IsMoved at) IsFree p.moves (moved_free at) p.moved) (all_so (λ e. is_stuck_at at e ≡ true) IsFree p.stuck (sticks_free at) p.is_stuck))

-- so nobody began in it
begins_later : (s t : State) (number : ℕ) (c : Call) (h : History) → Legal s h t → own number h ≡ [] → MayBegin s number c → MayBegin t number c
begins_later s t number call.Begin h a empty may = (may.0, legal_begins number a ∙ ap (λ x. has_begun s number || has_began x) empty ∙ ap (λ b. b || false) may.1)
begins_later s t number c h a empty may = may

-- what was held back ended with no fault
held_counts : (at : ℕ) (h : History) → AreHeldBack at h → faults_of h ≡ 0
held_counts at [] a = refl
held_counts at (e ∷ h) a = let none : is_faulted e.1 ≡ false = ap is_faulted a.0.done in rw none (held_counts at h a.1)

-- the call's entries, and the step from one state to another
module _ (at number : ℕ) (c : Call) (answer : Turned) where
  acts_for : (acts : History) → ActsBy at number c answer acts → AreActsFor at number c answer acts
  acts_for [] a = subst (HasNoAct c) (sym a) tt
  acts_for (e ∷ []) a = a
  acts_for (e ∷ f ∷ h) a = absurd a

  steps_legal : (acts front : History) (s between u : State) → ActsBy at number c answer acts → Legal s front between → (is_stopping c ≡ false → MayAct front between at) → (is_stopping c ≡ true → MayAct front between at × MayStop front between at) → Steps between acts u → Legal s (front ++ acts) u
  steps_legal [] front s between u by legal may stop step = subst (λ x. Legal s x u) (sym (append-nil front)) (subst (λ x. Legal s front x) (sym step) legal)
  steps_legal (e ∷ []) front s between u by legal may stop step = more legal (paid_for (is_stopping c) refl) step
    where
      paid_for : (b : Bool) → is_stopping c ≡ b → IsPaid front between e
      paid_for true is = let both = stop is in record { moved = inr (subst (λ x. MayAct front between x) (sym by.now) both.0); paid = inr (subst (λ x. MayStop front between x) (sym by.now) both.1) }
      paid_for false is = record { moved = inr (subst (λ x. MayAct front between x) (sym by.now) (may is)); paid = inl (no_stop c answer e is by.answers) }
  steps_legal (e ∷ f ∷ h) front s between u by legal may stop step = absurd by

rose_then : (acts : History) (a b c d : ℕ) → a ≤ b → c ≤ d → FaultsRose b c acts → FaultsRose a d acts
rose_then [] a b c d le on h = tt
rose_then (e ∷ acts) a b c d le on h = λ faulted. fault_then e.0.act (h faulted)
  where
    fault_then : (act : Act) → FaultRose b c act → FaultRose a d act
    fault_then (Stuck topic channel) h = tt
    fault_then act h = omega (arith, le, on, h)

-- which clients there are, behind a payment that leaves them
clients_then : (acts : History) (a b c : Hall) → b.clients ≡ a.clients → b.stopped ≡ a.stopped → ClientsBy acts b c → ClientsBy acts a c
clients_then [] a b c clients stopped h = record {
  there = λ m. h.there m ∙ ap (λ (xs : Vec Client). is_some (client_in xs.items m)) clients;
  stopped = h.stopped ∙ stopped;
}
clients_then (e ∷ acts) a b c clients stopped h = record {
  there = λ m. h.there m ∙ ap (λ (xs : Vec Client). there_after e.0.act e.0.conn m (is_some (client_in xs.items m))) clients;
  stopped = h.stopped ∙ ap (λ x. x || is_stop e.0.act) stopped;
}

-- and in a hall that settled
clients_settled : (acts : History) (a b c : Hall) → c.clients ≡ b.clients → c.stopped ≡ b.stopped → ClientsBy acts a b → ClientsBy acts a c
clients_settled [] a b c clients stopped h = record { there = λ m. ap (λ (xs : Vec Client). is_some (client_in xs.items m)) clients ∙ h.there m; stopped = stopped ∙ h.stopped }
clients_settled (e ∷ acts) a b c clients stopped h = record { there = λ m. ap (λ (xs : Vec Client). is_some (client_in xs.items m)) clients ∙ h.there m; stopped = stopped ∙ h.stopped }

pub serves_then : (a b : Hall) (number : ℕ) (c : Call) → b.clients ≡ a.clients → b.stopped ≡ a.stopped → Serves a number c → Serves b number c
serves_then a b number c clients stopped s = record { fits = ap (λ (xs : Vec Client). is_strange c (is_some (client_in xs.items number))) clients ∙ s.fits; running = λ ends. stopped ∙ s.running ends }

-- nothing was done
pub stays_on : (h : Hall) → StaysOn h h
stays_on h = record {
  options = refl;
  epoch = refl;
  began_at = refl;
  moment = refl;
  names = record { before = λ e. e; same = λ e. refl };
  marks = marks_same h.moment h.rooms.items;
}

-- what stays, and then stays while each mark stays or goes, stays
pub stays_then : (a b c : Hall) → StaysOn a b → StaysOn b c → MarksGo b.rooms.items c.rooms.items → StaysOn a c
stays_then a b c p q goes = record {
  options = q.options ∙ p.options;
  epoch = q.epoch ∙ p.epoch;
  began_at = q.began_at ∙ p.began_at;
  moment = q.moment ∙ p.moment;
  names = names_then a b c p.names q.names;
  marks = marks_then a.moment a.rooms.items b.rooms.items c.rooms.items p.marks goes;
}

-- what was answered without an act is short, and no tick that is answered Quiet
none_short : (c : Call) (answer : Turned) → HasNoAct c answer → IsShortAnswer answer
none_short c (turned.Reply frame closing) h = absurd h
none_short c (turned.Send frame) h = absurd h
none_short c answer h = tt

none_timely : (c : Call) (answer : Turned) (h : Hall) (before now : ℕ) → HasNoAct c answer → TicksTimely c answer h before now
none_timely call.Tick turned.Quiet h before now quiet = absurd quiet
none_timely call.Tick answer h before now quiet = tt
none_timely c answer h before now quiet = tt

-- a tick whose turn began with fewer faults
timely_from : (c : Call) (answer : Turned) (h : Hall) (early before now : ℕ) → early ≤ before → TicksTimely c answer h before now → TicksTimely c answer h early now
timely_from call.Tick turned.Quiet h early before now le t = timely_or t
  where
    timely_or : IsTimely h ⊎ Rose before now → IsTimely h ⊎ Rose early now
    timely_or (inl timely) = inl timely
    timely_or (inr rose) = inr (omega (arith, le, rose))
timely_from call.Tick answer h early before now le t = tt
timely_from c answer h early before now le t = tt

pub turn_none : (tells_notes tells_files : Bool) (number : ℕ) (c : Call) (answer : Turned) (old : Sight) → HasNoAct c answer → IsAnswered old.hall old.hall.moment number c answer [] [] → TakesTurn tells_notes tells_files number c answer old old
turn_none tells_notes tells_files number c answer old quiet why = record {
  added = [];
  laid = record { moves = []; stuck = []; held = []; acts = []; whole = refl; moved = tt; most = inl (omega arith); is_stuck = tt; one = omega arith; held_back = tt; sending = inl refl; act = quiet };
  why = why;
  noted = λ told. sym (append-nil old.noted);
  legal = λ told s holds may. (s, none, holds);
  rose = λ told s holds may. rose_none old.faults old.faults (omega arith);
  caused = tt;
  faults = omega arith;
  clients = record { there = λ m. refl; stopped = refl };
  stays = stays_on old.hall;
  short = none_short c answer quiet;
  timely = none_timely c answer old.hall old.faults old.faults quiet;
  stuck = λ yet. inl yet;
}

fits_no : (c : Call) (there : Bool) → is_strange c there ≡ true → HasNoAct c turned.Strange
fits_no call.Begin there e = tt
fits_no (call.Command command) there e = tt
fits_no (call.Bad fault) there e = tt
fits_no call.Next there e = tt
fits_no call.Gone there e = tt
fits_no (call.Ask a) there e = absurd (false≢true e)
fits_no call.Names there e = absurd (false≢true e)
fits_no call.Tick there e = absurd (false≢true e)
fits_no call.Stop there e = absurd (false≢true e)

pub turn_strange : (tells_notes tells_files : Bool) (number : ℕ) (c : Call) (old : Sight) → is_strange c (is_some (client_in old.hall.clients.items number)) ≡ true → TakesTurn tells_notes tells_files number c turned.Strange old old
turn_strange tells_notes tells_files number c old strange = turn_none tells_notes tells_files number c turned.Strange old (fits_no c _ strange) (inl (record { strange = strange; answered = refl; nothing = refl }))

both_true : (a b : Bool) → (a && b) ≡ true → (a ≡ true) × (b ≡ true)
both_true true b e = (refl, e)
both_true false b e = absurd (false≢true e)

ends_is : (c : Call) → ends_at_stop c ≡ true → EndsAtStop c
ends_is call.Begin e = absurd (false≢true e)
ends_is call.Gone e = absurd (false≢true e)
ends_is call.Names e = absurd (false≢true e)
ends_is c e = tt

is_ends : (c : Call) → EndsAtStop c → ends_at_stop c ≡ true
is_ends call.Begin h = absurd h
is_ends call.Gone h = absurd h
is_ends call.Names h = absurd h
is_ends c h = refl

pub turn_stopped : (tells_notes tells_files : Bool) (number : ℕ) (c : Call) (old : Sight) → is_strange c (is_some (client_in old.hall.clients.items number)) ≡ false → (old.hall.stopped && ends_at_stop c) ≡ true → TakesTurn tells_notes tells_files number c turned.Stopping old old
turn_stopped tells_notes tells_files number c old fits stopped =
    let both = both_true old.hall.stopped (ends_at_stop c) stopped in
    turn_none tells_notes tells_files number c turned.Stopping old (ends_is c both.1) (inr (inl (record { fits = fits; ends = ends_is c both.1; stopped = both.0; answered = refl; nothing = refl })))

not_both : (a b : Bool) → (a && b) ≡ false → b ≡ true → a ≡ false
not_both true b e f = absurd (false≢true (sym e ∙ f))
not_both false b e f = refl

pub serves_here : (h : Hall) (number : ℕ) (c : Call) → is_strange c (is_some (client_in h.clients.items number)) ≡ false → (h.stopped && ends_at_stop c) ≡ false → Serves h number c
serves_here h number c fits running = record { fits = fits; running = λ ends. not_both h.stopped (ends_at_stop c) running (is_ends c ends) }

stop_ends : (c : Call) → is_stopping c ≡ true → ends_at_stop c ≡ true
stop_ends call.Stop e = refl
stop_ends c e = absurd (false≢true e)

pub stop_once : (h : Hall) (c : Call) (stopping : Bool) → stopping ≡ is_stopping c → (h.stopped && ends_at_stop c) ≡ false → stopping ≡ true → h.stopped ≡ false
stop_once h c stopping is running e = not_both h.stopped (ends_at_stop c) running (stop_ends c (sym is ∙ e))

-- a hall that is marked as stuck is sound, and stands for what it stood for
pub sound_marked : (h h' : Hall) → IsSound h → h' ≡ record h { stuck = h'.stuck } → IsSound h'
sound_marked h h' sound is =
    let g : Hall = record h { stuck = h'.stuck } in
    let low : Lowers h g = record { options = refl; quiet = omega arith; unsaved = omega arith; pending = λ name has. has } in
    subst IsSound (sym is) (record {
      options = sound.options;
      epoch = sound.epoch;
      ids_used = sound.ids_used;
      moment = sound.moment;
      client_order = sound.client_order;
      room_order = sound.room_order;
      rooms = All-weaker (IsRoomSound h) (IsRoomSound g) (λ r x. room_lowered h g r low x) h.rooms.items sound.rooms;
      members = sound.members;
      channels = sound.channels;
      ready = sound.ready;
      past = sound.past;
    })

pub holds_marked : (h h' : Hall) (files : Files) (s : State) → h' ≡ record h { stuck = h'.stuck } → HoldsFor h files s → HoldsFor h' files s
holds_marked h h' files s is holds =
    let moment : h'.moment ≡ h.moment = ap (λ (x : Hall). x.moment) is in
    holds_same h h' files s (record {
      options = ap (λ (x : Hall). x.options) is;
      epoch = ap (λ (x : Hall). x.epoch) is;
      ids_used = ap (λ (x : Hall). x.ids_used) is;
      moment = omega (arith, moment);
      stopped = ap (λ (x : Hall). x.stopped) is;
      clients = ap (λ (x : Hall). x.clients.items) is;
    }) (ap (λ (x : Hall). x.rooms.items) is) holds

stop_act : (e : Entry × End) → Answers call.Stop e turned.Stopping → e.0.act ≡ Stop
stop_act e h = h

-- a call that is answered that the daemon stops, and made its act, is for that
stopping_call : (c : Call) (e : Entry × End) → Answers c e turned.Stopping → c ≡ call.Stop
stopping_call call.Stop e h = refl
stopping_call c e h = absurd h

acts_stopping : (at number : ℕ) (c : Call) (acts : History) → ActsBy at number c turned.Stopping acts → c ≡ call.Stop
acts_stopping at number c [] by = absurd cc
acts_stopping at number c (e ∷ []) by = stopping_call c e by.answers
acts_stopping at number c (e ∷ f ∷ h) by = absurd by

stuck_parts : (ended : Paid) (answer : Turned) → stops_stuck ended answer ≡ true → (ended ≡ paid.Stuck) × (answer ≡ turned.Stopping)
stuck_parts paid.Stuck turned.Stopping e = (refl, refl)
stuck_parts paid.Stuck answer e = absurd (false≢true e)
stuck_parts paid.Clear answer e = absurd (false≢true e)
stuck_parts paid.Most answer e = absurd (false≢true e)
stuck_parts paid.Wants answer e = absurd (false≢true e)

-- a Stop ends Done
stop_done : (s : State) (at n : ℕ) (act : Act) (end : End) → act ≡ Stop → IsAllowedAct s at n act end → end ≡ Done
stop_done s at n act end is allowed = done_of end (subst (λ a. IsAllowedAct s at n a end) is allowed)
  where
    done_of : (end : End) → IsAllowedAct s at n Stop end → end ≡ Done
    done_of Done a = refl
    done_of (Faulted k) a = absurd a
    done_of Skip a = absurd a

-- what got stuck just before a Stop doesn't count apart from it
last_two : (f st fs : Bool) → st ≡ true → fs ≡ false → (if f && not st then 1 else 0) + (if fs then 1 else 0) ≤ 0
last_two true st fs e g = rw (e, g) (omega arith)
last_two false st fs e g = rw g (omega arith)

none_apart : (at : ℕ) (moves : History) (e s : Entry × End) → AreMoved at moves → is_stop s.0.act ≡ true → s.1 ≡ Done → faults_apart (moves ++ e ∷ s ∷ []) ≤ 0
none_apart at [] e s moved stop done = last_two (is_faulted e.1) (is_stop s.0.act) (is_faulted s.1) stop (ap is_faulted done)
none_apart at (m ∷ moves) e s moved stop done =
    let first = apart-cons m (moves ++ e ∷ s ∷ []) in
    let none : one_where (is_faulted m.1) ≡ 0 = ap one_where (ap is_faulted moved.0.done) ∙ no_fault in
    let rest = none_apart at moves e s moved.1 stop done in
    omega (arith, first, none, rest)

-- a payment and an act behind it
module _ (tells_notes tells_files : Bool) (number : ℕ) (c : Call) (stopping : Bool) (stops : stopping ≡ is_stopping c) (old mid : Sight) (ended : Paid) (pays : PaysFor tells_notes tells_files stopping old mid ended) (keeps : Keeps old.hall mid.hall) (serves : Serves old.hall number c) where
  abbrev at : ℕ
  at = old.hall.moment

  abbrev paid_added : History
  paid_added = pays.extends.added

  split : Parts at (most_for stopping) paid_added
  split = parts at (most_for stopping) ended paid_added pays.extends.is

  laid_of : (answer : Turned) (held acts : History) → AreHeldBack at held → (held ≡ []) ⊎ (c ≡ call.Next) → AreActsFor at number c answer acts → IsLaid at number c answer (paid_added ++ (held ++ acts))
  laid_of answer held acts back sending act = record {
    moves = split.moves;
    stuck = split.stuck;
    held = held;
    acts = acts;
    whole = ap (λ x. x ++ (held ++ acts)) split.whole;
    moved = split.moved;
    most = most_of c (length (split.moves ++ split.stuck)) stopping (sym stops) split.few;
    is_stuck = split.is_stuck;
    one = split.one;
    held_back = back;
    sending = sending;
    act = act;
  }

  own_none : own number paid_added ≡ []
  own_none = common_none number paid_added (all_so IsFree IsCommon paid_added free_common (payment_free at (most_for stopping) paid_added split))

  module _ (answer : Turned) (new last : Sight) (acts : Acts tells_notes tells_files number c answer mid new) (enough : is_enough ended stopping ≡ true) (settles : Settles tells_files new last) (stuck : last.hall.stuck ≡ is_stuck_stop new.hall.stuck ended answer)
      (timely : TicksTimely c answer last.hall new.faults last.faults) where
    back : AreHeldBack at acts.held
    back = subst (λ m. AreHeldBack m acts.held) keeps.moment acts.held_back

    by : ActsBy at number c answer acts.acts
    by = subst (λ m. ActsBy m number c answer acts.acts) keeps.moment acts.act

    legal_here : IsTrue tells_files → (s : State) → HoldsFor old.hall old.files s → MayBegin s number c → (t : State) × Legal s (paid_added ++ (acts.held ++ acts.acts)) t × HoldsFor last.hall last.files t
    legal_here told s holds may =
        let p = pays.extends.legal told s holds in
        let t : State = p.0 in
        let q = acts.leads told t p.2 (begins_later s t number c paid_added p.1 own_none may) in
        let calm : is_any_due t at ≡ false → is_any_due q.between at ≡ false = subst (λ m. is_any_due t m ≡ false → is_any_due q.between m ≡ false) keeps.moment q.calm in
        let front : Legal s (paid_added ++ acts.held) q.between = Legal-append p.1 q.back in
        let act : MayAct (paid_added ++ acts.held) q.between at = pays.act (not_wants ended stopping enough) t p.2 acts.held q.between back calm in (
          q.to,
          subst (λ x. Legal s x q.to) (append_assoc paid_added acts.held acts.acts)
              (steps_legal at number c answer acts.acts (paid_added ++ acts.held) s q.between q.to by front (λ other. act) (λ is. (act, stop_here is acts.sending t p.2 q.between q.same)) q.steps),
          settles.holds told q.to q.holds,
        )
      where
        stop_here : is_stopping c ≡ true → (acts.held ≡ []) ⊎ (c ≡ call.Next) → (t : State) → HoldsFor mid.hall mid.files t → (between : State) → (acts.held ≡ [] → between ≡ t) → MayStop (paid_added ++ acts.held) between at
        stop_here is (inl nothing) t holds between same =
            let on : stopping ≡ true = stops ∙ is in
            let stop : MayStop paid_added t at = pays.stop on (not_wants ended stopping enough) (not_most ended (subst (λ b. is_enough ended b ≡ true) on enough)) t holds in
            subst (λ x. MayStop x between at) (sym (ap (λ x. paid_added ++ x) nothing ∙ append-nil paid_added)) (subst (λ u. MayStop paid_added u at) (sym (same nothing)) stop)
        stop_here is (inr next) t holds between same = absurd (false≢true (ap is_stopping (sym next) ∙ is))

    rose_here : IsTrue tells_files → (s : State) → HoldsFor old.hall old.files s → RoseBy (faults_of (paid_added ++ (acts.held ++ acts.acts))) old.faults last.faults
    rose_here told s holds =
        let p = pays.extends.legal told s holds in
        let first = pays.extends.rose told s holds in
        let second = acts.rose told p.0 p.2 in
        let whole = faults-append paid_added (acts.held ++ acts.acts) in
        let behind = faults-append acts.held acts.acts in
        let none = held_counts at acts.held back in
        let third = settles.faults in
        omega (arith, first, second, whole, behind, none, third)

    stays_acted : StaysOn old.hall new.hall
    stays_acted = record {
      options = acts.stays.options ∙ keeps.options;
      epoch = acts.stays.epoch ∙ keeps.epoch;
      began_at = acts.stays.began_at ∙ keeps.began_at;
      moment = acts.stays.moment ∙ keeps.moment;
      names = names_then old.hall mid.hall new.hall (names_kept at old.hall mid.hall keeps.unsaved_names keeps.rooms) acts.stays.names;
      marks =
          marks_kept at old.hall.rooms.items new.hall.rooms.items
          (since_kept_then at old.hall.rooms.items mid.hall.rooms.items new.hall.rooms.items keeps.rooms (subst (λ m. KeepsSince m mid.hall.rooms.items new.hall.rooms.items) keeps.moment acts.stays.since));
    }

    -- the Stop was noted behind what got stuck
    apart_here : (ended ≡ paid.Stuck) → (c ≡ call.Stop) → answer ≡ turned.Stopping → IsTrue tells_files → (s : State) → HoldsFor old.hall old.files s → faults_apart (paid_added ++ (acts.held ++ acts.acts)) ≡ 0
    apart_here is for answered told s holds =
        let p = pays.extends.legal told s holds in
        let t : State = p.0 in
        let q = acts.leads told t p.2 (subst (λ d. MayBegin t number d) (sym for) tt) in
        let ends : EndsStuck at (most_for stopping) paid_added = subst (λ d. IsPayment at (most_for stopping) d paid_added) is pays.extends.is in
        apart_of ends acts.held (nothing acts.sending) acts.acts by q.between q.to q.steps
      where
        nothing : (acts.held ≡ []) ⊎ (c ≡ call.Next) → acts.held ≡ []
        nothing (inl e) = e
        nothing (inr next) = absurd (false≢true (ap is_stopping (sym next ∙ for)))

        apart_of : EndsStuck at (most_for stopping) paid_added → (held : History) → held ≡ [] → (act : History) → ActsBy at number c answer act → (between u : State) → Steps between act u → faults_apart (paid_added ++ (held ++ act)) ≡ 0
        apart_of ends held empty [] made between u step = absurd (let no : turned.Stopping ≡ turned.Memory = sym answered ∙ made in cc)
        apart_of ends held empty (e ∷ []) made between u step =
            let stop : e.0.act ≡ Stop = stop_act e (subst (λ a. Answers call.Stop e a) answered (subst (λ d. Answers d e answer) for made.answers)) in
            let done : e.1 ≡ Done = stop_done between e.0.at e.0.conn e.0.act e.1 stop step.allowed in
            let few : faults_apart (ends.moves ++ ends.entry ∷ e ∷ []) ≤ 0 = none_apart at ends.moves ends.entry e ends.moved (ap is_stop stop) done in
            ap (λ x. faults_apart (paid_added ++ (x ++ e ∷ []))) empty ∙ ap (λ x. faults_apart (x ++ e ∷ [])) ends.whole ∙ ap faults_apart (append_assoc ends.moves (ends.entry ∷ []) (e ∷ [])) ∙ omega (arith, few)
        apart_of ends held empty (e ∷ f ∷ h) made between u step = absurd made

    sticks : stops_stuck ended answer ≡ true → IsStuckStop tells_files c (paid_added ++ (acts.held ++ acts.acts)) old last
    sticks is =
        let both = stuck_parts ended answer is in
        let for : c ≡ call.Stop = acts_stopping at number c acts.acts (subst (λ a. ActsBy at number c a acts.acts) both.1 by) in
        record {
          call = for;
          apart = apart_here both.0 for both.1;
          rose = λ told s holds.
              let first : Rose old.faults mid.faults = (subst (λ d. CountsStuck tells_files old mid d) both.0 pays.stuck) told s holds in
              let second = acts.faults in
              let third = settles.faults in
              omega (arith, first, second, third);
        }

    stuck_here : last.hall.stuck ≡ true → (old.hall.stuck ≡ true) ⊎ IsStuckStop tells_files c (paid_added ++ (acts.held ++ acts.acts)) old last
    stuck_here yet = by_flag new.hall.stuck refl
      where
        by_flag : (b : Bool) → new.hall.stuck ≡ b → (old.hall.stuck ≡ true) ⊎ IsStuckStop tells_files c (paid_added ++ (acts.held ++ acts.acts)) old last
        by_flag true was = inl (sym (acts.stays.stuck ∙ keeps.stuck) ∙ was)
        by_flag false was = inr (sticks (sym (ap (λ b. b || stops_stuck ended answer) was) ∙ sym stuck ∙ yet))

    pub turn_served : TakesTurn tells_notes tells_files number c answer old last
    unfolding laid_of
    turn_served = record {
      added = paid_added ++ (acts.held ++ acts.acts);
      laid = laid_of answer acts.held acts.acts back acts.sending (acts_for at number c answer acts.acts by);
      why = inr (inr (record { serves = serves; act = by }));
      noted = λ told. settles.noted ∙ acts.noted told ∙ ap (λ x. x ++ (acts.held ++ acts.acts)) (pays.extends.noted told) ∙ append_assoc old.noted paid_added (acts.held ++ acts.acts);
      legal = legal_here;
      rose = λ told s holds may. rose_here told s holds;
      caused = rose_then acts.acts old.faults mid.faults new.faults last.faults pays.extends.faults settles.faults acts.caused;
      faults = let first = pays.extends.faults in let second = acts.faults in let third = settles.faults in omega (arith, first, second, third);
      clients = clients_settled acts.acts old.hall new.hall last.hall settles.clients settles.stopped (clients_then acts.acts old.hall mid.hall new.hall keeps.clients keeps.stopped acts.clients);
      stays = stays_then old.hall new.hall last.hall stays_acted settles.stays settles.marks;
      short = acts.short;
      timely = timely_from c answer last.hall old.faults new.faults last.faults (let first = pays.extends.faults in let second = acts.faults in omega (arith, first, second)) timely;
      stuck = stuck_here;
    }

  -- memory was wanting before the act
  pub turn_wants : TakesTurn tells_notes tells_files number c turned.Memory old mid
  unfolding laid_of
  turn_wants = record {
    added = paid_added ++ [];
    laid = laid_of turned.Memory [] [] tt (inl refl) tt;
    why = inr (inr (record { serves = serves; act = refl }));
    noted = λ told. pays.extends.noted told ∙ ap (λ x. old.noted ++ x) (sym (append-nil paid_added));
    legal = λ told s holds may. let p = pays.extends.legal told s holds in (p.0, subst (λ x. Legal s x p.0) (sym (append-nil paid_added)) p.1, p.2);
    rose = λ told s holds may. subst (λ x. RoseBy (faults_of x) old.faults mid.faults) (sym (append-nil paid_added)) (pays.extends.rose told s holds);
    caused = tt;
    faults = pays.extends.faults;
    clients = record { there = λ m. ap (λ (xs : Vec Client). is_some (client_in xs.items m)) keeps.clients; stopped = keeps.stopped };
    stays = record {
      options = keeps.options;
      epoch = keeps.epoch;
      began_at = keeps.began_at;
      moment = keeps.moment;
      names = names_kept at old.hall mid.hall keeps.unsaved_names keeps.rooms;
      marks = marks_kept at old.hall.rooms.items mid.hall.rooms.items (since_kept at old.hall.rooms.items mid.hall.rooms.items keeps.rooms);
    };
    short = tt;
    timely = none_timely c turned.Memory mid.hall old.faults mid.faults tt;
    stuck = λ yet. inl (sym keeps.stuck ∙ yet);
  }
