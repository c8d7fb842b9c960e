-- What is asked, done.
use Rattle.std.proofs.Common.{◌≡◌, ◌≤◌, ◌<◌, ◌+◌, ◌^◌, ℕ, Bool, true, false, if◌then◌else◌, List, length, get_or, Option, Some, None, is_some, Result, Ok, Err, refl, sym, ap, subst, ◌∙◌, leb-true, ◌||◌}
use Rattle.std.specs.Prelude.{HoldsAt, IsTrue}
use Rattle.std.proofs.lemmas.Bool.{false≢true}
use Rattle.nsq_outside.specs.Causes.{Rose}
use Rattle.nsq_outside.specs.Files.{Files}
use Rattle.nsq_outside.specs.declared.journal.End.TheVariants as end
use Rattle.broker_history.specs.declared.ask.Ask.{Ask}
use Rattle.broker_history.specs.declared.ask.Ask.TheVariants as ask
use Rattle.broker_history.specs.declared.ask.Said.{Said}
use Rattle.broker_history.specs.declared.ask.Said.TheVariants as said
use Rattle.broker_history.specs.declared.entry.Act.TheVariants.{Asked}
use Rattle.broker_history.specs.State.{State, topic_of}
use Rattle.broker_history.specs.Changes.{set_paused}
use Rattle.broker_history.specs.Reply.{are_left}
use Rattle.broker_history.specs.Said.{Says, said_of}
use Rattle.broker_history.specs.Step.{carried_out, is_done}
use Rattle.broker_history.specs.declared.turned.Turned.TheVariants as turned
use Rattle.floor_calls.specs.Lost.TheVariants as losing
use Rattle.floor_rooms.specs.declared.room.Room.{Room}
use Rattle.floor_rooms.specs.declared.stall.Stall.{Stall}
use Rattle.floor_rooms.specs.declared.hall.Hall.{Hall}
use Rattle.floor_rooms.specs.Places.{IsPlace}
use Rattle.floor_rooms.specs.Rooms.{channel_name, room_in, stall_in, topic_name}
use Rattle.floor_rooms.specs.Sound.{IsSound}
use Rattle.floor_rooms.specs.Standing.{Carries, HoldsFor}
use Rattle.floor_rooms.proofs.Forming.{some_at}
use Rattle.floor_calls.specs.Deleting.{DeletesChannel, DeletesTopic}
use Rattle.floor_calls.specs.Deleted.TheVariants as deleting
use Rattle.floor_calls.specs.Asked.{found_where}
use Rattle.floor_calls.proofs.Saying.{said_is}
use Rattle.floor_turns.specs.Acting.{LeavesClients, SameClients}
use Rattle.floor_serving.specs.declared.served.Served.{Served}
use Rattle.floor_serving.specs.declared.served.Served.TheVariants.{Done, Fault}
use Rattle.floor_serving.specs.Carrying.{Around, Basis, CarriesOut, basis}
use Rattle.floor_serving.specs.Asks.{BreaksOff, CarriesAsk, pauses}
use Rattle.floor_serving.proofs.Staying.{around_same, same_hall}

-- what isn't there isn't said to be done
none_there : (h : Hall) (topic : List ℕ) (channel : Option (List ℕ)) → room_in h.rooms.items topic ≡ None → found_where (room_in h.rooms.items topic) channel ≡ said.Done → ⊥
none_there h topic channel none e = false≢true (ap is_done (sym (ap (λ r. found_where r channel) none) ∙ e))

none_in : (h : Hall) (topic channel : List ℕ) (r : Room) → room_in h.rooms.items topic ≡ Some r → stall_in r.stalls.items channel ≡ None → found_where (room_in h.rooms.items topic) (Some channel) ≡ said.Done → ⊥
none_in h topic channel r there none e =
    false≢true (ap is_done (sym (ap (λ o. found_where o (Some channel)) there ∙ ap (λ (o : Option Stall). if is_some o then said.Done else said.NoChannel) none) ∙ e))

said_found : (h : Hall) (topic : List ℕ) (channel : Option (List ℕ)) (f : Files) (s : State) → HoldsFor h f s → said.Done ≡ said_of (topic_of s topic) channel → found_where (room_in h.rooms.items topic) channel ≡ said.Done
said_found h topic channel f s holds says = said_is h topic channel f s holds ∙ sym says

-- nothing was done, as it isn't said to be done
serves_none : (tells : Bool) (a : Ask) (h : Hall) (f : Files) (n : ℕ) {E : Type 0} → IsSound h → ((s : State) → HoldsFor h f s → Says s a said.Done → ⊥) → CarriesAsk {E = E} tells a (basis h f n) (basis h f n) (Ok Done)
serves_none tells a h f n sound never = record { around = around_same tells h f n sound; same = same_hall h; ends = λ told s holds says. absurd (never s holds says) }

-- the topic of an ask that names one, or a channel of it, is there where it is said to be done
abbrev Names : Ask → (topic : List ℕ) → (channel : Option (List ℕ)) → Type 0
Names a topic channel = (s : State) → Says s a said.Done → said.Done ≡ said_of (topic_of s topic) channel

pub no_room : (tells : Bool) (a : Ask) (topic : List ℕ) (channel : Option (List ℕ)) (h : Hall) (f : Files) (n : ℕ) {E : Type 0} → IsSound h → Names a topic channel → room_in h.rooms.items topic ≡ None → CarriesAsk {E = E} tells a (basis h f n) (basis h f n) (Ok Done)
no_room tells a topic channel h f n sound names none = serves_none tells a h f n sound (λ s holds says. none_there h topic channel none (said_found h topic channel f s holds (names s says)))

pub no_stall : (tells : Bool) (a : Ask) (topic channel : List ℕ) (r : Room) (h : Hall) (f : Files) (n : ℕ) {E : Type 0} → IsSound h → Names a topic (Some channel) → room_in h.rooms.items topic ≡ Some r → stall_in r.stalls.items channel ≡ None → CarriesAsk {E = E} tells a (basis h f n) (basis h f n) (Ok Done)
no_stall tells a topic channel r h f n sound names there none = serves_none tells a h f n sound (λ s holds says. none_in h topic channel r there none (said_found h topic (Some channel) f s holds (names s says)))

pub no_ids : (tells : Bool) (topic : List ℕ) (delay : ℕ) (bodies : List (List ℕ)) (h : Hall) (f : Files) (n : ℕ) {E : Type 0} → IsSound h → are_left h.ids_used (length bodies) ≡ false → CarriesAsk {E = E} tells (ask.Publish topic delay bodies) (basis h f n) (basis h f n) (Ok Done)
no_ids tells topic delay bodies h f n sound none =
    serves_none tells (ask.Publish topic delay bodies) h f n sound
    (λ s holds says. false≢true (ap is_done (sym (says ∙ ap (λ used. if are_left used (length bodies) then said.Done else said.Ids) holds.stands.ids_used ∙ ap (λ b. if b then said.Done else said.Ids) none))))

pub ids_within : (used count : ℕ) → are_left used count ≡ true → used + count ≤ 2 ^ 40
ids_within used count e = leb-true (used + count) (2 ^ 40) e

-- what is asked of a place is what is asked by name
module _ (tells : Bool) (h h' : Hall) (f f' : Files) (topic : List ℕ) (i : ℕ) (at : IsPlace topic_name h.rooms.items topic (Some i)) where
  abbrev first : Room
  first = (some_at h.rooms.items i at.stands.in_range).0

  abbrev room : Room
  room = get_or h.rooms.items i first

  room_named : topic_name room ≡ topic
  room_named = at.stands.is_key first

  pub whole_told : (Does : List ℕ → State → State → Type 0) → HoldsAt (λ r. Carries h f h' f' (Does (topic_name r))) h.rooms.items i → Carries h f h' f' (Does topic)
  whole_told Does told = subst (λ name. Carries h f h' f' (Does name)) room_named (told first)

  module _ (channel : List ℕ) (j : ℕ) (place : HoldsAt (λ r. IsPlace channel_name r.stalls.items channel (Some j)) h.rooms.items i) where
    abbrev first_stall : Stall
    first_stall = (some_at room.stalls.items j (place first).stands.in_range).0

    stall_named : channel_name (get_or room.stalls.items j first_stall) ≡ channel
    stall_named = (place first).stands.is_key first_stall

    pub one_told : (Does : (topic channel : List ℕ) → State → State → Type 0) → HoldsAt (λ r. HoldsAt (λ x. Carries h f h' f' (Does (topic_name r) (channel_name x))) r.stalls.items j) h.rooms.items i → Carries h f h' f' (Does topic channel)
    one_told Does told = subst (λ name. Carries h f h' f' (Does topic name)) stall_named (subst (λ name. Carries h f h' f' (Does name (channel_name (get_or room.stalls.items j first_stall)))) room_named (told first first_stall))

    pub stall_within : HoldsAt (λ r. j < length r.stalls.items) h.rooms.items i
    stall_within = λ d. (place d).stands.in_range

-- it was done, or a disk fault kept it off, or memory was wanting
module _ (tells : Bool) (a : Ask) (h h' : Hall) (f f' : Files) (n n' : ℕ) (around : Around tells (basis h f n) (basis h' f' n')) (same : SameClients h h') {E : Type 0} where
  pub ask_done : (IsTrue tells → Carries h f h' f' (λ s t. t ≡ carried_out s h.moment a)) → CarriesAsk {E = E} tells a (basis h f n) (basis h' f' n') (Ok Done)
  ask_done told = record { around = around; same = same; ends = λ tell s holds says. told tell s holds }

  pub ask_fault : (count : ℕ) → BreaksOff tells a count (basis h f n) (basis h' f' n') → CarriesAsk {E = E} tells a (basis h f n) (basis h' f' n') (Ok (Fault count))
  ask_fault count x = record { around = around; same = same; ends = x }

  pub ask_not : (e : E) → (IsTrue tells → Carries h f h' f' (λ s t. t ≡ s)) → CarriesAsk {E = E} tells a (basis h f n) (basis h' f' n') (Err e)
  ask_not e told = record { around = around; same = same; ends = told }

-- an ask that is another one is carried out as that is
pub ask_as : {E : Type 0} (tells : Bool) (a b : Ask) (old new : Basis) (r : Result Served E) → b ≡ a → CarriesAsk {E = E} tells a old new r → CarriesAsk {E = E} tells b old new r
ask_as {E} tells a b old new r is x = subst (λ (y : Ask). CarriesAsk {E = E} tells y old new r) (sym is) x

-- faults that leave all as it was
pub publish_breaks : (tells : Bool) (topic : List ℕ) (delay : ℕ) (bodies : List (List ℕ)) (h h' : Hall) (f f' : Files) (n n' : ℕ) → (IsTrue tells → Carries h f h' f' (λ s t. t ≡ s)) → Rose n n' → BreaksOff tells (ask.Publish topic delay bodies) 0 (basis h f n) (basis h' f' n')
publish_breaks tells topic delay bodies h h' f f' n n' told rose = record { does = λ tell s holds says. let x = told tell s holds in (x.0, (refl, x.1), x.2); rose = rose }

pub empty_breaks : (tells : Bool) (topic : List ℕ) (channel : Option (List ℕ)) (h h' : Hall) (f f' : Files) (n n' : ℕ) → (IsTrue tells → Carries h f h' f' (λ s t. t ≡ s)) → Rose n n' → BreaksOff tells (ask.Empty topic channel) 0 (basis h f n) (basis h' f' n')
empty_breaks tells topic channel h h' f f' n n' told rose = record { does = λ tell s holds says. let x = told tell s holds in (x.0, (refl, x.1), x.2); rose = rose }

pub delete_breaks : (tells : Bool) (topic channel : List ℕ) (h h' : Hall) (f f' : Files) (n n' : ℕ) → (IsTrue tells → Carries h f h' f' (DeletesChannel losing.Fault topic channel)) → Rose n n' → BreaksOff tells (ask.Delete topic (Some channel)) 0 (basis h f n) (basis h' f' n')
delete_breaks tells topic channel h h' f f' n n' told rose = record { does = λ tell s holds says. let x = told tell s holds in (x.0, (refl, x.1), x.2); rose = rose }

pub first_breaks : (tells : Bool) (topic : List ℕ) (count : ℕ) (h h' : Hall) (f f' : Files) (n n' : ℕ) → (IsTrue tells → Carries h f h' f' (DeletesTopic (deleting.Fault count) topic)) → Rose n n' → BreaksOff tells (ask.Delete topic None) count (basis h f n) (basis h' f' n')
first_breaks tells topic count h h' f f' n n' told rose = record { does = λ tell s holds says. let x = told tell s holds in (x.0, (x.1.within, x.1.is), x.2); rose = rose }

-- a pause that is asked for, or its end
pub pauses_named : (on : Bool) (topic : List ℕ) (channel : Option (List ℕ)) (s : State) → Says s (pauses on topic channel) said.Done → said.Done ≡ said_of (topic_of s topic) channel
pauses_named true topic channel s says = says
pauses_named false topic channel s says = says

pub pauses_is : (on : Bool) (topic : List ℕ) (channel : Option (List ℕ)) (s : State) (at : ℕ) → carried_out s at (pauses on topic channel) ≡ set_paused on s topic channel
pauses_is true topic channel s at = refl
pauses_is false topic channel s at = refl

pub paused_told : (on : Bool) (topic : List ℕ) (channel : Option (List ℕ)) (h h' : Hall) (f f' : Files) → Carries h f h' f' (λ s t. t ≡ set_paused on s topic channel) → Carries h f h' f' (λ s t. t ≡ carried_out s h.moment (pauses on topic channel))
paused_told on topic channel h h' f f' told s holds = let x = told s holds in (x.0, x.1 ∙ sym (pauses_is on topic channel s h.moment), x.2)

-- what is said not to be done changes nothing
or_false : (b : Bool) → b ≡ (b || false)
or_false true = refl
or_false false = refl

leaves_asked : (a : Ask) (answer : Said) (number : ℕ) (h h' : Hall) → SameClients h h' → LeavesClients (Asked a answer) number h h'
leaves_asked a answer number h h' same = record { there = same.there; stopped = same.stopped ∙ or_false h.stopped }

pub asked_not : (tells : Bool) (number : ℕ) (a : Ask) (answer : Said) (h : Hall) (f : Files) (n : ℕ) {E : Type 0} → IsSound h → is_done answer ≡ false → CarriesOut {E = E} tells number (Asked a answer) (basis h f n) (basis h f n) (Ok (record { end = end.Done; answer = turned.Said answer }))
asked_not tells number a answer h f n sound undone = record {
  around = around_same tells h f n sound;
  ends = record {
    does = λ told s holds allowed. record { allowed = allowed; to = s; does = sym (ap (λ b. if b then carried_out s h.moment a else s) undone); holds = holds };
    answer = refl;
    noted = tt;
    cause = λ e. absurd (false≢true e);
    clients = leaves_asked a answer number h h (same_hall h);
    short = tt;
  };
}

done_is : (answer : Said) → is_done answer ≡ true → answer ≡ said.Done
done_is said.Done e = refl
done_is said.NoTopic e = absurd (false≢true e)
done_is said.NoChannel e = absurd (false≢true e)
done_is said.Ids e = absurd (false≢true e)
done_is said.Disk e = absurd (false≢true e)
done_is (said.Stats stats) e = absurd (false≢true e)

module _ (tells : Bool) (number : ℕ) (a : Ask) (old new : Basis) {E : Type 0} where
  done_out : CarriesAsk {E = E} tells a old new (Ok Done) → CarriesOut {E = E} tells number (Asked a said.Done) old new (Ok (record { end = end.Done; answer = turned.Said said.Done }))
  done_out x = record {
    around = x.around;
    ends = record {
      does = λ told s holds allowed. let y = x.ends told s holds allowed.1 in record { allowed = allowed; to = y.0; does = y.1; holds = y.2 };
      answer = refl;
      noted = tt;
      cause = λ e. absurd (false≢true e);
      clients = leaves_asked a said.Done number old.hall new.hall x.same;
      short = tt;
    };
  }

  fault_out : (count : ℕ) → CarriesAsk {E = E} tells a old new (Ok (Fault count)) → CarriesOut {E = E} tells number (Asked a said.Done) old new (Ok (record { end = end.Faulted count; answer = turned.Said said.Disk }))
  fault_out count x = record {
    around = x.around;
    ends = record {
      does = λ told s holds allowed. let y = x.ends.does told s holds allowed.1 in record { allowed = (allowed.0, (allowed.1, refl, y.1.0)); to = y.0; does = y.1.1; holds = y.2 };
      answer = refl;
      noted = tt;
      cause = λ e. x.ends.rose;
      clients = leaves_asked a said.Done number old.hall new.hall x.same;
      short = tt;
    };
  }

  module _ (answer : Said) (is : is_done answer ≡ true) where
    pub asked_done : CarriesAsk {E = E} tells a old new (Ok Done) → CarriesOut {E = E} tells number (Asked a answer) old new (Ok (record { end = end.Done; answer = turned.Said answer }))
    asked_done x = subst (λ (y : Said). CarriesOut {E = E} tells number (Asked a y) old new (Ok (record { end = end.Done; answer = turned.Said y }))) (sym (done_is answer is)) (done_out x)

    pub asked_fault : (count : ℕ) → CarriesAsk {E = E} tells a old new (Ok (Fault count)) → CarriesOut {E = E} tells number (Asked a answer) old new (Ok (record { end = end.Faulted count; answer = turned.Said said.Disk }))
    asked_fault count x = subst (λ (y : Said). CarriesOut {E = E} tells number (Asked a y) old new (Ok (record { end = end.Faulted count; answer = turned.Said said.Disk }))) (sym (done_is answer is)) (fault_out count x)

  pub asked_err : (answer : Said) (e : E) → CarriesAsk {E = E} tells a old new (Err e) → CarriesOut {E = E} tells number (Asked a answer) old new (Err e)
  asked_err answer e x = record { around = x.around; ends = record { rests = x.ends; same = x.same } }
