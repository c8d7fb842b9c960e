-- One turn leads where turns lead.
use Rattle.std.proofs.Common.{◌≡◌, ◌⊎◌, inl, inr, ℕ, ◌+◌, ◌||◌, min, max, Bool, true, false, [], ◌++◌, refl, sym, ap, subst, ◌∙◌, arith, add-one}
use Rattle.std.specs.Prelude.{IsTrue}
use Rattle.std.proofs.lemmas.Bool.{false≢true}
use Rattle.std.proofs.lemmas.List.Folds.{list_any-append}
use Rattle.broker_history.specs.State.{State, has_begun}
use Rattle.broker_history.specs.Entries.{History, faults_apart, is_began, own}
use Rattle.broker_history.specs.Moments.{greatest, moment_of, starts}
use Rattle.broker_history.specs.Step.{last_moment}
use Rattle.broker_history.proofs.Own.{own-append}
use Rattle.broker_history.specs.declared.call.Call.{Call}
use Rattle.broker_history.specs.declared.call.Call.TheVariants as call
use Rattle.broker_history.specs.declared.turned.Turned.{Turned}
use Rattle.broker_history.specs.Calls.{MayCall, has_began}
use Rattle.floor_rooms.specs.Standing.{HoldsFor}
use Rattle.floor_acts.specs.Plans.{MayBegin}
use Rattle.floor_laws.specs.Laid.{IsLaid}
use Rattle.floor_laws.specs.Laid as laid
use Rattle.floor_laws.specs.Laws.{RoseBy}
use Rattle.floor_laws.proofs.Beginning.{legal_begins}
use Rattle.floor_laws.proofs.Laying.{laid_timed}
use Rattle.floor_turns.specs.Turning.{IsStuckStop}
use Rattle.floor_turns.specs.Scenes.{IsAt, Scene, Stands}
use Rattle.floor_turns.specs.Leads.{LedTo, Leads, Times}
use Rattle.floor_turns.specs.Turns.{IsTurn, TurnLeads, hall_at, seen, seen_at}
use Rattle.floor_turns.proofs.Following.{marks_follow, marks_stay}
use Rattle.floor_turns.proofs.Marking.{marks_stand}

-- a connection may begin in the state where it may in the history
begins_in : (s : State) (number : ℕ) (own : History) (c : Call) → has_begun s number ≡ has_began own → MayCall number own c → MayBegin s number c
begins_in s number own call.Begin same may = (may.0, same ∙ may.1)
begins_in s number own c same may = tt

-- no turn stands before the first
began_none : (h : History) → ([] ++ h) ≡ h
began_none h = refl

module _ (tells_notes tells_files tells_readings : Bool) (number : ℕ) (c : Call) (answer : Turned) (old new : Scene) (may : IsTrue tells_notes → MayCall number (own number old.notes) c) (t : IsTurn tells_notes tells_files tells_readings number c answer old new) where
  led_here : IsTrue tells_notes → IsTrue tells_files → (s : State) → Stands old s → LedTo old new s
  led_here told tells s stands =
      let holds : HoldsFor (hall_at old.hall new.hall.moment) old.files s = t.waits old.files s stands.holds in
      let begins : MayBegin s number c = begins_in s number (own number old.notes) c (stands.began number) (may told) in
      let p = t.takes.legal tells s holds begins in
      record {
        added = t.takes.added;
        whole = t.takes.noted told;
        to = p.0;
        legal = p.1;
        stands = record {
          holds = p.2;
          began = λ m.
              legal_begins m p.1 ∙ ap (λ b. b || has_began (own m t.takes.added)) (stands.began m)
              ∙ sym (ap (λ h. has_began (own m h)) (t.takes.noted told) ∙ ap has_began (own-append m old.notes t.takes.added) ∙ list_any-append (λ e. is_began e.0.act) (own m old.notes) (own m t.takes.added));
        };
        counted = t.takes.rose tells s holds begins;
        apart = λ no_yet yet. apart_of tells s holds no_yet (t.takes.stuck yet);
      }
    where
      apart_of : IsTrue tells_files → (s : State) → HoldsFor (hall_at old.hall new.hall.moment) old.files s → old.hall.stuck ≡ false → (old.hall.stuck ≡ true) ⊎ IsStuckStop tells_files c t.takes.added (seen_at old new.hall.moment) (seen new) → RoseBy (faults_apart t.takes.added + 1) old.faults new.faults
      apart_of tells s holds no_yet (inl yet) = absurd (false≢true (sym no_yet ∙ yet))
      apart_of tells s holds no_yet (inr stop) = let none = stop.apart tells s holds in let rose = stop.rose tells s holds in omega (arith, none, rose)

  times_here : IsTrue tells_notes → IsTrue tells_readings → (coming : ℕ → ℕ) (readings : ℕ) → IsAt coming readings old → Times coming readings old new
  times_here told tells coming readings at =
      let ahead : old.coming 0 ≡ coming readings = at.ahead 0 ∙ ap coming (omega arith) in
      let moment : new.hall.moment ≡ moment_of coming (readings + 1) =
      t.reads.moment tells ∙ ap (λ k. max old.hall.moment (min k last_moment)) ahead ∙ ap (λ k. max k (min (coming readings) last_moment)) at.moment ∙ moment_next coming readings in
      record {
        added = t.takes.added;
        whole = t.takes.noted told;
        later = readings + 1;
        timed = laid_timed coming readings readings number c answer [] t.takes.added starts (subst (λ m. IsLaid m number c answer t.takes.added) moment t.takes.laid);
        now = record { ahead = λ k. t.reads.coming tells k ∙ at.ahead (k + 1) ∙ ap coming (omega arith); moment = moment };
      }
    where
      moment_next : (coming : ℕ → ℕ) (readings : ℕ) → max (min (greatest coming readings) last_moment) (min (coming readings) last_moment) ≡ moment_of coming (readings + 1)
      moment_next coming readings = least_greatest (greatest coming readings) (coming readings) last_moment ∙ ap (λ k. min k last_moment) (sym (greatest_next coming readings))
        where
          least_greatest : (a b m : ℕ) → max (min a m) (min b m) ≡ min (max a b) m
          least_greatest a b m = omega arith

          greatest_next : (coming : ℕ → ℕ) (readings : ℕ) → greatest coming (readings + 1) ≡ max (greatest coming readings) (coming readings)
          greatest_next coming readings = ap (greatest coming) (add-one readings)

  turn_here : Leads tells_notes tells_files tells_readings number old new
  turn_here = record {
    hall = record { options = t.takes.stays.options; epoch = t.takes.stays.epoch; began_at = t.takes.stays.began_at; later = t.reads.later; names = record { before = t.takes.stays.names.before; same = t.takes.stays.names.same } };
    marks =
        marks_follow old.hall.moment new.hall.moment old.hall.rooms.items old.hall.rooms.items new.hall.rooms.items t.reads.later (marks_stay old.hall.moment old.hall.rooms.items)
        (marks_stand new.hall.moment old.hall.rooms.items new.hall.rooms.items t.takes.stays.marks);
    faults = t.takes.faults;
    files = t.files;
    turns = λ told. record { added = t.takes.added; whole = t.takes.noted told; turns = laid.turn new.hall.moment c answer laid.none t.takes.laid };
    legal = led_here;
    times = times_here;
  }

pub turn_leads : TurnLeads
turn_leads tells_notes tells_files tells_readings number c answer old new may t = turn_here tells_notes tells_files tells_readings number c answer old new may t
