-- Which copy is due.
use Rattle.std.proofs.Common.{◌≡◌, ℕ, ◌≤◌, ◌<◌, ◌⊎◌, inl, inr, min, Bool, true, false, nat_le, ◌&&◌, List, length, Option, Some, None, option_map, refl, sym, ap, ◌∙◌, subst, arith}
use Rattle.std.specs.List.{count_by}
use Rattle.std.specs.Str.{bytes_eq}
use Rattle.v2_frame.specs.declared.message.Message.{Message}
use Rattle.broker_history.specs.Channels.{one}
use Rattle.channel_copies.specs.declared.flight.Flight.{Flight}
use Rattle.channel_copies.specs.Flights.{Leaves, WentBack, due_by, first_due, flights_of_id, has_id, soonest}
use Rattle.channel_copies.specs.Deferred.{FirstWentBack, Waiting, first_waiting, soonest_waiting}
use Rattle.channel_copies.specs.Putting.{Around}
use Rattle.channel_copies.proofs.Counts.{count-all, count-and, and_true}
use Rattle.channel_copies.proofs.Indexing.{same_ids}
use Rattle.channel_copies.proofs.Soonest.{by_later, is_due, due_is, due_isn't, first_is, first_in, soonest_in, none_due}
use Rattle.channel_core.specs.Seen.{Seen, channel_with}
use Rattle.channel_core.specs.Answers.{IsNextDue, TellsDue, sooner_of}
use Rattle.channel_core.specs.Costs.{CostsDeferred, CostsFlying, MoveCosts}
use Rattle.channel_core.specs.Moves.{IsDueOf, due_first, due_in}
use Rattle.channel_core.proofs.Copies.{flying_due_is, deferred_due_is, all_flying_due_is, all_due_is}

both : (a b : Bool) → a ≡ true → b ≡ true → (a && b) ≡ true
both true b h k = k
both false b h k = absurd (let no : ⊥ = cc in no)

not_none : {X : Type 0} (a : X) → None ≡ Some a → ⊥
not_none a h = cc

some_same : {X : Type 0} (a b : X) → Some a ≡ Some b → a ≡ b
some_same a b h = cc

flight_test : (now : ℕ) (fs : List Flight) (f : Flight) → first_due now fs ≡ Some f → (nat_le f.due now && has_id f.message.id f) ≡ true
flight_test now fs f e = both _ _ (is_due now f.due (first_is (λ (f : Flight). f.due) now fs f e).1) (same_ids f.message.id f.message.id refl)

waiting_test : (now : ℕ) (ws : List Waiting) (w : Waiting) → first_waiting now ws ≡ Some w → (nat_le w.due now && bytes_eq w.message.id w.message.id) ≡ true
waiting_test now ws w e = both _ _ (is_due now w.due (first_is (λ (w : Waiting). w.due) now ws w e).1) (same_ids w.message.id w.message.id refl)

pub flight_due : (now : ℕ) (fs : List Flight) (f : Flight) → first_due now fs ≡ Some f → 0 < count_by (λ g. nat_le g.due now && has_id f.message.id g) fs
flight_due now fs f e = first_in (λ (f : Flight). f.due) (λ g. nat_le g.due now && has_id f.message.id g) now fs f e (flight_test now fs f e)

waiting_due : (now : ℕ) (ws : List Waiting) (w : Waiting) → first_waiting now ws ≡ Some w → 0 < count_by (λ u. nat_le u.due now && bytes_eq w.message.id u.message.id) ws
waiting_due now ws w e = first_in (λ (w : Waiting). w.due) (λ u. nat_le u.due now && bytes_eq w.message.id u.message.id) now ws w e (waiting_test now ws w e)

told : (now : ℕ) (v : Seen) (waits : List Message) (f : Option Flight) (w : Option Waiting) → first_due now v.flights ≡ f → first_waiting now v.deferred ≡ w → TellsDue now (channel_with v waits) (due_first f w)
told now v waits (Some f) w e e' = omega (arith, flying_due_is now f.message.id waits v.flights v.deferred, flight_due now v.flights f e)
told now v waits None (Some w) e e' = (
  all_flying_due_is now waits v.flights v.deferred ∙ none_due (λ (f : Flight). f.due) now v.flights e,
  omega (arith, deferred_due_is now w.message.id waits v.flights v.deferred, waiting_due now v.deferred w e'),
)
told now v waits None None e e' =
    omega (arith, all_due_is now waits v.flights v.deferred, none_due (λ (f : Flight). f.due) now v.flights e, none_due (λ (w : Waiting). w.due) now v.deferred e')

pub tells_due : (now : ℕ) (v : Seen) (waits : List Message) → TellsDue now (channel_with v waits) (due_in now v)
tells_due now v waits = told now v waits (first_due now v.flights) (first_waiting now v.deferred) refl refl

-- the one that is told of, which is in flight
pub record FlightDue (now : ℕ) (id : List ℕ) (v : Seen) : Type 0 where
  pub flight : Flight
  pub first : first_due now v.flights ≡ Some flight
  pub of : flight.message.id ≡ id

pub flight_told : (now : ℕ) (id : List ℕ) (v : Seen) → due_in now v ≡ Some (id, true) → FlightDue now id v
flight_told now id v is = by (first_due now v.flights) (first_waiting now v.deferred) refl is
  where
    by : (f : Option Flight) (w : Option Waiting) → first_due now v.flights ≡ f → due_first f w ≡ Some (id, true) → FlightDue now id v
    by (Some f) w e h = let same : (f.message.id, true) ≡ (id, true) = some_same _ _ h in record { flight = f; first = e; of = ap (λ p. p.0) same }
    by None (Some w) e h = let same : (w.message.id, false) ≡ (id, true) = some_same _ _ h in let no : false ≡ true = ap (λ p. p.1) same in absurd (let n : ⊥ = cc in n)
    by None None e h = absurd (not_none _ h)

-- or deferred
pub record WaitingDue (now : ℕ) (id : List ℕ) (v : Seen) : Type 0 where
  pub waiting : Waiting
  pub first : first_waiting now v.deferred ≡ Some waiting
  pub of : waiting.message.id ≡ id

pub waiting_told : (now : ℕ) (id : List ℕ) (v : Seen) → due_in now v ≡ Some (id, false) → WaitingDue now id v
waiting_told now id v is = by (first_due now v.flights) (first_waiting now v.deferred) refl is
  where
    by : (f : Option Flight) (w : Option Waiting) → first_waiting now v.deferred ≡ w → due_first f w ≡ Some (id, false) → WaitingDue now id v
    by (Some f) w e h = let same : (f.message.id, true) ≡ (id, false) = some_same _ _ h in let no : true ≡ false = ap (λ p. p.1) same in absurd (let n : ⊥ = cc in n)
    by None (Some w) e h = let same : (w.message.id, false) ≡ (id, false) = some_same _ _ h in record { waiting = w; first = e; of = ap (λ p. p.0) same }
    by None None e h = absurd (not_none _ h)

-- it is among those in flight, and due
pub due_flies : (now : ℕ) (id : List ℕ) (v : Seen) → FlightDue now id v → 0 < count_by (λ g. nat_le g.due now && has_id id g) v.flights
due_flies now id v d = subst (λ i. 0 < count_by (λ g. nat_le g.due now && has_id i g) v.flights) d.of (flight_due now v.flights d.flight d.first)

pub due_of_id : (now : ℕ) (id : List ℕ) (v : Seen) → FlightDue now id v → 0 < flights_of_id id v.flights
due_of_id now id v d = omega (arith, due_flies now id v d, count-and (λ (g : Flight). nat_le g.due now) (has_id id) v.flights)

one_true : (b : Bool) → 0 < one b → b ≡ true
one_true true h = refl
one_true false h = absurd (let no : ⊥ = omega arith in no)

-- what went was the only one of its id, so it was due
pub went_due : (now : ℕ) (id : List ℕ) (v : Seen) (f : Flight) (new : List Flight) → FlightDue now id v → f.message.id ≡ id → Leaves f v.flights new → flights_of_id id new ≡ 0 → f.due ≤ now
went_due now id v f new d of leaves none =
    due_is now f.due (one_true (nat_le f.due now) (omega (
      arith,
      due_flies now id v d,
      leaves (λ g. nat_le g.due now && has_id id g),
      count-and (λ (g : Flight). nat_le g.due now) (has_id id) new,
      none,
      and_true (nat_le f.due now) (has_id id f) (same_ids id f.message.id (sym of)),
    )))

-- what waited and was due soonest is the one that is told of
pub waited_due : (now : ℕ) (id : List ℕ) (v : Seen) (w : Waiting) → WaitingDue now id v → soonest_waiting v.deferred ≡ Some w → (w.message.id ≡ id) × (w.due ≤ now)
waited_due now id v w d is =
    let first = first_is (λ (w : Waiting). w.due) now v.deferred d.waiting d.first in
    let same : d.waiting ≡ w = some_same _ _ (sym first.0 ∙ is) in
    (ap (λ (u : Waiting). u.message.id) (sym same) ∙ d.of, subst (λ (u : Waiting). u.due ≤ now) same first.1)

pub some_wait : (now : ℕ) (id : List ℕ) (v : Seen) → WaitingDue now id v → 0 < length v.deferred
some_wait now id v d = omega (arith, soonest_in (λ (w : Waiting). w.due) (λ w. true) v.deferred d.waiting (first_is (λ (w : Waiting). w.due) now v.deferred d.waiting d.first).0 refl, count-all v.deferred)

-- so what went back was due, by what is seen of the channel
pub timed_out_due : {tells : Bool} {before after : Around} {new : List Flight} (now : ℕ) (id : List ℕ) {v0 v : Seen} → v0 ≡ v → due_in now v ≡ Some (id, true) → (b : WentBack tells id v0.flights new before after) → b.flight.due ≤ now
timed_out_due {new = new} now id {v0} {v} is due b = went_due now id v0 b.flight new (flight_told now id v0 (ap (due_in now) is ∙ due)) b.of b.leaves b.none

pub came_due_is : {tells : Bool} {before after : Around} {new : List Waiting} (now : ℕ) (id : List ℕ) {v0 v : Seen} → v0 ≡ v → due_in now v ≡ Some (id, false) → (b : FirstWentBack tells v0.deferred new before after) → (b.waiting.message.id ≡ id) × (b.waiting.due ≤ now)
came_due_is now id {v0} {v} is due b = waited_due now id v0 b.waiting (waiting_told now id v0 (ap (due_in now) is ∙ due)) b.first

pub flies_there : {id : List ℕ} (now : ℕ) (v : Seen) → due_in now v ≡ Some (id, true) → 0 < flights_of_id id v.flights
flies_there {id} now v due = due_of_id now id v (flight_told now id v due)

pub waits_there : (id : List ℕ) (now : ℕ) (v : Seen) → due_in now v ≡ Some (id, false) → 0 < length v.deferred
waits_there id now v due = some_wait now id v (waiting_told now id v due)

-- so a copy of the id is due
pub flight_is_due : (now : ℕ) (id : List ℕ) (v : Seen) (waits : List Message) → FlightDue now id v → IsDueOf now id (channel_with v waits)
flight_is_due now id v waits d = record { some = omega (arith, flying_due_is now id waits v.flights v.deferred, due_flies now id v d) }

pub waiting_is_due : (now : ℕ) (id : List ℕ) (v : Seen) (waits : List Message) → WaitingDue now id v → IsDueOf now id (channel_with v waits)
waiting_is_due now id v waits d = record {
  some = omega (
    arith,
    deferred_due_is now id waits v.flights v.deferred,
    subst (λ i. 0 < count_by (λ u. nat_le u.due now && bytes_eq i u.message.id) v.deferred) d.of (waiting_due now v.deferred d.waiting d.first),
  );
}

-- what is told, by what the two heaps say of their first ones
pub due_flight : (now : ℕ) (f : Flight) {v0 : Seen} (v : Seen) → v0 ≡ v → Some f ≡ first_due now v0.flights → Some (f.message.id, true) ≡ due_in now v
due_flight now f {v0} v is h = ap (λ o. due_first o (first_waiting now v0.deferred)) h ∙ ap (due_in now) is

waits_first : (m : Message) (o : Option Waiting) → Some m ≡ option_map (λ (w : Waiting). w.message) o → Some (m.id, false) ≡ due_first None o
waits_first m None h = absurd (not_none m (sym h))
waits_first m (Some w) h = ap (λ (x : Message). Some (x.id, false)) (some_same m w.message h)

none_first : (o : Option Waiting) → None ≡ option_map (λ (w : Waiting). w.message) o → None ≡ due_first None o
none_first None h = refl
none_first (Some w) h = absurd (not_none w.message h)

pub due_waiting : (now : ℕ) (m : Message) {v0 : Seen} (v : Seen) → v0 ≡ v → None ≡ first_due now v0.flights → Some m ≡ option_map (λ (w : Waiting). w.message) (first_waiting now v0.deferred) → Some (m.id, false) ≡ due_in now v
due_waiting now m {v0} v is none h = waits_first m (first_waiting now v0.deferred) h ∙ (ap (λ o. due_first o (first_waiting now v0.deferred)) none ∙ ap (due_in now) is)

pub due_none : (now : ℕ) {v0 : Seen} (v : Seen) → v0 ≡ v → None ≡ first_due now v0.flights → None ≡ option_map (λ (w : Waiting). w.message) (first_waiting now v0.deferred) → None ≡ due_in now v
due_none now {v0} v is none h = none_first (first_waiting now v0.deferred) h ∙ (ap (λ o. due_first o (first_waiting now v0.deferred)) none ∙ ap (due_in now) is)

pub tells_flight : (now : ℕ) (f : Flight) {v0 : Seen} (v : Seen) → v0 ≡ v → Some f ≡ first_due now v0.flights → (waits : List Message) → TellsDue now (channel_with v waits) (Some (f.message.id, true))
tells_flight now f v is h waits = subst (TellsDue now (channel_with v waits)) (sym (due_flight now f v is h)) (tells_due now v waits)

pub tells_waiting : (now : ℕ) (m : Message) {v0 : Seen} (v : Seen) → v0 ≡ v → None ≡ first_due now v0.flights → Some m ≡ option_map (λ (w : Waiting). w.message) (first_waiting now v0.deferred) → (waits : List Message) → TellsDue now (channel_with v waits) (Some (m.id, false))
tells_waiting now m v is none h waits = subst (TellsDue now (channel_with v waits)) (sym (due_waiting now m v is none h)) (tells_due now v waits)

pub tells_none : (now : ℕ) {v0 : Seen} (v : Seen) → v0 ≡ v → None ≡ first_due now v0.flights → None ≡ option_map (λ (w : Waiting). w.message) (first_waiting now v0.deferred) → (waits : List Message) → TellsDue now (channel_with v waits) None
tells_none now v is none h waits = subst (TellsDue now (channel_with v waits)) (sym (due_none now v is none h)) (tells_due now v waits)

-- when the next copy is due
least_of : (a b : ℕ) → (a ≤ min a b) ⊎ (b ≤ min a b)
least_of a b = elim (nat_le a b) as (λ t. nat_le a b ≡ t → (a ≤ min a b) ⊎ (b ≤ min a b)) [
  | true ↦ λ e. let below = due_is b a e in inl (omega (arith, below))
  | false ↦ λ e. let above = due_isn't b a e in inr (omega (arith, above))
] refl

no_flight : (now : ℕ) (fs : List Flight) (f : Flight) → soonest (λ (f : Flight). f.due) fs ≡ Some f → now < f.due → count_by (λ g. nat_le g.due now) fs ≡ 0
no_flight now fs f e sooner = none_due (λ (f : Flight). f.due) now fs (ap (due_by (λ (f : Flight). f.due) now) e ∙ by_later (λ (f : Flight). f.due) now f sooner)

no_waiting : (now : ℕ) (ws : List Waiting) (w : Waiting) → soonest_waiting ws ≡ Some w → now < w.due → count_by (λ u. nat_le u.due now) ws ≡ 0
no_waiting now ws w e sooner = none_due (λ (w : Waiting). w.due) now ws (ap (due_by (λ (w : Waiting). w.due) now) e ∙ by_later (λ (w : Waiting). w.due) now w sooner)

no_flights : (now : ℕ) (fs : List Flight) → soonest (λ (f : Flight). f.due) fs ≡ None → count_by (λ g. nat_le g.due now) fs ≡ 0
no_flights now fs e = none_due (λ (f : Flight). f.due) now fs (ap (due_by (λ (f : Flight). f.due) now) e)

no_waitings : (now : ℕ) (ws : List Waiting) → soonest_waiting ws ≡ None → count_by (λ u. nat_le u.due now) ws ≡ 0
no_waitings now ws e = none_due (λ (w : Waiting). w.due) now ws (ap (due_by (λ (w : Waiting). w.due) now) e)

some_flight : (now : ℕ) (fs : List Flight) (f : Flight) → soonest (λ (f : Flight). f.due) fs ≡ Some f → f.due ≤ now → 0 < count_by (λ g. nat_le g.due now) fs
some_flight now fs f e came = soonest_in (λ (f : Flight). f.due) (λ g. nat_le g.due now) fs f e (is_due now f.due came)

some_waiting : (now : ℕ) (ws : List Waiting) (w : Waiting) → soonest_waiting ws ≡ Some w → w.due ≤ now → 0 < count_by (λ u. nat_le u.due now) ws
some_waiting now ws w e came = soonest_in (λ (w : Waiting). w.due) (λ u. nat_le u.due now) ws w e (is_due now w.due came)

next_of : (v : Seen) (waits : List Message) (f : Option Flight) (w : Option Waiting) → soonest (λ (f : Flight). f.due) v.flights ≡ f → soonest_waiting v.deferred ≡ w
    → IsNextDue (channel_with v waits) (sooner_of (option_map (λ (f : Flight). f.due) f) (option_map (λ (w : Waiting). w.due) w))
next_of v waits None None e e' = λ now. omega (arith, all_due_is now waits v.flights v.deferred, no_flights now v.flights e, no_waitings now v.deferred e')
next_of v waits None (Some w) e e' = (
  λ now sooner. omega (arith, all_due_is now waits v.flights v.deferred, no_flights now v.flights e, no_waiting now v.deferred w e' sooner),
  omega (arith, all_due_is w.due waits v.flights v.deferred, some_waiting w.due v.deferred w e' (omega arith)),
)
next_of v waits (Some f) None e e' = (
  λ now sooner. omega (arith, all_due_is now waits v.flights v.deferred, no_flight now v.flights f e sooner, no_waitings now v.deferred e'),
  omega (arith, all_due_is f.due waits v.flights v.deferred, some_flight f.due v.flights f e (omega arith)),
)
next_of v waits (Some f) (Some w) e e' = (
  λ now sooner. omega (arith, all_due_is now waits v.flights v.deferred, no_flight now v.flights f e (omega (arith, sooner)), no_waiting now v.deferred w e' (omega (arith, sooner))),
  elim (least_of f.due w.due) [
    | inl first ↦ omega (arith, all_due_is (min f.due w.due) waits v.flights v.deferred, some_flight (min f.due w.due) v.flights f e first)
    | inr first ↦ omega (arith, all_due_is (min f.due w.due) waits v.flights v.deferred, some_waiting (min f.due w.due) v.deferred w e' first)
  ],
)

pub tells_next : (f w : Option ℕ) {v0 : Seen} (v : Seen) → v0 ≡ v → f ≡ option_map (λ (f : Flight). f.due) (soonest (λ (f : Flight). f.due) v0.flights) → w ≡ option_map (λ (w : Waiting). w.due) (soonest_waiting v0.deferred)
    → (waits : List Message) → IsNextDue (channel_with v waits) (sooner_of f w)
tells_next f w {v0} v is flight waiting waits =
    subst (λ (v : Seen). IsNextDue (channel_with v waits) (sooner_of f w)) is
    (subst (λ o. IsNextDue (channel_with v0 waits) (sooner_of o w)) (sym flight)
    (subst (λ o. IsNextDue (channel_with v0 waits) (sooner_of (option_map (λ (f : Flight). f.due) (soonest (λ (f : Flight). f.due) v0.flights)) o)) (sym waiting)
    (next_of v0 waits (soonest (λ (f : Flight). f.due) v0.flights) (soonest_waiting v0.deferred) refl refl)))

-- the steps of a move, by where the copy is that is due
pub costs_timed_out : {at : Option (List ℕ × Bool)} (v : Seen) (before now : ℕ) (id : List ℕ) → at ≡ Some (id, true) → CostsFlying 2 v before now → MoveCosts v before now at
costs_timed_out v before now id is c = subst (MoveCosts v before now) (sym is) c

pub costs_came_due : {at : Option (List ℕ × Bool)} (v : Seen) (before now : ℕ) (id : List ℕ) → at ≡ Some (id, false) → CostsDeferred 2 v before now → MoveCosts v before now at
costs_came_due v before now id is c = subst (MoveCosts v before now) (sym is) c
