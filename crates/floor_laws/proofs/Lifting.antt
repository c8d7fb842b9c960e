-- Rows over what is kept are rows over the state's copies.
use Rattle.std.proofs.Common.{◌≡◌, ℕ, ◌<◌, Bool, true, false, ◌&&◌, nat_le, if◌then◌else◌, ◌==◌, List, [], ◌∷◌, ◌++◌, refl, sym, ap, subst, ◌∙◌, arith}
use Rattle.std.specs.List.{count_by}
use Rattle.std.specs.Str.{bytes_eq}
use Rattle.std.proofs.lemmas.Bool.{false≢true, leb-true}
use Rattle.v2_frame.specs.declared.message.Message.{Message}
use Rattle.broker_history.specs.State.{Place, Queued, InFlight, Deferred, Finished, Emptied, Dropped, Copy, Channel, counted, is_live, is_in_flight, is_deferred, is_due}
use Rattle.broker_history.specs.Channels.{one, Room, Moves, MovesLive, Joins, JoinsLive, AsOften, IsKept, IsFlight, IsSent, IsFinished, IsTouched, IsGivenBack, IsTimedOut, IsCameDue, IsHeldBack, Sends, Finishes, Touches, GivesBack, TimesOut, ComesDue, HoldsBack, Gets, put_back, put_off, back_in, joins_at, copy_at, is_dropped, is_free, emptied_copy, emptied_all}
use Rattle.broker_history.proofs.Lists.{exact_bytes}
use Rattle.broker_history.proofs.Counting.{live_moves, live_joins, live_counts, count-cons}
use Rattle.floor_laws.proofs.Counting.{parts, tests_alike}
use Rattle.floor_laws.specs.Lifting.{Lifts, Leads, flying_due, deferred_due}

-- a copy in flight is live
flight_live : {client : ℕ} {id : List ℕ} {due sent : ℕ} {x : Copy} → IsFlight client id due sent x → is_live x.place ≡ true
flight_live f = ap is_live f.flies

-- where a copy goes that is put back depends on how many are queued
back_same : (room : Room) (kept k : Channel) → IsKept kept k → back_in room kept ≡ back_in room k
back_same room kept k h = ap (put_back room.ephemeral room.mem) (live_counts kept.copies k.copies h.live).queues

pub sends : (client at timeout : ℕ) (m : Message) (kept kept' k : Channel) → IsKept kept k → Sends MovesLive client at timeout m kept kept' → Lifts (Sends Moves client at timeout m) kept' k
sends client at timeout m kept kept' k h q =
    let to = live_moves (IsSent client at timeout m) kept.copies kept'.copies k.copies (λ x y r. ap is_live r.waits) h.live q.moves in
    record {
      to = record k { copies = to.0 };
      row = record { moves = to.1; is = refl };
      is_kept = record { live = to.2; rest = q.is ∙ ap (λ (x : Channel). record x { copies = kept'.copies }) h.rest };
    }

pub finishes : (client : ℕ) (id : List ℕ) (kept kept' k : Channel) → IsKept kept k → Finishes MovesLive client id kept kept' → Lifts (Finishes Moves client id) kept' k
finishes client id kept kept' k h q =
    let to = live_moves (IsFinished client id) kept.copies kept'.copies k.copies (λ x y r. flight_live r.flight) h.live q.moves in
    record {
      to = record k { copies = to.0 };
      row = record { moves = to.1; is = refl };
      is_kept = record { live = to.2; rest = q.is ∙ ap (λ (x : Channel). record x { copies = kept'.copies }) h.rest };
    }

pub touches : (client : ℕ) (id : List ℕ) (at timeout most : ℕ) (kept kept' k : Channel) → IsKept kept k → Touches MovesLive client id at timeout most kept kept' → Lifts (Touches Moves client id at timeout most) kept' k
touches client id at timeout most kept kept' k h q =
    let to = live_moves (IsTouched client id at timeout most) kept.copies kept'.copies k.copies (λ x y r. flight_live r.flight) h.live q.moves in
    record {
      to = record k { copies = to.0 };
      row = record { moves = to.1; is = refl };
      is_kept = record { live = to.2; rest = q.is ∙ ap (λ (x : Channel). record x { copies = kept'.copies }) h.rest };
    }

pub gives_back : (room : Room) (client : ℕ) (id : List ℕ) (at delay : ℕ) (kept kept' k : Channel) → IsKept kept k → GivesBack MovesLive room client id at delay kept kept' → Lifts (GivesBack Moves room client id at delay) kept' k
gives_back room client id at delay kept kept' k h q =
    let moves = subst (λ b. MovesLive (IsGivenBack client id (put_off at delay b)) kept.copies kept'.copies) (back_same room kept k h) q.moves in
    let to = live_moves (IsGivenBack client id (put_off at delay (back_in room k))) kept.copies kept'.copies k.copies (λ x y r. flight_live r.flight) h.live moves in
    record {
      to = record k { requeue_count = counted k.requeue_count; copies = to.0 };
      row = record { moves = to.1; is = refl };
      is_kept = record { live = to.2; rest = q.is ∙ ap (λ (x : Channel). record x { requeue_count = counted x.requeue_count; copies = kept'.copies }) h.rest };
    }

pub times_out : (room : Room) (id : List ℕ) (at : ℕ) (kept kept' k : Channel) → IsKept kept k → TimesOut MovesLive room id at kept kept' → Lifts (TimesOut Moves room id at) kept' k
times_out room id at kept kept' k h q =
    let moves = subst (λ b. MovesLive (IsTimedOut id at b) kept.copies kept'.copies) (back_same room kept k h) q.moves in
    let to = live_moves (IsTimedOut id at (back_in room k)) kept.copies kept'.copies k.copies (λ x y r. flight_live r.flight) h.live moves in
    record {
      to = record k { timeout_count = counted k.timeout_count; copies = to.0 };
      row = record { moves = to.1; is = refl };
      is_kept = record { live = to.2; rest = q.is ∙ ap (λ (x : Channel). record x { timeout_count = counted x.timeout_count; copies = kept'.copies }) h.rest };
    }

pub comes_due : (room : Room) (id : List ℕ) (at : ℕ) (kept kept' k : Channel) → IsKept kept k → ComesDue MovesLive room id at kept kept' → Lifts (ComesDue Moves room id at) kept' k
comes_due room id at kept kept' k h q =
    let moves = subst (λ b. MovesLive (IsCameDue id at b) kept.copies kept'.copies) (back_same room kept k h) q.moves in
    let to = live_moves (IsCameDue id at (back_in room k)) kept.copies kept'.copies k.copies (λ x y r. ap is_live r.waits) h.live moves in
    record {
      to = record k { copies = to.0 };
      row = record { moves = to.1; is = refl };
      is_kept = record { live = to.2; rest = q.is ∙ ap (λ (x : Channel). record x { copies = kept'.copies }) h.rest };
    }

pub holds_back : (id : List ℕ) (until : ℕ) (kept kept' k : Channel) → IsKept kept k → HoldsBack MovesLive id until kept kept' → Lifts (HoldsBack Moves id until) kept' k
holds_back id until kept kept' k h q =
    let to = live_moves (IsHeldBack id until) kept.copies kept'.copies k.copies (λ x y r. ap is_live r.waits) h.live q.moves in
    let flies : is_free id k.copies ≡ false = subst (λ n. (n == 0) ≡ false) ((live_counts kept.copies k.copies h.live).of id) q.flies in
    record {
      to = record k { copies = to.0 };
      row = record { flies = flies; moves = to.1; is = refl };
      is_kept = record { live = to.2; rest = q.is ∙ ap (λ (x : Channel). record x { copies = kept'.copies }) h.rest };
    }

pub gets : (room : Room) (at : ℕ) (m : Message) (kept kept' k : Channel) → IsKept kept k → Gets JoinsLive room at m kept kept' → Lifts (Gets Joins room at m) kept' k
gets room at m kept kept' k h q =
    let same : joins_at room at m kept ≡ joins_at room at m k = ap (put_off at m.delay) (back_same room kept k h) in
    let joins = subst (λ place. JoinsLive (copy_at m place) kept.copies kept'.copies) same q.joins in
    let x : Copy = copy_at m (joins_at room at m k) in
    let count : Place → Channel → ℕ = λ place c. if is_dropped place then c.message_count else counted c.message_count in
    record {
      to = record k { message_count = count (joins_at room at m k) k; copies = k.copies ++ x ∷ [] };
      row = record { joins = record { is = refl }; is = refl };
      is_kept = record {
        live = live_joins x kept.copies kept'.copies k.copies h.live joins;
        rest = q.is ∙ ap (λ place. record kept { message_count = count place kept; copies = kept'.copies }) same ∙ ap (λ (c : Channel). record c { message_count = count (joins_at room at m k) c; copies = kept'.copies }) h.rest;
      };
    }

pub same_kept : (kept kept' k : Channel) → IsKept kept k → AsOften kept.copies kept'.copies → kept' ≡ record kept { copies = kept'.copies } → IsKept kept' k
same_kept kept kept' k h often is = record {
  live = record { often = λ p. sym (often p) ∙ h.live.often p };
  rest = is ∙ ap (λ (x : Channel). record x { copies = kept'.copies }) h.rest;
}

pub new_kept : (k : Channel) → k.copies ≡ [] → IsKept k k
new_kept k none = record {
  live = record { often = λ p. ap (count_by p) none ∙ sym (ap (count_by (λ (x : Copy). is_live x.place && p x)) none) };
  rest = refl;
}

-- no copy is live that was emptied out
emptied_one : (x : Copy) (b : Bool) (p : Bool) → is_live x.place ≡ b → (is_live (if b then record x { place = Emptied } else x).place && p) ≡ false
emptied_one x true p e = refl
emptied_one x false p e = ap (λ c. c && p) e

none_live : (p : Copy → Bool) (copies : List Copy) → count_by (λ x. is_live x.place && p x) (emptied_all copies) ≡ 0
none_live p [] = refl
none_live p (x ∷ copies) =
    let q : Copy → Bool = λ y. is_live y.place && p y in
    omega (arith, count-cons q (emptied_copy x) (emptied_all copies), ap one (emptied_one x (is_live x.place) (p (emptied_copy x)) refl), none_live p copies)

pub emptied_kept : (kept kept' k : Channel) → IsKept kept k → kept' ≡ record kept { copies = [] } → IsKept kept' (record k { copies = emptied_all k.copies })
emptied_kept kept kept' k h is = record {
  live = record { often = λ p. ap (λ (c : Channel). count_by p c.copies) is ∙ sym (none_live p k.copies) };
  rest = is ∙ ap (λ (x : Channel). record x { copies = [] }) h.rest ∙ ap (λ xs. record k { copies = xs }) (sym (ap (λ (c : Channel). c.copies) is));
}

pub paused_kept : (on : Bool) (kept k : Channel) → IsKept kept k → IsKept (record kept { paused = on }) (record k { paused = on })
paused_kept on kept k h = record { live = h.live; rest = ap (λ (x : Channel). record x { paused = on }) h.rest }

-- a copy that passes a test stands in a list where one is counted
record Standing (p : Copy → Bool) (xs : List Copy) : Type 0 where
  before : List Copy
  x : Copy
  after : List Copy
  is : xs ≡ before ++ x ∷ after
  passes : p x ≡ true

standing : (p : Copy → Bool) (xs : List Copy) → 0 < count_by p xs → Standing p xs
standing p [] h = absurd (let no : ⊥ = omega arith in no)
standing p (y ∷ ys) h =
    elim (p y) as (λ b. p y ≡ b → Standing p (y ∷ ys)) [
      | true ↦ λ e. record { before = []; x = y; after = ys; is = refl; passes = e }
      | false ↦ λ e.
          let s = standing p ys (omega (arith, h, count-cons p y ys, ap one e)) in
          record { before = y ∷ s.before; x = s.x; after = s.after; is = ap (λ zs. y ∷ zs) s.is; passes = s.passes }
    ] refl

-- a copy that is in flight and due can time out
flight_out : (id : List ℕ) (at : ℕ) (back : Place) (x : Copy) (place : Place) → x.place ≡ place → ((is_in_flight place && is_due at place) && bytes_eq id x.message.id) ≡ true → IsTimedOut id at back x (record x { place = back })
flight_out id at back x (InFlight client due sent) e h =
    let both = parts (nat_le due at) (bytes_eq id x.message.id) h in
    record { client = client; due = due; sent = sent; flight = record { of = sym (exact_bytes id x.message.id both.1); flies = e }; came = leb-true due at both.0; goes = refl }
flight_out id at back x Queued e h = absurd (false≢true h)
flight_out id at back x (Deferred due) e h = absurd (false≢true h)
flight_out id at back x Finished e h = absurd (false≢true h)
flight_out id at back x Emptied e h = absurd (false≢true h)
flight_out id at back x Dropped e h = absurd (false≢true h)

-- a deferred one that is due can come
deferred_out : (id : List ℕ) (at : ℕ) (back : Place) (x : Copy) (place : Place) → x.place ≡ place → ((is_deferred place && is_due at place) && bytes_eq id x.message.id) ≡ true → IsCameDue id at back x (record x { place = back })
deferred_out id at back x (Deferred due) e h =
    let both = parts (nat_le due at) (bytes_eq id x.message.id) h in
    record { due = due; of = sym (exact_bytes id x.message.id both.1); waits = e; came = leb-true due at both.0; goes = refl }
deferred_out id at back x Queued e h = absurd (false≢true h)
deferred_out id at back x (InFlight client due sent) e h = absurd (false≢true h)
deferred_out id at back x Finished e h = absurd (false≢true h)
deferred_out id at back x Emptied e h = absurd (false≢true h)
deferred_out id at back x Dropped e h = absurd (false≢true h)

-- such copies are live
flight_lives : (id : List ℕ) (at : ℕ) (x : Copy) (place : Place) → ((is_in_flight place && is_due at place) && bytes_eq id x.message.id) ≡ true → is_live place ≡ true
flight_lives id at x (InFlight client due sent) h = refl
flight_lives id at x (Deferred due) h = refl
flight_lives id at x Queued h = refl
flight_lives id at x place h = absurd (false≢true h)

deferred_lives : (id : List ℕ) (at : ℕ) (x : Copy) (place : Place) → ((is_deferred place && is_due at place) && bytes_eq id x.message.id) ≡ true → is_live place ≡ true
deferred_lives id at x (InFlight client due sent) h = refl
deferred_lives id at x (Deferred due) h = refl
deferred_lives id at x Queued h = refl
deferred_lives id at x place h = absurd (false≢true h)

pub can_time_out : (room : Room) (id : List ℕ) (at : ℕ) (kept k : Channel) → IsKept kept k → 0 < flying_due at id kept.copies → Leads (TimesOut Moves room id at) k
can_time_out room id at kept k h some =
    let p : Copy → Bool = λ x. (is_in_flight x.place && is_due at x.place) && bytes_eq id x.message.id in
    let s = standing p k.copies (subst (λ n. 0 < n) (tests_alike p (λ x e. flight_lives id at x x.place e) kept k h) some) in
    let copies = s.before ++ (record s.x { place = back_in room k }) ∷ s.after in
    record {
      to = record k { timeout_count = counted k.timeout_count; copies = copies };
      row = record { moves = record { before = s.before; from = s.x; to = record s.x { place = back_in room k }; after = s.after; row = flight_out id at (back_in room k) s.x s.x.place refl s.passes; was = s.is; is = refl }; is = refl };
    }

pub can_come_due : (room : Room) (id : List ℕ) (at : ℕ) (kept k : Channel) → IsKept kept k → 0 < deferred_due at id kept.copies → Leads (ComesDue Moves room id at) k
can_come_due room id at kept k h some =
    let p : Copy → Bool = λ x. (is_deferred x.place && is_due at x.place) && bytes_eq id x.message.id in
    let s = standing p k.copies (subst (λ n. 0 < n) (tests_alike p (λ x e. deferred_lives id at x x.place e) kept k h) some) in
    let copies = s.before ++ (record s.x { place = back_in room k }) ∷ s.after in
    record {
      to = record k { copies = copies };
      row = record { moves = record { before = s.before; from = s.x; to = record s.x { place = back_in room k }; after = s.after; row = deferred_out id at (back_in room k) s.x s.x.place refl s.passes; was = s.is; is = refl }; is = refl };
    }

pub can_join : (room : Room) (at : ℕ) (m : Message) (k : Channel) → Leads (Gets Joins room at m) k
can_join room at m k = record {
  to = record k { message_count = if is_dropped (joins_at room at m k) then k.message_count else counted k.message_count; copies = k.copies ++ copy_at m (joins_at room at m k) ∷ [] };
  row = record { joins = record { is = refl }; is = refl };
}
