-- Turns follow turns.
use Rattle.std.proofs.Common.{◌≡◌, ◌⊎◌, inl, inr, ◌≤◌, ℕ, List, [], ◌++◌, Option, Some, None, refl, sym, ap, subst, ◌∙◌, append_assoc, arith}
use Rattle.std.specs.Prelude.{IfSome, option_and_then}
use Rattle.std.proofs.lemmas.Bool.{false≢true}
use Rattle.std.proofs.lemmas.List.{append-nil}
use Rattle.broker_history.specs.State.{State}
use Rattle.broker_history.specs.Legal.{none}
use Rattle.broker_history.specs.Moments.{starts}
use Rattle.broker_history.proofs.Histories.{Legal-append}
use Rattle.floor_rooms.specs.declared.hall.Hall.{Hall}
use Rattle.floor_rooms.specs.declared.room.Room.{Room}
use Rattle.floor_rooms.specs.declared.stall.Stall.{Stall}
use Rattle.floor_rooms.specs.Rooms.{room_in, stall_at}
use Rattle.floor_rooms.specs.Changes.{room_since, stall_since}
use Rattle.floor_laws.specs.Laid.{AreTurns}
use Rattle.floor_laws.specs.Laid as laid
use Rattle.floor_laws.specs.Laws.{RoseBy}
use Rattle.floor_laws.proofs.Laying.{timed_join, turns_join}
use Rattle.floor_laws.proofs.Faulting.{faults_join, stuck_join}
use Rattle.floor_turns.specs.Scenes.{Scene}
use Rattle.floor_turns.specs.Leads.{AddsTurns, IsMarkLater, LeavesHall, LedTo, LeadsFollow, LeadsStay, MarksStand, Times}

-- marks
mark_same : (at : ℕ) (since : Option ℕ) → IsMarkLater at since since
mark_same at None = tt
mark_same at (Some m) = inl refl

mark_from : (at later : ℕ) (old : Option ℕ) (mid : Option ℕ) (m : ℕ) → at ≤ later → IsMarkLater at old mid → (mid ≡ Some m) ⊎ (later ≤ m) → (old ≡ Some m) ⊎ (at ≤ m)
mark_from at later old mid m le mark (inl is) = subst (λ o. IfSome o (λ k. (old ≡ Some k) ⊎ (at ≤ k))) is mark
mark_from at later old mid m le mark (inr late) = inr (omega (arith, le, late))

mark_then : (at later : ℕ) (old mid since : Option ℕ) → at ≤ later → IsMarkLater at old mid → IsMarkLater later mid since → IsMarkLater at old since
mark_then at later old mid None le a b = tt
mark_then at later old mid (Some m) le a b = mark_from at later old mid m le a b

if_so : {X : Type 0} (P Q : X → Type 0) (o : Option X) → ((x : X) → P x → Q x) → IfSome o P → IfSome o Q
if_so P Q None f h = tt
if_so P Q (Some x) f h = f x h

-- of what is found
found_mark : {X : Type 0} (at : ℕ) (since : X → Option ℕ) (old : Option ℕ) (o : Option X) → IfSome o (λ x. IsMarkLater at old (since x)) → IsMarkLater at old (option_and_then since o)
found_mark at since old None h = tt
found_mark at since old (Some x) h = h

found_same : {X : Type 0} (at : ℕ) (since : X → Option ℕ) (o : Option X) → IfSome o (λ x. IsMarkLater at (option_and_then since o) (since x))
found_same at since None = tt
found_same at since (Some x) = mark_same at (since x)

pub marks_stay : (at : ℕ) (rooms : List Room) → MarksStand at rooms rooms
marks_stay at rooms = record {
  topics = λ topic. found_same at (λ (r : Room). r.since) (room_in rooms topic);
  channels = λ topic channel. found_same at (λ (s : Stall). s.since) (stall_at rooms topic channel);
}

pub marks_follow : (at later : ℕ) (a b c : List Room) → at ≤ later → MarksStand at a b → MarksStand later b c → MarksStand at a c
marks_follow at later a b c le p q = record {
  topics = λ topic.
      if_so (λ (r : Room). IsMarkLater later (room_since b topic) r.since) (λ (r : Room). IsMarkLater at (room_since a topic) r.since) (room_in c topic)
      (λ r h. mark_then at later (room_since a topic) (room_since b topic) r.since le (found_mark at (λ (x : Room). x.since) (room_since a topic) (room_in b topic) (p.topics topic)) h) (q.topics topic);
  channels = λ topic channel.
      if_so (λ (s : Stall). IsMarkLater later (stall_since b topic channel) s.since) (λ (s : Stall). IsMarkLater at (stall_since a topic channel) s.since) (stall_at c topic channel)
      (λ s h. mark_then at later (stall_since a topic channel) (stall_since b topic channel) s.since le (found_mark at (λ (x : Stall). x.since) (stall_since a topic channel) (stall_at b topic channel) (p.channels topic channel)) h) (q.channels topic channel);
}

-- what is left of a hall
hall_stays : (h : Hall) → LeavesHall h h
hall_stays h = record { options = refl; epoch = refl; began_at = refl; later = omega arith; names = record { before = λ e. e; same = λ e. refl } }

hall_follows : (a b c : Hall) → LeavesHall a b → LeavesHall b c → LeavesHall a c
hall_follows a b c p q = record {
  options = q.options ∙ p.options;
  epoch = q.epoch ∙ p.epoch;
  began_at = q.began_at ∙ p.began_at;
  later = let first = p.later in let second = q.later in omega (arith, first, second);
  names = record { before = λ e. p.names.before (q.names.before e); same = λ e. q.names.same e ∙ p.names.same (q.names.before e) };
}

-- turns that led from one scene to another, and then to a third
led_follow : (a b c : Scene) (s : State) (p : LedTo a b s) → LedTo b c p.to → LedTo a c s
led_follow a b c s p q = record {
  added = p.added ++ q.added;
  whole = q.whole ∙ ap (λ x. x ++ q.added) p.whole ∙ append_assoc a.notes p.added q.added;
  to = q.to;
  legal = Legal-append p.legal q.legal;
  stands = q.stands;
  counted = faults_join p.added q.added a.faults b.faults c.faults p.counted q.counted;
  apart = stuck_join p.added q.added a.faults b.faults c.faults a.hall.stuck b.hall.stuck c.hall.stuck p.counted q.counted p.apart q.apart;
}

adds_follow : (number : ℕ) (a b c : Scene) → AddsTurns number a b → AddsTurns number b c → AddsTurns number a c
adds_follow number a b c p q = record { added = p.added ++ q.added; whole = q.whole ∙ ap (λ x. x ++ q.added) p.whole ∙ append_assoc a.notes p.added q.added; turns = turns_join p.turns q.turns }

times_follow : (coming : ℕ → ℕ) (readings : ℕ) (a b c : Scene) (p : Times coming readings a b) → Times coming p.later b c → Times coming readings a c
times_follow coming readings a b c p q = record {
  added = p.added ++ q.added;
  whole = q.whole ∙ ap (λ x. x ++ q.added) p.whole ∙ append_assoc a.notes p.added q.added;
  later = q.later;
  timed = timed_join p.timed q.timed;
  now = q.now;
}

none_counted : (n : ℕ) → RoseBy 0 n n
none_counted n = omega arith

pub leads_stay : LeadsStay
leads_stay tells_notes tells_files tells_readings number a = record {
  hall = hall_stays a.hall;
  marks = marks_stay a.hall.moment a.hall.rooms.items;
  faults = omega arith;
  files = λ told file other. refl;
  turns = λ told. record { added = []; whole = sym (append-nil a.notes); turns = laid.none };
  legal = λ told tells s stands. record {
    added = [];
    whole = sym (append-nil a.notes);
    to = s;
    legal = none;
    stands = stands;
    counted = none_counted a.faults;
    apart = λ no yet. absurd (false≢true (sym no ∙ yet));
  };
  times = λ told tells coming readings at. record { added = []; whole = sym (append-nil a.notes); later = readings; timed = starts; now = at };
}

pub leads_follow : LeadsFollow
leads_follow tells_notes tells_files tells_readings number a b c p q = record {
  hall = hall_follows a.hall b.hall c.hall p.hall q.hall;
  marks = marks_follow a.hall.moment b.hall.moment a.hall.rooms.items b.hall.rooms.items c.hall.rooms.items p.hall.later p.marks q.marks;
  faults = let first = p.faults in let second = q.faults in omega (arith, first, second);
  files = λ told file other. q.files told file other ∙ p.files told file other;
  turns = λ told. adds_follow number a b c (p.turns told) (q.turns told);
  legal = λ told tells s stands. let first = p.legal told tells s stands in led_follow a b c s first (q.legal told tells first.to first.stands);
  times = λ told tells coming readings at. let first = p.times told tells coming readings at in times_follow coming readings a b c first (q.times told tells coming first.later first.now);
}
