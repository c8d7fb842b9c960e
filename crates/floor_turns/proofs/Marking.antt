-- Marks of a turn.
use Rattle.std.proofs.Common.{◌≡◌, inl, inr, ℕ, List, Option, Some, None, refl, sym, ap, subst, arith}
use Rattle.std.specs.Prelude.{IfSome, option_and_then}
use Rattle.floor_rooms.specs.declared.room.Room.{Room}
use Rattle.floor_rooms.specs.declared.stall.Stall.{Stall}
use Rattle.floor_rooms.specs.Rooms.{room_in, stall_at}
use Rattle.floor_rooms.specs.Changes.{KeepsSince, SinceStays, room_since, stall_since}
use Rattle.floor_files.specs.Saving.{MarkGoes, MarksGo}
use Rattle.floor_turns.specs.Leads.{IsMarkLater, MarksStand}
use Rattle.floor_turns.specs.Turning.{IsMarkOf, MarksStay}

-- one mark
mark_same : (at : ℕ) (since : Option ℕ) → IsMarkOf at since since
mark_same at None = tt
mark_same at (Some m) = refl

mark_kept : (at : ℕ) (old since : Option ℕ) → SinceStays at old since → IsMarkOf at old since
mark_kept at None since h = h
mark_kept at (Some before) since h = subst (λ o. IfSome o (λ moment. moment ≡ before)) (sym h) refl

mark_then : (at : ℕ) (old mid since : Option ℕ) → IsMarkOf at old mid → MarkGoes mid since → IsMarkOf at old since
mark_then at None mid None h goes = tt
mark_then at (Some before) mid None h goes = tt
mark_then at old mid (Some m) h goes = subst (λ o. IsMarkOf at old o) goes h

mark_stands : (at : ℕ) (old since : Option ℕ) → IsMarkOf at old since → IsMarkLater at old since
mark_stands at old None h = tt
mark_stands at None (Some m) h = inr (omega (arith, h))
mark_stands at (Some before) (Some m) h = inl (ap Some (sym h))

if_so : {X : Type 0} (P Q : X → Type 0) (o : Option X) → ((x : X) → P x → Q x) → IfSome o P → IfSome o Q
if_so P Q None f h = tt
if_so P Q (Some x) f h = f x h

-- of what is found
found_same : {X : Type 0} (at : ℕ) (since : X → Option ℕ) (o : Option X) → IfSome o (λ x. IsMarkOf at (option_and_then since o) (since x))
found_same at since None = tt
found_same at since (Some x) = mark_same at (since x)

found_mark : {X : Type 0} (at : ℕ) (since : X → Option ℕ) (old : Option ℕ) (o : Option X) → IfSome o (λ x. IsMarkOf at old (since x)) → IsMarkOf at old (option_and_then since o)
found_mark at since None None h = tt
found_mark at since (Some before) None h = tt
found_mark at since old (Some x) h = h

-- where nothing is done, and where no mark of what changes begins anew
pub marks_same : (at : ℕ) (rooms : List Room) → MarksStay at rooms rooms
marks_same at rooms = record {
  topics = λ topic. found_same at (λ (r : Room). r.since) (room_in rooms topic);
  channels = λ topic channel. found_same at (λ (s : Stall). s.since) (stall_at rooms topic channel);
}

pub marks_kept : (at : ℕ) (old new : List Room) → KeepsSince at old new → MarksStay at old new
marks_kept at old new keeps = record {
  topics = λ topic. if_so (λ (r : Room). SinceStays at (room_since old topic) r.since) (λ (r : Room). IsMarkOf at (room_since old topic) r.since) (room_in new topic) (λ r h. mark_kept at (room_since old topic) r.since h) (keeps.topics topic);
  channels = λ topic channel.
      if_so (λ (s : Stall). SinceStays at (stall_since old topic channel) s.since) (λ (s : Stall). IsMarkOf at (stall_since old topic channel) s.since) (stall_at new topic channel)
      (λ s h. mark_kept at (stall_since old topic channel) s.since h) (keeps.channels topic channel);
}

-- and then each stays or goes
pub marks_then : (at : ℕ) (a b c : List Room) → MarksStay at a b → MarksGo b c → MarksStay at a c
marks_then at a b c p q = record {
  topics = λ topic.
      if_so (λ (r : Room). MarkGoes (room_since b topic) r.since) (λ (r : Room). IsMarkOf at (room_since a topic) r.since) (room_in c topic)
      (λ r h. mark_then at (room_since a topic) (room_since b topic) r.since (found_mark at (λ (x : Room). x.since) (room_since a topic) (room_in b topic) (p.topics topic)) h) (q.topics topic);
  channels = λ topic channel.
      if_so (λ (s : Stall). MarkGoes (stall_since b topic channel) s.since) (λ (s : Stall). IsMarkOf at (stall_since a topic channel) s.since) (stall_at c topic channel)
      (λ s h. mark_then at (stall_since a topic channel) (stall_since b topic channel) s.since (found_mark at (λ (x : Stall). x.since) (stall_since a topic channel) (stall_at b topic channel) (p.channels topic channel)) h) (q.channels topic channel);
}

pub marks_gone : (at : ℕ) (old new : List Room) → MarksGo old new → MarksStay at old new
marks_gone at old new goes = marks_then at old old new (marks_same at old) goes

-- what turns one after the other say of marks
pub marks_stand : (at : ℕ) (old new : List Room) → MarksStay at old new → MarksStand at old new
marks_stand at old new stay = record {
  topics = λ topic.
      if_so (λ (r : Room). IsMarkOf at (room_since old topic) r.since) (λ (r : Room). IsMarkLater at (room_since old topic) r.since) (room_in new topic) (λ r h. mark_stands at (room_since old topic) r.since h) (stay.topics topic);
  channels = λ topic channel.
      if_so (λ (s : Stall). IsMarkOf at (stall_since old topic channel) s.since) (λ (s : Stall). IsMarkLater at (stall_since old topic channel) s.since) (stall_at new topic channel)
      (λ s h. mark_stands at (stall_since old topic channel) s.since h) (stay.channels topic channel);
}
