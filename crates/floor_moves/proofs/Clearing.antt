-- A channel is owed no copy any more.
use Rattle.std.proofs.Common.{◌≡◌, inr, ◌≤◌, ℕ, true, false, not, ◌||◌, List, set, [], ◌∷◌, get_or, Option, Some, None, is_none, refl, sym, ap, subst, ◌∙◌}
use Rattle.std.specs.Prelude.{IsSome, IfSome, slice_get}
use Rattle.std.specs.List.{All}
use Rattle.std.specs.Str.{bytes_eq}
use Rattle.std.proofs.lemmas.Bool.{false≢true}
use Rattle.std.proofs.lemmas.List.Elements.{All-filter}
use Rattle.std.proofs.lemmas.Option.{slice_get_within}
use Rattle.nsq_outside.specs.Files.{Files}
use Rattle.v2_frame.specs.declared.message.Message.{Message}
use Rattle.backlog.specs.Lists.{Stands}
use Rattle.backlog.specs.Seen.{Seen as Backlog, SameQueue}
use Rattle.broker_history.specs.State.{Taken, Topic, State, is_empty}
use Rattle.broker_history.specs.Topics.{is_owed, owed_no_more, still_owed, without_name}
use Rattle.broker_history.specs.Changes.{AtTopic}
use Rattle.topic_core.specs.Seen.{Seen as Queue, owed_of}
use Rattle.topic_core.specs.Rows.{paid_in}
use Rattle.floor_rooms.specs.declared.room.Room.{Room}
use Rattle.floor_rooms.specs.declared.hall.Hall.{Hall}
use Rattle.floor_rooms.specs.Rooms.{topic_name, stall_in, stall_names}
use Rattle.floor_rooms.specs.Sound.{IsRoomSound, IsSound, has_none_waiting}
use Rattle.floor_rooms.specs.Standing.{IsRoomOf, HoldsFor, longest_delay}
use Rattle.floor_rooms.specs.Changes.{AtRoom, TouchesRoom}
use Rattle.floor_rooms.specs.RoomChanges.{LiftsRoom}
use Rattle.floor_rooms.proofs.Dating.{keeps_at_room, keeps_room_alike, since_equal}
use Rattle.floor_rooms.proofs.Placing.{at_place}
use Rattle.floor_rooms.proofs.Rooming.{at_room}
use Rattle.floor_rooms.proofs.Sounding.{at_all, room_past, room_touched, sound_at_room}
use Rattle.floor_rooms.proofs.Turning.{room_change}
use Rattle.floor_moves.specs.Moves.{Keeps}
use Rattle.floor_moves.proofs.Keeping.{keeps_marked, rest_rooms}
use Rattle.floor_moves.proofs.PuttingBack.{some_same}
use Rattle.floor_moves.specs.Copying.{Owes, PaysRoom, PaysTopic}
use Rattle.floor_moves.specs.Taking.{HasRoomAt}
use Rattle.floor_moves.proofs.Around.{and_left, keeps_rest}
use Rattle.floor_moves.proofs.Heads.{same_queue}

-- those that are owed still were owed before
owed_still : (m : Message) (names : List (List ℕ)) → owed_of (still_owed m names) ≡ names
owed_still m [] = refl
owed_still m (n ∷ names) = refl

fewer_owed : (P : List ℕ → Type 0) (o : Option Taken) (channel : List ℕ) → All P (owed_of o) → All P (owed_of (owed_no_more o channel))
fewer_owed P None channel h = h
fewer_owed P (Some t) channel h = subst (All P) (sym (owed_still t.message (without_name t.owed channel))) (All-filter (λ n. not (bytes_eq n channel)) P t.owed h)

-- what is owed still is the same message
short_one : (m : Message) (names : List (List ℕ)) → m.delay ≤ longest_delay → IfSome (still_owed m names) (λ x. x.message.delay ≤ longest_delay)
short_one m [] h = tt
short_one m (n ∷ names) h = h

short_still : (o : Option Taken) (channel : List ℕ) → IfSome o (λ x. x.message.delay ≤ longest_delay) → IfSome (owed_no_more o channel) (λ x. x.message.delay ≤ longest_delay)
short_still None channel h = h
short_still (Some t) channel h = short_one t.message (without_name t.owed channel) h

-- a topic that owes has taken something
owed_some : (o : Option Taken) (channel : List ℕ) → is_owed o channel ≡ true → is_none o ≡ true → ⊥
owed_some None channel owed none = false≢true owed
owed_some (Some t) channel owed none = false≢true none

module _ (h0 h1 : Hall) (i : ℕ) (channel : List ℕ) (sound : IsSound h0) (has : HasRoomAt i (Owes channel) h0.rooms.items) (rest : h1 ≡ record h0 { rooms = h1.rooms }) (r r' : Room) (read : r ≡ get_or h0.rooms.items i r) (is : h1.rooms.items ≡ set h0.rooms.items i r') (p : PaysRoom channel r r') where
  pub paid_there : slice_get h0.rooms.items i ≡ Some r
  paid_there = at_place h0.rooms.items i r (slice_get_within h0.rooms.items i has.room has.there) read

  owes : Owes channel r
  owes = subst (Owes channel) (some_same has.room r (sym has.there ∙ paid_there)) has.is

  room_is : IsRoomSound h0 r
  room_is = at_all (IsRoomSound h0) h0.rooms.items i r sound.rooms paid_there

  abbrev pub paid_at : AtRoom i (PaysRoom channel) h0.rooms.items h1.rooms.items
  paid_at = record { room = r; after = r'; there = paid_there; is = is; does = p }

  same_name : topic_name r' ≡ topic_name r
  same_name = ap (λ (q : Queue). q.name) p.seen

  same_stalls : r'.stalls.items ≡ r.stalls.items
  same_stalls = ap (λ (y : Room). y.stalls.items) p.same

  same_since : r'.since ≡ r.since
  same_since = ap (λ (y : Room). y.since) p.same

  same_backlog : r'.queue.backlog ≡ r.queue.backlog
  same_backlog = ap (λ (q : Queue). q.backlog) p.seen

  is_listed : r.listed ≡ false → ⊥
  is_listed none = owed_some r.queue.head channel owes (and_left (is_none r.queue.head) (r.queue.paused || (is_empty r.stalls.items || has_none_waiting r)) (room_is.rests none))

  touched : TouchesRoom r r'
  touched = record {
    name = same_name;
    settled = ap (λ (b : Backlog). b.lent) same_backlog ∙ room_is.settled;
    queue = subst (λ (b : Backlog). SameQueue r.queue.backlog.queue b.queue) (sym same_backlog) (same_queue r.queue.backlog.queue);
    capacity = ap (λ (b : Backlog). b.capacity) same_backlog;
    names = subst (λ o. IfSome o (λ names. names ≡ (topic_name r, stall_names r) ∷ [])) (sym (ap (λ (y : Room). y.names) p.same)) room_is.names;
    stalls = same_stalls;
    owed = subst (λ (q : Queue). All (λ name. IsSome (stall_in r.stalls.items name)) (owed_of q.head)) (sym p.seen) (fewer_owed (λ name. IsSome (stall_in r.stalls.items name)) r.queue.head channel room_is.owed);
    since = same_since;
    marked = inr (ap (λ (b : Backlog). b.queue) same_backlog);
    listed = λ e. sym (ap (λ (y : Room). y.listed) p.same) ∙ e;
    rests = λ e. absurd (is_listed (sym (ap (λ (y : Room). y.listed) p.same) ∙ e));
  }

  pub pay_sound : IsSound h1
  pay_sound =
      let keeps = keeps_rest h0 h1 sound rest in
      sound_at_room h0 h1 i (PaysRoom channel) sound keeps paid_at same_name same_stalls (room_touched h0 h1 r r' keeps.lowers room_is touched)
      (subst (λ o. IfSome o (λ m. m ≤ h1.moment)) (sym same_since) (room_past h0 h1 i (PaysRoom channel) sound keeps.later paid_at))

  pub pay_keeps : Keeps h0 h1
  pay_keeps =
      keeps_marked h0 h1 h0.unsaved_from rest
      (keeps_at_room h0.moment i (PaysRoom channel) h0.rooms.items h1.rooms.items paid_at (keeps_room_alike h0.moment r r' same_name (ap (λ (q : Queue). q.paused) p.seen) (since_equal h0.moment r.since r'.since same_since) same_stalls))

  lifts : (files : Files) (t : Topic) → IsRoomOf files r t → LiftsRoom (λ a b. b ≡ paid_in channel a) files r' t
  lifts files t of = record {
    to = paid_in channel t;
    row = refl;
    queue = p.row files t of.queue;
    stands = subst (λ (b : Backlog). Stands b.queue files) (sym same_backlog) of.stands;
    delays = of.delays;
    taken = short_still t.taken channel of.taken;
    channels = refl;
  }

  pub pay_stands : (room : Room) → slice_get h0.rooms.items i ≡ Some room → (files : Files) → PaysTopic (topic_name room) channel h0 h1 files
  pay_stands room here files s holds =
      subst (λ (x : Room). (t : State) × AtTopic (topic_name x) (λ a b. b ≡ paid_in channel a) s t × HoldsFor h1 files t) (some_same r room (sym paid_there ∙ here))
      (at_room h0 h1 files files s (topic_name r) r r' (λ a b. b ≡ paid_in channel a) sound holds
      (room_change h0 h1 files files i (PaysRoom channel) sound paid_at same_name same_stalls (rest_rooms h0 h1 rest) (λ n apart file own. refl)) (lifts files))
