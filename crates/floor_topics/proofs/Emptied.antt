-- A topic that is emptied.
use Rattle.std.proofs.Common.{◌≡◌, ◌⊎◌, inl, inr, ◌≤◌, ◌+◌, ◌==◌, ℕ, Bool, true, false, ◌&&◌, ◌||◌, List, [], ◌∷◌, get_or, Option, Some, None, refl, sym, ap, subst, ◌∙◌, arith}
use Rattle.std.specs.Prelude.{IfSome, IsSome, IsTrue, is_none}
use Rattle.std.specs.List.{All, Contains}
use Rattle.std.proofs.lemmas.Bool.{false≢true}
use Rattle.std.proofs.lemmas.List.Elements.{All-nil}
use Rattle.std.proofs.lemmas.Option.{get_or_from_slice_get}
use Rattle.nsq_outside.specs.Files.{Files}
use Rattle.disk_queue.specs.Seen.{Seen as Queue, after_save, emptied}
use Rattle.disk_queue.specs.declared.answers.Sync.TheVariants as sync
use Rattle.disk_queue.specs.declared.answers.Emptied.{Emptied}
use Rattle.disk_queue.specs.declared.answers.Emptied.TheVariants.{Done, Fault}
use Rattle.backlog.specs.Seen.{Seen as Backlog, EmptyQueueSeen, EmptySeen, disk_depth, lent_of_ring, ring_depth}
use Rattle.backlog.specs.Answers.{EmptyFails}
use Rattle.backlog.specs.declared.backlog.Lent.{Lent}
use Rattle.backlog.specs.declared.backlog.Lent.TheVariants.{Nothing}
use Rattle.broker_history.specs.State.{State, Topic, is_empty}
use Rattle.topic_core.specs.Seen.{Seen as TopicSeen, owed_of}
use Rattle.floor_rooms.specs.declared.room.Room.{Room}
use Rattle.floor_rooms.specs.declared.hall.Hall.{Hall}
use Rattle.floor_rooms.specs.Rooms.{stall_in, stall_names, topic_name}
use Rattle.floor_rooms.specs.Sound.{IsRoomSound, IsSound, has_none_waiting, rests}
use Rattle.floor_rooms.specs.Standing.{HoldsFor, longest_delay}
use Rattle.floor_rooms.specs.Changes.{AtRoom, KeepsRooms, KeepsSince, OnlyQueueFiles, TouchesRoom}
use Rattle.floor_rooms.specs.RoomChanges.{RoomChange}
use Rattle.floor_rooms.specs.Kept.{NamesTold}
use Rattle.floor_rooms.proofs.Staying.{others_stay}
use Rattle.floor_rooms.proofs.Rooming.{at_room}
use Rattle.floor_rooms.proofs.Orders.{room_as_before}
use Rattle.floor_rooms.proofs.Sounding.{KeepsRest, at_all, room_past, room_touched, sound_at_room}
use Rattle.floor_rooms.proofs.Marked.{IsElse, MarksRoom, else_keeps, else_stays}
use Rattle.floor_rooms.proofs.Turning.{room_change}
use Rattle.floor_rooms.proofs.Dating.{keeps_at_room, keeps_marks_room, keeps_room_alike, keeps_then, since_equal, since_kept}
use Rattle.floor_rooms.proofs.Filing.{only_of_topic}
use Rattle.floor_rooms.proofs.Naming.{names_kept}
use Rattle.floor_topics.specs.Emptying.{EmptiesBy, EmptiesRoom, EmptyingFails}
use Rattle.floor_topics.proofs.Marks.{after_at, marked_some}
use Rattle.floor_topics.proofs.States.{topic_is}

-- emptying leaves how many the ring holds
empty_capacity : (a b : Backlog) (answer : Emptied) → EmptySeen a b answer → b.capacity ≡ a.capacity
empty_capacity a b Done h = ap (λ (x : Backlog). x.capacity) h.0
empty_capacity a b Fault h = ap (λ (x : Backlog). x.capacity) h.0

-- none waits afterwards, or none as before
depth_gone : (q r : Queue) → (r ≡ after_save (emptied q) sync.Done) ⊎ (r ≡ after_save (emptied q) sync.Failed) → r.depth ≡ 0
depth_gone q r (inl e) = ap (λ (x : Queue). x.depth) e
depth_gone q r (inr e) = ap (λ (x : Queue). x.depth) e

depth_none : (q r : Option Queue) → EmptyQueueSeen q r Done → disk_depth r ≡ 0
depth_none None None seen = refl
depth_none None (Some r) seen = absurd seen
depth_none (Some q) None seen = absurd seen
depth_none (Some q) (Some r) seen = depth_gone q r seen

depth_same : (q r : Option Queue) → EmptyQueueSeen q r Fault → disk_depth r ≡ disk_depth q
depth_same None None seen = refl
depth_same None (Some r) seen = absurd seen
depth_same (Some q) None seen = absurd seen
depth_same (Some q) (Some r) seen = ap (λ (x : Queue). x.depth) seen

none_still : (a b : Backlog) (answer : Emptied) → a.lent ≡ Nothing → EmptySeen a b answer → (ring_depth a == 0) && (disk_depth a.queue == 0) ≡ true → (ring_depth b == 0) && (disk_depth b.queue == 0) ≡ true
none_still a b Done settled h e =
    let ring : ring_depth b ≡ 0 = ap ring_depth h.0 ∙ ap (λ (l : Lent). 0 + lent_of_ring l) settled in
    ap (λ n. (n == 0) && (disk_depth b.queue == 0)) ring ∙ ap (λ n. n == 0) (depth_none a.queue b.queue h.1)
none_still a b Fault settled h e = ap (λ n. (n == 0) && (disk_depth b.queue == 0)) (ap ring_depth h.0) ∙ ap (λ n. (ring_depth a == 0) && (n == 0)) (depth_same a.queue b.queue h.1) ∙ e

rests_still : (head paused none waits waits' : Bool) → (waits ≡ true → waits' ≡ true) → (head && (paused || (none || waits))) ≡ true → (head && (paused || (none || waits'))) ≡ true
rests_still false paused none waits waits' f e = absurd (false≢true e)
rests_still true true none waits waits' f e = refl
rests_still true false true waits waits' f e = refl
rests_still true false false waits waits' f e = f e

-- one call of a topic's queue, which is marked
module _ (tells : Bool) (h h' : Hall) (old new : Files) (answer : Emptied) (i : ℕ) (sound : IsSound h) (rest : h' ≡ record h { rooms = h'.rooms }) (at : AtRoom i (EmptiesRoom tells answer old new) h.rooms.items h'.rooms.items) where
  empty_else : IsElse h h'
  empty_else = ap (λ (x : Hall). record x { rooms = h'.rooms; pending = h'.pending; unsaved_names = h'.unsaved_names; quiet_until = h'.quiet_until; unsaved_from = h'.unsaved_from }) rest

  empty_keeps : KeepsRest h h'
  empty_keeps =
      let quiet : h'.quiet_until ≡ h.quiet_until = ap (λ (x : Hall). x.quiet_until) rest in
      let from : h'.unsaved_from ≡ h.unsaved_from = ap (λ (x : Hall). x.unsaved_from) rest in
      let pending : h'.pending.items ≡ h.pending.items = ap (λ (x : Hall). x.pending.items) rest in
      else_keeps h h' sound empty_else (omega (arith, quiet)) (omega (arith, from)) (λ name has. subst (λ (names : List (List ℕ)). Contains names name) (sym pending) has)

  empty_before : IsRoomSound h at.room
  empty_before = at_all (IsRoomSound h) h.rooms.items i at.room sound.rooms at.there

  empty_name : topic_name at.after ≡ topic_name at.room
  empty_name = ap (λ (q : TopicSeen). q.name) at.does.seen

  empty_stalls : at.after.stalls.items ≡ at.room.stalls.items
  empty_stalls = ap (λ (r : Room). r.stalls.items) at.does.same

  empty_head : at.after.queue.head ≡ at.room.queue.head
  empty_head = ap (λ (q : TopicSeen). q.head) at.does.seen

  empty_listed : at.after.listed ≡ at.room.listed
  empty_listed = ap (λ (r : Room). r.listed) at.does.same

  empty_rests : rests at.room ≡ true → rests at.after ≡ true
  empty_rests e =
      let still : rests (record (at.room) { queue = record (at.room.queue) { backlog = at.after.queue.backlog } }) ≡ true =
      rests_still (is_none at.room.queue.head) at.room.queue.paused (is_empty at.room.stalls.items) (has_none_waiting at.room) ((ring_depth at.after.queue.backlog == 0) && (disk_depth at.after.queue.backlog.queue == 0))
      (none_still at.room.queue.backlog at.after.queue.backlog answer empty_before.settled at.does.backlog) e in
      ap rests (at.does.same ∙ ap (λ (q : TopicSeen). record (at.room) { queue = q }) at.does.seen) ∙ still

  empty_touches : IsSome at.room.since → TouchesRoom at.room at.after
  empty_touches marked = record {
    name = empty_name;
    settled = at.does.settled;
    queue = at.does.queue;
    capacity = empty_capacity at.room.queue.backlog at.after.queue.backlog answer at.does.backlog;
    names = subst (λ o. IfSome o (λ names. names ≡ (topic_name at.room, stall_names at.room) ∷ [])) (sym (ap (λ (r : Room). r.names) at.does.same)) empty_before.names;
    stalls = empty_stalls;
    owed = subst (λ o. All (λ name. IsSome (stall_in at.room.stalls.items name)) (owed_of o)) (sym empty_head) empty_before.owed;
    since = ap (λ (r : Room). r.since) at.does.same;
    marked = inl marked;
    listed = λ l. sym empty_listed ∙ l;
    rests = λ l. empty_rests (empty_before.rests (sym empty_listed ∙ l));
  }

  pub empty_sound : IsSome at.room.since → IsSound h'
  empty_sound marked =
      sound_at_room h h' i (EmptiesRoom tells answer old new) sound empty_keeps at empty_name empty_stalls (room_touched h h' at.room at.after empty_keeps.lowers empty_before (empty_touches marked))
      (subst (λ o. IfSome o (λ m. m ≤ h'.moment)) (sym (ap (λ (r : Room). r.since) at.does.same)) (room_past h h' i (EmptiesRoom tells answer old new) sound empty_keeps.later at))

  pub empty_change : IsTrue tells → RoomChange h h' old new (topic_name at.room) at.room at.after
  empty_change told =
      room_change h h' old new i (EmptiesRoom tells answer old new) sound at empty_name empty_stalls (else_stays h h' empty_else)
      (others_stay at.room.queue.backlog.queue (topic_name at.room) old new empty_before.backlog.queue (at.does.others told))

  pub empty_files : IsTrue tells → OnlyQueueFiles old new
  empty_files told = only_of_topic (topic_name at.room) at.room.queue.backlog.queue old new empty_before.named empty_before.backlog.queue (at.does.others told)

  pub empty_leaves : (moment : ℕ) → KeepsRooms moment h.rooms.items h'.rooms.items
  empty_leaves moment =
      keeps_at_room moment i (EmptiesRoom tells answer old new) h.rooms.items h'.rooms.items at
      (keeps_room_alike moment at.room at.after empty_name (ap (λ (q : TopicSeen). q.paused) at.does.seen) (since_equal moment at.room.since at.after.since (ap (λ (r : Room). r.since) at.does.same)) empty_stalls)

-- each state's topic has none waiting then, or is the same
pub empty_told : (tells : Bool) (h h' : Hall) (old new : Files) (answer : Emptied) (i : ℕ) (sound : IsSound h) (rest : h' ≡ record h { rooms = h'.rooms }) (at : AtRoom i (EmptiesRoom tells answer old new) h.rooms.items h'.rooms.items) → IsTrue tells → (s : State) → HoldsFor h old s
    → (t : State) × EmptiesBy answer (topic_name at.room) None s t × HoldsFor h' new t
empty_told tells h h' old new Done i sound rest at told s holds =
    let f : Topic → Topic = λ t. record t { waiting = [] } in
    let r = at_room h h' old new s (topic_name at.room) at.room at.after (λ a b. b ≡ f a) sound holds (empty_change tells h h' old new Done i sound rest at told)
    (λ t of. record {
      to = f t;
      row = refl;
      queue = at.does.row told t of.queue;
      stands = at.does.stands told of.stands;
      delays = All-nil (λ w. w.message.delay ≤ longest_delay);
      taken = of.taken;
      channels = refl;
    }) in
    (r.0, topic_is f s r.0 (topic_name at.room) r.1.old r.1.new r.1.there r.1.row r.1.is, r.2)
empty_told tells h h' old new Fault i sound rest at told s holds = (
  s,
  refl,
  room_as_before h h' old new s (topic_name at.room) at.room at.after sound holds (empty_change tells h h' old new Fault i sound rest at told)
      (λ t of. record { to = t; row = refl; queue = at.does.row told t of.queue; stands = at.does.stands told of.stands; delays = of.delays; taken = of.taken; channels = refl }),
)

-- the topic was marked before
module _ (tells : Bool) (h0 h1 h2 : Hall) (old new : Files) (answer : Emptied) (i u : ℕ) (e1 : h1 ≡ record h0 { rooms = h1.rooms; unsaved_from = u }) (mark : AtRoom i (MarksRoom h0.moment) h0.rooms.items h1.rooms.items) (sound : IsSound h1) (e2 : h2 ≡ record h1 { rooms = h2.rooms })
    (at : AtRoom i (EmptiesRoom tells answer old new) h1.rooms.items h2.rooms.items) where
  topic_was : at.room ≡ mark.after
  topic_was = after_at i (MarksRoom h0.moment) h0.rooms.items h1.rooms.items mark at.room at.there

  topic_called : (d : Room) → topic_name at.room ≡ topic_name (get_or h0.rooms.items i d)
  topic_called d = ap topic_name topic_was ∙ ap topic_name mark.does ∙ ap topic_name (sym (get_or_from_slice_get h0.rooms.items i mark.room d mark.there))

  pub topic_emptied : IsTrue tells → (d : Room) (s : State) → HoldsFor h1 old s → (t : State) × EmptiesBy answer (topic_name (get_or h0.rooms.items i d)) None s t × HoldsFor h2 new t
  topic_emptied told d s holds =
      let r = empty_told tells h1 h2 old new answer i sound e2 at told s holds in
      (r.0, subst (λ (n : List ℕ). EmptiesBy answer n None s r.0) (topic_called d) r.1, r.2)

  pub topic_sound : IsSound h2
  topic_sound = empty_sound tells h1 h2 old new answer i sound e2 at (subst IsSome (sym (ap (λ (r : Room). r.since) topic_was ∙ ap (λ (r : Room). r.since) mark.does)) (marked_some mark.room.since h0.moment))

  topic_leaves : KeepsRooms h0.moment h0.rooms.items h2.rooms.items
  topic_leaves =
      keeps_then h0.moment h0.rooms.items h1.rooms.items h2.rooms.items (keeps_marks_room h0.moment i h0.rooms.items h1.rooms.items mark) (empty_leaves tells h1 h2 old new answer i sound e2 at h0.moment)

  pub topic_names : NamesTold h0 h2
  topic_names = names_kept h0.moment h0 h2 (ap (λ (x : Hall). x.unsaved_names) e2 ∙ ap (λ (x : Hall). x.unsaved_names) e1) topic_leaves

  pub topic_since : KeepsSince h0.moment h0.rooms.items h2.rooms.items
  topic_since = since_kept h0.moment h0.rooms.items h2.rooms.items topic_leaves

-- a fault comes only with a rise
pub empty_fails : (before now : ℕ) (queue : Option Queue) (answer : Emptied) → EmptyFails before now queue answer → EmptyingFails before now answer
empty_fails before now queue Done h = tt
empty_fails before now queue Fault h = h
