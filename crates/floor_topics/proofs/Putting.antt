-- Messages that are put into a topic of the hall.
use Rattle.std.proofs.Common.{◌≡◌, inl, ◌≤◌, ◌+◌, ℕ, Bool, true, List, [], ◌∷◌, length, get_or, Option, Some, refl, sym, ap, subst, ◌∙◌, arith}
use Rattle.std.specs.Prelude.{IfSome, IsSome, IsTrue, unwrap_or}
use Rattle.std.specs.List.{All, Contains, slice_get}
use Rattle.std.proofs.lemmas.Bool.{false≢true}
use Rattle.std.proofs.lemmas.Option.{get_or_from_slice_get}
use Rattle.nsq_base.specs.declared.options.Options.{Options}
use Rattle.nsq_outside.specs.Files.{Files}
use Rattle.v2_frame.specs.declared.message.Message.{Message}
use Rattle.backlog.specs.Seen.{Seen as Backlog, PutAllSeen}
use Rattle.backlog.specs.declared.answers.PutAll.{PutAll}
use Rattle.backlog.specs.declared.answers.PutAll.TheVariants.{Done as AllDone, Fault as AllFault}
use Rattle.broker_history.specs.State.{State, Topic, new_topic, topic_of, topic_or_new, with_topic}
use Rattle.broker_history.specs.Changes.{AtTopic}
use Rattle.topic_core.specs.Seen.{Seen as TopicSeen, owed_of}
use Rattle.topic_core.specs.Rows.{put_messages}
use Rattle.floor_rooms.specs.declared.room.Room.{Room}
use Rattle.floor_rooms.specs.declared.hall.Hall.{Hall}
use Rattle.floor_rooms.specs.Rooms.{stall_in, stall_names, topic_name}
use Rattle.floor_rooms.specs.Sound.{IsRoomSound, IsSound}
use Rattle.floor_rooms.specs.Standing.{HoldsFor, longest_delay}
use Rattle.floor_rooms.specs.Changes.{AtRoom, KeepsRooms, KeepsSince, OnlyQueueFiles, TouchesRoom}
use Rattle.floor_rooms.specs.RoomChanges.{RoomChange}
use Rattle.floor_rooms.specs.Kept.{NamesTold}
use Rattle.floor_rooms.proofs.Staying.{others_stay}
use Rattle.floor_rooms.proofs.Rooming.{at_room}
use Rattle.floor_rooms.proofs.Orders.{room_as_before}
use Rattle.floor_rooms.proofs.Sounding.{KeepsRest, at_all, room_past, room_touched, sound_at_room}
use Rattle.floor_rooms.proofs.Marked.{IsElse, ListsRoom, MarksRoom, else_keeps, else_stays}
use Rattle.floor_rooms.proofs.Turning.{room_change}
use Rattle.floor_rooms.proofs.Dating.{keeps_at_room, keeps_equal, keeps_lists, keeps_marks_room, keeps_room_alike, keeps_then, since_equal, since_kept}
use Rattle.floor_rooms.proofs.Filing.{only_of_topic}
use Rattle.floor_rooms.proofs.Naming.{names_kept}
use Rattle.floor_topics.specs.Publishing.{FillsRoom, put_into}
use Rattle.floor_topics.proofs.Bodies.{put_delays, put_keeps}
use Rattle.floor_topics.proofs.Frames.{ids_hold}
use Rattle.floor_topics.proofs.Marks.{is_listed, is_marked, is_named}

-- putting leaves how many the ring holds
pub same_capacity : (a b : Backlog) (ms : List Message) (answer : PutAll) → PutAllSeen a b ms answer → b.capacity ≡ a.capacity
same_capacity a b ms AllDone h = ap (λ (x : Backlog). x.capacity) h.0
same_capacity a b ms AllFault h = ap (λ (x : Backlog). x.capacity) h.0

-- one call of a topic's queue, of a hall in which the topic is marked and listed
module _ (tells : Bool) (h h' : Hall) (old new : Files) (ms : List Message) (answer : PutAll) (i : ℕ) (sound : IsSound h) (rest : h' ≡ record h { rooms = h'.rooms }) (at : AtRoom i (FillsRoom tells ms answer old new) h.rooms.items h'.rooms.items) where
  put_else : IsElse h h'
  put_else = ap (λ (x : Hall). record x { rooms = h'.rooms; pending = h'.pending; unsaved_names = h'.unsaved_names; quiet_until = h'.quiet_until; unsaved_from = h'.unsaved_from }) rest

  pub put_before : IsRoomSound h at.room
  put_before = at_all (IsRoomSound h) h.rooms.items i at.room sound.rooms at.there

  put_name : topic_name at.after ≡ topic_name at.room
  put_name = ap (λ (q : TopicSeen). q.name) at.does.seen.is

  put_stalls : at.after.stalls.items ≡ at.room.stalls.items
  put_stalls = ap (λ (r : Room). r.stalls.items) at.does.same

  put_head : at.after.queue.head ≡ at.room.queue.head
  put_head = ap (λ (q : TopicSeen). q.head) at.does.seen.is

  put_touches : IsSome at.room.since → at.room.listed ≡ true → TouchesRoom at.room at.after
  put_touches marked listed = record {
    name = put_name;
    settled = at.does.settled;
    queue = at.does.queue;
    capacity = same_capacity at.room.queue.backlog at.after.queue.backlog ms answer at.does.seen.backlog;
    names = subst (λ o. IfSome o (λ names. names ≡ (topic_name at.room, stall_names at.room) ∷ [])) (sym (ap (λ (r : Room). r.names) at.does.same)) put_before.names;
    stalls = put_stalls;
    owed = subst (λ o. All (λ name. IsSome (stall_in at.room.stalls.items name)) (owed_of o)) (sym put_head) put_before.owed;
    since = ap (λ (r : Room). r.since) at.does.same;
    marked = inl marked;
    listed = λ l. listed;
    rests = λ l. absurd (false≢true (sym l ∙ ap (λ (r : Room). r.listed) at.does.same ∙ listed));
  }

  put_keeps_rest : KeepsRest h h'
  put_keeps_rest =
      let quiet : h'.quiet_until ≡ h.quiet_until = ap (λ (x : Hall). x.quiet_until) rest in
      let from : h'.unsaved_from ≡ h.unsaved_from = ap (λ (x : Hall). x.unsaved_from) rest in
      let pending : h'.pending.items ≡ h.pending.items = ap (λ (x : Hall). x.pending.items) rest in
      else_keeps h h' sound put_else (omega (arith, quiet)) (omega (arith, from)) (λ name has. subst (λ (names : List (List ℕ)). Contains names name) (sym pending) has)

  pub put_sound : IsSome at.room.since → at.room.listed ≡ true → IsSound h'
  put_sound marked listed =
      sound_at_room h h' i (FillsRoom tells ms answer old new) sound put_keeps_rest at put_name put_stalls (room_touched h h' at.room at.after put_keeps_rest.lowers put_before (put_touches marked listed))
      (subst (λ o. IfSome o (λ m. m ≤ h'.moment)) (sym (ap (λ (r : Room). r.since) at.does.same)) (room_past h h' i (FillsRoom tells ms answer old new) sound put_keeps_rest.later at))

  pub put_change : IsTrue tells → RoomChange h h' old new (topic_name at.room) at.room at.after
  put_change told =
      room_change h h' old new i (FillsRoom tells ms answer old new) sound at put_name put_stalls (else_stays h h' put_else)
      (others_stay at.room.queue.backlog.queue (topic_name at.room) old new put_before.backlog.queue (at.does.others told))

  pub put_files : IsTrue tells → OnlyQueueFiles old new
  put_files told = only_of_topic (topic_name at.room) at.room.queue.backlog.queue old new put_before.named put_before.backlog.queue (at.does.others told)

  pub put_leaves : (moment : ℕ) → KeepsRooms moment h.rooms.items h'.rooms.items
  put_leaves moment =
      keeps_at_room moment i (FillsRoom tells ms answer old new) h.rooms.items h'.rooms.items at
      (keeps_room_alike moment at.room at.after put_name (ap (λ (q : TopicSeen). q.paused) at.does.seen.is) (since_equal moment at.room.since at.after.since (ap (λ (r : Room). r.since) at.does.same)) put_stalls)

-- each state has the messages in the topic then
pub put_done : (tells : Bool) (h h' : Hall) (old new : Files) (ms : List Message) (i : ℕ) (sound : IsSound h) (rest : h' ≡ record h { rooms = h'.rooms }) (at : AtRoom i (FillsRoom tells ms AllDone old new) h.rooms.items h'.rooms.items) → IsTrue tells → All (λ m. m.delay ≤ longest_delay) ms
    → (s : State) → HoldsFor h old s → (t : State) × AtTopic (topic_name at.room) (λ a b. b ≡ put_messages at.room.queue.backlog.capacity a ms) s t × HoldsFor h' new t
put_done tells h h' old new ms i sound rest at told short s holds =
    let mem : ℕ = at.room.queue.backlog.capacity in
    at_room h h' old new s (topic_name at.room) at.room at.after (λ a b. b ≡ put_messages mem a ms) sound holds (put_change tells h h' old new ms AllDone i sound rest at told)
    (λ t of.
    let keeps = put_keeps mem t ms in
    record {
      to = put_messages mem t ms;
      row = refl;
      queue = at.does.row told t of.queue;
      stands = at.does.stands told of.stands;
      delays = put_delays mem t ms short of.delays;
      taken = subst (λ o. IfSome o (λ x. x.message.delay ≤ longest_delay)) (sym keeps.taken) of.taken;
      channels = keeps.channels;
    })

-- or is the same
pub put_fault : (tells : Bool) (h h' : Hall) (old new : Files) (ms : List Message) (i : ℕ) (sound : IsSound h) (rest : h' ≡ record h { rooms = h'.rooms }) (at : AtRoom i (FillsRoom tells ms AllFault old new) h.rooms.items h'.rooms.items) → IsTrue tells → (s : State) → HoldsFor h old s → HoldsFor h' new s
put_fault tells h h' old new ms i sound rest at told s holds =
    room_as_before h h' old new s (topic_name at.room) at.room at.after sound holds (put_change tells h h' old new ms AllFault i sound rest at told)
    (λ t of. record { to = t; row = refl; queue = at.does.row told t of.queue; stands = at.does.stands told of.stands; delays = of.delays; taken = of.taken; channels = refl })

-- with the ids that the messages use
pub put_counted : (tells : Bool) (h h' : Hall) (old new : Files) (ms : List Message) (i : ℕ) (sound : IsSound h) (rest : h' ≡ record h { rooms = h'.rooms }) (at : AtRoom i (FillsRoom tells ms AllDone old new) h.rooms.items h'.rooms.items) → IsTrue tells → All (λ m. m.delay ≤ longest_delay) ms
    → (topic : List ℕ) → topic_name at.room ≡ topic → (count : ℕ) → count ≡ length ms → (s : State) → HoldsFor h old s → (t : State) × (t ≡ put_into s topic ms) × HoldsFor (record h' { ids_used = h'.ids_used + count }) new t
put_counted tells h h' old new ms i sound rest at told short topic called count all s holds =
    let r = put_done tells h h' old new ms i sound rest at told short s holds in
    let mem : at.room.queue.backlog.capacity ≡ s.options.mem_queue_size = (put_before tells h h' old new ms AllDone i sound rest at).capacity ∙ ap (λ (o : Options). o.mem_queue_size) (sym holds.stands.options) in
    let there : topic_of s topic ≡ Some r.1.old = ap (topic_of s) (sym called) ∙ r.1.there in
    let into : r.0 ≡ with_topic s (put_messages s.options.mem_queue_size (topic_or_new s topic) ms) =
    r.1.is ∙ ap (with_topic s) (r.1.row ∙ ap (λ n. put_messages n r.1.old ms) mem ∙ ap (λ (o : Option Topic). put_messages s.options.mem_queue_size (unwrap_or o (new_topic topic)) ms) (sym there)) in (
      record (r.0) { ids_used = r.0.ids_used + length ms },
      ap (λ (u : State). record u { ids_used = u.ids_used + length ms }) into,
      ids_hold h' new r.0 count (length ms) all r.2,
    )

-- a topic that stands at a place is marked and listed, and then messages are put into it
module _ (tells : Bool) (h0 h1 h2 h3 h4 : Hall) (old new : Files) (ms : List Message) (answer : PutAll) (i u : ℕ) (e1 : h1 ≡ record h0 { rooms = h1.rooms; pending = h1.pending }) (same : h1.rooms.items ≡ h0.rooms.items)
    (e2 : h2 ≡ record h1 { rooms = h2.rooms; unsaved_from = u }) (mark : AtRoom i (MarksRoom h1.moment) h1.rooms.items h2.rooms.items) (e3 : h3 ≡ record h2 { rooms = h3.rooms; pending = h3.pending }) (list : AtRoom i (ListsRoom h2.pending.items h3.pending.items) h2.rooms.items h3.rooms.items)
    (sound : IsSound h3) (e4 : h4 ≡ record h3 { rooms = h4.rooms }) (at : AtRoom i (FillsRoom tells ms answer old new) h3.rooms.items h4.rooms.items) where
  pub there_named : (d : Room) → topic_name at.room ≡ topic_name (get_or h0.rooms.items i d)
  there_named d =
      is_named i h1.moment h2.pending.items h3.pending.items h1.rooms.items h2.rooms.items h3.rooms.items mark list at.room at.there ∙ ap topic_name (sym (get_or_from_slice_get h0.rooms.items i mark.room d (ap (λ rs. slice_get rs i) (sym same) ∙ mark.there)))

  pub there_sound : IsSound h4
  there_sound =
      put_sound tells h3 h4 old new ms answer i sound e4 at (is_marked i h1.moment h2.pending.items h3.pending.items h1.rooms.items h2.rooms.items h3.rooms.items mark list at.room at.there)
      (is_listed i h1.moment h2.pending.items h3.pending.items h1.rooms.items h2.rooms.items h3.rooms.items mark list at.room at.there)

  there_keeps : KeepsRooms h0.moment h0.rooms.items h4.rooms.items
  there_keeps =
      let m : ℕ = h1.moment in
      subst (λ n. KeepsRooms n h0.rooms.items h4.rooms.items) (ap (λ (x : Hall). x.moment) e1)
      (keeps_then m h0.rooms.items h3.rooms.items h4.rooms.items
      (keeps_then m h0.rooms.items h2.rooms.items h3.rooms.items (keeps_then m h0.rooms.items h1.rooms.items h2.rooms.items (keeps_equal m h0.rooms.items h1.rooms.items same) (keeps_marks_room m i h1.rooms.items h2.rooms.items mark))
      (keeps_lists m i h2.pending.items h3.pending.items h2.rooms.items h3.rooms.items list))
      (put_leaves tells h3 h4 old new ms answer i sound e4 at m))

  there_unsaved : h4.unsaved_names ≡ h0.unsaved_names
  there_unsaved = ap (λ (x : Hall). x.unsaved_names) e4 ∙ ap (λ (x : Hall). x.unsaved_names) e3 ∙ ap (λ (x : Hall). x.unsaved_names) e2 ∙ ap (λ (x : Hall). x.unsaved_names) e1

  pub there_names : (n : ℕ) → NamesTold h0 (record h4 { ids_used = n })
  there_names n = names_kept h0.moment h0 (record h4 { ids_used = n }) there_unsaved there_keeps

  pub there_since : KeepsSince h0.moment h0.rooms.items h4.rooms.items
  there_since = since_kept h0.moment h0.rooms.items h4.rooms.items there_keeps

  pub there_ids : h4.ids_used ≡ h0.ids_used
  there_ids = ap (λ (x : Hall). x.ids_used) e4 ∙ ap (λ (x : Hall). x.ids_used) e3 ∙ ap (λ (x : Hall). x.ids_used) e2 ∙ ap (λ (x : Hall). x.ids_used) e1
