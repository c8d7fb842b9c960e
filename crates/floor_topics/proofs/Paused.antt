-- A topic, or a channel, that is paused, or that goes on.
use Rattle.std.proofs.Common.{◌≡◌, inr, ◌≤◌, ℕ, Bool, true, false, not, ◌||◌, List, get_or, Option, Some, None, refl, sym, ap, subst, ◌∙◌, arith}
use Rattle.std.specs.Prelude.{HoldsAt, IfSome}
use Rattle.std.specs.List.{Contains, slice_get}
use Rattle.std.proofs.lemmas.Bool.{false≢true}
use Rattle.std.proofs.lemmas.Option.{get_or_from_slice_get}
use Rattle.nsq_base.specs.Name.{is_ephemeral}
use Rattle.nsq_outside.specs.Files.{Files}
use Rattle.disk_queue.specs.Seen.{Seen as Queue}
use Rattle.backlog.specs.Seen.{SameQueue}
use Rattle.backlog.specs.Lists.{Stands}
use Rattle.topic_core.specs.Rows.{IsTopicOf}
use Rattle.broker_history.specs.State.{State, Topic}
use Rattle.broker_history.specs.Changes.{set_paused}
use Rattle.floor_rooms.specs.declared.room.Room.{Room}
use Rattle.floor_rooms.specs.declared.hall.Hall.{Hall}
use Rattle.floor_rooms.specs.Rooms.{topic_name}
use Rattle.floor_rooms.specs.Sound.{IsRoomSound, IsSound}
use Rattle.floor_rooms.specs.Standing.{HoldsFor}
use Rattle.floor_rooms.specs.Changes.{AtRoom, KeepsRooms, KeepsSince, TouchesRoom}
use Rattle.floor_rooms.specs.Kept.{NamesTold}
use Rattle.floor_rooms.proofs.Rooming.{at_room}
use Rattle.floor_rooms.proofs.Sounding.{KeepsRest, at_all, room_past, room_touched, sound_at_room}
use Rattle.floor_rooms.proofs.Marked.{IsElse, ListsRoom, else_keeps, else_stays}
use Rattle.floor_rooms.proofs.Turning.{room_change}
use Rattle.floor_rooms.proofs.Dating.{LeavesMarks, keeps_equal, keeps_lists, keeps_room_same, keeps_then, leaves_kept, since_at_room, since_kept_then, since_same}
use Rattle.floor_rooms.proofs.Naming.{names_at_room, names_kept, names_then}
use Rattle.floor_topics.specs.Pausing.{PausesRoom}
use Rattle.floor_topics.proofs.Marks.{after_at}
use Rattle.floor_topics.proofs.States.{topic_is}

-- a queue is of its own name
pub same_queue : (q : Option Queue) → SameQueue q q
same_queue None = tt
same_queue (Some q) = record { name = refl; options = refl }

-- neither of two is true
pub or_left : (b c : Bool) → b || c ≡ false → b ≡ false
or_left true c e = absurd (false≢true (sym e))
or_left false c e = refl

pub or_right : (b c : Bool) → b || c ≡ false → c ≡ false
or_right true c e = absurd (false≢true (sym e))
or_right false c e = e

pub not_not : (b : Bool) → not b ≡ false → b ≡ false → ⊥
not_not true e f = false≢true (sym f)
not_not false e f = false≢true (sym e)

-- a topic
module _ (h0 h1 h2 h3 : Hall) (i : ℕ) (on : Bool) (e1 : h1 ≡ record h0 { rooms = h1.rooms; pending = h1.pending }) (same : h1.rooms.items ≡ h0.rooms.items) (e2 : h2 ≡ record h1 { rooms = h2.rooms; pending = h2.pending }) (list : AtRoom i (ListsRoom h1.pending.items h2.pending.items) h1.rooms.items h2.rooms.items)
    (sound : IsSound h2) (e3 : h3 ≡ record h2 { rooms = h3.rooms; unsaved_names = h3.unsaved_names }) (at : AtRoom i (PausesRoom on) h2.rooms.items h3.rooms.items) where
  pause_else : IsElse h2 h3
  pause_else = ap (λ (x : Hall). record x { rooms = h3.rooms; pending = h3.pending; unsaved_names = h3.unsaved_names; quiet_until = h3.quiet_until; unsaved_from = h3.unsaved_from }) e3

  pause_keeps : KeepsRest h2 h3
  pause_keeps =
      let quiet : h3.quiet_until ≡ h2.quiet_until = ap (λ (x : Hall). x.quiet_until) e3 in
      let from : h3.unsaved_from ≡ h2.unsaved_from = ap (λ (x : Hall). x.unsaved_from) e3 in
      let pending : h3.pending.items ≡ h2.pending.items = ap (λ (x : Hall). x.pending.items) e3 in
      else_keeps h2 h3 sound pause_else (omega (arith, quiet)) (omega (arith, from)) (λ name has. subst (λ (names : List (List ℕ)). Contains names name) (sym pending) has)

  pause_before : IsRoomSound h2 at.room
  pause_before = at_all (IsRoomSound h2) h2.rooms.items i at.room sound.rooms at.there

  pause_was : at.room ≡ record (list.room) { listed = true }
  pause_was = after_at i (ListsRoom h1.pending.items h2.pending.items) h1.rooms.items h2.rooms.items list at.room at.there ∙ list.does.0

  -- its name in the hall at the beginning
  pub pause_name : (d : Room) → topic_name at.room ≡ topic_name (get_or h0.rooms.items i d)
  pause_name d = ap topic_name pause_was ∙ ap topic_name (sym (get_or_from_slice_get h0.rooms.items i list.room d (ap (λ rs. slice_get rs i) (sym same) ∙ list.there)))

  pause_touches : TouchesRoom at.room at.after
  pause_touches = subst (TouchesRoom at.room) (sym at.does) (record {
    name = refl;
    settled = pause_before.settled;
    queue = same_queue at.room.queue.backlog.queue;
    capacity = refl;
    names = pause_before.names;
    stalls = refl;
    owed = pause_before.owed;
    since = refl;
    marked = inr refl;
    listed = λ l. l;
    rests = λ l. absurd (false≢true (sym l ∙ ap (λ (r : Room). r.listed) pause_was));
  })

  pub pause_sound : IsSound h3
  pause_sound =
      sound_at_room h2 h3 i (PausesRoom on) sound pause_keeps at (ap topic_name at.does) (ap (λ (r : Room). r.stalls.items) at.does) (room_touched h2 h3 at.room at.after pause_keeps.lowers pause_before pause_touches)
      (subst (λ o. IfSome o (λ m. m ≤ h3.moment)) (sym (ap (λ (r : Room). r.since) at.does)) (room_past h2 h3 i (PausesRoom on) sound pause_keeps.later at))

  pub pause_told : (files : Files) (d : Room) (s : State) → HoldsFor h2 files s → (t : State) × (t ≡ set_paused on s (topic_name (get_or h0.rooms.items i d)) None) × HoldsFor h3 files t
  pause_told files d s holds =
      let r = at_room h2 h3 files files s (topic_name at.room) at.room at.after (λ (a b : Topic). b ≡ record a { paused = on }) sound holds
      (room_change h2 h3 files files i (PausesRoom on) sound at (ap topic_name at.does) (ap (λ (x : Room). x.stalls.items) at.does) (else_stays h2 h3 pause_else) (λ name apart file own. refl))
      (λ t of. record {
        to = record t { paused = on };
        row = refl;
        queue = subst (λ (x : Room). IsTopicOf x.queue files (record t { paused = on })) (sym at.does) (record {
          name = of.queue.name;
          paused = refl;
          message_count = of.queue.message_count;
          taken = of.queue.taken;
          disk = of.queue.disk;
          on_disk = of.queue.on_disk;
          waiting = of.queue.waiting;
          first = of.queue.first;
        });
        stands = subst (λ (x : Room). Stands x.queue.backlog.queue files) (sym at.does) of.stands;
        delays = of.delays;
        taken = of.taken;
        channels = refl;
      }) in
      (r.0, topic_is (λ (u : Topic). record u { paused = on }) s r.0 (topic_name at.room) r.1.old r.1.new r.1.there r.1.row r.1.is ∙ ap (λ n. set_paused on s n None) (pause_name d), r.2)

  pause_unsaved : HoldsAt (λ (r : Room). h3.unsaved_names ≡ (h2.unsaved_names || not (is_ephemeral (topic_name r)))) h2.rooms.items i → h3.unsaved_names ≡ (h2.unsaved_names || not (is_ephemeral (topic_name at.room)))
  pause_unsaved unsaved = unsaved at.room ∙ ap (λ (r : Room). h2.unsaved_names || not (is_ephemeral (topic_name r))) (get_or_from_slice_get h2.rooms.items i at.room at.room at.there)

  pub pause_notes : HoldsAt (λ (r : Room). h3.unsaved_names ≡ (h2.unsaved_names || not (is_ephemeral (topic_name r)))) h2.rooms.items i → (d : Room) → h3.unsaved_names ≡ (h0.unsaved_names || not (is_ephemeral (topic_name (get_or h0.rooms.items i d))))
  pause_notes unsaved d =
      pause_unsaved unsaved ∙ ap (λ (x : Hall). x.unsaved_names || not (is_ephemeral (topic_name at.room))) e2 ∙ ap (λ (x : Hall). x.unsaved_names || not (is_ephemeral (topic_name at.room))) e1 ∙ ap (λ n. h0.unsaved_names || not (is_ephemeral n)) (pause_name d)

  pause_leaves : KeepsRooms h0.moment h0.rooms.items h2.rooms.items
  pause_leaves =
      keeps_then h0.moment h0.rooms.items h1.rooms.items h2.rooms.items (keeps_equal h0.moment h0.rooms.items h1.rooms.items same) (keeps_lists h0.moment i h1.pending.items h2.pending.items h1.rooms.items h2.rooms.items list)

  pub pause_names : HoldsAt (λ (r : Room). h3.unsaved_names ≡ (h2.unsaved_names || not (is_ephemeral (topic_name r)))) h2.rooms.items i → NamesTold h0 h3
  pause_names unsaved =
      let e : Bool = is_ephemeral (topic_name at.room) in
      let is : h3.unsaved_names ≡ (h2.unsaved_names || not e) = pause_unsaved unsaved in
      names_then h0 h2 h3 (names_kept h0.moment h0 h2 (ap (λ (x : Hall). x.unsaved_names) e2 ∙ ap (λ (x : Hall). x.unsaved_names) e1) pause_leaves)
      (names_at_room h2 h3 i (PausesRoom on) at (ap topic_name at.does) (λ f. or_left h2.unsaved_names (not e) (sym is ∙ f)) (λ f durable. absurd (not_not e (or_right h2.unsaved_names (not e) (sym is ∙ f)) durable)))

  pub pause_since : KeepsSince h0.moment h0.rooms.items h3.rooms.items
  pause_since =
      let m : ℕ = h0.moment in
      since_kept_then m h0.rooms.items h2.rooms.items h3.rooms.items pause_leaves
      (since_at_room m i (PausesRoom on) h2.rooms.items h3.rooms.items at
      (subst (LeavesMarks m at.room) (sym at.does) (record { name = refl; since = since_same m at.room.since; channels = (leaves_kept m at.room at.room (keeps_room_same m at.room)).channels })))
