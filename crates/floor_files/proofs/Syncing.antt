-- One save of a topic's queue, or of a channel's, as it stands in a hall.
use Rattle.std.proofs.Common.{◌≡◌, ◌≤◌, ◌==◌, ◌&&◌, ◌||◌, ℕ, Bool, List, Option, Some, None, refl, sym, ap, subst, ◌∙◌, arith}
use Rattle.std.specs.Prelude.{IfSome, IsTrue, is_none, is_some}
use Rattle.std.specs.List.{Contains}
use Rattle.nsq_outside.specs.Files.{Files}
use Rattle.disk_queue.specs.Seen.{Seen as Queue}
use Rattle.backlog.specs.Seen.{SameQueue, ring_depth}
use Rattle.broker_history.specs.Channels.{IsKept}
use Rattle.broker_history.specs.State.{State, is_empty}
use Rattle.channel_copies.specs.Clients.{client_of}
use Rattle.topic_core.specs.Seen.{queue_options as topic_options}
use Rattle.channel_core.specs.Made.{queue_options}
use Rattle.channel_core.specs.Seen.{Seen as ChannelSeen, queue_name, seen_channel}
use Rattle.floor_rooms.specs.declared.stall.Stall.{Stall}
use Rattle.floor_rooms.specs.declared.room.Room.{Room}
use Rattle.floor_rooms.specs.declared.hall.Hall.{Hall}
use Rattle.floor_rooms.specs.Rooms.{channel_name, topic_name}
use Rattle.floor_rooms.specs.Sound.{IsRoomSound, IsSound, IsStallSound, rests}
use Rattle.floor_rooms.specs.Standing.{HoldsFor}
use Rattle.floor_rooms.specs.Changes.{AtRoom, AtStall, StallChange}
use Rattle.floor_rooms.specs.RoomChanges.{RoomChange}
use Rattle.floor_rooms.proofs.Staying.{others_stay}
use Rattle.floor_rooms.proofs.Orders.{room_as_before, stall_as_before}
use Rattle.floor_rooms.proofs.Sounding.{KeepsRest, at_all, members_before, members_stay, room_before, room_lowered, room_past, same_options, sound_at_room, sound_at_stall, stall_before, stall_past}
use Rattle.floor_rooms.proofs.Marked.{IsElse, else_keeps, else_stays}
use Rattle.floor_rooms.proofs.Turning.{room_change, stall_change}
use Rattle.floor_rooms.proofs.Filing.{only_of_channel, only_of_topic}
use Rattle.path_image.specs.Found.{Pairwise}
use Rattle.floor_files.specs.Saving.{ClearsRoom, ClearsRooms, ClearsStall, IsNotDue, IsQueueDone, MarkGoes, SavesRoom, SavesStall, Synced}
use Rattle.floor_files.proofs.Marking.{early_same, goes_still, mark_goes, mark_kept, queue_done}
use Rattle.floor_files.proofs.Clearing.{clears_at_room, clears_at_stall}
use Rattle.floor_rooms.proofs.Dating.{pairs_same}
use Rattle.floor_files.proofs.Clearing.{clears_stall_same}

-- a queue of the same name
some_queue : (q r : Option Queue) → SameQueue q r → is_some r ≡ is_some q
some_queue None None same = refl
some_queue None (Some r) same = absurd same
some_queue (Some q) None same = absurd same
some_queue (Some q) (Some r) same = refl

named_queue : (q r : Option Queue) (name : List ℕ) → SameQueue q r → IfSome q (λ q. q.name ≡ name) → IfSome r (λ r. r.name ≡ name)
named_queue None None name same h = h
named_queue None (Some r) name same h = absurd same
named_queue (Some q) None name same h = absurd same
named_queue (Some q) (Some r) name same h = same.name ∙ h

-- nothing but rooms changed
pub rest_else : (h h' : Hall) → h' ≡ record h { rooms = h'.rooms } → IsElse h h'
rest_else h h' rest = ap (λ (x : Hall). record x { rooms = h'.rooms; pending = h'.pending; unsaved_names = h'.unsaved_names; quiet_until = h'.quiet_until; unsaved_from = h'.unsaved_from }) rest

pub rest_keeps : (h h' : Hall) → IsSound h → h' ≡ record h { rooms = h'.rooms } → KeepsRest h h'
rest_keeps h h' sound rest =
    let quiet : h'.quiet_until ≡ h.quiet_until = ap (λ (x : Hall). x.quiet_until) rest in
    let from : h'.unsaved_from ≡ h.unsaved_from = ap (λ (x : Hall). x.unsaved_from) rest in
    let pending : h'.pending.items ≡ h.pending.items = ap (λ (x : Hall). x.pending.items) rest in
    else_keeps h h' sound (rest_else h h' rest) (omega (arith, quiet)) (omega (arith, from)) (λ name has. subst (λ (names : List (List ℕ)). Contains names name) (sym pending) has)

-- a topic's own queue
module _ (tells : Bool) (h h' : Hall) (old new : Files) (before now at timeout least i : ℕ) (sound : IsSound h) (rest : h' ≡ record h { rooms = h'.rooms }) (x : AtRoom i (SavesRoom tells at timeout least old new before now) h.rooms.items h'.rooms.items) where
  abbrev Saves : Room → Room → Type 0
  Saves = SavesRoom tells at timeout least old new before now

  topic_keeps : KeepsRest h h'
  topic_keeps = rest_keeps h h' sound rest

  topic_before : IsRoomSound h x.room
  topic_before = at_all (IsRoomSound h) h.rooms.items i x.room sound.rooms x.there

  topic_lowered : IsRoomSound h' x.room
  topic_lowered = room_lowered h h' x.room topic_keeps.lowers topic_before

  topic_named : topic_name x.after ≡ topic_name x.room
  topic_named = ap topic_name x.does.same

  topic_stalls : x.after.stalls.items ≡ x.room.stalls.items
  topic_stalls = ap (λ (r : Room). r.stalls.items) x.does.same

  abbrev saved_room : Room
  saved_room = record (x.room) { queue = record (x.room.queue) { backlog = record (x.room.queue.backlog) { queue = x.after.queue.backlog.queue } }; since = x.after.since }

  topic_rests : rests saved_room ≡ rests x.room
  topic_rests = ap (λ d. is_none x.room.queue.head && (x.room.queue.paused || (is_empty x.room.stalls.items || ((ring_depth x.room.queue.backlog == 0) && (d == 0))))) x.does.depth

  topic_after : IsRoomSound h' x.after
  topic_after =
      let r : IsRoomSound h' x.room = topic_lowered in
      subst (IsRoomSound h') (sym x.does.same) (record {
        named = r.named;
        settled = r.settled;
        backlog = record {
          durable = some_queue x.room.queue.backlog.queue x.after.queue.backlog.queue x.does.queue ∙ r.backlog.durable;
          queue = named_queue x.room.queue.backlog.queue x.after.queue.backlog.queue (topic_name x.room) x.does.queue r.backlog.queue;
        };
        capacity = r.capacity;
        limits = same_options x.room.queue.backlog.queue x.after.queue.backlog.queue (topic_options h'.options) x.does.queue r.limits;
        names = r.names;
        order = r.order;
        stalls = r.stalls;
        owed = r.owed;
        marked = mark_kept h'.unsaved_from at timeout before now x.room.since x.after.since x.room.queue.backlog.queue x.after.queue.backlog.queue x.does.mark r.marked;
        listed = r.listed;
        rests = λ l. topic_rests ∙ r.rests l;
      })

  topic_sound : IsSound h'
  topic_sound =
      sound_at_room h h' i Saves sound topic_keeps x topic_named topic_stalls topic_after
      (goes_still (λ m. m ≤ h'.moment) x.room.since x.after.since (mark_goes at timeout before now x.room.since x.after.since x.room.queue.backlog.queue x.after.queue.backlog.queue x.does.mark) (room_past h h' i Saves sound topic_keeps.later x))

  topic_change : IsTrue tells → RoomChange h h' old new (topic_name x.room) x.room x.after
  topic_change told =
      room_change h h' old new i Saves sound x topic_named topic_stalls (else_stays h h' (rest_else h h' rest))
      (others_stay x.room.queue.backlog.queue (topic_name x.room) old new topic_before.backlog.queue (x.does.others told))

  topic_stands : IsTrue tells → (s : State) → HoldsFor h old s → HoldsFor h' new s
  topic_stands told s holds =
      room_as_before h h' old new s (topic_name x.room) x.room x.after sound holds (topic_change told)
      (λ t of. record { to = t; row = refl; queue = x.does.row told t of.queue; stands = x.does.stands told of.stands; delays = of.delays; taken = of.taken; channels = refl })

  topic_early : IsNotDue at timeout x.room.since → x.after ≡ record (x.room) { stalls = x.after.stalls }
  topic_early e =
      let same = early_same at timeout before now x.room.since x.after.since x.room.queue.backlog.queue x.after.queue.backlog.queue x.does.mark e in
      x.does.same ∙ ap (λ q. record (x.room) { queue = record (x.room.queue) { backlog = record (x.room.queue.backlog) { queue = q } }; since = x.after.since }) same.1
      ∙ ap (λ s. record (x.room) { since = s }) same.0 ∙ sym (ap (λ v. record (x.room) { stalls = v }) (ap (λ (r : Room). r.stalls) x.does.same))

  topic_clears : ClearsRoom at timeout x.room x.after
  topic_clears = record {
    same = x.does.same ∙ sym (ap (λ (r : Room). record (x.room) { queue = record (x.room.queue) { backlog = record (x.room.queue.backlog) { queue = r.queue.backlog.queue } }; since = r.since; stalls = r.stalls }) x.does.same);
    queue = x.does.queue;
    since = mark_goes at timeout before now x.room.since x.after.since x.room.queue.backlog.queue x.after.queue.backlog.queue x.does.mark;
    early = topic_early;
    stalls = subst (Pairwise (ClearsStall at timeout) x.room.stalls.items) (sym topic_stalls) (pairs_same (ClearsStall at timeout) (clears_stall_same at timeout) x.room.stalls.items);
  }

  pub topic_synced : at ≡ h.moment → timeout ≡ h.options.sync_timeout → Synced tells h h' old new before now
  topic_synced is of = record {
    rest = rest;
    rooms = subst (λ m. ClearsRooms m h.options.sync_timeout h.rooms.items h'.rooms.items) is (subst (λ t. ClearsRooms at t h.rooms.items h'.rooms.items) of (clears_at_room at timeout i Saves h.rooms.items h'.rooms.items x topic_clears));
    sound = topic_sound;
    told = topic_stands;
    files = λ told. only_of_topic (topic_name x.room) x.room.queue.backlog.queue old new topic_before.named topic_before.backlog.queue (x.does.others told);
    faults = x.does.faults;
  }

  pub topic_done : IsQueueDone at timeout least before now x.after.since x.after.queue.backlog.queue
  topic_done = queue_done h.unsaved_from at timeout least before now x.room.since x.after.since x.room.queue.backlog.queue x.after.queue.backlog.queue x.does.mark topic_before.marked x.does.left

-- a channel's queue
module _ (tells : Bool) (h h' : Hall) (old new : Files) (before now at timeout least i j : ℕ) (sound : IsSound h) (rest : h' ≡ record h { rooms = h'.rooms }) (x : AtStall i j (SavesStall tells at timeout least old new before now) h.rooms.items h'.rooms.items) where
  abbrev SavesOne : Stall → Stall → Type 0
  SavesOne = SavesStall tells at timeout least old new before now

  channel_keeps : KeepsRest h h'
  channel_keeps = rest_keeps h h' sound rest

  channel_room : IsRoomSound h x.room
  channel_room = room_before h h' i j SavesOne sound channel_keeps x

  channel_before : IsStallSound h.options (topic_name x.room) h.quiet_until h.unsaved_from x.does.stall
  channel_before = stall_before h h' i j SavesOne sound channel_keeps x

  channel_lowered : IsStallSound h'.options (topic_name x.room) h'.quiet_until h'.unsaved_from x.does.stall
  channel_lowered =
      at_all (IsStallSound h'.options (topic_name x.room) h'.quiet_until h'.unsaved_from) x.room.stalls.items j x.does.stall (room_lowered h h' x.room channel_keeps.lowers channel_room).stalls x.does.there

  channel_named : channel_name x.does.after ≡ channel_name x.does.stall
  channel_named = ap channel_name x.does.does.same

  channel_mark : MarkGoes x.does.stall.since x.does.after.since
  channel_mark = mark_goes at timeout before now x.does.stall.since x.does.after.since x.does.stall.channel.backlog.queue x.does.after.channel.backlog.queue x.does.does.mark

  channel_after : IsStallSound h'.options (topic_name x.room) h'.quiet_until h'.unsaved_from x.does.after
  channel_after =
      let s : IsStallSound h'.options (topic_name x.room) h'.quiet_until h'.unsaved_from x.does.stall = channel_lowered in
      subst (IsStallSound h'.options (topic_name x.room) h'.quiet_until h'.unsaved_from) (sym x.does.does.same) (record {
        about = s.about;
        named = s.named;
        settled = s.settled;
        durable = some_queue x.does.stall.channel.backlog.queue x.does.after.channel.backlog.queue x.does.does.disk.queue ∙ s.durable;
        queue = named_queue x.does.stall.channel.backlog.queue x.does.after.channel.backlog.queue (queue_name (topic_name x.room) (channel_name x.does.stall)) x.does.does.disk.queue s.queue;
        limits = same_options x.does.stall.channel.backlog.queue x.does.after.channel.backlog.queue (queue_options h'.options) x.does.does.disk.queue s.limits;
        calm = s.calm;
        marked = mark_kept h'.unsaved_from at timeout before now x.does.stall.since x.does.after.since x.does.stall.channel.backlog.queue x.does.after.channel.backlog.queue x.does.does.mark s.marked;
        members = s.members;
      })

  channel_sound : IsSound h'
  channel_sound =
      sound_at_stall h h' i j SavesOne sound channel_keeps x channel_named channel_after
      (goes_still (λ m. m ≤ h'.moment) x.does.stall.since x.does.after.since channel_mark (stall_past h h' i j SavesOne sound channel_keeps.later x))
      (members_stay h.clients.items (topic_name x.room) x.does.stall x.does.after channel_named (λ n. ap (λ (y : Stall). client_of y.channel.clients n) x.does.does.same) (ap (λ (y : Stall). y.members.items) x.does.does.same)
      (members_before h h' i j SavesOne sound channel_keeps x))

  channel_change : IsTrue tells → StallChange h h' old new (topic_name x.room) (channel_name x.does.stall) x.does.stall x.does.after
  channel_change told =
      stall_change h h' old new i j SavesOne sound x channel_named (else_stays h h' (rest_else h h' rest))
      (others_stay x.does.stall.channel.backlog.queue (queue_name (topic_name x.room) (channel_name x.does.stall)) old new channel_before.queue (x.does.does.disk.others told))

  channel_stands : IsTrue tells → (s : State) → HoldsFor h old s → HoldsFor h' new s
  channel_stands told s holds =
      stall_as_before h h' old new s (topic_name x.room) (channel_name x.does.stall) x.does.stall x.does.after sound holds (channel_change told)
      (λ k of. record {
        disk = of.disk;
        on_disk = x.does.does.list told of.disk of.on_disk;
        is_kept = subst (λ (c : ChannelSeen). IsKept (seen_channel c of.disk) k) (sym (ap (λ (y : Stall). y.channel) x.does.does.same)) of.is_kept;
        stands = x.does.does.disk.stands told of.stands;
      })

  channel_early : IsNotDue at timeout x.does.stall.since → x.does.after ≡ x.does.stall
  channel_early e =
      let s : Stall = x.does.stall in
      let same = early_same at timeout before now s.since x.does.after.since s.channel.backlog.queue x.does.after.channel.backlog.queue x.does.does.mark e in
      x.does.does.same ∙ ap (λ q. record s { channel = record (s.channel) { backlog = record (s.channel.backlog) { queue = q } }; since = x.does.after.since }) same.1 ∙ ap (λ m. record s { since = m }) same.0

  pub channel_synced : at ≡ h.moment → timeout ≡ h.options.sync_timeout → Synced tells h h' old new before now
  channel_synced is of = record {
    rest = rest;
    rooms = subst (λ m. ClearsRooms m h.options.sync_timeout h.rooms.items h'.rooms.items) is
        (subst (λ t. ClearsRooms at t h.rooms.items h'.rooms.items) of
        (clears_at_stall at timeout i j SavesOne h.rooms.items h'.rooms.items x (record { same = x.does.does.same; queue = x.does.does.disk.queue; since = channel_mark; early = channel_early })));
    sound = channel_sound;
    told = channel_stands;
    files = λ told.
        only_of_channel (topic_name x.room) (channel_name x.does.stall) x.does.stall.channel.backlog.queue old new channel_room.named channel_before.named channel_before.queue (x.does.does.disk.others told);
    faults = x.does.does.disk.faults;
  }

  pub channel_done : IsQueueDone at timeout least before now x.does.after.since x.does.after.channel.backlog.queue
  channel_done =
      queue_done h.unsaved_from at timeout least before now x.does.stall.since x.does.after.since x.does.stall.channel.backlog.queue x.does.after.channel.backlog.queue x.does.does.mark channel_before.marked x.does.does.left
