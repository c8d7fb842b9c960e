-- Marks and facts for speed leave a hall sound, and what it stands for.
use Rattle.std.proofs.Common.{◌≡◌, ◌≤◌, ◌<◌, ℕ, min, set, Bool, true, false, if◌then◌else◌, List, [], ◌∷◌, ◌++◌, length, get_or, Option, Some, None, refl, sym, ap, subst, ◌∙◌, arith}
use Rattle.std.specs.Prelude.{HoldsAt, IfSome}
use Rattle.std.specs.List.{Contains}
use Rattle.std.proofs.lemmas.Bool.{false≢true}
use Rattle.std.proofs.lemmas.List.Elements.{Contains-append_left, Contains-push}
use Rattle.std.proofs.lemmas.Option.{get_or_from_slice_get}
use Rattle.nsq_outside.specs.Files.{Files}
use Rattle.v2_frame.specs.declared.message.Message.{Message}
use Rattle.broker_history.specs.State.{State}
use Rattle.channel_core.specs.Clients.{client_of}
use Rattle.channel_core.specs.Answers.{IsNextDue}
use Rattle.channel_core.specs.Seen.{Seen as ChannelSeen, channel_with}
use Rattle.floor_rooms.specs.declared.stall.Stall.{Stall}
use Rattle.floor_rooms.specs.declared.room.Room.{Room}
use Rattle.floor_rooms.specs.declared.hall.Hall.{Hall}
use Rattle.floor_rooms.specs.Rooms.{channel_name, topic_name, stall_in}
use Rattle.floor_rooms.specs.Sound.{IsMarked, IsPast, IsQuietUntil, IsRoomSound, IsSound, IsStallSound}
use Rattle.floor_rooms.specs.Standing.{HoldsFor}
use Rattle.floor_rooms.specs.Changes.{AtRoom, AtStall, InRoom, listed_with, marked}
use Rattle.floor_rooms.proofs.Placing.{at_place}
use Rattle.floor_rooms.proofs.Sounding.{Lowers, at_all, KeepsRest, marks, members_before, members_stay, past_marked, past_one, room_lowered, room_past, sound_at_room, sound_at_stall, sound_same, stall_before}
use Rattle.floor_rooms.proofs.Holding.{StaysElse, holds_at_room, holds_at_stall, room_alike, stall_alike}

-- nothing but topics, the list of those that may have something to do, and facts for speed and for saving differs
abbrev pub IsElse : Hall → Hall → Type 0
IsElse h h' = h' ≡ record h { rooms = h'.rooms; pending = h'.pending; unsaved_names = h'.unsaved_names; quiet_until = h'.quiet_until; unsaved_from = h'.unsaved_from }

pub else_stays : (h h' : Hall) → IsElse h h' → StaysElse h h'
else_stays h h' is =
    let moment : h'.moment ≡ h.moment = ap (λ (x : Hall). x.moment) is in
    record {
      options = ap (λ (x : Hall). x.options) is;
      epoch = ap (λ (x : Hall). x.epoch) is;
      ids_used = ap (λ (x : Hall). x.ids_used) is;
      moment = omega (arith, moment);
      stopped = ap (λ (x : Hall). x.stopped) is;
      clients = ap (λ (x : Hall). x.clients.items) is;
    }

pub else_keeps : (h h' : Hall) → IsSound h → IsElse h h' → h'.quiet_until ≤ h.quiet_until → h'.unsaved_from ≤ h.unsaved_from → ((name : List ℕ) → Contains h.pending.items name → Contains h'.pending.items name) → KeepsRest h h'
else_keeps h h' sound is quiet unsaved pending =
    let moment : h'.moment ≡ h.moment = ap (λ (x : Hall). x.moment) is in
    let early = sound.moment in
    record {
      lowers = record { options = ap (λ (x : Hall). x.options) is; quiet = quiet; unsaved = unsaved; pending = pending };
      epoch = ap (λ (x : Hall). x.epoch) is;
      ids_used = ap (λ (x : Hall). x.ids_used) is;
      moment = omega (arith, moment, early);
      later = omega (arith, moment);
      clients = ap (λ (x : Hall). x.clients.items) is;
    }

-- with the same topics and the same list of those that may have something to do it is as sound
pub same_sound : (h h' : Hall) → IsSound h → IsElse h h' → h'.quiet_until ≡ h.quiet_until → h'.unsaved_from ≡ h.unsaved_from → h'.pending.items ≡ h.pending.items → h'.rooms.items ≡ h.rooms.items → IsSound h'
same_sound h h' sound is quiet from pending rooms =
    let keeps : KeepsRest h h' = else_keeps h h' sound is (omega (arith, quiet)) (omega (arith, from)) (λ name has. subst (λ (names : List (List ℕ)). Contains names name) (sym pending) has) in
    sound_same h h' sound keeps rooms

-- the room at a place that was read there
pub at_room_read : (i : ℕ) (Does : Room → Room → Type 0) (rooms : List Room) (room after : Room) → i < length rooms → room ≡ get_or rooms i room → Does room after → AtRoom i Does rooms (set rooms i after)
at_room_read i Does rooms room after l e does = record { room = room; after = after; there = at_place rooms i room l e; is = refl; does = does }

-- what is so of each that is read there is so of this one
pub range_of : (j : ℕ) (rooms : List Room) (i : ℕ) (room : Room) → room ≡ get_or rooms i room → HoldsAt (λ (r : Room). j < length r.stalls.items) rooms i → j < length room.stalls.items
range_of j rooms i room e all = subst (λ (r : Room). j < length r.stalls.items) (sym e) (all room)

pub in_room_read : (j : ℕ) (Does : Stall → Stall → Type 0) (room after : Room) (stall to : Stall) → j < length room.stalls.items → stall ≡ get_or room.stalls.items j stall → after ≡ record room { stalls = after.stalls } → after.stalls.items ≡ set room.stalls.items j to → Does stall to → InRoom j Does room after
in_room_read j Does room after stall to l e is stalls does = record { stall = stall; after = to; there = at_place room.stalls.items j stall l e; is = is; stalls = stalls; does = does }

-- a mark of a room
room_marked : (h h' : Hall) (r : Room) (at : ℕ) → Lowers h h' → h'.unsaved_from ≡ min h.unsaved_from at → IsRoomSound h r → IsRoomSound h' (record r { since = marked r.since at })
room_marked h h' r at low unsaved old =
    let x : IsRoomSound h' r = room_lowered h h' r low old in
    record {
      named = x.named;
      settled = x.settled;
      backlog = x.backlog;
      capacity = x.capacity;
      limits = x.limits;
      names = x.names;
      order = x.order;
      stalls = x.stalls;
      owed = x.owed;
      marked = subst (λ u. IsMarked u (marked r.since at) r.queue.backlog.queue) (sym unsaved) (marks h.unsaved_from at r.since r.queue.backlog.queue old.marked);
      listed = x.listed;
      rests = x.rests;
    }

abbrev pub MarksRoom : (at : ℕ) → Room → Room → Type 0
MarksRoom at a b = b ≡ record a { since = marked a.since at }

abbrev pub MarksStall : (at : ℕ) → Stall → Stall → Type 0
MarksStall at a b = b ≡ record a { since = marked a.since at }

-- a mark that is made now lies no later than the moment
past_then : (at at' : ℕ) (since since' : Option ℕ) → at ≤ at' → since' ≡ marked since at → IfSome since (λ m. m ≤ at) → IfSome since' (λ m. m ≤ at')
past_then at at' since since' later e h = past_one at at' since' later (subst (λ o. IfSome o (λ m. m ≤ at)) (sym e) (past_marked at since h))

marks_keep : (h h' : Hall) → IsSound h → IsElse h h' → h'.quiet_until ≡ h.quiet_until → h'.pending.items ≡ h.pending.items → h'.unsaved_from ≡ min h.unsaved_from h.moment → KeepsRest h h'
marks_keep h h' sound is quiet pending unsaved =
    else_keeps h h' sound is (omega (arith, quiet)) (omega (arith, unsaved)) (λ name has. subst (λ (names : List (List ℕ)). Contains names name) (sym pending) has)

pub marked_room_sound : (h h' : Hall) (i : ℕ) → IsSound h → IsElse h h' → h'.quiet_until ≡ h.quiet_until → h'.pending.items ≡ h.pending.items → h'.unsaved_from ≡ min h.unsaved_from h.moment
    → AtRoom i (MarksRoom h.moment) h.rooms.items h'.rooms.items → IsSound h'
marked_room_sound h h' i sound is quiet pending unsaved at =
    let keeps : KeepsRest h h' = marks_keep h h' sound is quiet pending unsaved in
    sound_at_room h h' i (MarksRoom h.moment) sound keeps at (ap topic_name at.does) (ap (λ (r : Room). r.stalls.items) at.does)
    (subst (IsRoomSound h') (sym at.does)
    (room_marked h h' at.room h.moment keeps.lowers unsaved (at_all (IsRoomSound h) h.rooms.items i at.room sound.rooms at.there)))
    (past_then h.moment h'.moment at.room.since at.after.since keeps.later (ap (λ (r : Room). r.since) at.does) (at_all (IsPast h.moment) h.rooms.items i at.room sound.past at.there).room)

pub marked_room_stands : (h h' : Hall) (files : Files) (s : State) (i : ℕ) → IsElse h h' → AtRoom i (MarksRoom h.moment) h.rooms.items h'.rooms.items → HoldsFor h files s → HoldsFor h' files s
marked_room_stands h h' files s i is at holds =
    holds_at_room h h' files s i (MarksRoom h.moment) (else_stays h h' is) at (ap topic_name at.does)
    (λ t of. room_alike files at.room at.after t (ap (λ (r : Room). r.queue) at.does) (ap (λ (r : Room). r.stalls) at.does) of)
    (λ channel none. ap (λ (r : Room). stall_in r.stalls.items channel) (sym at.does) ∙ none) holds

pub marked_stall_sound : (h h' : Hall) (i j : ℕ) → IsSound h → IsElse h h' → h'.quiet_until ≡ h.quiet_until → h'.pending.items ≡ h.pending.items → h'.unsaved_from ≡ min h.unsaved_from h.moment
    → AtStall i j (MarksStall h.moment) h.rooms.items h'.rooms.items → IsSound h'
marked_stall_sound h h' i j sound is quiet pending unsaved at =
    let keeps : KeepsRest h h' = marks_keep h h' sound is quiet pending unsaved in
    let s : Stall = at.does.stall in
    let x : IsStallSound h.options (topic_name at.room) h.quiet_until h.unsaved_from s = stall_before h h' i j (MarksStall h.moment) sound keeps at in
    let low = keeps.lowers.quiet in
    let now : IsStallSound h.options (topic_name at.room) h'.quiet_until h'.unsaved_from (record s { since = marked s.since h.moment }) = record {
      about = x.about;
      named = x.named;
      settled = x.settled;
      durable = x.durable;
      queue = x.queue;
      limits = x.limits;
      calm = λ n before. x.calm n (omega (arith, before, low));
      marked = subst (λ u. IsMarked u (marked s.since h.moment) s.channel.backlog.queue) (sym unsaved) (marks h.unsaved_from h.moment s.since s.channel.backlog.queue x.marked);
      members = x.members;
    } in
    sound_at_stall h h' i j (MarksStall h.moment) sound keeps at (ap channel_name at.does.does)
    (subst (λ o. IsStallSound o (topic_name at.room) h'.quiet_until h'.unsaved_from at.does.after) (sym keeps.lowers.options)
    (subst (IsStallSound h.options (topic_name at.room) h'.quiet_until h'.unsaved_from) (sym at.does.does) now))
    (past_then h.moment h'.moment s.since at.does.after.since keeps.later (ap (λ (y : Stall). y.since) at.does.does)
    (at_all (λ (y : Stall). IfSome y.since (λ m. m ≤ h.moment)) at.room.stalls.items j s (at_all (IsPast h.moment) h.rooms.items i at.room sound.past at.there).stalls at.does.there))
    (members_stay h.clients.items (topic_name at.room) s at.does.after (ap channel_name at.does.does) (λ n. ap (λ (y : Stall). client_of y.channel.clients n) at.does.does) (ap (λ (y : Stall). y.members.items) at.does.does)
    (members_before h h' i j (MarksStall h.moment) sound keeps at))

pub marked_stall_stands : (h h' : Hall) (files : Files) (s : State) (i j : ℕ) → IsElse h h' → AtStall i j (MarksStall h.moment) h.rooms.items h'.rooms.items → HoldsFor h files s → HoldsFor h' files s
marked_stall_stands h h' files s i j is at holds =
    holds_at_stall h h' files s i j (MarksStall h.moment) (else_stays h h' is) at (ap channel_name at.does.does)
    (λ k of. stall_alike files at.does.stall at.does.after k (ap (λ (y : Stall). y.channel) at.does.does) of) holds

-- until when a channel is quiet
pub quiet_some : (v : ChannelSeen) (m q q' : ℕ) → ((queued : List Message) → IsNextDue (channel_with v queued) (Some m)) → q' ≡ min q m → IsQuietUntil q' v
quiet_some v m q q' next is = λ now before. (next []).0 now (omega (arith, is, before))

pub quiet_none : (v : ChannelSeen) (q : ℕ) → ((queued : List Message) → IsNextDue (channel_with v queued) None) → IsQuietUntil q v
quiet_none v q next = λ now before. next [] now

pub quiet_at : (rooms : List Room) (i j : ℕ) (room : Room) (stall : Stall) (q : ℕ) → i < length rooms → HoldsAt (λ (r : Room). j < length r.stalls.items) rooms i → room ≡ get_or rooms i room → stall ≡ get_or room.stalls.items j stall
    → IsQuietUntil q stall.channel → HoldsAt (λ (r : Room). HoldsAt (λ (x : Stall). IsQuietUntil q x.channel) r.stalls.items j) rooms i
quiet_at rooms i j room stall q l all e f calm =
    λ d x.
    let room_is : get_or rooms i d ≡ room = get_or_from_slice_get rooms i room d (at_place rooms i room l e) in
    let stall_is : get_or room.stalls.items j x ≡ stall = get_or_from_slice_get room.stalls.items j stall x (at_place room.stalls.items j stall (range_of j rooms i room e all) f) in
    subst (λ (r : Room). IsQuietUntil q (get_or r.stalls.items j x).channel) (sym room_is) (subst (λ (y : Stall). IsQuietUntil q y.channel) (sym stall_is) calm)

-- a room that is listed, and its name among those that may have something to do
abbrev pub ListsRoom : (pending pending' : List (List ℕ)) → Room → Room → Type 0
ListsRoom pending pending' a b = (b ≡ record a { listed = true }) × (pending' ≡ listed_with pending a.listed (topic_name a))

pub listed_already : (room : Room) (pending : List (List ℕ)) → room.listed ≡ true → ListsRoom pending pending room room
listed_already room pending e = (ap (λ b. record room { listed = b }) e, sym (ap (λ b. if b then pending else pending ++ topic_name room ∷ []) e))

pub listed_now : (room : Room) (pending pending' : List (List ℕ)) (name : List ℕ) → room.listed ≡ false → name ≡ topic_name room → pending' ≡ pending ++ name ∷ [] → ListsRoom pending pending' room (record room { listed = true })
listed_now room pending pending' name e same is = (refl, is ∙ ap (λ n. pending ++ n ∷ []) same ∙ sym (ap (λ b. if b then pending else pending ++ topic_name room ∷ []) e))

pub listed_room_stands : (h h' : Hall) (files : Files) (s : State) (i : ℕ) (pending pending' : List (List ℕ)) → IsElse h h' → AtRoom i (ListsRoom pending pending') h.rooms.items h'.rooms.items → HoldsFor h files s → HoldsFor h' files s
listed_room_stands h h' files s i pending pending' is at holds =
    holds_at_room h h' files s i (ListsRoom pending pending') (else_stays h h' is) at (ap topic_name at.does.0)
    (λ t of. room_alike files at.room at.after t (ap (λ (r : Room). r.queue) at.does.0) (ap (λ (r : Room). r.stalls) at.does.0) of)
    (λ channel none. ap (λ (r : Room). stall_in r.stalls.items channel) (sym at.does.0) ∙ none) holds

pub still_listed : (b : Bool) (pending : List (List ℕ)) (name other : List ℕ) → Contains pending other → Contains (if b then pending else pending ++ name ∷ []) other
still_listed true pending name other h = h
still_listed false pending name other h = Contains-append_left pending (name ∷ []) other h

pub now_listed : (b : Bool) (pending : List (List ℕ)) (name : List ℕ) → (b ≡ true → Contains pending name) → Contains (if b then pending else pending ++ name ∷ []) name
now_listed true pending name h = h refl
now_listed false pending name h = Contains-push pending name

-- it is among them then, and all that were are still
pub listed_room_sound : (h h' : Hall) (i : ℕ) → IsSound h → IsElse h h' → h'.quiet_until ≡ h.quiet_until → h'.unsaved_from ≡ h.unsaved_from → AtRoom i (ListsRoom h.pending.items h'.pending.items) h.rooms.items h'.rooms.items → IsSound h'
listed_room_sound h h' i sound is quiet from at =
    let before : IsRoomSound h at.room = at_all (IsRoomSound h) h.rooms.items i at.room sound.rooms at.there in
    let keeps : KeepsRest h h' =
    else_keeps h h' sound is (omega (arith, quiet)) (omega (arith, from))
    (λ name has. subst (λ (xs : List (List ℕ)). Contains xs name) (sym at.does.1) (still_listed at.room.listed h.pending.items (topic_name at.room) name has)) in
    let x : IsRoomSound h' at.room = room_lowered h h' at.room keeps.lowers before in
    sound_at_room h h' i (ListsRoom h.pending.items h'.pending.items) sound keeps at (ap topic_name at.does.0) (ap (λ (r : Room). r.stalls.items) at.does.0)
    (subst (IsRoomSound h') (sym at.does.0) (record {
      named = x.named;
      settled = x.settled;
      backlog = x.backlog;
      capacity = x.capacity;
      limits = x.limits;
      names = x.names;
      order = x.order;
      stalls = x.stalls;
      owed = x.owed;
      marked = x.marked;
      listed = λ l. subst (λ (xs : List (List ℕ)). Contains xs (topic_name at.room)) (sym at.does.1) (now_listed at.room.listed h.pending.items (topic_name at.room) before.listed);
      rests = λ l. absurd (false≢true (sym l));
    }))
    (subst (λ o. IfSome o (λ m. m ≤ h'.moment)) (sym (ap (λ (r : Room). r.since) at.does.0)) (room_past h h' i (ListsRoom h.pending.items h'.pending.items) sound keeps.later at))
