-- Topics that rest are listed no more: the hall is as sound, and stands for the same.
use Rattle.std.proofs.Common.{◌≡◌, ◌≢◌, ◌<◌, ◌≤◌, ℕ, suc, zero, set, true, false, if◌then◌else◌, List, ◌∷◌, length, get_or, Option, Some, None, is_some, refl, sym, ap, subst, ◌∙◌, arith}
use Rattle.std.specs.Prelude.{IfSome}
use Rattle.std.specs.List.{Contains}
use Rattle.std.proofs.lemmas.Bool.{false≢true}
use Rattle.std.proofs.lemmas.Option.{slice_get_read, slice_get-get_or}
use Rattle.nsq_outside.specs.Files.{Files}
use Rattle.path_image.specs.Found.{Pairwise}
use Rattle.broker_history.specs.State.{State}
use Rattle.floor_rooms.specs.declared.room.Room.{Room}
use Rattle.floor_rooms.specs.declared.hall.Hall.{Hall}
use Rattle.floor_rooms.specs.Rooms.{topic_name, room_in, stall_in}
use Rattle.floor_rooms.specs.Sound.{IsRoomSound, IsSound, rests}
use Rattle.floor_rooms.specs.Standing.{HoldsFor}
use Rattle.floor_rooms.specs.Changes.{AtRoom}
use Rattle.floor_rooms.proofs.Placing.{found_at, put_at}
use Rattle.broker_history.proofs.Lists.{find_put, same_bytes}
use Rattle.floor_rooms.proofs.Sounding.{KeepsRest, at_all, room_lowered, room_past, sound_at_room}
use Rattle.floor_rooms.proofs.Holding.{holds_at_room, holds_same, room_alike}
use Rattle.floor_moves.specs.Pending.{BeginsWith, IsBusyAt, IsRelisted, IsUnlisted, PendingFound, Unlists}
use Rattle.floor_moves.proofs.PuttingBack.{some_same}
use Rattle.floor_moves.proofs.Keeping.{keeps_from}
use Rattle.floor_rooms.proofs.Dating.{pairs_one, pairs_then}
use Rattle.floor_moves.proofs.Remaining.{relisted_keep, relisted_on, relisted_same}
use Rattle.floor_moves.specs.Moves.{Keeps}

abbrev pub Rested : Room → Room → Type 0
Rested a b = (b ≡ record a { listed = false }) × (rests a ≡ true)

-- a topic that rests isn't listed
module _ (h h' : Hall) (i : ℕ) (sound : IsSound h) (rest : h' ≡ record h { rooms = h'.rooms }) (at : AtRoom i Rested h.rooms.items h'.rooms.items) where
  keeps : KeepsRest h h'
  keeps = let moment = sound.moment in let same = ap (λ (x : Hall). x.moment) rest in let quiet = ap (λ (x : Hall). x.quiet_until) rest in let unsaved = ap (λ (x : Hall). x.unsaved_from) rest in record {
    lowers = record { options = ap (λ (x : Hall). x.options) rest; quiet = omega (arith, quiet); unsaved = omega (arith, unsaved); pending = λ name c. subst (λ (x : Hall). Contains x.pending.items name) (sym rest) c };
    epoch = ap (λ (x : Hall). x.epoch) rest;
    ids_used = ap (λ (x : Hall). x.ids_used) rest;
    moment = omega (arith, moment, same);
    later = omega (arith, same);
    clients = ap (λ (x : Hall). x.clients.items) rest;
  }

  same_name : topic_name at.after ≡ topic_name at.room
  same_name = ap (λ (r : Room). r.queue.name) at.does.0

  same_stalls : at.after.stalls.items ≡ at.room.stalls.items
  same_stalls = ap (λ (r : Room). r.stalls.items) at.does.0

  room_now : IsRoomSound h' at.after
  room_now =
      let x : IsRoomSound h at.room = at_all (IsRoomSound h) h.rooms.items i at.room sound.rooms at.there in
      let now : IsRoomSound h (record (at.room) { listed = false }) = record {
        named = x.named;
        settled = x.settled;
        backlog = x.backlog;
        capacity = x.capacity;
        limits = x.limits;
        names = x.names;
        order = x.order;
        stalls = x.stalls;
        owed = x.owed;
        marked = x.marked;
        listed = λ e. absurd (false≢true e);
        rests = λ e. at.does.1;
      } in
      room_lowered h h' at.after keeps.lowers (subst (IsRoomSound h) (sym at.does.0) now)

  pub unlisted_sound : IsSound h'
  unlisted_sound =
      sound_at_room h h' i Rested sound keeps at same_name same_stalls room_now (subst (λ o. IfSome o (λ m. m ≤ h'.moment)) (sym (ap (λ (r : Room). r.since) at.does.0)) (room_past h h' i Rested sound keeps.later at))

  pub unlisted_stands : (files : Files) (s : State) → HoldsFor h files s → HoldsFor h' files s
  unlisted_stands files s holds =
      let moment = ap (λ (x : Hall). x.moment) rest in
      holds_at_room h h' files s i Rested (record {
        options = ap (λ (x : Hall). x.options) rest;
        epoch = ap (λ (x : Hall). x.epoch) rest;
        ids_used = ap (λ (x : Hall). x.ids_used) rest;
        moment = omega (arith, moment);
        stopped = ap (λ (x : Hall). x.stopped) rest;
        clients = ap (λ (x : Hall). x.clients.items) rest;
      }) at same_name (λ t of. room_alike files at.room at.after t (ap (λ (r : Room). r.queue) at.does.0) (ap (λ (r : Room). r.stalls) at.does.0) of)
      (λ channel none. ap (λ xs. stall_in xs channel) (sym same_stalls) ∙ none) holds

  -- it isn't listed now
  pub unlisted_is : (name : List ℕ) → name ≡ topic_name at.room → IsUnlisted h' name
  unlisted_is name is =
      let up = sound.room_order in
      let found : room_in h'.rooms.items (topic_name at.after) ≡ Some at.after =
      ap (λ xs. room_in xs (topic_name at.after)) (at.is ∙ put_at topic_name h.rooms.items i at.room at.after up at.there same_name) ∙ find_put topic_name h.rooms.items at.after (topic_name at.after)
      ∙ ap (λ b. if b then Some at.after else room_in h.rooms.items (topic_name at.after)) (same_bytes (topic_name at.after)) in
      subst (λ n. IsUnlisted h' n) (same_name ∙ sym is) (subst (λ o. IfSome o (λ (r : Room). r.listed ≡ false)) (sym found) (ap (λ (r : Room). r.listed) at.does.0))

-- a name behind the first
behind_first : (n : List ℕ) (more : List (List ℕ)) (x : List ℕ) (k : ℕ) → k < length (n ∷ more) → get_or (n ∷ more) k x ≡ x → x ≢ n → Contains more x
behind_first n more x zero within at apart = absurd (apart (sym at))
behind_first n more x (suc k) within at apart = (k, omega (arith, within), at)

contains_behind : (n : List ℕ) (more : List (List ℕ)) (x : List ℕ) → Contains (n ∷ more) x → x ≢ n → Contains more x
contains_behind n more x c apart = behind_first n more x c.0 c.1 c.2 apart

-- the first name goes, of a topic that isn't listed
module _ (h h' : Hall) (name : List ℕ) (more : List (List ℕ)) (sound : IsSound h) (was : h.pending.items ≡ name ∷ more) (is : h'.pending.items ≡ more) (unlisted : IsUnlisted h name) where
  listed_else : (k : ℕ) (d : Room) → k < length h.rooms.items → (get_or h.rooms.items k d).listed ≡ true → topic_name (get_or h.rooms.items k d) ≢ name
  listed_else k d within e same =
      let r : Room = get_or h.rooms.items k d in
      let found : room_in h.rooms.items name ≡ Some r = ap (room_in h.rooms.items) (sym same) ∙ found_at topic_name h.rooms.items k r sound.room_order (slice_get-get_or h.rooms.items k d within) in
      false≢true (sym (subst (λ o. IfSome o (λ (x : Room). x.listed ≡ false)) found unlisted) ∙ e)

  room_dropped : (k : ℕ) (d : Room) → k < length h.rooms.items → IsRoomSound (record h { pending = h'.pending }) (get_or h.rooms.items k d)
  room_dropped k d within =
      let x : IsRoomSound h (get_or h.rooms.items k d) = sound.rooms k d within in
      record {
        named = x.named;
        settled = x.settled;
        backlog = x.backlog;
        capacity = x.capacity;
        limits = x.limits;
        names = x.names;
        order = x.order;
        stalls = x.stalls;
        owed = x.owed;
        marked = x.marked;
        listed = λ e.
            subst (λ xs. Contains xs (topic_name (get_or h.rooms.items k d))) (sym is)
            (contains_behind name more (topic_name (get_or h.rooms.items k d)) (subst (λ xs. Contains xs (topic_name (get_or h.rooms.items k d))) was (x.listed e)) (listed_else k d within e));
        rests = x.rests;
      }

  pub dropped_sound : IsSound (record h { pending = h'.pending })
  dropped_sound = record {
    options = sound.options;
    epoch = sound.epoch;
    ids_used = sound.ids_used;
    moment = sound.moment;
    client_order = sound.client_order;
    room_order = sound.room_order;
    rooms = λ k d within. room_dropped k d within;
    members = sound.members;
    channels = sound.channels;
    ready = sound.ready;
    past = sound.past;
  }

-- where a hall's own list is another's
pub with_pending : (h h' : Hall) (files : Files) (s : State) → h' ≡ record h { pending = h'.pending } → HoldsFor h files s → HoldsFor h' files s
with_pending h h' files s rest holds =
    let moment = ap (λ (x : Hall). x.moment) rest in
    holds_same h h' files s (record {
      options = ap (λ (x : Hall). x.options) rest;
      epoch = ap (λ (x : Hall). x.epoch) rest;
      ids_used = ap (λ (x : Hall). x.ids_used) rest;
      moment = omega (arith, moment);
      stopped = ap (λ (x : Hall). x.stopped) rest;
      clients = ap (λ (x : Hall). x.clients.items) rest;
    }) (ap (λ (x : Hall). x.rooms.items) rest) holds

-- one more name went
pub unlists_on : (h h1 h2 h3 : Hall) → Unlists h h1 → h2 ≡ record h1 { rooms = h2.rooms } → Pairwise IsRelisted h1.rooms.items h2.rooms.items → h3 ≡ record h2 { pending = h3.pending } → IsSound h3 → ((files : Files) (s : State) → HoldsFor h1 files s → HoldsFor h3 files s)
    → Unlists h h3
unlists_on h h1 h2 h3 a r2 rooms r3 sound stands = record {
  sound = sound;
  rooms = pairs_then IsRelisted relisted_on h.rooms.items h1.rooms.items h3.rooms.items a.rooms (subst (λ (x : Hall). Pairwise IsRelisted h1.rooms.items x.rooms.items) (sym r3) rooms);
  rest = r3 ∙ ap (λ (x : Hall). record x { pending = h3.pending }) r2 ∙ ap (λ (x : Hall). record x { rooms = h2.rooms; pending = h3.pending }) a.rest ∙ ap (λ rooms. record h { rooms = rooms; pending = h3.pending }) (sym (ap (λ (x : Hall). x.rooms) r3));
  stands = λ files s holds. stands files s (a.stands files s holds);
}

-- a topic that was read at a place, as it rests, twice
abbrev pub rested_at : (rooms : List Room) (i : ℕ) (read room : Room) → i < length rooms → read ≡ get_or rooms i read → room ≡ get_or rooms i room → rests read ≡ true → AtRoom i Rested rooms (set rooms i (record room { listed = false }))
rested_at rooms i read room within r e idle = record {
  room = room;
  after = record room { listed = false };
  there = slice_get_read rooms (length rooms) i room refl within e;
  is = refl;
  does = (refl, subst (λ (x : Room). rests x ≡ true) (some_same read room (sym (slice_get_read rooms (length rooms) i read refl within r) ∙ slice_get_read rooms (length rooms) i room refl within e)) idle);
}

-- no name went yet
pub unlists_same : (h : Hall) → IsSound h → Unlists h h
unlists_same h sound = record { sound = sound; rest = refl; rooms = relisted_same h.rooms.items; stands = λ files s holds. holds }

-- one more topic was found to be listed or not
pub unlists_more : (h h1 h2 : Hall) → Unlists h h1 → h2 ≡ record h1 { rooms = h2.rooms } → Pairwise IsRelisted h1.rooms.items h2.rooms.items → IsSound h2 → ((files : Files) (s : State) → HoldsFor h1 files s → HoldsFor h2 files s) → Unlists h h2
unlists_more h h1 h2 a r2 rooms sound stands = unlists_on h h1 h2 h2 a r2 rooms refl sound stands

-- that topic alone
pub rested_alone : (old new : List Room) (i : ℕ) → AtRoom i Rested old new → Pairwise IsRelisted old new
rested_alone old new i x = subst (Pairwise IsRelisted old) (sym x.is) (pairs_one IsRelisted (λ r. refl) old i x.room x.after x.there (subst (IsRelisted x.room) (sym x.does.0) refl))

-- what that leaves of a hall
pub unlists_keep : (h h' : Hall) → Unlists h h' → Keeps h h'
unlists_keep h h' u = keeps_from h h' u.rest (relisted_keep h.moment h.rooms.items h'.rooms.items u.rooms)

-- a topic that was found has something to do
pub busy_found : (h : Hall) (found : Option ℕ) → is_some found ≡ true → IfSome found (IsBusyAt h.rooms.items) → PendingFound h found
busy_found h None e busy = absurd (false≢true e)
busy_found h (Some i) e busy = busy

head_same : (a b : List ℕ) (xs ys : List (List ℕ)) → a ∷ xs ≡ b ∷ ys → a ≡ b
head_same a b xs ys e = cc

-- where none was found, the topic of the first name isn't listed
pub first_unlisted : (h h' : Hall) (found : Option ℕ) (name : List ℕ) → BeginsWith h.pending.items name → h' ≡ record h { rooms = h'.rooms } → is_some found ≡ false → (found ≡ None → IsUnlisted h' name)
    → (first : List ℕ) (more : List (List ℕ)) → h'.pending.items ≡ first ∷ more → IsUnlisted h' first
first_unlisted h h' None name begins rest e none first more was =
    subst (IsUnlisted h') (head_same name first begins.more more (sym begins.is ∙ sym (ap (λ (x : Hall). x.pending.items) rest) ∙ was)) (none refl)
first_unlisted h h' (Some i) name begins rest e none first more was = absurd (false≢true (sym e))
