-- The queues of a hall are looked at one after the other.
use Rattle.std.proofs.Common.{◌≡◌, ◌≢◌, ◌⊎◌, inl, inr, ◌≤◌, ◌<◌, ◌+◌, ◌-◌, ◌^◌, ℕ, suc, zero, set, min, Bool, true, false, nat_le, List, [], ◌∷◌, length, get_or, Option, Some, None, refl, sym, ap, subst, ◌∙◌, arith}
use Rattle.std.specs.Prelude.{HoldsAt, IfSome}
use Rattle.std.specs.List.{All, AllWithin, slice_get}
use Rattle.std.proofs.lemmas.Bool.{leb-true, leb-false}
use Rattle.std.proofs.lemmas.List.{get_or-set_other, get_or-set_same}
use Rattle.std.proofs.lemmas.Option.{get_or_from_slice_get, slice_get_within}
use Rattle.nsq_outside.specs.Causes.{Rose}
use Rattle.nsq_outside.specs.Files.{Files}
use Rattle.disk_queue.specs.Seen.{Seen as Queue}
use Rattle.floor_rooms.specs.declared.stall.Stall.{Stall}
use Rattle.floor_rooms.specs.declared.room.Room.{Room}
use Rattle.floor_rooms.specs.declared.hall.Hall.{Hall}
use Rattle.floor_rooms.specs.Sound.{IsSound}
use Rattle.floor_rooms.specs.Changes.{AtRoom, AtStall}
use Rattle.floor_rooms.proofs.Filing.{only_then}
use Rattle.floor_files.specs.Timely.{HasFailed, IsQueueTimely}
use Rattle.floor_files.specs.Saving.{ClearsRooms, IsQueueDone, IsRoomBegun, IsRoomDone, IsSoon, SavesRoom, SavesStall, Synced}
use Rattle.floor_files.proofs.Marking.{queue_soon}
use Rattle.floor_files.proofs.Clearing.{clears_same, clears_then}
use Rattle.floor_files.proofs.Syncing.{channel_done, channel_synced, topic_done, topic_synced}

-- the moment and the timeout stay
pub moment_same : (h h' : Hall) → h' ≡ record h { rooms = h'.rooms } → h'.moment ≡ h.moment
moment_same h h' rest = ap (λ (x : Hall). x.moment) rest

pub timeout_same : (h h' : Hall) → h' ≡ record h { rooms = h'.rooms } → h'.options.sync_timeout ≡ h.options.sync_timeout
timeout_same h h' rest = ap (λ (x : Hall). x.options.sync_timeout) rest

-- saves, and then others
pub synced_same : (tells : Bool) (h : Hall) (files : Files) (faults : ℕ) → IsSound h → Synced tells h h files files faults faults
synced_same tells h files faults sound = record { rest = refl; rooms = clears_same h.moment h.options.sync_timeout h.rooms.items; sound = sound; told = λ told s holds. holds; files = λ told file other. refl; faults = omega arith }

pub synced_then : (tells : Bool) (a b c : Hall) (f0 f1 f2 : Files) (n0 n1 n2 : ℕ) → Synced tells a b f0 f1 n0 n1 → Synced tells b c f1 f2 n1 n2 → Synced tells a c f0 f2 n0 n2
synced_then tells a b c f0 f1 f2 n0 n1 n2 x y =
    let first = x.faults in
    let second = y.faults in
    record {
      rest = y.rest ∙ ap (λ (h : Hall). record h { rooms = c.rooms }) x.rest;
      rooms = clears_then a.moment a.options.sync_timeout a.rooms.items b.rooms.items c.rooms.items x.rooms
          (subst (λ m. ClearsRooms m a.options.sync_timeout b.rooms.items c.rooms.items) (moment_same a b x.rest) (subst (λ t. ClearsRooms b.moment t b.rooms.items c.rooms.items) (timeout_same a b x.rest) y.rooms));
      sound = y.sound;
      told = λ told s holds. y.told told s (x.told told s holds);
      files = λ told. only_then f0 f1 f2 (x.files told) (y.files told);
      faults = omega (arith, first, second);
    }

-- a rise in some of the calls is one in all
pub rose_wider : (n0 n1 n2 n3 : ℕ) → n0 ≤ n1 → n2 ≤ n3 → Rose n1 n2 → Rose n0 n3
rose_wider n0 n1 n2 n3 low high rose = omega (arith, low, high, rose)

-- what was looked at stays so with an earlier mark and more calls
later_weaker : (least less : ℕ) (since : Option ℕ) → less ≤ least → IfSome since (λ m. least ≤ m) → IfSome since (λ m. less ≤ m)
later_weaker least less None e h = tt
later_weaker least less (Some m) e h = omega (arith, e, h)

timely_wider : (at timeout n0 n1 n2 n3 : ℕ) (since : Option ℕ) (q : Option Queue) → n0 ≤ n1 → n2 ≤ n3 → IsQueueTimely at timeout since q ⊎ (HasFailed q × Rose n1 n2) → IsQueueTimely at timeout since q ⊎ (HasFailed q × Rose n0 n3)
timely_wider at timeout n0 n1 n2 n3 since q low high (inl t) = inl t
timely_wider at timeout n0 n1 n2 n3 since q low high (inr f) = inr (f.0, rose_wider n0 n1 n2 n3 low high f.1)

done_wider : (at timeout least less n0 n1 n2 n3 : ℕ) (since : Option ℕ) (q : Option Queue) → less ≤ least → n0 ≤ n1 → n2 ≤ n3 → IsQueueDone at timeout least n1 n2 since q → IsQueueDone at timeout less n0 n3 since q
done_wider at timeout least less n0 n1 n2 n3 since q e low high d = record { later = later_weaker least less since e d.later; timely = timely_wider at timeout n0 n1 n2 n3 since q low high d.timely }

room_wider : (at timeout least less n0 n1 n2 n3 : ℕ) (r : Room) → less ≤ least → n0 ≤ n1 → n2 ≤ n3 → IsRoomDone at timeout least n1 n2 r → IsRoomDone at timeout less n0 n3 r
room_wider at timeout least less n0 n1 n2 n3 r e low high d = record {
  queue = done_wider at timeout least less n0 n1 n2 n3 r.since r.queue.backlog.queue e low high d.queue;
  stalls = λ k x within. let s : Stall = get_or r.stalls.items k x in done_wider at timeout least less n0 n1 n2 n3 s.since s.channel.backlog.queue e low high (d.stalls k x within);
}

pub soon_both : (at timeout a b least n0 n1 n2 : ℕ) → least ≡ min a b → n0 ≤ n1 → n1 ≤ n2 → IsSoon at timeout a n0 n1 → IsSoon at timeout b n1 n2 → IsSoon at timeout least n0 n2
soon_both at timeout a b least n0 n1 n2 e low high (inl x) (inl y) = inl (omega (arith, e, x, y))
soon_both at timeout a b least n0 n1 n2 e low high (inr x) y = inr (omega (arith, high, x))
soon_both at timeout a b least n0 n1 n2 e low high (inl x) (inr y) = inr (omega (arith, low, y))

-- places of a list of which one item became another
pub length_put : {X : Type 0} (xs : List X) (i : ℕ) (y : X) → length (set xs i y) ≡ length xs
length_put [] i y = refl
length_put (x ∷ xs) zero y = refl
length_put (x ∷ xs) (suc i) y = ap suc (length_put xs i y)

put_twice : {X : Type 0} (xs : List X) (i : ℕ) (y z : X) → set (set xs i y) i z ≡ set xs i z
put_twice [] i y z = refl
put_twice (x ∷ xs) zero y z = refl
put_twice (x ∷ xs) (suc i) y z = ap (λ zs. x ∷ zs) (put_twice xs i y z)

some_same : {X : Type 0} (x y : X) → Some x ≡ Some y → x ≡ y
some_same x y e = cc

stands_now : {X : Type 0} (xs : List X) (i : ℕ) (x y : X) → slice_get xs i ≡ Some x → slice_get (set xs i y) i ≡ Some y
stands_now [] i x y at = absurd (let no : ⊥ = cc in no)
stands_now (z ∷ xs) zero x y at = refl
stands_now (z ∷ xs) (suc i) x y at = stands_now xs i x y at

pub after_at : (i : ℕ) (Does : Room → Room → Type 0) (xs ys : List Room) (a : AtRoom i Does xs ys) (r : Room) → slice_get ys i ≡ Some r → r ≡ a.after
after_at i Does xs ys a r there = some_same r a.after (sym there ∙ ap (λ rs. slice_get rs i) a.is ∙ stands_now xs i a.room a.after a.there)

pub read_after : (i : ℕ) (Does : Room → Room → Type 0) (xs ys : List Room) (a : AtRoom i Does xs ys) (d : Room) → get_or ys i d ≡ a.after
read_after i Does xs ys a d = get_or_from_slice_get ys i a.after d (ap (λ rs. slice_get rs i) a.is ∙ stands_now xs i a.room a.after a.there)

-- the first items of a list, and one more that was changed
pub within_put : {X : Type 0} (P Q : X → Type 0) (xs : List X) (j : ℕ) (y : X) → j < length xs → ((x : X) → P x → Q x) → Q y → AllWithin P xs 0 j → AllWithin Q (set xs j y) 0 (j + 1)
within_put P Q xs j y inside f here all k d from below =
    elim (nat_le j k) as (λ b. nat_le j k ≡ b → Q (get_or (set xs j y) k d)) [
      | true ↦ λ e. let at : j ≤ k = leb-true j k e in let same : j ≡ k = omega (arith, at, below) in subst (λ n. Q (get_or (set xs j y) n d)) same (subst Q (sym (get_or-set_same xs j y d inside)) here)
      | false ↦ λ e.
          let under : k < j = leb-false j k e in
          let apart : k ≢ j = λ same. let no : ⊥ = omega (arith, under, same) in no in
          subst Q (sym (get_or-set_other xs j k y d apart)) (f (get_or xs k d) (all k d from under))
    ] refl

-- the queues of one topic so far
pub record RoomSoFar (tells : Bool) (i j count : ℕ) (h h' : Hall) (old new : Files) (before now least : ℕ) : Type 0 where
  pub synced : Synced tells h h' old new before now
  pub room : AtRoom i (λ a b. IsRoomBegun h.moment h.options.sync_timeout least before now j b) h.rooms.items h'.rooms.items
  pub soon : IsSoon h.moment h.options.sync_timeout least before now
  pub counted : count ≡ length room.after.stalls.items

-- a moment comes before the greatest number
pub early_moment : (h : Hall) → IsSound h → h.moment < 2 ^ 64 - 1
early_moment h sound = let low = sound.moment in omega (arith, low)

-- its own queue first
pub room_begins : (tells : Bool) (i count : ℕ) (h h' : Hall) (old new : Files) (before now least : ℕ) → IsSound h → h' ≡ record h { rooms = h'.rooms }
    → (x : AtRoom i (SavesRoom tells h.moment h.options.sync_timeout least old new before now) h.rooms.items h'.rooms.items) → count ≡ length x.after.stalls.items → RoomSoFar tells i 0 count h h' old new before now least
room_begins tells i count h h' old new before now least sound rest x counts = record {
  synced = topic_synced tells h h' old new before now h.moment h.options.sync_timeout least i sound rest x refl refl;
  room = record {
    room = x.room;
    after = x.after;
    there = x.there;
    is = x.is;
    does = record { queue = topic_done tells h h' old new before now h.moment h.options.sync_timeout least i sound rest x; stalls = λ k d from below. absurd (let no : ⊥ = omega (arith, below) in no) };
  };
  soon = queue_soon h.moment h.options.sync_timeout least before now x.room.since x.after.since x.room.queue.backlog.queue x.after.queue.backlog.queue (early_moment h sound) x.does.mark x.does.left;
  counted = counts;
}

-- then each channel's
module _ (tells : Bool) (i j count : ℕ) (h h1 h2 : Hall) (f0 f1 f2 : Files) (n0 n1 n2 a left least : ℕ) (sound : IsSound h) (so : RoomSoFar tells i j count h h1 f0 f1 n0 n1 a) (rest : h2 ≡ record h1 { rooms = h2.rooms })
    (x : AtStall i j (SavesStall tells h1.moment h1.options.sync_timeout left f1 f2 n1 n2) h1.rooms.items h2.rooms.items) (is : least ≡ min a left) where
  step_synced : Synced tells h1 h2 f1 f2 n1 n2
  step_synced = channel_synced tells h1 h2 f1 f2 n1 n2 h1.moment h1.options.sync_timeout left i j so.synced.sound rest x refl refl

  same_room : x.room ≡ so.room.after
  same_room = after_at i (λ r s. IsRoomBegun h.moment h.options.sync_timeout a n0 n1 j s) h.rooms.items h1.rooms.items so.room x.room x.there

  step_stall : IsQueueDone h.moment h.options.sync_timeout left n1 n2 x.does.after.since x.does.after.channel.backlog.queue
  step_stall =
      subst (λ t. IsQueueDone h.moment t left n1 n2 x.does.after.since x.does.after.channel.backlog.queue) (timeout_same h h1 so.synced.rest)
      (subst (λ m. IsQueueDone m h1.options.sync_timeout left n1 n2 x.does.after.since x.does.after.channel.backlog.queue) (moment_same h h1 so.synced.rest)
      (channel_done tells h1 h2 f1 f2 n1 n2 h1.moment h1.options.sync_timeout left i j so.synced.sound rest x))

  step_soon : IsSoon h.moment h.options.sync_timeout left n1 n2
  step_soon =
      subst (λ t. IsSoon h.moment t left n1 n2) (timeout_same h h1 so.synced.rest)
      (subst (λ m. IsSoon m h1.options.sync_timeout left n1 n2) (moment_same h h1 so.synced.rest)
      (queue_soon h1.moment h1.options.sync_timeout left n1 n2 x.does.stall.since x.does.after.since x.does.stall.channel.backlog.queue x.does.after.channel.backlog.queue (early_moment h1 so.synced.sound) x.does.does.mark x.does.does.left))

  step_done : IsRoomBegun h.moment h.options.sync_timeout least n0 n2 (j + 1) x.after
  step_done =
      let at = h.moment in
      let timeout = h.options.sync_timeout in
      let first = so.synced.faults in
      let second = step_synced.faults in
      let begun : IsRoomBegun at timeout a n0 n1 j x.room = subst (IsRoomBegun at timeout a n0 n1 j) (sym same_room) so.room.does in
      record {
        queue = subst (λ (r : Room). IsQueueDone at timeout least n0 n2 r.since r.queue.backlog.queue) (sym x.does.is)
            (done_wider at timeout a least n0 n0 n1 n2 x.room.since x.room.queue.backlog.queue (omega (arith, is)) (omega arith) second begun.queue);
        stalls = subst (λ (xs : List Stall). AllWithin (λ (s : Stall). IsQueueDone at timeout least n0 n2 s.since s.channel.backlog.queue) xs 0 (j + 1)) (sym x.does.stalls)
            (within_put (λ (s : Stall). IsQueueDone at timeout a n0 n1 s.since s.channel.backlog.queue) (λ (s : Stall). IsQueueDone at timeout least n0 n2 s.since s.channel.backlog.queue) x.room.stalls.items j x.does.after
            (slice_get_within x.room.stalls.items j x.does.stall x.does.there) (λ s d. done_wider at timeout a least n0 n0 n1 n2 s.since s.channel.backlog.queue (omega (arith, is)) (omega arith) second d)
            (done_wider at timeout left least n0 n1 n2 n2 x.does.after.since x.does.after.channel.backlog.queue (omega (arith, is)) first (omega arith) step_stall) begun.stalls);
      }

  pub room_goes_on : RoomSoFar tells i (j + 1) count h h2 f0 f2 n0 n2 least
  room_goes_on = record {
    synced = synced_then tells h h1 h2 f0 f1 f2 n0 n1 n2 so.synced step_synced;
    room = record {
      room = so.room.room;
      after = x.after;
      there = so.room.there;
      is = x.is ∙ ap (λ rooms. set rooms i x.after) so.room.is ∙ put_twice h.rooms.items i so.room.after x.after;
      does = step_done;
    };
    soon = soon_both h.moment h.options.sync_timeout a left least n0 n1 n2 is so.synced.faults step_synced.faults so.soon step_soon;
    counted = so.counted ∙ ap (λ (r : Room). length r.stalls.items) (sym same_room) ∙ sym (ap length x.does.stalls ∙ length_put x.room.stalls.items j x.does.after);
  }

-- until all are done
pub room_ends : (tells : Bool) (i j count : ℕ) (h h' : Hall) (old new : Files) (before now least : ℕ) → count ≤ j → RoomSoFar tells i j count h h' old new before now least
    → AtRoom i (λ a b. IsRoomDone h.moment h.options.sync_timeout least before now b) h.rooms.items h'.rooms.items
room_ends tells i j count h h' old new before now least past so =
    let counts = so.counted in
    record {
      room = so.room.room;
      after = so.room.after;
      there = so.room.there;
      is = so.room.is;
      does = record { queue = so.room.does.queue; stalls = λ k d below. so.room.does.stalls k d (omega arith) (omega (arith, below, counts, past)) };
    }

-- the topics so far
pub record RoomsSoFar (tells : Bool) (i count : ℕ) (h h' : Hall) (old new : Files) (before now least : ℕ) : Type 0 where
  pub synced : Synced tells h h' old new before now
  pub done : AllWithin (IsRoomDone h.moment h.options.sync_timeout least before now) h'.rooms.items 0 i
  pub soon : IsSoon h.moment h.options.sync_timeout least before now
  pub counted : count ≡ length h'.rooms.items

pub rooms_begin : (tells : Bool) (count : ℕ) (h : Hall) (files : Files) (faults least : ℕ) → IsSound h → least ≡ 2 ^ 64 - 1 → count ≡ length h.rooms.items → RoomsSoFar tells 0 count h h files files faults faults least
rooms_begin tells count h files faults least sound is counts =
    let early = early_moment h sound in
    record {
      synced = synced_same tells h files faults sound;
      done = λ k d from below. absurd (let no : ⊥ = omega (arith, below) in no);
      soon = inl (omega (arith, early, is));
      counted = counts;
    }

pub rooms_go_on : (tells : Bool) (i count : ℕ) (h h1 h2 : Hall) (f0 f1 f2 : Files) (n0 n1 n2 a left least : ℕ) → RoomsSoFar tells i count h h1 f0 f1 n0 n1 a → Synced tells h1 h2 f1 f2 n1 n2
    → AtRoom i (λ a b. IsRoomDone h1.moment h1.options.sync_timeout left n1 n2 b) h1.rooms.items h2.rooms.items → IsSoon h1.moment h1.options.sync_timeout left n1 n2 → least ≡ min a left → RoomsSoFar tells (i + 1) count h h2 f0 f2 n0 n2 least
rooms_go_on tells i count h h1 h2 f0 f1 f2 n0 n1 n2 a left least so step x soon is =
    let at = h.moment in
    let timeout = h.options.sync_timeout in
    let first = so.synced.faults in
    let second = step.faults in
    let here : IsRoomDone at timeout left n1 n2 x.after =
    subst (λ t. IsRoomDone at t left n1 n2 x.after) (timeout_same h h1 so.synced.rest) (subst (λ m. IsRoomDone m h1.options.sync_timeout left n1 n2 x.after) (moment_same h h1 so.synced.rest) x.does) in
    let now_soon : IsSoon at timeout left n1 n2 = subst (λ t. IsSoon at t left n1 n2) (timeout_same h h1 so.synced.rest) (subst (λ m. IsSoon m h1.options.sync_timeout left n1 n2) (moment_same h h1 so.synced.rest) soon) in
    record {
      synced = synced_then tells h h1 h2 f0 f1 f2 n0 n1 n2 so.synced step;
      done = subst (λ (rs : List Room). AllWithin (IsRoomDone at timeout least n0 n2) rs 0 (i + 1)) (sym x.is)
          (within_put (IsRoomDone at timeout a n0 n1) (IsRoomDone at timeout least n0 n2) h1.rooms.items i x.after (slice_get_within h1.rooms.items i x.room x.there)
          (λ r d. room_wider at timeout a least n0 n0 n1 n2 r (omega (arith, is)) (omega arith) second d) (room_wider at timeout left least n0 n1 n2 n2 x.after (omega (arith, is)) first (omega arith) here) so.done);
      soon = soon_both at timeout a left least n0 n1 n2 is first second so.soon now_soon;
      counted = so.counted ∙ sym (ap length x.is ∙ length_put h1.rooms.items i x.after);
    }

pub rooms_end : (tells : Bool) (i count : ℕ) (h h' : Hall) (old new : Files) (before now least : ℕ) → count ≤ i → RoomsSoFar tells i count h h' old new before now least → All (IsRoomDone h.moment h.options.sync_timeout least before now) h'.rooms.items
rooms_end tells i count h h' old new before now least past so = let counts = so.counted in λ k d below. so.done k d (omega arith) (omega (arith, below, counts, past))

-- a channel's place that was counted is there
pub place_there : (tells : Bool) (i j count : ℕ) (h h' : Hall) (old new : Files) (before now least : ℕ) → j < count → RoomSoFar tells i j count h h' old new before now least → HoldsAt (λ (r : Room). j < length r.stalls.items) h'.rooms.items i
place_there tells i j count h h' old new before now least below so =
    λ d.
    let counts = so.counted in
    let within : j < length so.room.after.stalls.items = omega (arith, below, counts) in
    subst (λ (r : Room). j < length r.stalls.items) (sym (read_after i (λ a b. IsRoomBegun h.moment h.options.sync_timeout least before now j b) h.rooms.items h'.rooms.items so.room d)) within

pub room_there : (tells : Bool) (i j count : ℕ) (h h' : Hall) (old new : Files) (before now least : ℕ) → RoomSoFar tells i j count h h' old new before now least → i < length h'.rooms.items
room_there tells i j count h h' old new before now least so =
    let within : i < length h.rooms.items = slice_get_within h.rooms.items i so.room.room so.room.there in
    let same : length h'.rooms.items ≡ length h.rooms.items = ap length so.room.is ∙ length_put h.rooms.items i so.room.after in
    omega (arith, within, same)
