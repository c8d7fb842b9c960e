-- What flushes leave of a topic with its channels, and of all topics.
use Rattle.std.proofs.Common.{◌≡◌, ◌≢◌, ◌⊎◌, inl, inr, ◌≤◌, ◌<◌, ◌+◌, ◌||◌, ℕ, suc, zero, set, Bool, true, false, not, if◌then◌else◌, List, [], ◌∷◌, ◌++◌, length, map, get_or, Some, None, refl, sym, ap, subst, ◌∙◌, arith}
use Rattle.std.specs.Prelude.{IsTrue, MatchBool}
use Rattle.std.specs.List.{All, Contains, slice_get}
use Rattle.std.proofs.lemmas.List.Elements.{All-cons, All-head, All-nil, All-tail, All-weaker, Contains-append_left, Contains-append_right}
use Rattle.std.proofs.lemmas.Option.{get_or_from_slice_get, slice_get-get_or, slice_get_within}
use Rattle.nsq_base.specs.Name.{IsName, is_ephemeral}
use Rattle.nsq_outside.specs.Files.{Files}
use Rattle.path_image.specs.Data.{durable}
use Rattle.path_image.specs.Found.{Pairwise}
use Rattle.backlog.specs.Lists.{DiskChanges, Stands}
use Rattle.backlog.specs.Answers.{FlushFails}
use Rattle.backlog.specs.declared.answers.Flushed.{Flushed}
use Rattle.backlog.specs.declared.answers.Flushed.TheVariants.{Done, Fault}
use Rattle.broker_history.specs.State.{Channel, State, Topic, is_ephemeral_channel}
use Rattle.broker_history.specs.Left.{durable_channels, durable_topics, left_in_channel}
use Rattle.topic_core.specs.Answers.{FlushesAll, FlushesTopic}
use Rattle.topic_core.specs.Laws.{DiskStays, OwnFilesStay}
use Rattle.topic_core.specs.Rows.{FindsLeft, FlushLeaves as TopicLeaves, IsTopicOf}
use Rattle.topic_core.specs.Seen.{Seen as TopicSeen, IsSettled}
use Rattle.topic_core.proofs.Keeping.{left_stays, save_stays, topic_stays}
use Rattle.channel_core.specs.declared.about.About.{About}
use Rattle.channel_core.specs.Seen.{queue_name}
use Rattle.floor_laws.proofs.Pairs.{pairs_become}
use Rattle.floor_rooms.specs.declared.stall.Stall.{Stall}
use Rattle.floor_rooms.specs.declared.room.Room.{Room}
use Rattle.floor_rooms.specs.declared.hall.Hall.{Hall}
use Rattle.floor_rooms.specs.Rooms.{channel_name, topic_name}
use Rattle.floor_rooms.specs.Kept.{hall_kept, room_kept, stall_kept}
use Rattle.floor_rooms.specs.Sound.{IsRoomSound, IsSound, IsStallSound}
use Rattle.floor_rooms.specs.Standing.{HoldsFor, IsRoomOf, IsStallOf}
use Rattle.floor_rooms.specs.Changes.{OnlyQueueFiles, OthersStay}
use Rattle.floor_rooms.proofs.Staying.{other_topic, others_stay, room_named, stall_named, stall_stays, topic_is_no_channel}
use Rattle.floor_rooms.proofs.Orders.{pairs_all}
use Rattle.floor_rooms.proofs.Dating.{pairs_one, pairs_same, pairs_then, pairs_weaker}
use Rattle.floor_rooms.proofs.Filing.{only_of_topic, only_same, only_then}
use Rattle.floor_rooms.proofs.Naming.{KeptAlike, kept_pairs}
use Rattle.floor_files.specs.Flushing.{CanFlushRoom, CanFlushStall, FindsQueue, FlushesRoom, IsOfOther, KeepsRoomNames, KeepsStallNames, LeavesBut, LeavesChannel, LeavesOthers, LeavesTopic, LeavesTopicBut, LeavesWhere, MissesFew, RoomsLeft, RoomsSoFar, StallsLeft, StallsSoFar, both_flushed}
use Rattle.floor_files.proofs.Leaving.{apart_at, fails_both, few_both, few_more, few_none, found_stays, missed_here, missed_still, missed_with, named_disk, names_same, names_then, one_more, own_then, slice_apart, some_same}

-- a topic and its channels may be flushed where the hall is sound
pub can_flush : (h : Hall) (r : Room) → IsRoomSound h r → CanFlushRoom r
can_flush h r x = record {
  named = x.named;
  settled = x.settled;
  queue = x.backlog.queue;
  order = x.order;
  stalls = All-weaker (IsStallSound h.options (topic_name r) h.quiet_until h.unsaved_from) (CanFlushStall (topic_name r)) (λ s y. record { named = y.named; topic_is = ap (λ (a : About). a.topic) y.about; nothing = y.settled; queue = y.queue }) r.stalls.items x.stalls;
}

-- of those whose names aren't ephemeral all are so
durable_one : {X : Type 0} (P : X → Type 0) (x : X) (xs : List X) (b : Bool) → (b ≡ false → P x) → All P xs → All P (if not b then x ∷ xs else xs)
durable_one P x xs true f all = all
durable_one P x xs false f all = All-cons P x xs (f refl) all

durable_all : {X : Type 0} (name : X → List ℕ) (P : X → Type 0) (xs : List X) → All (λ x. is_ephemeral (name x) ≡ false → P x) xs → All P (durable name xs)
durable_all name P [] all = All-nil P
durable_all name P (x ∷ xs) all =
    durable_one P x (durable name xs) (is_ephemeral (name x)) (All-head (λ x. is_ephemeral (name x) ≡ false → P x) x xs all) (durable_all name P xs (All-tail (λ x. is_ephemeral (name x) ≡ false → P x) x xs all))

both_last : (a b : Bool) → a ≡ false → b ≡ false → (a || b) ≡ false
both_last true b e f = e
both_last false b e f = f

-- a topic whose channels were flushed, and then its own queue
topic_found : (t : Topic) (name : List ℕ) (b : Flushed) (missed : List (List ℕ)) (f2 : Files) → t.name ≡ name → TopicLeaves f2 t b → is_ephemeral t.name ≡ false → Contains (missed_with b name missed) t.name ⊎ FindsLeft f2 t
topic_found t name Done missed f2 is leaves lasts = inr (leaves lasts)
topic_found t name Fault missed f2 is leaves lasts = inl (subst (Contains (name ∷ missed)) (sym is) (missed_here name missed))

module _ (a after : Room) (answer b both : Flushed) (f0 f1 f2 : Files) (n0 n1 n2 : ℕ) (is : both ≡ both_flushed answer b) (can : CanFlushRoom a) (stays : after ≡ record a { stalls = after.stalls }) (so : StallsLeft answer n0 n1 (length a.stalls.items) (topic_name a) a.stalls.items f0 f1)
    (leaves : (t : Topic) → IsTopicOf after.queue f1 t → Stands after.queue.backlog.queue f1 → TopicLeaves f2 t b) (change : DiskChanges after.queue.backlog.queue f1 f2) (low : n0 ≤ n1) (high : n1 ≤ n2) (cause : FlushFails n1 n2 b) where
  abbrev missed_then : List (List ℕ)
  missed_then = missed_with b (topic_name a) so.missed

  same : after.queue ≡ a.queue
  same = ap (λ (r : Room). r.queue) stays

  own_others : OthersStay (topic_name a) f1 f2
  own_others = others_stay a.queue.backlog.queue (topic_name a) f1 f2 can.queue (subst (λ (q : TopicSeen). DiskChanges q.backlog.queue f1 f2) same change)

  own_before : OwnFilesStay (topic_name a) f0 f1
  own_before = so.stays (topic_name a) (λ k s below at. topic_is_no_channel (topic_name a) (topic_name a) (channel_name s) can.named)

  own_disk : DiskStays a.queue.backlog.queue f0 f1
  own_disk = named_disk (topic_name a) a.queue.backlog.queue f0 f1 can.queue own_before

  no_own : (channel : List ℕ) → queue_name (topic_name a) channel ≢ topic_name a
  no_own channel e = topic_is_no_channel (topic_name a) (topic_name a) channel can.named (sym e)

  topic_leaves : (t : Topic) → IsRoomOf f0 a t → TopicLeaves f2 t b
  topic_leaves t of =
      leaves t (subst (λ (q : TopicSeen). IsTopicOf q f1 t) (sym same) (topic_stays a.queue f0 f1 t own_disk of.queue)) (subst (λ (q : TopicSeen). Stands q.backlog.queue f1) (sym same) (save_stays a.queue.backlog.queue f0 f1 own_disk of.stands))

  abbrev Found : Stall → Channel → Type 0
  Found s c = Contains missed_then (queue_name (topic_name a) (channel_name s)) ⊎ FindsQueue (left_in_channel c) (queue_name (topic_name a) (channel_name s)) f2

  still : (s : Stall) (c : Channel) → Contains so.missed (queue_name (topic_name a) (channel_name s)) ⊎ FindsQueue (left_in_channel c) (queue_name (topic_name a) (channel_name s)) f1 → Found s c
  still s c (inl m) = inl (missed_still b (topic_name a) so.missed (queue_name (topic_name a) (channel_name s)) m)
  still s c (inr f) = inr (found_stays (left_in_channel c) (queue_name (topic_name a) (channel_name s)) f1 f2 (own_others (queue_name (topic_name a) (channel_name s)) (no_own (channel_name s))) f)

  abbrev IsFoundStall : Stall → Type 0
  IsFoundStall s = (c : Channel) → IsStallOf f0 s c → is_ephemeral_channel (topic_name a) (channel_name s) ≡ false → Found s c

  all_stalls : All IsFoundStall a.stalls.items
  all_stalls = λ k d below c of lasts. let s : Stall = get_or a.stalls.items k d in still s c (so.left k s below (slice_get-get_or a.stalls.items k d below) c of lasts)

  abbrev IsFoundChannel : (topic : List ℕ) → Channel → Type 0
  IsFoundChannel topic c = Contains missed_then (queue_name topic c.name) ⊎ LeavesChannel f2 topic c

  channel_of_stall : is_ephemeral (topic_name a) ≡ false → (s : Stall) (c : Channel) → IsFoundStall s → IsStallOf f0 s c → is_ephemeral c.name ≡ false → IsFoundChannel (topic_name a) c
  channel_of_stall lasts s c found of e =
      let name : c.name ≡ channel_name s = stall_named f0 s c of in
      subst (λ (n : List ℕ). Contains missed_then (queue_name (topic_name a) n) ⊎ FindsQueue (left_in_channel c) (queue_name (topic_name a) n) f2) (sym name)
      (found c of (both_last (is_ephemeral (topic_name a)) (is_ephemeral (channel_name s)) lasts (ap is_ephemeral (sym name) ∙ e)))

  topic_left : (t : Topic) → IsRoomOf f0 a t → is_ephemeral t.name ≡ false → LeavesTopicBut missed_then f2 t
  topic_left t of lasts =
      let name : t.name ≡ topic_name a = room_named f0 a t of in
      let durable_name : is_ephemeral (topic_name a) ≡ false = ap is_ephemeral (sym name) ∙ lasts in
      record {
        own = topic_found t (topic_name a) b so.missed f2 name (topic_leaves t of) lasts;
        channels = subst (λ (n : List ℕ). All (IsFoundChannel n) (durable_channels t)) (sym name)
            (durable_all (λ (c : Channel). c.name) (IsFoundChannel (topic_name a)) t.channels
            (pairs_all (IsStallOf f0) IsFoundStall (λ c. is_ephemeral c.name ≡ false → IsFoundChannel (topic_name a) c) a.stalls.items t.channels (channel_of_stall durable_name) all_stalls of.channels));
      }

  pub room_flushes : FlushesRoom both n0 n2 a f0 f2
  room_flushes = record {
    missed = missed_then;
    few = subst (λ u. MissesFew u n0 n2 missed_then) (sym is) (few_more answer b n0 n1 n2 (topic_name a) so.missed low high cause so.few);
    left = topic_left;
    stays = λ name other. own_then name f0 f1 f2 (so.stays name (λ k s below at. other.channels (channel_name s))) (own_others name other.own);
  }

-- the names of another topic's queues
other_own : (topic name : List ℕ) → IsName name → name ≢ topic → IsOfOther topic name
other_own topic name named apart = record { own = apart; channels = λ channel. topic_is_no_channel name topic channel named }

other_queue : (topic name channel : List ℕ) → IsName topic → IsName name → name ≢ topic → IsOfOther topic (queue_name name channel)
other_queue topic name channel named known apart = record { own = λ e. topic_is_no_channel topic name channel named (sym e); channels = λ other. other_topic name channel topic other known named apart }

-- a topic stays the same as its own files and its channels' do
room_moves : (old new : Files) (r : Room) (t : Topic) → CanFlushRoom r → OwnFilesStay (topic_name r) old new → ((channel : List ℕ) → OwnFilesStay (queue_name (topic_name r) channel) old new) → IsRoomOf old r t → IsRoomOf new r t
room_moves old new r t can own channels of =
    let disk : DiskStays r.queue.backlog.queue old new = named_disk (topic_name r) r.queue.backlog.queue old new can.queue own in
    record {
      queue = topic_stays r.queue old new t disk of.queue;
      stands = save_stays r.queue.backlog.queue old new disk of.stands;
      channels = pairs_become (IsStallOf old) (IsStallOf new) (CanFlushStall (topic_name r)) r.stalls.items t.channels (λ s k ready x. stall_stays old new (topic_name r) s k ready.queue (channels (channel_name s)) x) can.stalls of.channels;
      delays = of.delays;
      taken = of.taken;
    }

-- what was found of a topic is found still
own_still : (missed more : List (List ℕ)) (t : Topic) (f1 f2 : Files) → OwnFilesStay t.name f1 f2 → Contains missed t.name ⊎ FindsLeft f1 t → Contains (more ++ missed) t.name ⊎ FindsLeft f2 t
own_still missed more t f1 f2 stays (inl m) = inl (Contains-append_right more missed t.name m)
own_still missed more t f1 f2 stays (inr f) = inr (left_stays f1 f2 t stays f)

channel_still : (missed more : List (List ℕ)) (topic : List ℕ) (c : Channel) (f1 f2 : Files) → OwnFilesStay (queue_name topic c.name) f1 f2 → Contains missed (queue_name topic c.name) ⊎ LeavesChannel f1 topic c → Contains (more ++ missed) (queue_name topic c.name) ⊎ LeavesChannel f2 topic c
channel_still missed more topic c f1 f2 stays (inl m) = inl (Contains-append_right more missed (queue_name topic c.name) m)
channel_still missed more topic c f1 f2 stays (inr f) = inr (found_stays (left_in_channel c) (queue_name topic c.name) f1 f2 stays f)

topic_still : (missed more : List (List ℕ)) (t : Topic) (f1 f2 : Files) → OwnFilesStay t.name f1 f2 → ((channel : List ℕ) → OwnFilesStay (queue_name t.name channel) f1 f2) → LeavesTopicBut missed f1 t → LeavesTopicBut (more ++ missed) f2 t
topic_still missed more t f1 f2 own channels x = record {
  own = own_still missed more t f1 f2 own x.own;
  channels = All-weaker (λ (c : Channel). Contains missed (queue_name t.name c.name) ⊎ LeavesChannel f1 t.name c) (λ (c : Channel). Contains (more ++ missed) (queue_name t.name c.name) ⊎ LeavesChannel f2 t.name c)
      (λ c y. channel_still missed more t.name c f1 f2 (channels c.name) y) (durable_channels t) x.channels;
}

own_also : (missed more : List (List ℕ)) (t : Topic) (files : Files) → Contains more t.name ⊎ FindsLeft files t → Contains (more ++ missed) t.name ⊎ FindsLeft files t
own_also missed more t files (inl m) = inl (Contains-append_left more missed t.name m)
own_also missed more t files (inr f) = inr f

channel_also : (missed more : List (List ℕ)) (topic : List ℕ) (c : Channel) (files : Files) → Contains more (queue_name topic c.name) ⊎ LeavesChannel files topic c → Contains (more ++ missed) (queue_name topic c.name) ⊎ LeavesChannel files topic c
channel_also missed more topic c files (inl m) = inl (Contains-append_left more missed (queue_name topic c.name) m)
channel_also missed more topic c files (inr f) = inr f

topic_also : (missed more : List (List ℕ)) (t : Topic) (files : Files) → LeavesTopicBut more files t → LeavesTopicBut (more ++ missed) files t
topic_also missed more t files x = record {
  own = own_also missed more t files x.own;
  channels = All-weaker (λ (c : Channel). Contains more (queue_name t.name c.name) ⊎ LeavesChannel files t.name c) (λ (c : Channel). Contains (more ++ missed) (queue_name t.name c.name) ⊎ LeavesChannel files t.name c)
      (λ c y. channel_also missed more t.name c files y) (durable_channels t) x.channels;
}

-- one more topic
module _ (h : Hall) (i : ℕ) (r : Room) (answer b : Flushed) (f0 f1 f2 : Files) (n0 n1 n2 : ℕ) (sound : IsSound h) (there : slice_get h.rooms.items i ≡ Some r) (low : n0 ≤ n1) (high : n1 ≤ n2) (so : RoomsLeft answer n0 n1 i h.rooms.items f0 f1)
    (next : FlushesRoom b n1 n2 r f1 f2) where
  ready_at : (k : ℕ) (x : Room) → slice_get h.rooms.items k ≡ Some x → CanFlushRoom x
  ready_at k x at = can_flush h x (subst (IsRoomSound h) (get_or_from_slice_get h.rooms.items k x x at) (sound.rooms k x (slice_get_within h.rooms.items k x at)))

  names_apart : (k j : ℕ) (x y : Room) → slice_get h.rooms.items k ≡ Some x → slice_get h.rooms.items j ≡ Some y → k ≢ j → topic_name x ≢ topic_name y
  names_apart k j x y at is apart = apart_at topic_name h.rooms.items k j x y sound.room_order at is apart

  own_kept : (k : ℕ) (x : Room) → slice_get h.rooms.items k ≡ Some x → k ≢ i → OwnFilesStay (topic_name x) f1 f2
  own_kept k x at apart = next.stays (topic_name x) (other_own (topic_name r) (topic_name x) (ready_at k x at).named (names_apart k i x r at there apart))

  channels_kept : (k : ℕ) (x : Room) → slice_get h.rooms.items k ≡ Some x → k ≢ i → (channel : List ℕ) → OwnFilesStay (queue_name (topic_name x) channel) f1 f2
  channels_kept k x at apart channel =
      next.stays (queue_name (topic_name x) channel) (other_queue (topic_name r) (topic_name x) channel (ready_at i r there).named (ready_at k x at).named (names_apart k i x r at there apart))

  below_apart : (k j : ℕ) → k < j → j ≢ k
  below_apart k j l e = let no : ⊥ = omega (arith, l, e) in no

  below_other : (k j : ℕ) → k < j → k ≢ j
  below_other k j l e = let no : ⊥ = omega (arith, l, e) in no

  untouched : (t : Topic) → IsRoomOf f0 r t → IsRoomOf f1 r t
  untouched t of =
      let ready : CanFlushRoom r = ready_at i r there in
      room_moves f0 f1 r t ready (so.stays (topic_name r) (λ k x below at. other_own (topic_name x) (topic_name r) ready.named (names_apart i k r x there at (below_apart k i below))))
      (λ channel. so.stays (queue_name (topic_name r) channel) (λ k x below at. other_queue (topic_name x) (topic_name r) channel (ready_at k x at).named ready.named (names_apart i k r x there at (below_apart k i below)))) of

  abbrev missed_all : List (List ℕ)
  missed_all = next.missed ++ so.missed

  first_left : (k : ℕ) (x : Room) → k < i → slice_get h.rooms.items k ≡ Some x → (t : Topic) → IsRoomOf f0 x t → is_ephemeral t.name ≡ false → LeavesTopicBut missed_all f2 t
  first_left k x below at t of lasts =
      let name : topic_name x ≡ t.name = sym (room_named f0 x t of) in
      topic_still so.missed next.missed t f1 f2 (subst (λ n. OwnFilesStay n f1 f2) name (own_kept k x at (below_other k i below))) (λ channel. subst (λ n. OwnFilesStay (queue_name n channel) f1 f2) name (channels_kept k x at (below_other k i below) channel))
      (so.left k x below at t of lasts)

  pub rooms_left_more : RoomsLeft (both_flushed answer b) n0 n2 (i + 1) h.rooms.items f0 f2
  rooms_left_more = record {
    missed = missed_all;
    few = few_both answer b n0 n1 n2 so.missed next.missed low high so.few next.few;
    left = λ k x below at t of lasts.
        one_more k i below (λ first. first_left k x first at t of lasts)
        (λ here.
        let same : r ≡ x = some_same r x (sym there ∙ ap (slice_get h.rooms.items) (sym here) ∙ at) in
        topic_also so.missed next.missed t f2 (next.left t (untouched t (subst (λ (y : Room). IsRoomOf f0 y t) (sym same) of)) lasts));
    stays = λ name apart. own_then name f0 f1 f2 (so.stays name (λ k x below at. apart k x (omega (arith, below)) at)) (next.stays name (apart i r (omega arith) there));
  }

-- names stay
room_names_same : (r : Room) → KeepsRoomNames r r
room_names_same r = record { name = refl; paused = refl; stalls = pairs_same KeepsStallNames names_same r.stalls.items }

room_names_then : (a b c : Room) → KeepsRoomNames a b → KeepsRoomNames b c → KeepsRoomNames a c
room_names_then a b c x y = record { name = y.name ∙ x.name; paused = y.paused ∙ x.paused; stalls = pairs_then KeepsStallNames names_then a.stalls.items b.stalls.items c.stalls.items x.stalls y.stalls }

pub rooms_begin : (tells : Bool) (h : Hall) (files : Files) (faults : ℕ) → RoomsSoFar tells 0 h h Done files files faults faults
rooms_begin tells h files faults = record {
  rest = refl;
  keeps = pairs_same KeepsRoomNames room_names_same h.rooms.items;
  later = λ k from. refl;
  left = λ told. record { missed = []; few = few_none faults faults (omega arith); left = λ k r below at t of lasts. absurd (let no : ⊥ = omega (arith, below) in no); stays = λ name apart file of. refl };
  files = λ told. only_same files files (λ file. refl);
  faults = omega arith;
  cause = tt;
}

-- the topic that is flushed next is as it was
pub room_ready : (tells : Bool) (i : ℕ) (h h1 : Hall) (r : Room) (answer : Flushed) (f0 f1 : Files) (n0 n1 : ℕ) → IsSound h → RoomsSoFar tells i h h1 answer f0 f1 n0 n1 → slice_get h1.rooms.items i ≡ Some r → CanFlushRoom r
room_ready tells i h h1 r answer f0 f1 n0 n1 sound so at =
    let was : slice_get h.rooms.items i ≡ Some r = sym (so.later i (omega arith)) ∙ at in
    can_flush h r (subst (IsRoomSound h) (get_or_from_slice_get h.rooms.items i r r was) (sound.rooms i r (slice_get_within h.rooms.items i r was)))

pub rooms_go_on : (tells : Bool) (i : ℕ) (h h1 h2 : Hall) (r after : Room) (answer b both : Flushed) (f0 f1 f2 : Files) (n0 n1 n2 : ℕ) → both ≡ both_flushed answer b → IsSound h → RoomsSoFar tells i h h1 answer f0 f1 n0 n1 → slice_get h1.rooms.items i ≡ Some r → h2 ≡ record h1 { rooms = h2.rooms } → h2.rooms.items ≡ set h1.rooms.items i after
    → (IsTrue tells → FlushesRoom b n1 n2 r f1 f2) → KeepsRoomNames r after → (IsTrue tells → OnlyQueueFiles f1 f2) → n1 ≤ n2 → FlushFails n1 n2 b → RoomsSoFar tells (i + 1) h h2 both f0 f2 n0 n2
rooms_go_on tells i h h1 h2 r after answer b both f0 f1 f2 n0 n1 n2 is sound so at same rooms flushes keeps files high cause =
    let was : slice_get h.rooms.items i ≡ Some r = sym (so.later i (omega arith)) ∙ at in
    let low = so.faults in
    record {
      rest = same ∙ ap (λ (x : Hall). record x { rooms = h2.rooms }) so.rest;
      keeps = pairs_then KeepsRoomNames room_names_then h.rooms.items h1.rooms.items h2.rooms.items so.keeps
          (subst (Pairwise KeepsRoomNames h1.rooms.items) (sym rooms) (pairs_one KeepsRoomNames room_names_same h1.rooms.items i r after at keeps));
      later = λ k from. ap (λ xs. slice_get xs k) rooms ∙ slice_apart h1.rooms.items i k after (omega (arith, from)) ∙ so.later k (omega (arith, from));
      left = λ told. subst (λ u. RoomsLeft u n0 n2 (i + 1) h.rooms.items f0 f2) (sym is) (rooms_left_more h i r answer b f0 f1 f2 n0 n1 n2 sound was low high (so.left told) (flushes told));
      files = λ told. only_then f0 f1 f2 (so.files told) (files told);
      faults = omega (arith, low, high);
      cause = subst (FlushFails n0 n2) (sym is) (fails_both n0 n1 n2 answer b low high so.cause cause);
    }

-- the end
pairs_long : {X Y : Type 0} (R : X → Y → Type 0) (xs : List X) (ys : List Y) → Pairwise R xs ys → length ys ≡ length xs
pairs_long R [] [] h = refl
pairs_long R [] (y ∷ ys) h = absurd h
pairs_long R (x ∷ xs) [] h = absurd h
pairs_long R (x ∷ xs) (y ∷ ys) h = ap suc (pairs_long R xs ys h.1)

pub rooms_long : (tells : Bool) (i : ℕ) (h h1 : Hall) (answer : Flushed) (f0 f1 : Files) (n0 n1 : ℕ) → RoomsSoFar tells i h h1 answer f0 f1 n0 n1 → length h1.rooms.items ≡ length h.rooms.items
rooms_long tells i h h1 answer f0 f1 n0 n1 so = pairs_long KeepsRoomNames h.rooms.items h1.rooms.items so.keeps

pub stalls_long : (tells : Bool) (j : ℕ) (a b : Room) (answer : Flushed) (f0 f1 : Files) (n0 n1 : ℕ) → StallsSoFar tells j a b answer f0 f1 n0 n1 → length b.stalls.items ≡ length a.stalls.items
stalls_long tells j a b answer f0 f1 n0 n1 so = pairs_long KeepsStallNames a.stalls.items b.stalls.items so.keeps

-- all topics were flushed
left_all : (h : Hall) (i : ℕ) (answer : Flushed) (f0 f1 : Files) (n0 n1 : ℕ) → length h.rooms.items ≤ i → (so : RoomsLeft answer n0 n1 i h.rooms.items f0 f1) → (s : State) → HoldsFor h f0 s → LeavesBut so.missed s f1
left_all h i answer f0 f1 n0 n1 past so s holds =
    durable_all (λ (t : Topic). t.name) (LeavesTopicBut so.missed f1) s.topics
    (pairs_all (IsRoomOf f0) (λ r. (t : Topic) → IsRoomOf f0 r t → is_ephemeral t.name ≡ false → LeavesTopicBut so.missed f1 t) (λ t. is_ephemeral t.name ≡ false → LeavesTopicBut so.missed f1 t) h.rooms.items s.topics (λ r t f of. f t of)
    (λ k d below. so.left k (get_or h.rooms.items k d) (omega (arith, below, past)) (slice_get-get_or h.rooms.items k d below)) holds.stands.topics)

pub others_left : (tells : Bool) (h h' : Hall) (i : ℕ) (answer : Flushed) (f0 f1 : Files) (n0 n1 : ℕ) → length h.rooms.items ≤ i → RoomsSoFar tells i h h' answer f0 f1 n0 n1 → IsTrue tells → LeavesOthers answer n0 n1 h f0 f1
others_left tells h h' i answer f0 f1 n0 n1 past so told = record { missed = (so.left told).missed; few = (so.left told).few; left = left_all h i answer f0 f1 n0 n1 past (so.left told) }

none_missed : {A : Type 0} (missed : List (List ℕ)) (name : List ℕ) → missed ≡ [] → Contains missed name ⊎ A → A
none_missed {A} missed name e (inl m) = let none : Contains [] name = subst (λ ms. Contains ms name) e m in let within = none.1 in absurd (let no : ⊥ = omega (arith, within) in no)
none_missed {A} missed name e (inr a) = a

topic_whole : (missed : List (List ℕ)) (files : Files) (t : Topic) → missed ≡ [] → LeavesTopicBut missed files t → LeavesTopic files t
topic_whole missed files t e x = record {
  own = none_missed missed t.name e x.own;
  channels = All-weaker (λ (c : Channel). Contains missed (queue_name t.name c.name) ⊎ LeavesChannel files t.name c) (LeavesChannel files t.name) (λ c y. none_missed missed (queue_name t.name c.name) e y) (durable_channels t) x.channels;
}

whole_left : (answer : Flushed) (n0 n1 : ℕ) (missed : List (List ℕ)) (s : State) (files : Files) → MissesFew answer n0 n1 missed → LeavesBut missed s files → LeavesWhere answer s files
whole_left Done n0 n1 missed s files few left = All-weaker (LeavesTopicBut missed files) (LeavesTopic files) (λ t x. topic_whole missed files t (few.done refl) x) (durable_topics s) left
whole_left Fault n0 n1 missed s files few left = tt

pub left_where : (tells : Bool) (h h' : Hall) (i : ℕ) (answer : Flushed) (f0 f1 : Files) (n0 n1 : ℕ) → length h.rooms.items ≤ i → RoomsSoFar tells i h h' answer f0 f1 n0 n1 → IsTrue tells → (s : State) → HoldsFor h f0 s → LeavesWhere answer s f1
left_where tells h h' i answer f0 f1 n0 n1 past so told s holds = whole_left answer n0 n1 (so.left told).missed s f1 (so.left told).few (left_all h i answer f0 f1 n0 n1 past (so.left told) s holds)

-- what is kept of names
kept_stall : (x y : Stall) → KeepsStallNames x y → stall_kept y ≡ stall_kept x
kept_stall x y k = ap (λ n. record { name = n; paused = y.channel.paused }) (ap (λ (o : About). o.name) k.about) ∙ ap (λ p. record { name = channel_name x; paused = p }) k.paused

kept_stalls : (xs ys : List Stall) → Pairwise KeepsStallNames xs ys → map stall_kept (durable channel_name ys) ≡ map stall_kept (durable channel_name xs)
kept_stalls xs ys h = kept_pairs channel_name stall_kept xs ys (pairs_weaker KeepsStallNames (KeptAlike channel_name stall_kept) (λ x y k. (ap (λ (o : About). o.name) k.about, λ e. kept_stall x y k)) xs ys h)

kept_room : (a b : Room) → KeepsRoomNames a b → room_kept b ≡ room_kept a
kept_room a b k =
    ap (λ n. record { name = n; paused = b.queue.paused; channels = map stall_kept (durable channel_name b.stalls.items) }) k.name
    ∙ ap (λ p. record { name = topic_name a; paused = p; channels = map stall_kept (durable channel_name b.stalls.items) }) k.paused
    ∙ ap (λ cs. record { name = topic_name a; paused = a.queue.paused; channels = cs }) (kept_stalls a.stalls.items b.stalls.items k.stalls)

pub kept_flushed : (h h' : Hall) → Pairwise KeepsRoomNames h.rooms.items h'.rooms.items → hall_kept h' ≡ hall_kept h
kept_flushed h h' keeps = kept_pairs topic_name room_kept h.rooms.items h'.rooms.items (pairs_weaker KeepsRoomNames (KeptAlike topic_name room_kept) (λ a b k. (k.name, λ e. kept_room a b k)) h.rooms.items h'.rooms.items keeps)

-- all channels of a topic were flushed
none_beyond : {X : Type 0} (xs : List X) (k : ℕ) → length xs ≤ k → slice_get xs k ≡ None
none_beyond [] k past = refl
none_beyond (x ∷ xs) zero past = absurd (let no : ⊥ = omega (arith, past) in no)
none_beyond (x ∷ xs) (suc k) past = none_beyond xs k (omega (arith, past))

pub stalls_end : (tells : Bool) (j : ℕ) (a b : Room) (answer : Flushed) (f0 f1 : Files) (n0 n1 : ℕ) → length a.stalls.items ≤ j → StallsSoFar tells j a b answer f0 f1 n0 n1 → StallsSoFar tells (length a.stalls.items) a b answer f0 f1 n0 n1
stalls_end tells j a b answer f0 f1 n0 n1 past so =
    let long = stalls_long tells j a b answer f0 f1 n0 n1 so in
    record {
      same = so.same;
      keeps = so.keeps;
      later = λ k from. none_beyond b.stalls.items k (omega (arith, long, from)) ∙ sym (none_beyond a.stalls.items k from);
      left = λ told. record {
        missed = (so.left told).missed;
        few = (so.left told).few;
        left = λ k s below at. (so.left told).left k s (omega (arith, below, past)) at;
        stays = λ name apart. (so.left told).stays name (λ k s below at. apart k s (slice_get_within a.stalls.items k s at) at);
      };
      files = so.files;
      faults = so.faults;
      cause = so.cause;
    }

-- the channel that is flushed next is as it was
pub stall_ready : (tells : Bool) (j : ℕ) (a b : Room) (s : Stall) (answer : Flushed) (f0 f1 : Files) (n0 n1 : ℕ) → CanFlushRoom a → StallsSoFar tells j a b answer f0 f1 n0 n1 → slice_get b.stalls.items j ≡ Some s → CanFlushStall (topic_name a) s
stall_ready tells j a b s answer f0 f1 n0 n1 can so at =
    let was : slice_get a.stalls.items j ≡ Some s = sym (so.later j (omega arith)) ∙ at in
    subst (CanFlushStall (topic_name a)) (get_or_from_slice_get a.stalls.items j s s was) (can.stalls j s (slice_get_within a.stalls.items j s was))

-- two answers fail with a rise where one of them does
pub fails_then : (n0 n1 n2 : ℕ) (a b both : Flushed) → both ≡ both_flushed a b → n0 ≤ n1 → n1 ≤ n2 → FlushFails n0 n1 a → FlushFails n1 n2 b → FlushFails n0 n2 both
fails_then n0 n1 n2 a b both is low high f g = subst (FlushFails n0 n2) (sym is) (fails_both n0 n1 n2 a b low high f g)

-- the topic's own queue is as it was while its channels were flushed
pub settled_still : (a b : Room) → b ≡ record a { stalls = b.stalls } → IsSettled a.queue → IsSettled b.queue
settled_still a b same settled = subst (λ (q : TopicSeen). IsSettled q) (sym (ap (λ (r : Room). r.queue) same)) settled

-- and then keeps its name and its pause
queue_names : (q v : TopicSeen) (answer : Flushed) → FlushesTopic q v answer → (v.name ≡ q.name) × (v.paused ≡ q.paused)
queue_names q v Done seen = go (is_ephemeral q.name) seen
  where
    go : (b : Bool) → MatchBool b (v ≡ q) (FlushesAll q v) → (v.name ≡ q.name) × (v.paused ≡ q.paused)
    go true same = (ap (λ (s : TopicSeen). s.name) same, ap (λ (s : TopicSeen). s.paused) same)
    go false all = (ap (λ (s : TopicSeen). s.name) all.is, ap (λ (s : TopicSeen). s.paused) all.is)
queue_names q v Fault seen = (ap (λ (s : TopicSeen). s.name) seen, ap (λ (s : TopicSeen). s.paused) seen)

pub flushed_names : (a b : Room) (v : TopicSeen) (answer : Flushed) → b ≡ record a { stalls = b.stalls } → Pairwise KeepsStallNames a.stalls.items b.stalls.items → FlushesTopic b.queue v answer → KeepsRoomNames a (record b { queue = v })
flushed_names a b v answer same keeps seen =
    let names = queue_names b.queue v answer seen in
    record { name = names.0 ∙ ap topic_name same; paused = names.1 ∙ ap (λ (r : Room). r.queue.paused) same; stalls = keeps }

pub own_only : (a b : Room) (f0 f1 f2 : Files) → CanFlushRoom a → b ≡ record a { stalls = b.stalls } → OnlyQueueFiles f0 f1 → DiskChanges b.queue.backlog.queue f1 f2 → OnlyQueueFiles f0 f2
own_only a b f0 f1 f2 can same first change =
    only_then f0 f1 f2 first (only_of_topic (topic_name a) a.queue.backlog.queue f1 f2 can.named can.queue (subst (λ (q : TopicSeen). DiskChanges q.backlog.queue f1 f2) (ap (λ (r : Room). r.queue) same) change))
