-- A hall stays sound as its facts for speed become weaker, and as one of its topics or of its channels changes.
use Rattle.std.proofs.Common.{◌≡◌, ◌⊎◌, inl, inr, ◌≤◌, ◌<◌, ◌^◌, ℕ, suc, zero, set, min, Bool, true, false, not, ◌&&◌, ◌||◌, nat_eq, if◌then◌else◌, List, [], ◌∷◌, map, get_or, Option, Some, None, refl, sym, ap, subst, ◌∙◌, arith}
use Rattle.std.specs.Prelude.{IfSome, IsSome, is_some, is_none, option_and_then, HoldsAt}
use Rattle.std.specs.List.{All, AllPairs, Contains, list_any, slice_get}
use Rattle.std.specs.Str.{bytes_eq}
use Rattle.std.proofs.Math.Seq.{map-set_same}
use Rattle.std.proofs.lemmas.List.{get_or-set_same}
use Rattle.std.proofs.lemmas.List.Elements.{All-set, All-weaker}
use Rattle.std.proofs.lemmas.Option.{get_or_from_slice_get, slice_get_within}
use Rattle.nsq_base.specs.Name.{IsName, is_ephemeral}
use Rattle.nsq_base.specs.Names.{IsAscendingBy}
use Rattle.nsq_base.specs.Options.{IsInRange}
use Rattle.nsq_base.specs.declared.options.Options.{Options}
use Rattle.nsq_base.proofs.PutBy.{All-put_by, IsAscendingBy-put_by}
use Rattle.channel_core.specs.QueueOptions.{QueueOptions}
use Rattle.channel_core.specs.Queues.{Seen as Queue}
use Rattle.channel_core.specs.Backlogs.{SameQueue}
use Rattle.broker_history.specs.State.{Client, Route, is_empty, is_ephemeral_channel}
use Rattle.broker_history.proofs.Lists.{exact_bytes, find_put}
use Rattle.topic_core.specs.Seen.{owed_of, queue_options as topic_options}
use Rattle.channel_core.specs.Clients.{client_of}
use Rattle.channel_core.specs.declared.about.About.{About}
use Rattle.channel_core.specs.Made.{about_of, queue_options}
use Rattle.channel_core.specs.Seen.{Seen as ChannelSeen, queue_name}
use Rattle.floor_rooms.specs.ClientPlaces.{AreInOrder}
use Rattle.floor_rooms.specs.Seen.{held_channel}
use Rattle.floor_rooms.specs.declared.stall.Stall.{Stall}
use Rattle.floor_rooms.specs.declared.room.Room.{Room}
use Rattle.floor_rooms.specs.declared.hall.Hall.{Hall}
use Rattle.floor_rooms.specs.Rooms.{channel_name, topic_name, stall_names, room_in, stall_in, stall_at, put_room, put_stall, client_in}
use Rattle.floor_rooms.specs.Sound.{AsksForNone, HasOptions, IsQuietUntil, IsMarked, IsStallSound, IsRoomSound, IsSound, IsPast, AreMembers, HasItsChannel, member_of, has_none_waiting}
use Rattle.floor_rooms.specs.Changes.{AtRoom, AtStall, TouchesRoom, TouchesStall, Touches, marked}
use Rattle.floor_rooms.proofs.Placing.{found_at, put_at}

-- a later hall whose bounds are no later, and whose list of topics has all that it had
pub record Lowers (h h' : Hall) : Type 0 where
  pub options : h'.options ≡ h.options
  pub quiet : h'.quiet_until ≤ h.quiet_until
  pub unsaved : h'.unsaved_from ≤ h.unsaved_from
  pub pending : (name : List ℕ) → Contains h.pending.items name → Contains h'.pending.items name

-- and all else stays that a hall's soundness asks for, but its rooms
pub record KeepsRest (h h' : Hall) : Type 0 where
  pub lowers : Lowers h h'
  pub epoch : h'.epoch ≡ h.epoch
  pub ids_used : h'.ids_used ≡ h.ids_used
  pub moment : h'.moment ≤ 2 ^ 62
  pub later : h.moment ≤ h'.moment
  pub clients : h'.clients.items ≡ h.clients.items

-- bounds
quiet_lowered : (q q' : ℕ) (v : ChannelSeen) → q' ≤ q → IsQuietUntil q v → IsQuietUntil q' v
quiet_lowered q q' v low calm = λ now before. calm now (omega (arith, low, before))

later_lowered : (u u' : ℕ) (since : Option ℕ) → u' ≤ u → IfSome since (λ m. u ≤ m) → IfSome since (λ m. u' ≤ m)
later_lowered u u' None low h = h
later_lowered u u' (Some m) low h = omega (arith, low, h)

marked_lowered : (u u' : ℕ) (since : Option ℕ) (queue : Option Queue) → u' ≤ u → IsMarked u since queue → IsMarked u' since queue
marked_lowered u u' since queue low m = record { saved = m.saved; later = later_lowered u u' since low m.later }

stall_lowered : (o : Options) (topic : List ℕ) (q q' u u' : ℕ) (s : Stall) → q' ≤ q → u' ≤ u → IsStallSound o topic q u s → IsStallSound o topic q' u' s
stall_lowered o topic q q' u u' s lower earlier h = record {
  about = h.about;
  named = h.named;
  settled = h.settled;
  durable = h.durable;
  queue = h.queue;
  limits = h.limits;
  calm = quiet_lowered q q' s.channel lower h.calm;
  marked = marked_lowered u u' s.since s.channel.backlog.queue earlier h.marked;
  members = h.members;
}

pub stalls_lowered : (h h' : Hall) (topic : List ℕ) (xs : List Stall) → Lowers h h' → All (IsStallSound h.options topic h.quiet_until h.unsaved_from) xs → All (IsStallSound h'.options topic h'.quiet_until h'.unsaved_from) xs
stalls_lowered h h' topic xs low all =
    subst (λ o. All (IsStallSound o topic h'.quiet_until h'.unsaved_from) xs) (sym low.options)
    (All-weaker (IsStallSound h.options topic h.quiet_until h.unsaved_from) (IsStallSound h.options topic h'.quiet_until h'.unsaved_from)
    (λ s x. stall_lowered h.options topic h.quiet_until h'.quiet_until h.unsaved_from h'.unsaved_from s low.quiet low.unsaved x) xs all)

pub room_lowered : (h h' : Hall) (r : Room) → Lowers h h' → IsRoomSound h r → IsRoomSound h' r
room_lowered h h' r low x = record {
  named = x.named;
  settled = x.settled;
  backlog = x.backlog;
  capacity = x.capacity ∙ ap (λ (o : Options). o.mem_queue_size) (sym low.options);
  limits = subst (λ (o : Options). HasOptions (topic_options o) r.queue.backlog.queue) (sym low.options) x.limits;
  names = x.names;
  order = x.order;
  stalls = stalls_lowered h h' (topic_name r) r.stalls.items low x.stalls;
  owed = x.owed;
  marked = marked_lowered h.unsaved_from h'.unsaved_from r.since r.queue.backlog.queue low.unsaved x.marked;
  listed = λ l. low.pending (topic_name r) (x.listed l);
  rests = x.rests;
}

-- no mark lies in the future of a later moment either
pub past_one : (at at' : ℕ) (since : Option ℕ) → at ≤ at' → IfSome since (λ m. m ≤ at) → IfSome since (λ m. m ≤ at')
past_one at at' None later h = h
past_one at at' (Some m) later h = omega (arith, later, h)

pub past_later : (at at' : ℕ) (r : Room) → at ≤ at' → IsPast at r → IsPast at' r
past_later at at' r later h = record {
  room = past_one at at' r.since later h.room;
  stalls = All-weaker (λ (s : Stall). IfSome s.since (λ m. m ≤ at)) (λ (s : Stall). IfSome s.since (λ m. m ≤ at')) (λ s x. past_one at at' s.since later x) r.stalls.items h.stalls;
}

pub all_past : (h h' : Hall) → h.moment ≤ h'.moment → IsSound h → All (IsPast h'.moment) h.rooms.items
all_past h h' later sound = All-weaker (IsPast h.moment) (IsPast h'.moment) (λ r x. past_later h.moment h'.moment r later x) h.rooms.items sound.past

-- nor does one that is made now
pub past_marked : (at : ℕ) (since : Option ℕ) → IfSome since (λ m. m ≤ at) → IfSome (marked since at) (λ m. m ≤ at)
past_marked at None h = omega arith
past_marked at (Some m) h = h

-- a topic that has the marks of another
pub past_same : (at : ℕ) (r r' : Room) → r'.since ≡ r.since → r'.stalls.items ≡ r.stalls.items → IsPast at r → IsPast at r'
past_same at r r' since stalls h = record {
  room = subst (λ o. IfSome o (λ m. m ≤ at)) (sym since) h.room;
  stalls = subst (All (λ (s : Stall). IfSome s.since (λ m. m ≤ at))) (sym stalls) h.stalls;
}

-- marks
pub marks : (u at : ℕ) (since : Option ℕ) (queue : Option Queue) → IsMarked u since queue → IsMarked (min u at) (marked since at) queue
marks u at None queue m = record { saved = λ none. absurd cc; later = omega arith }
marks u at (Some since) queue m = let later = m.later in record { saved = λ none. absurd cc; later = omega (arith, later) }

-- a queue that is marked, or stays, is marked as it was
still_marked : (u : ℕ) (since : Option ℕ) (queue queue' : Option Queue) → IsMarked u since queue → IsSome since ⊎ (queue' ≡ queue) → IsMarked u since queue'
still_marked u None queue queue' m (inl some) = absurd cc
still_marked u (Some since) queue queue' m (inl some) = record { saved = λ none. absurd cc; later = m.later }
still_marked u since queue queue' m (inr same) = subst (IsMarked u since) (sym same) m

-- a queue of the same name
same_some : (q r : Option Queue) → SameQueue q r → is_some r ≡ is_some q
same_some None None same = refl
same_some None (Some r) same = absurd same
same_some (Some q) None same = absurd same
same_some (Some q) (Some r) same = refl

same_name : (q r : Option Queue) (name : List ℕ) → SameQueue q r → IfSome q (λ q. q.name ≡ name) → IfSome r (λ r. r.name ≡ name)
same_name None None name same h = h
same_name None (Some r) name same h = absurd same
same_name (Some q) None name same h = absurd same
same_name (Some q) (Some r) name same h = same.name ∙ h

-- a queue of the same options
pub same_options : (q r : Option Queue) (options : QueueOptions) → SameQueue q r → HasOptions options q → HasOptions options r
same_options None None options same h = h
same_options None (Some r) options same h = absurd same
same_options (Some q) None options same h = absurd same
same_options (Some q) (Some r) options same h = same.options ∙ h

-- what is at a place of a list of which all are so
pub at_all : {X : Type 0} (P : X → Type 0) (xs : List X) (i : ℕ) (x : X) → All P xs → slice_get xs i ≡ Some x → P x
at_all P xs i x all at = subst P (get_or_from_slice_get xs i x x at) (all i x (slice_get_within xs i x at))

if_some_weaker : {X : Type 0} (P Q : X → Type 0) (o : Option X) → ((x : X) → P x → Q x) → IfSome o P → IfSome o Q
if_some_weaker P Q None f h = h
if_some_weaker P Q (Some x) f h = f x h

-- where something is there, it still is once one that has it too is put in
some_put : {X : Type 0} (x : X) (o : Option X) (b : Bool) → IsSome o → IsSome (if b then Some x else o)
some_put x o true h = refl
some_put x o false h = h

some_in : {X Y : Type 0} (f : X → Option Y) (x : X) (o : Option X) (b : Bool) → (b ≡ true → IsSome (f x)) → IsSome (option_and_then f o) → IsSome (option_and_then f (if b then Some x else o))
some_in f x o true g h = g refl
some_in f x o false g h = h

empty_set : {X : Type 0} (xs : List X) (i : ℕ) (x : X) → is_empty (set xs i x) ≡ is_empty xs
empty_set [] i x = refl
empty_set (y ∷ xs) zero x = refl
empty_set (y ∷ xs) (suc i) x = refl

-- a sound room is put into a sound hall: its members are those of the clients, and each channel that was there in its place still is
pub record PutsRoom (h h' : Hall) (r : Room) : Type 0 where
  pub sound : IsSound h
  pub keeps : KeepsRest h h'
  pub rooms : h'.rooms.items ≡ put_room h.rooms.items r
  pub room : IsRoomSound h' r
  pub past : IsPast h'.moment r
  pub members : All (AreMembers h.clients.items (topic_name r)) r.stalls.items
  pub channels : (channel : List ℕ) → IsSome (stall_at h.rooms.items (topic_name r) channel) → IsSome (stall_in r.stalls.items channel)

module _ (h h' : Hall) (r : Room) (p : PutsRoom h h' r) where
  still_there : (topic channel : List ℕ) → IsSome (stall_at h.rooms.items topic channel) → IsSome (stall_at h'.rooms.items topic channel)
  still_there topic channel has =
      let within : Room → Option Stall = λ x. stall_in x.stalls.items channel in
      let found : room_in h'.rooms.items topic ≡ (if bytes_eq topic (topic_name r) then Some r else room_in h.rooms.items topic) = ap (λ xs. room_in xs topic) p.rooms ∙ find_put topic_name h.rooms.items r topic in
      subst (λ o. IsSome (option_and_then within o)) (sym found)
      (some_in within r (room_in h.rooms.items topic) (bytes_eq topic (topic_name r)) (λ e. p.channels channel (subst (λ n. IsSome (stall_at h.rooms.items n channel)) (exact_bytes topic (topic_name r) e) has)) has)

  abbrev Members : List Client → Room → Type 0
  Members cs x = All (AreMembers cs (topic_name x)) x.stalls.items

  sound_put_room_of : IsSound h'
  sound_put_room_of = record {
    options = subst IsInRange (sym p.keeps.lowers.options) p.sound.options;
    epoch = subst (λ e. e < 2 ^ 24) (sym p.keeps.epoch) p.sound.epoch;
    ids_used = subst (λ n. n ≤ 2 ^ 40) (sym p.keeps.ids_used) p.sound.ids_used;
    moment = p.keeps.moment;
    client_order = subst AreInOrder (sym p.keeps.clients) p.sound.client_order;
    room_order = subst (IsAscendingBy topic_name) (sym p.rooms) (IsAscendingBy-put_by topic_name h.rooms.items r p.sound.room_order);
    rooms = subst (All (IsRoomSound h')) (sym p.rooms)
        (All-put_by topic_name (IsRoomSound h') h.rooms.items r (All-weaker (IsRoomSound h) (IsRoomSound h') (λ x s. room_lowered h h' x p.keeps.lowers s) h.rooms.items p.sound.rooms) p.room);
    members = subst (λ cs. All (Members cs) h'.rooms.items) (sym p.keeps.clients)
        (subst (All (Members h.clients.items)) (sym p.rooms) (All-put_by topic_name (Members h.clients.items) h.rooms.items r p.sound.members p.members));
    channels = subst (All (HasItsChannel h')) (sym p.keeps.clients)
        (All-weaker (HasItsChannel h) (HasItsChannel h')
        (λ c has. if_some_weaker (λ (route : Route). IsSome (stall_at h.rooms.items route.topic route.channel)) (λ (route : Route). IsSome (stall_at h'.rooms.items route.topic route.channel)) (held_channel c.phase c.route)
        (λ route there. still_there route.topic route.channel there) has) h.clients.items p.sound.channels);
    ready = subst (All AsksForNone) (sym p.keeps.clients) p.sound.ready;
    past = subst (All (IsPast h'.moment)) (sym p.rooms) (All-put_by topic_name (IsPast h'.moment) h.rooms.items r (all_past h h' p.keeps.later p.sound) p.past);
  }

pub sound_put_room : (h h' : Hall) (r : Room) → PutsRoom h h' r → IsSound h'
sound_put_room h h' r p = sound_put_room_of h h' r p

-- a hall with the same topics
pub sound_same : (h h' : Hall) → IsSound h → KeepsRest h h' → h'.rooms.items ≡ h.rooms.items → IsSound h'
sound_same h h' sound keeps rooms =
    let Members : List Client → Room → Type 0 = λ cs x. All (AreMembers cs (topic_name x)) x.stalls.items in
    let there : List Room → Client → Type 0 = λ xs c. IfSome (held_channel c.phase c.route) (λ (route : Route). IsSome (stall_at xs route.topic route.channel)) in
    record {
      options = subst IsInRange (sym keeps.lowers.options) sound.options;
      epoch = subst (λ e. e < 2 ^ 24) (sym keeps.epoch) sound.epoch;
      ids_used = subst (λ n. n ≤ 2 ^ 40) (sym keeps.ids_used) sound.ids_used;
      moment = keeps.moment;
      client_order = subst AreInOrder (sym keeps.clients) sound.client_order;
      room_order = subst (IsAscendingBy topic_name) (sym rooms) sound.room_order;
      rooms = subst (All (IsRoomSound h')) (sym rooms) (All-weaker (IsRoomSound h) (IsRoomSound h') (λ x s. room_lowered h h' x keeps.lowers s) h.rooms.items sound.rooms);
      members = subst (λ cs. All (Members cs) h'.rooms.items) (sym keeps.clients) (subst (All (Members h.clients.items)) (sym rooms) sound.members);
      channels = subst (All (HasItsChannel h')) (sym keeps.clients) (subst (λ xs. All (there xs) h.clients.items) (sym rooms) sound.channels);
      ready = subst (All AsksForNone) (sym keeps.clients) sound.ready;
      past = subst (All (IsPast h'.moment)) (sym rooms) (all_past h h' keeps.later sound);
    }

-- a room of which only the queue changed
pub room_touched : (h h' : Hall) (r r' : Room) → Lowers h h' → IsRoomSound h r → TouchesRoom r r' → IsRoomSound h' r'
room_touched h h' r r' low x t =
    let lowered : IsRoomSound h' r = room_lowered h h' r low x in
    record {
      named = subst IsName (sym t.name) x.named;
      settled = t.settled;
      backlog = record {
        durable = same_some r.queue.backlog.queue r'.queue.backlog.queue t.queue ∙ x.backlog.durable ∙ ap (λ n. not (is_ephemeral n)) (sym t.name);
        queue = subst (λ n. IfSome r'.queue.backlog.queue (λ q. q.name ≡ n)) (sym t.name) (same_name r.queue.backlog.queue r'.queue.backlog.queue (topic_name r) t.queue x.backlog.queue);
      };
      capacity = t.capacity ∙ lowered.capacity;
      limits = same_options r.queue.backlog.queue r'.queue.backlog.queue (topic_options h'.options) t.queue lowered.limits;
      names = subst (λ n. IfSome r'.names (λ names. names ≡ (n, stall_names r') ∷ [])) (sym t.name)
          (subst (λ xs. IfSome r'.names (λ names. names ≡ (topic_name r, map channel_name xs) ∷ [])) (sym t.stalls) t.names);
      order = subst (IsAscendingBy channel_name) (sym t.stalls) x.order;
      stalls = subst (λ n. All (IsStallSound h'.options n h'.quiet_until h'.unsaved_from) r'.stalls.items) (sym t.name)
          (subst (All (IsStallSound h'.options (topic_name r) h'.quiet_until h'.unsaved_from)) (sym t.stalls) lowered.stalls);
      owed = subst (λ xs. All (λ name. IsSome (stall_in xs name)) (owed_of r'.queue.head)) (sym t.stalls) t.owed;
      marked = subst (λ since. IsMarked h'.unsaved_from since r'.queue.backlog.queue) (sym t.since)
          (still_marked h'.unsaved_from r.since r.queue.backlog.queue r'.queue.backlog.queue lowered.marked t.marked);
      listed = λ l. subst (Contains h'.pending.items) (sym t.name) (lowered.listed (t.listed l));
      rests = t.rests;
    }

-- one room of a sound hall became another sound one of its name, with the same channels
pub sound_at_room : (h h' : Hall) (i : ℕ) (Does : Room → Room → Type 0) → IsSound h → KeepsRest h h' → (at : AtRoom i Does h.rooms.items h'.rooms.items) → topic_name at.after ≡ topic_name at.room → at.after.stalls.items ≡ at.room.stalls.items
    → IsRoomSound h' at.after → IfSome at.after.since (λ m. m ≤ h'.moment) → IsSound h'
sound_at_room h h' i Does sound keeps at name stalls room past =
    let Mine : List Stall → Room → Type 0 = λ xs x. All (AreMembers h.clients.items (topic_name x)) xs in
    let found : room_in h.rooms.items (topic_name at.after) ≡ Some at.room = ap (room_in h.rooms.items) name ∙ found_at topic_name h.rooms.items i at.room sound.room_order at.there in
    sound_put_room h h' at.after (record {
      sound = sound;
      keeps = keeps;
      rooms = at.is ∙ put_at topic_name h.rooms.items i at.room at.after sound.room_order at.there name;
      room = room;
      past = record { room = past; stalls = subst (All (λ (s : Stall). IfSome s.since (λ m. m ≤ h'.moment))) (sym stalls) (at_all (IsPast h'.moment) h.rooms.items i at.room (all_past h h' keeps.later sound) at.there).stalls };
      members = subst (λ n. All (AreMembers h.clients.items n) at.after.stalls.items) (sym name)
          (subst (All (AreMembers h.clients.items (topic_name at.room))) (sym stalls)
          (at_all (λ (x : Room). All (AreMembers h.clients.items (topic_name x)) x.stalls.items) h.rooms.items i at.room sound.members at.there));
      channels = λ channel has.
          subst (λ xs. IsSome (stall_in xs channel)) (sym stalls) (subst (λ o. IsSome (option_and_then (λ (x : Room). stall_in x.stalls.items channel) o)) found has);
    })

-- one stall of a sound hall became another sound one of its name, whose members are those of the clients
module _ (h h' : Hall) (i j : ℕ) (Does : Stall → Stall → Type 0) (sound : IsSound h) (keeps : KeepsRest h h') (at : AtStall i j Does h.rooms.items h'.rooms.items) where
  pub room_before : IsRoomSound h at.room
  room_before = at_all (IsRoomSound h) h.rooms.items i at.room sound.rooms at.there

  pub stall_before : IsStallSound h.options (topic_name at.room) h.quiet_until h.unsaved_from at.does.stall
  stall_before = at_all (IsStallSound h.options (topic_name at.room) h.quiet_until h.unsaved_from) at.room.stalls.items j at.does.stall room_before.stalls at.does.there

  pub members_before : AreMembers h.clients.items (topic_name at.room) at.does.stall
  members_before =
      at_all (AreMembers h.clients.items (topic_name at.room)) at.room.stalls.items j at.does.stall
      (at_all (λ (x : Room). All (AreMembers h.clients.items (topic_name x)) x.stalls.items) h.rooms.items i at.room sound.members at.there) at.does.there

  name_after : topic_name at.after ≡ topic_name at.room
  name_after = ap topic_name at.does.is

  module _ (named : channel_name at.does.after ≡ channel_name at.does.stall) where
    whole : at.after.stalls.items ≡ put_stall at.room.stalls.items at.does.after
    whole = at.does.stalls ∙ put_at channel_name at.room.stalls.items j at.does.stall at.does.after room_before.order at.does.there named

    still_in : (name : List ℕ) → IsSome (stall_in at.room.stalls.items name) → IsSome (stall_in at.after.stalls.items name)
    still_in name has =
        subst IsSome (sym (ap (λ xs. stall_in xs name) whole ∙ find_put channel_name at.room.stalls.items at.does.after name))
        (some_put at.does.after (stall_in at.room.stalls.items name) (bytes_eq name (channel_name at.does.after)) has)

    same_names : map channel_name at.after.stalls.items ≡ map channel_name at.room.stalls.items
    same_names =
        ap (map channel_name) at.does.stalls
        ∙ map-set_same channel_name at.room.stalls.items j at.does.after at.does.stall (named ∙ ap channel_name (sym (get_or_from_slice_get at.room.stalls.items j at.does.stall at.does.stall at.does.there)))

    same_empty : is_empty at.after.stalls.items ≡ is_empty at.room.stalls.items
    same_empty = ap is_empty at.does.stalls ∙ empty_set at.room.stalls.items j at.does.after

    module _ (stall : IsStallSound h'.options (topic_name at.room) h'.quiet_until h'.unsaved_from at.does.after) (past : IfSome at.does.after.since (λ m. m ≤ h'.moment)) (members : AreMembers h.clients.items (topic_name at.room) at.does.after) where
      room_after : IsRoomSound h' at.after
      room_after =
          let r : Room = record (at.room) { stalls = at.after.stalls } in
          let x : IsRoomSound h' at.room = room_lowered h h' at.room keeps.lowers room_before in
          subst (IsRoomSound h') (sym at.does.is) (record {
            named = x.named;
            settled = x.settled;
            backlog = x.backlog;
            capacity = x.capacity;
            limits = x.limits;
            names = subst (λ ns. IfSome at.room.names (λ names. names ≡ (topic_name at.room, ns) ∷ [])) (sym same_names) x.names;
            order = subst (IsAscendingBy channel_name) (sym whole) (IsAscendingBy-put_by channel_name at.room.stalls.items at.does.after x.order);
            stalls = subst (All (IsStallSound h'.options (topic_name at.room) h'.quiet_until h'.unsaved_from)) (sym at.does.stalls)
                (All-set (IsStallSound h'.options (topic_name at.room) h'.quiet_until h'.unsaved_from) at.room.stalls.items j at.does.after stall x.stalls);
            owed = All-weaker (λ name. IsSome (stall_in at.room.stalls.items name)) (λ name. IsSome (stall_in at.after.stalls.items name)) (λ name has. still_in name has) (owed_of at.room.queue.head) x.owed;
            marked = x.marked;
            listed = x.listed;
            rests = λ l. ap (λ b. is_none at.room.queue.head && (at.room.queue.paused || (b || has_none_waiting at.room))) same_empty ∙ x.rests l;
          })

      past_after : IsPast h'.moment at.after
      past_after =
          let x : IsPast h'.moment at.room = at_all (IsPast h'.moment) h.rooms.items i at.room (all_past h h' keeps.later sound) at.there in
          record {
            room = subst (λ o. IfSome o (λ m. m ≤ h'.moment)) (sym (ap (λ (r : Room). r.since) at.does.is)) x.room;
            stalls = subst (All (λ (s : Stall). IfSome s.since (λ m. m ≤ h'.moment))) (sym at.does.stalls) (All-set (λ (s : Stall). IfSome s.since (λ m. m ≤ h'.moment)) at.room.stalls.items j at.does.after past x.stalls);
          }

      pub sound_at_stall_of : IsSound h'
      sound_at_stall_of = sound_put_room h h' at.after (record {
        sound = sound;
        keeps = keeps;
        rooms = at.is ∙ put_at topic_name h.rooms.items i at.room at.after sound.room_order at.there name_after;
        room = room_after;
        past = past_after;
        members = subst (λ n. All (AreMembers h.clients.items n) at.after.stalls.items) (sym name_after)
            (subst (All (AreMembers h.clients.items (topic_name at.room))) (sym at.does.stalls)
            (All-set (AreMembers h.clients.items (topic_name at.room)) at.room.stalls.items j at.does.after members
            (at_all (λ (x : Room). All (AreMembers h.clients.items (topic_name x)) x.stalls.items) h.rooms.items i at.room sound.members at.there)));
        channels = λ channel has.
            still_in channel
            (subst (λ o. IsSome (option_and_then (λ (x : Room). stall_in x.stalls.items channel) o)) (ap (room_in h.rooms.items) name_after ∙ found_at topic_name h.rooms.items i at.room sound.room_order at.there) has);
      })

pub sound_at_stall : (h h' : Hall) (i j : ℕ) (Does : Stall → Stall → Type 0) → IsSound h → KeepsRest h h' → (at : AtStall i j Does h.rooms.items h'.rooms.items) → channel_name at.does.after ≡ channel_name at.does.stall
    → IsStallSound h'.options (topic_name at.room) h'.quiet_until h'.unsaved_from at.does.after → IfSome at.does.after.since (λ m. m ≤ h'.moment) → AreMembers h.clients.items (topic_name at.room) at.does.after → IsSound h'
sound_at_stall h h' i j Does sound keeps at named stall past members = sound_at_stall_of h h' i j Does sound keeps at named stall past members

-- a stall with the clients that it had
pub members_stay : (clients : List Client) (topic : List ℕ) (s s' : Stall) → channel_name s' ≡ channel_name s → ((n : ℕ) → client_of s'.channel.clients n ≡ client_of s.channel.clients n) → s'.members.items ≡ s.members.items
    → AreMembers clients topic s → AreMembers clients topic s'
members_stay clients topic s s' name known members a = record {
  known = λ n. known n ∙ a.known n ∙ ap (λ k. member_of topic k (client_in clients n)) (sym name);
  listed = λ n. ap (list_any (nat_eq n)) members ∙ a.listed n ∙ ap (λ k. is_some (member_of topic k (client_in clients n))) (sym name);
}

-- a stall that was touched is sound where it is quiet
pub stall_touched : (o : Options) (topic : List ℕ) (q q' u u' : ℕ) (s s' : Stall) → u' ≤ u → IsStallSound o topic q u s → TouchesStall s s' → IsQuietUntil q' s'.channel → IsStallSound o topic q' u' s'
stall_touched o topic q q' u u' s s' earlier x t calm =
    let name : channel_name s' ≡ channel_name s = ap (λ (a : About). a.name) t.about in
    record {
      about = t.about ∙ x.about ∙ ap (λ n. about_of topic n o) (sym name);
      named = subst IsName (sym name) x.named;
      settled = t.drawn;
      durable = same_some s.channel.backlog.queue s'.channel.backlog.queue t.queue ∙ x.durable ∙ ap (λ n. not (is_ephemeral_channel topic n)) (sym name);
      queue = subst (λ n. IfSome s'.channel.backlog.queue (λ q. q.name ≡ queue_name topic n)) (sym name) (same_name s.channel.backlog.queue s'.channel.backlog.queue (queue_name topic (channel_name s)) t.queue x.queue);
      limits = same_options s.channel.backlog.queue s'.channel.backlog.queue (queue_options o) t.queue x.limits;
      calm = calm;
      marked = subst (λ since. IsMarked u' since s'.channel.backlog.queue) (sym t.since)
          (still_marked u' s.since s.channel.backlog.queue s'.channel.backlog.queue (marked_lowered u u' s.since s.channel.backlog.queue earlier x.marked) t.marked);
      members = subst (AllPairs (λ a b. a < b)) (sym t.members) x.members;
    }

-- the marks of the topic and of the channel that stood at a place
pub room_past : (h h' : Hall) (i : ℕ) (Does : Room → Room → Type 0) → IsSound h → h.moment ≤ h'.moment → (at : AtRoom i Does h.rooms.items h'.rooms.items) → IfSome at.room.since (λ m. m ≤ h'.moment)
room_past h h' i Does sound later at = (at_all (IsPast h'.moment) h.rooms.items i at.room (all_past h h' later sound) at.there).room

pub stall_past : (h h' : Hall) (i j : ℕ) (Does : Stall → Stall → Type 0) → IsSound h → h.moment ≤ h'.moment → (at : AtStall i j Does h.rooms.items h'.rooms.items) → IfSome at.does.stall.since (λ m. m ≤ h'.moment)
stall_past h h' i j Does sound later at =
    at_all (λ (s : Stall). IfSome s.since (λ m. m ≤ h'.moment)) at.room.stalls.items j at.does.stall (at_all (IsPast h'.moment) h.rooms.items i at.room (all_past h h' later sound) at.there).stalls at.does.there

-- a channel that was touched has its mark
pub past_touched : (h h' : Hall) (i j : ℕ) → IsSound h → h.moment ≤ h'.moment → (at : AtStall i j TouchesStall h.rooms.items h'.rooms.items) → IfSome at.does.after.since (λ m. m ≤ h'.moment)
past_touched h h' i j sound later at = subst (λ o. IfSome o (λ m. m ≤ h'.moment)) (sym at.does.does.since) (stall_past h h' i j TouchesStall sound later at)

-- once the channel that was touched is quiet until the hall is, the hall is sound
pub sound_touched : (before h h' : Hall) (i j : ℕ) → Touches i j before h → h' ≡ record h { quiet_until = h'.quiet_until } → h'.quiet_until ≤ h.quiet_until
    → HoldsAt (λ (r : Room). HoldsAt (λ (s : Stall). IsQuietUntil h'.quiet_until s.channel) r.stalls.items j) h'.rooms.items i → IsSound h'
sound_touched before h h' i j t is lower quiet =
    let at : AtStall i j TouchesStall before.rooms.items h.rooms.items = t.stall in
    let now : AtStall i j TouchesStall before.rooms.items h'.rooms.items = record { room = at.room; after = at.after; there = at.there; is = ap (λ (x : Hall). x.rooms.items) is ∙ at.is; does = at.does } in
    let options : h'.options ≡ before.options = ap (λ (x : Hall). x.options) is ∙ ap (λ (x : Hall). x.options) t.rest in
    let until : h.quiet_until ≡ before.quiet_until = ap (λ (x : Hall). x.quiet_until) t.rest in
    let from : h'.unsaved_from ≡ before.unsaved_from = ap (λ (x : Hall). x.unsaved_from) is ∙ ap (λ (x : Hall). x.unsaved_from) t.rest in
    let moment : h'.moment ≡ before.moment = ap (λ (x : Hall). x.moment) is ∙ ap (λ (x : Hall). x.moment) t.rest in
    let early = t.sound.moment in
    let earlier : h'.unsaved_from ≤ before.unsaved_from = omega (arith, from) in
    let keeps : KeepsRest before h' = record {
      lowers = record {
        options = options;
        quiet = omega (arith, lower, until);
        unsaved = earlier;
        pending = λ name has. subst (λ (names : List (List ℕ)). Contains names name) (sym (ap (λ (x : Hall). x.pending.items) is ∙ ap (λ (x : Hall). x.pending.items) t.rest)) has;
      };
      epoch = ap (λ (x : Hall). x.epoch) is ∙ ap (λ (x : Hall). x.epoch) t.rest;
      ids_used = ap (λ (x : Hall). x.ids_used) is ∙ ap (λ (x : Hall). x.ids_used) t.rest;
      moment = omega (arith, moment, early);
      later = omega (arith, moment);
      clients = ap (λ (x : Hall). x.clients.items) is ∙ ap (λ (x : Hall). x.clients.items) t.rest;
    } in
    let stall : Stall = at.does.stall in
    let room_is : get_or h'.rooms.items i at.room ≡ at.after =
    ap (λ (xs : List Room). get_or xs i at.room) now.is ∙ get_or-set_same before.rooms.items i at.after at.room (slice_get_within before.rooms.items i at.room at.there) in
    let stall_is : get_or at.after.stalls.items j stall ≡ at.does.after =
    ap (λ (xs : List Stall). get_or xs j stall) at.does.stalls ∙ get_or-set_same at.room.stalls.items j at.does.after stall (slice_get_within at.room.stalls.items j stall at.does.there) in
    let calm : IsQuietUntil h'.quiet_until at.does.after.channel =
    subst (λ (s : Stall). IsQuietUntil h'.quiet_until s.channel) stall_is (subst (λ (r : Room). IsQuietUntil h'.quiet_until (get_or r.stalls.items j stall).channel) room_is (quiet at.room stall)) in
    let name : channel_name at.does.after ≡ channel_name stall = ap (λ (a : About). a.name) at.does.does.about in
    let stall_now : IsStallSound h'.options (topic_name at.room) h'.quiet_until h'.unsaved_from at.does.after =
    subst (λ o. IsStallSound o (topic_name at.room) h'.quiet_until h'.unsaved_from at.does.after) (sym options)
    (stall_touched before.options (topic_name at.room) before.quiet_until h'.quiet_until before.unsaved_from h'.unsaved_from stall at.does.after earlier (stall_before before h' i j TouchesStall t.sound keeps now) at.does.does calm) in
    sound_at_stall before h' i j TouchesStall t.sound keeps now name stall_now (past_touched before h' i j t.sound keeps.later now)
    (members_stay before.clients.items (topic_name at.room) stall at.does.after name at.does.does.clients at.does.does.members (members_before before h' i j TouchesStall t.sound keeps now))
