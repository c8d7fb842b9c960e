-- A topic that has no channel goes from a hall, and from the states that the hall stands for.
use Rattle.std.proofs.Common.{◌≡◌, ◌⊎◌, inl, inr, ◌≤◌, ◌<◌, ◌^◌, ℕ, suc, set, Bool, true, false, not, if◌then◌else◌, List, [], ◌∷◌, ◌++◌, length, take, drop, get_or, Option, Some, None, refl, sym, ap, subst, ◌∙◌, append_assoc, arith}
use Rattle.std.specs.Prelude.{HoldsAt, IfSome, IsSome, is_some, option_and_then}
use Rattle.std.specs.List.{All, filter, insert, slice_get}
use Rattle.std.specs.Global.{Vec}
use Rattle.std.specs.Str.{bytes_eq}
use Rattle.std.proofs.Math.Seq.{drop-append_seam, take-append_seam}
use Rattle.std.proofs.lemmas.Bool.{false≢true}
use Rattle.std.proofs.lemmas.List.{drop-set-lt, get_or-set_same, length-set, length-take-le, set_split, take-set}
use Rattle.std.proofs.lemmas.List.Elements.{All-filter, All-weaker, filter-append, filter_passes}
use Rattle.std.proofs.lemmas.List.Kept.{AllPairs-filter}
use Rattle.std.proofs.lemmas.Option.{get_or_from_slice_get}
use Rattle.nsq_base.specs.Name.{IsName, is_ephemeral}
use Rattle.nsq_base.specs.Names.{IsAscendingBy, byte_order, is_before}
use Rattle.nsq_base.specs.Options.{IsInRange}
use Rattle.nsq_base.specs.Places.{StandsAt}
use Rattle.nsq_base.proofs.PutBy.{Less-from_before, byte_order-flip, filter_all, other_from_order, parts_at}
use Rattle.nsq_outside.specs.Files.{Files}
use Rattle.queue_image.specs.FileNames.{meta_file}
use Rattle.queue_image.specs.Metas.{IsIdle}
use Rattle.path_image.specs.Found.{Pairwise}
use Rattle.disk_queue.specs.Seen.{Seen as Queue}
use Rattle.disk_queue.specs.declared.answers.Emptied.TheVariants as emptying
use Rattle.backlog.specs.Seen.{Seen as Backlog, EmptyQueueSeen, SameQueue, disk_depth, ring_depth}
use Rattle.backlog.specs.Lists.{DiskChanges, Stands}
use Rattle.backlog.specs.Deleting.{DeleteFinds}
use Rattle.backlog.specs.declared.answers.Gone.TheVariants.{Done as IsGone}
use Rattle.topic_core.specs.Seen.{Seen as TopicSeen, owed_of}
use Rattle.topic_core.specs.Rows.{IsTopicOf}
use Rattle.topic_core.specs.Deleting.{DropSeen}
use Rattle.topic_core.specs.declared.answers.DropTopic.TheVariants as topics
use Rattle.broker_history.specs.State.{Route, State, Topic}
use Rattle.broker_history.specs.Changes.{without_topic}
use Rattle.broker_history.proofs.Lists.{exact_bytes, find_gone, same_bytes}
use Rattle.channel_core.specs.Seen.{queue_name}
use Rattle.floor_rooms.specs.ClientPlaces.{AreInOrder}
use Rattle.floor_rooms.specs.Seen.{held_channel}
use Rattle.floor_laws.proofs.Pairs.{pairs_become, pairs_gone}
use Rattle.floor_rooms.specs.declared.stall.Stall.{Stall}
use Rattle.floor_rooms.specs.declared.room.Room.{Room}
use Rattle.floor_rooms.specs.declared.hall.Hall.{Hall}
use Rattle.floor_rooms.specs.Rooms.{channel_name, stall_names, topic_name, room_in, stall_in, stall_at, without_room}
use Rattle.floor_rooms.specs.Sound.{AreMembers, AsksForNone, HasItsChannel, IsPast, IsRoomSound, IsSound, rests}
use Rattle.floor_rooms.specs.Standing.{HoldsFor, IsDurableChannel, IsDurableTopic, IsRoomOf}
use Rattle.floor_rooms.specs.Changes.{AtRoom, KeepsRooms, OnlyQueueFiles, OthersStay, TouchesRoom, marked}
use Rattle.floor_rooms.proofs.Placing.{at_place, found_at, standing_at}
use Rattle.floor_rooms.proofs.Staying.{IsElsewhere, idle_stays, others_stay, room_named, room_stays, topic_is_no_channel}
use Rattle.floor_rooms.proofs.Changing.{IsNamedRoom, apart_names, named_room}
use Rattle.floor_rooms.proofs.Sounding.{KeepsRest, all_past, at_all, room_lowered, room_past, room_touched, sound_at_room}
use Rattle.floor_rooms.proofs.Holding.{StaysElse}
use Rattle.floor_rooms.proofs.Marked.{IsElse, MarksRoom, else_keeps, else_stays}
use Rattle.floor_rooms.proofs.Dating.{keeps_at_room, keeps_marks_room, keeps_room_alike, keeps_then, since_equal}
use Rattle.floor_rooms.proofs.Filing.{only_of_topic}
use Rattle.floor_rooms.proofs.Orders.{room_as_before}
use Rattle.floor_rooms.proofs.Turning.{room_change}

module _ {X : Type 0} (key : X → List ℕ) where
  passes_before : (k : List ℕ) (y : X) → is_before (key y) k ≡ true → not (bytes_eq k (key y)) ≡ true
  passes_before k y h = ap not (other_from_order k (key y) _ (byte_order-flip (key y) k _ (Less-from_before (byte_order (key y) k) h)) refl)

  passes_after : (k : List ℕ) (y : X) → is_before k (key y) ≡ true → not (bytes_eq k (key y)) ≡ true
  passes_after k y h = ap not (other_from_order k (key y) _ (Less-from_before (byte_order k (key y)) h) refl)

  -- an item that goes from where it stands: those of other names stay
  pub gone_standing : (xs : List X) (k : List ℕ) (i : ℕ) (x : X) → StandsAt key xs k i → take i xs ++ drop (suc i) xs ≡ filter (λ y. not (bytes_eq k (key y))) xs
  gone_standing xs k i x h =
      let p : X → Bool = λ y. not (bytes_eq k (key y)) in
      let before : X → Bool = λ y. is_before (key y) k in
      let after : X → Bool = λ y. is_before k (key y) in
      let front : filter p (take i xs) ≡ take i xs =
      subst (λ (ys : List X). filter p ys ≡ ys) h.before (filter_all p (filter before xs) (All-weaker (λ y. before y ≡ true) (λ y. p y ≡ true) (passes_before k) (filter before xs) (filter_passes before xs))) in
      let back : filter p (drop (suc i) xs) ≡ drop (suc i) xs =
      subst (λ (ys : List X). filter p ys ≡ ys) h.after (filter_all p (filter after xs) (All-weaker (λ y. after y ≡ true) (λ y. p y ≡ true) (passes_after k) (filter after xs) (filter_passes after xs))) in
      let same : bytes_eq k (key (get_or xs i x)) ≡ true = ap (bytes_eq k) (h.is_key x) ∙ same_bytes k in
      let here : filter p (get_or xs i x ∷ []) ≡ [] = ap (λ b. if not b then get_or xs i x ∷ [] else []) same in
      sym (ap (filter p) (sym (parts_at xs i x h.in_range) ∙ append_assoc (take i xs) (get_or xs i x ∷ []) (drop (suc i) xs)) ∙ filter-append p (take i xs) (get_or xs i x ∷ drop (suc i) xs) ∙ ap (λ (ys : List X). ys ++ filter p (get_or xs i x ∷ drop (suc i) xs)) front
      ∙ ap (λ (ys : List X). take i xs ++ ys) (filter-append p (get_or xs i x ∷ []) (drop (suc i) xs) ∙ ap (λ (ys : List X). ys ++ filter p (drop (suc i) xs)) here ∙ back))

if_some_weaker : {X : Type 0} (P Q : X → Type 0) (o : Option X) → ((x : X) → P x → Q x) → IfSome o P → IfSome o Q
if_some_weaker P Q None f h = h
if_some_weaker P Q (Some x) f h = f x h

-- none is found behind the going: it is the one that went, or it wasn't there before
pub gone_one : {X : Type 0} (Q : Option X → Type 0) (o : Option X) (b : Bool) → Q (if b then None else o) → (b ≡ true) ⊎ ((b ≡ false) × Q o)
gone_one Q o true h = inl refl
gone_one Q o false h = inr (refl, h)

-- what is there is still there, where it isn't the one that went
some_left : {X Y : Type 0} (f : X → Option Y) (o : Option X) (b : Bool) → (b ≡ true → ⊥) → IsSome (option_and_then f o) → IsSome (option_and_then f (if b then None else o))
some_left f o true g h = absurd (g refl)
some_left f o false g h = h

module _ (h h' : Hall) (i : ℕ) (room : Room) (sound : IsSound h) (at : slice_get h.rooms.items i ≡ Some room) (none : room.stalls.items ≡ []) (rooms : h'.rooms.items ≡ take i h.rooms.items ++ drop (suc i) h.rooms.items) where
  pub left_rooms : h'.rooms.items ≡ without_room h.rooms.items (topic_name room)
  left_rooms = rooms ∙ gone_standing topic_name h.rooms.items (topic_name room) i room (standing_at topic_name h.rooms.items i room sound.room_order at)

  found : room_in h.rooms.items (topic_name room) ≡ Some room
  found = found_at topic_name h.rooms.items i room sound.room_order at

  found_now : (name : List ℕ) → room_in h'.rooms.items name ≡ (if bytes_eq (topic_name room) name then None else room_in h.rooms.items name)
  found_now name = ap (λ xs. room_in xs name) left_rooms ∙ find_gone topic_name h.rooms.items (topic_name room) name

  -- it had no channel
  no_stall : (topic channel : List ℕ) → bytes_eq (topic_name room) topic ≡ true → stall_at h.rooms.items topic channel ≡ None
  no_stall topic channel e =
      ap (λ n. stall_at h.rooms.items n channel) (sym (exact_bytes (topic_name room) topic e)) ∙ ap (option_and_then (λ (r : Room). stall_in r.stalls.items channel)) found ∙ ap (λ xs. stall_in xs channel) none

  still_there : (topic channel : List ℕ) → IsSome (stall_at h.rooms.items topic channel) → IsSome (stall_at h'.rooms.items topic channel)
  still_there topic channel has =
      let within : Room → Option Stall = λ r. stall_in r.stalls.items channel in
      subst (λ o. IsSome (option_and_then within o)) (sym (found_now topic))
      (some_left within (room_in h.rooms.items topic) (bytes_eq (topic_name room) topic) (λ e. false≢true (sym (ap is_some (no_stall topic channel e)) ∙ has)) has)

  pub left_sound : KeepsRest h h' → IsSound h'
  left_sound keeps =
      let p : Room → Bool = λ r. not (bytes_eq (topic_name room) (topic_name r)) in
      let Mine : Room → Type 0 = λ r. All (AreMembers h.clients.items (topic_name r)) r.stalls.items in
      record {
        options = subst IsInRange (sym keeps.lowers.options) sound.options;
        epoch = subst (λ e. e < 2 ^ 24) (sym keeps.epoch) sound.epoch;
        ids_used = subst (λ n. n ≤ 2 ^ 40) (sym keeps.ids_used) sound.ids_used;
        moment = keeps.moment;
        client_order = subst AreInOrder (sym keeps.clients) sound.client_order;
        room_order = subst (IsAscendingBy topic_name) (sym left_rooms) (AllPairs-filter (λ (a b : Room). is_before (topic_name a) (topic_name b) ≡ true) p h.rooms.items sound.room_order);
        rooms = subst (All (IsRoomSound h')) (sym left_rooms)
            (All-filter p (IsRoomSound h') h.rooms.items (All-weaker (IsRoomSound h) (IsRoomSound h') (λ x s. room_lowered h h' x keeps.lowers s) h.rooms.items sound.rooms));
        members = subst (λ cs. All (λ (r : Room). All (AreMembers cs (topic_name r)) r.stalls.items) h'.rooms.items) (sym keeps.clients)
            (subst (All Mine) (sym left_rooms) (All-filter p Mine h.rooms.items sound.members));
        channels = subst (All (HasItsChannel h')) (sym keeps.clients)
            (All-weaker (HasItsChannel h) (HasItsChannel h')
            (λ c has. if_some_weaker (λ (route : Route). IsSome (stall_at h.rooms.items route.topic route.channel)) (λ (route : Route). IsSome (stall_at h'.rooms.items route.topic route.channel)) (held_channel c.phase c.route)
            (λ route there. still_there route.topic route.channel there) has) h.clients.items sound.channels);
        ready = subst (All AsksForNone) (sym keeps.clients) sound.ready;
        past = subst (All (IsPast h'.moment)) (sym left_rooms) (All-filter p (IsPast h'.moment) h.rooms.items (all_past h h' keeps.later sound));
      }

  module _ (old new : Files) (s : State) (rest : StaysElse h h') (others : OthersStay (topic_name room) old new) (idle : is_ephemeral (topic_name room) ≡ false → IsIdle (new (meta_file (topic_name room)))) (holds : HoldsFor h old s) where
    room_left : (a : Room) (t : Topic) → bytes_eq (topic_name room) (topic_name a) ≡ false → IsNamedRoom a × IsRoomOf old a t → IsRoomOf new a t
    room_left a t apart x =
        room_stays old new (topic_name room) a t others x.0.queue (apart_names (topic_name room) (topic_name a) apart)
        (All-weaker (λ k. IfSome k.channel.backlog.queue (λ q. q.name ≡ queue_name (topic_name a) (channel_name k))) (IsElsewhere (topic_name a) (topic_name room))
        (λ k q. (q, λ e. topic_is_no_channel (topic_name room) (topic_name a) (channel_name k) (at_all (IsRoomSound h) h.rooms.items i room sound.rooms at).named (sym e))) a.stalls.items x.0.stalls) x.1

    idle_left : (name : List ℕ) → IsDurableTopic name → room_in h'.rooms.items name ≡ None → IsIdle (new (meta_file name))
    idle_left name named gone =
        elim (gone_one (λ (o : Option Room). o ≡ None) (room_in h.rooms.items name) (bytes_eq (topic_name room) name) (sym (found_now name) ∙ gone)) [
          | inl same ↦
              let is : topic_name room ≡ name = exact_bytes (topic_name room) name same in
              subst (λ n. IsIdle (new (meta_file n))) is (idle (ap is_ephemeral is ∙ named.1))
          | inr other ↦ idle_stays old new (topic_name room) name others (apart_names (topic_name room) name other.0) (holds.idle.topics name named other.1)
        ]

    channels_left : (topic channel : List ℕ) → IsName topic → IsDurableChannel topic channel → stall_at h'.rooms.items topic channel ≡ None → IsIdle (new (meta_file (queue_name topic channel)))
    channels_left topic channel nt nc gone =
        let within : Room → Option Stall = λ r. stall_in r.stalls.items channel in
        let before : stall_at h.rooms.items topic channel ≡ None =
        elim (gone_one (λ (o : Option Room). option_and_then within o ≡ None) (room_in h.rooms.items topic) (bytes_eq (topic_name room) topic) (ap (option_and_then within) (sym (found_now topic)) ∙ gone)) [
          | inl same ↦ no_stall topic channel same
          | inr other ↦ other.1
        ] in
        idle_stays old new (topic_name room) (queue_name topic channel) others
        (λ e. topic_is_no_channel (topic_name room) topic channel (at_all (IsRoomSound h) h.rooms.items i room sound.rooms at).named (sym e)) (holds.idle.channels topic channel nt nc before)

    pub left_stands : HoldsFor h' new (without_topic s (topic_name room))
    left_stands =
        let earlier = holds.stands.moment in
        let later = rest.moment in
        let Both : Room → Topic → Type 0 = λ a t. IsNamedRoom a × IsRoomOf old a t in
        let all : Pairwise Both h.rooms.items s.topics =
        pairs_become (IsRoomOf old) Both IsNamedRoom h.rooms.items s.topics (λ a t n r. (n, r)) (All-weaker (IsRoomSound h) IsNamedRoom (named_room h) h.rooms.items sound.rooms) holds.stands.topics in
        record {
          stands = record {
            options = holds.stands.options ∙ sym rest.options;
            epoch = holds.stands.epoch ∙ sym rest.epoch;
            ids_used = holds.stands.ids_used ∙ sym rest.ids_used;
            moment = omega (arith, earlier, later);
            stopped = holds.stands.stopped ∙ sym rest.stopped;
            clients = holds.stands.clients ∙ sym rest.clients;
            topics = subst (λ xs. Pairwise (IsRoomOf new) xs (without_topic s (topic_name room)).topics) (sym left_rooms)
                (pairs_gone topic_name (λ (t : Topic). t.name) Both (IsRoomOf new) (topic_name room) h.rooms.items s.topics (λ a t x. room_named old a t x.1) room_left all);
          };
          idle = record {
            topics = idle_left;
            channels = channels_left;
          };
        }

-- an item that went and is put back at its place is set there
pub put_back_at : {X : Type 0} (xs : List X) (i : ℕ) (y : X) → i < length xs → insert (take i xs ++ drop (suc i) xs) i y ≡ set xs i y
put_back_at {X = X} xs i y l =
    let long : length (take i xs) ≡ i = length-take-le i xs (omega (arith, l)) in
    ap (λ (zs : List X). zs ++ y ∷ drop i (take i xs ++ drop (suc i) xs)) (front_of (take i xs) (drop (suc i) xs) i long) ∙ ap (λ (zs : List X). take i xs ++ y ∷ zs) (back_of (take i xs) (drop (suc i) xs) i long) ∙ sym (set_split xs i y l)
  where
    front_of : (us vs : List X) (n : ℕ) → length us ≡ n → take n (us ++ vs) ≡ us
    front_of us vs n e = subst (λ m. take m (us ++ vs) ≡ us) e (take-append_seam us vs)

    back_of : (us vs : List X) (n : ℕ) → length us ≡ n → drop n (us ++ vs) ≡ vs
    back_of us vs n e = subst (λ m. drop m (us ++ vs) ≡ vs) e (drop-append_seam us vs)

-- what is so of each that is read at a place is so of the one there
pub none_there : (rooms : List Room) (i : ℕ) (room : Room) → HoldsAt (λ (r : Room). r.stalls.items ≡ []) rooms i → slice_get rooms i ≡ Some room → room.stalls.items ≡ []
none_there rooms i room none at = subst (λ (r : Room). r.stalls.items ≡ []) (get_or_from_slice_get rooms i room room at) (none room)

-- other rooms, and names that are unsaved, are nothing that the soundness of a hall's other parts asks for
pub keeps_rooms : (h : Hall) (rooms : Vec Room) (unsaved : Bool) → IsSound h → KeepsRest h (record h { rooms = rooms; unsaved_names = unsaved })
keeps_rooms h rooms unsaved sound = else_keeps h (record h { rooms = rooms; unsaved_names = unsaved }) sound refl (omega arith) (omega arith) (λ name has. has)

-- a queue whose deletion is done begins with nothing
forgotten_idle : (queue : Option Queue) (e : Bool) (name : List ℕ) (files : Files) → is_some queue ≡ not e → e ≡ false → IfSome queue (λ q. q.name ≡ name) → DeleteFinds queue files IsGone → IsIdle (files (meta_file name))
forgotten_idle None true name files some durable is finds = absurd (false≢true (sym durable))
forgotten_idle None false name files some durable is finds = absurd (false≢true some)
forgotten_idle (Some q) e name files some durable is finds = subst (λ n. IsIdle (files (meta_file n))) is finds.idle

-- one that could not be deleted has the same name and as many records
same_kept : (q r : Option Queue) → EmptyQueueSeen q r emptying.Fault → SameQueue q r
same_kept None None seen = tt
same_kept None (Some r) seen = absurd seen
same_kept (Some q) None seen = absurd seen
same_kept (Some q) (Some r) seen = record { name = ap (λ (x : Queue). x.name) seen; options = ap (λ (x : Queue). x.options) seen }

depth_kept : (q r : Option Queue) → EmptyQueueSeen q r emptying.Fault → disk_depth r ≡ disk_depth q
depth_kept None None seen = refl
depth_kept None (Some r) seen = absurd seen
depth_kept (Some q) None seen = absurd seen
depth_kept (Some q) (Some r) seen = ap (λ (x : Queue). x.depth) seen

marked_some : (o : Option ℕ) (at : ℕ) → IsSome (marked o at)
marked_some None at = refl
marked_some (Some m) at = refl

-- a room as it comes back from a deletion that failed
abbrev pub KeepsBack : (old new : Room) → Type 0
KeepsBack old new = (new ≡ record old { queue = new.queue }) × DropSeen old.queue (topics.Fault new.queue)

-- the room that went after it was marked
module _ (h0 h1 : Hall) (i : ℕ) (room : Room) (sound : IsSound h1) (range : i < length h0.rooms.items) (at : AtRoom i (MarksRoom h0.moment) h0.rooms.items h1.rooms.items) (none : HoldsAt (λ (r : Room). r.stalls.items ≡ []) h0.rooms.items i) (value : room ≡ get_or h1.rooms.items i room) where
  pub marked_range : i < length h1.rooms.items
  marked_range = omega (arith, ap length at.is, length-set h0.rooms.items i at.after, range)

  pub marked_at : slice_get h1.rooms.items i ≡ Some room
  marked_at = at_place h1.rooms.items i room marked_range value

  marked_is : room ≡ at.after
  marked_is = value ∙ ap (λ (zs : List Room). get_or zs i room) at.is ∙ get_or-set_same h0.rooms.items i at.after room range

  pub marked_none : room.stalls.items ≡ []
  marked_none = ap (λ (r : Room). r.stalls.items) marked_is ∙ ap (λ (r : Room). r.stalls.items) at.does ∙ none_there h0.rooms.items i at.room none at.there

  pub marked_name : (d : Room) → topic_name room ≡ topic_name (get_or h0.rooms.items i d)
  marked_name d = ap topic_name marked_is ∙ ap topic_name at.does ∙ ap topic_name (sym (get_or_from_slice_get h0.rooms.items i at.room d at.there))

  marked_since : IsSome room.since
  marked_since = subst IsSome (sym (ap (λ (r : Room). r.since) marked_is ∙ ap (λ (r : Room). r.since) at.does)) (marked_some at.room.since h0.moment)

  room_sound : IsRoomSound h1 room
  room_sound = at_all (IsRoomSound h1) h1.rooms.items i room sound.rooms marked_at

  pub marked_others : (old new : Files) → DiskChanges room.queue.backlog.queue old new → OthersStay (topic_name room) old new
  marked_others old new change = others_stay room.queue.backlog.queue (topic_name room) old new room_sound.backlog.queue change

  pub marked_idle : (new : Files) → DeleteFinds room.queue.backlog.queue new IsGone → is_ephemeral (topic_name room) ≡ false → IsIdle (new (meta_file (topic_name room)))
  marked_idle new found durable = forgotten_idle room.queue.backlog.queue (is_ephemeral (topic_name room)) (topic_name room) new room_sound.backlog.durable durable room_sound.backlog.queue found

  -- only its mark changed before it went
  pub marked_keeps : KeepsRooms h0.moment h0.rooms.items h1.rooms.items
  marked_keeps = keeps_marks_room h0.moment i h0.rooms.items h1.rooms.items at

  pub marked_gone : IsSound h0 → (xs : List Room) → xs ≡ take i h1.rooms.items ++ drop (suc i) h1.rooms.items → (d : Room) → xs ≡ without_room h0.rooms.items (topic_name (get_or h0.rooms.items i d))
  marked_gone sound0 xs e d =
      let same : get_or h0.rooms.items i d ≡ at.room = get_or_from_slice_get h0.rooms.items i at.room d at.there in
      e ∙ ap (λ (zs : List Room). take i zs ++ drop (suc i) zs) at.is ∙ ap (λ (zs : List Room). zs ++ drop (suc i) (set h0.rooms.items i at.after)) (take-set h0.rooms.items i at.after)
      ∙ ap (λ (zs : List Room). take i h0.rooms.items ++ zs) (drop-set-lt (suc i) h0.rooms.items i at.after (omega arith))
      ∙ gone_standing topic_name h0.rooms.items (topic_name at.room) i at.room (standing_at topic_name h0.rooms.items i at.room sound0.room_order at.there) ∙ ap (λ (r : Room). without_room h0.rooms.items (topic_name r)) (sym same)

  pub marked_only : (old new : Files) → DiskChanges room.queue.backlog.queue old new → OnlyQueueFiles old new
  marked_only old new change = only_of_topic (topic_name room) room.queue.backlog.queue old new room_sound.named room_sound.backlog.queue change

  module _ (h2 : Hall) (rest : IsElse h1 h2) (back : AtRoom i KeepsBack h1.rooms.items h2.rooms.items) where
    back_is : back.room ≡ room
    back_is = sym (get_or_from_slice_get h1.rooms.items i back.room room back.there) ∙ get_or_from_slice_get h1.rooms.items i room room marked_at

    abbrev seen_queue : back.after.queue ≡ record (back.room.queue) { backlog = back.after.queue.backlog }
    seen_queue = back.does.1.0

    abbrev seen_backlog : back.after.queue.backlog ≡ record (back.room.queue.backlog) { queue = back.after.queue.backlog.queue }
    seen_backlog = back.does.1.1.0

    back_name : topic_name back.after ≡ topic_name back.room
    back_name = ap (λ (q : TopicSeen). q.name) seen_queue

    back_room : IsRoomSound h1 back.room
    back_room = at_all (IsRoomSound h1) h1.rooms.items i back.room sound.rooms back.there

    back_rests : rests back.after ≡ rests back.room
    back_rests =
        let stalls : back.after.stalls.items ≡ back.room.stalls.items = ap (λ (r : Room). r.stalls.items) back.does.0 in
        let head : back.after.queue.head ≡ back.room.queue.head = ap (λ (q : TopicSeen). q.head) seen_queue in
        let paused : back.after.queue.paused ≡ back.room.queue.paused = ap (λ (q : TopicSeen). q.paused) seen_queue in
        let ring : ring_depth back.after.queue.backlog ≡ ring_depth back.room.queue.backlog = ap ring_depth seen_backlog in
        let disk : disk_depth back.after.queue.backlog.queue ≡ disk_depth back.room.queue.backlog.queue = depth_kept back.room.queue.backlog.queue back.after.queue.backlog.queue back.does.1.1.1 in
        rw (stalls, head, paused, ring, disk) refl

    back_touches : TouchesRoom back.room back.after
    back_touches = record {
      name = back_name;
      settled = ap (λ (b : Backlog). b.lent) seen_backlog ∙ back_room.settled;
      queue = same_kept back.room.queue.backlog.queue back.after.queue.backlog.queue back.does.1.1.1;
      capacity = ap (λ (b : Backlog). b.capacity) seen_backlog;
      names = subst (λ o. IfSome o (λ names. names ≡ (topic_name back.room, stall_names back.room) ∷ [])) (sym (ap (λ (r : Room). r.names) back.does.0)) back_room.names;
      stalls = ap (λ (r : Room). r.stalls.items) back.does.0;
      owed = subst (λ o. All (λ name. IsSome (stall_in back.room.stalls.items name)) (owed_of o)) (sym (ap (λ (q : TopicSeen). q.head) seen_queue)) back_room.owed;
      since = ap (λ (r : Room). r.since) back.does.0;
      marked = inl (subst (λ (r : Room). IsSome r.since) (sym back_is) marked_since);
      listed = λ l. sym (ap (λ (r : Room). r.listed) back.does.0) ∙ l;
      rests = λ l. back_rests ∙ back_room.rests (sym (ap (λ (r : Room). r.listed) back.does.0) ∙ l);
    }

    pub back_keeps : KeepsRooms h0.moment h0.rooms.items h2.rooms.items
    back_keeps =
        keeps_then h0.moment h0.rooms.items h1.rooms.items h2.rooms.items marked_keeps
        (keeps_at_room h0.moment i KeepsBack h1.rooms.items h2.rooms.items back
        (keeps_room_alike h0.moment back.room back.after back_name (ap (λ (q : TopicSeen). q.paused) seen_queue) (since_equal h0.moment back.room.since back.after.since (ap (λ (r : Room). r.since) back.does.0)) (ap (λ (r : Room). r.stalls.items) back.does.0)))

    pub back_sound : KeepsRest h1 h2 → IsSound h2
    back_sound keeps =
        sound_at_room h1 h2 i KeepsBack sound keeps back back_name (ap (λ (r : Room). r.stalls.items) back.does.0) (room_touched h1 h2 back.room back.after keeps.lowers back_room back_touches)
        (subst (λ o. IfSome o (λ m. m ≤ h2.moment)) (sym (ap (λ (r : Room). r.since) back.does.0)) (room_past h1 h2 i KeepsBack sound keeps.later back))

    pub back_stands : (old new : Files) (s : State) → DiskChanges room.queue.backlog.queue old new → ((t : Topic) → IsTopicOf back.room.queue old t → IsTopicOf back.after.queue new t) → (Stands back.room.queue.backlog.queue old → Stands back.after.queue.backlog.queue new) → HoldsFor h1 old s → HoldsFor h2 new s
    back_stands old new s change topic stands holds =
        room_as_before h1 h2 old new s (topic_name back.room) back.room back.after sound holds
        (room_change h1 h2 old new i KeepsBack sound back back_name (ap (λ (r : Room). r.stalls.items) back.does.0) (else_stays h1 h2 rest) (subst (λ (r : Room). OthersStay (topic_name r) old new) (sym back_is) (marked_others old new change)))
        (λ t of. record { to = t; row = refl; queue = topic t of.queue; stands = stands of.stands; delays = of.delays; taken = of.taken; channels = refl })
