-- A hall, a topic and a channel as they are made.
use Rattle.std.proofs.Common.{◌≡◌, ◌≤◌, ◌<◌, ◌^◌, ℕ, Bool, true, false, not, ◌&&◌, ◌||◌, if◌then◌else◌, List, [], ◌∷◌, length, get_or, Option, Some, None, refl, sym, ap, subst, ◌∙◌, arith}
use Rattle.std.specs.Prelude.{IfSome, IsSome, IsTrue, is_some, is_none, option_and_then, unwrap_or}
use Rattle.std.specs.List.{All, AllPairs, Contains, slice_get}
use Rattle.std.specs.Str.{bytes_eq}
use Rattle.std.proofs.lemmas.Bool.{false≢true}
use Rattle.std.proofs.lemmas.List.Elements.{All-nil, All-weaker}
use Rattle.std.proofs.lemmas.Option.{get_or_from_slice_get, slice_get-get_or}
use Rattle.nsq_base.specs.Name.{IsName, is_ephemeral}
use Rattle.nsq_base.specs.Names.{IsAscendingBy, is_before, put_by}
use Rattle.nsq_base.specs.Options.{IsInRange}
use Rattle.nsq_base.specs.Places.{BelongsAt, StandsAt}
use Rattle.nsq_base.proofs.PutBy.{IsAscendingBy-put_by, put_by-belongs}
use Rattle.nsq_base.specs.declared.options.Options.{Options}
use Rattle.nsq_outside.specs.Files.{Files}
use Rattle.channel_core.specs.QueueOptions.{QueueOptions}
use Rattle.queue_image.specs.FileNames.{meta_file}
use Rattle.queue_image.specs.Metas.{IsIdle}
use Rattle.path_image.specs.Found.{Pairwise}
use Rattle.channel_core.specs.Queues.{Seen as Queue, fresh_queue}
use Rattle.channel_core.specs.Backlogs.{QueueIsSaved}
use Rattle.channel_core.specs.Lists.{Stands}
use Rattle.broker_history.specs.State.{Topic, State, is_empty, new_topic, topic_of, with_topic}
use Rattle.broker_history.specs.Changes.{made_topic}
use Rattle.broker_history.proofs.Lists.{exact_bytes, find_passes}
use Rattle.topic_core.specs.Seen.{Seen as TopicSeen, fresh_topic, owed_of, queue_options}
use Rattle.topic_core.specs.Kept.{IsNamed}
use Rattle.topic_core.specs.Rows.{IsTopicOf}
use Rattle.floor_rooms.specs.ClientPlaces.{AreInOrder}
use Rattle.floor_laws.proofs.Pairs.{IfBoth, pairs_found}
use Rattle.floor_rooms.specs.declared.stall.Stall.{Stall}
use Rattle.floor_rooms.specs.declared.room.Room.{Room}
use Rattle.floor_rooms.specs.declared.hall.Hall.{Hall}
use Rattle.floor_rooms.specs.Rooms.{channel_name, topic_name, room_in, stall_in, stall_at, stall_names, put_room}
use Rattle.floor_rooms.specs.Sound.{AreMembers, AsksForNone, HasItsChannel, HasOptions, IsMarked, IsPast, IsRoomSound, IsSound, IsStallSound, has_none_waiting}
use Rattle.floor_rooms.specs.Standing.{HoldsFor, StandsFor, IsRoomOf, IsStallOf, longest_delay}
use Rattle.floor_rooms.specs.Made.{BeginsIdle, IsEmptyHall, IsFreshRoom, IsUnused, MakesRoom, empty_state, is_new, was_there}
use Rattle.floor_rooms.specs.Places.{IsThere}
use Rattle.floor_rooms.proofs.Placing.{found_standing, inserted_at, none_belonging, put_itself, standing_at, there_standing}
use Rattle.floor_rooms.proofs.Staying.{room_named}
use Rattle.floor_rooms.proofs.Sounding.{sound_put_room}
use Rattle.floor_rooms.proofs.Holding.{holds_put_room}
use Rattle.floor_rooms.proofs.Marked.{IsElse, else_keeps, else_stays}

-- in a list of none no two are out of order
pub none_of_none : {X : Type 0} (R : X → X → Type 0) → AllPairs R []
none_of_none R = λ i j d l m. absurd (let no : ⊥ = omega (arith, l, m) in no)

-- a hall with no topic and no client
pub empty_sound : (o : Options) (e m : ℕ) (h : Hall) → IsInRange o → e < 2 ^ 24 → m ≤ 2 ^ 62 → IsEmptyHall o e m h → IsSound h
empty_sound o e m h in_range low early is =
    let ids : h.ids_used ≡ 0 = is.ids_used in
    record {
      options = subst IsInRange (sym is.options) in_range;
      epoch = subst (λ n. n < 2 ^ 24) (sym is.epoch) low;
      ids_used = subst (λ n. n ≤ 2 ^ 40) (sym is.ids_used) (omega arith);
      moment = subst (λ n. n ≤ 2 ^ 62) (sym is.moment) early;
      client_order = subst AreInOrder (sym is.clients) (none_of_none (λ c d. c.number < d.number));
      room_order = subst (IsAscendingBy topic_name) (sym is.rooms) (none_of_none (λ (a b : Room). IsTrue (is_before (topic_name a) (topic_name b))));
      rooms = subst (All (IsRoomSound h)) (sym is.rooms) (All-nil (IsRoomSound h));
      members = subst (All (λ (r : Room). All (AreMembers h.clients.items (topic_name r)) r.stalls.items)) (sym is.rooms) (All-nil (λ (r : Room). All (AreMembers h.clients.items (topic_name r)) r.stalls.items));
      channels = subst (All (HasItsChannel h)) (sym is.clients) (All-nil (HasItsChannel h));
      ready = subst (All AsksForNone) (sym is.clients) (All-nil AsksForNone);
      past = subst (All (IsPast h.moment)) (sym is.rooms) (All-nil (IsPast h.moment));
    }

pub empty_opens : (o : Options) (e m : ℕ) (h : Hall) (files : Files) → IsEmptyHall o e m h → StandsFor h files (empty_state o e m)
empty_opens o e m h files is =
    let moment = is.moment in
    record {
      options = sym is.options;
      epoch = sym is.epoch;
      ids_used = sym is.ids_used;
      moment = omega (arith, moment);
      stopped = sym is.stopped;
      clients = sym is.clients;
      topics = subst (λ rooms. Pairwise (IsRoomOf files) rooms []) (sym is.rooms) tt;
    }

pub empty_stands : (o : Options) (e m : ℕ) (h : Hall) (files : Files) → IsEmptyHall o e m h → IsUnused files → HoldsFor h files (empty_state o e m)
empty_stands o e m h files is unused = record {
  stands = empty_opens o e m h files is;
  idle = record { topics = λ name named none. unused.topics name named; channels = λ topic channel t c none. unused.channels topic channel t c };
}

-- a queue as it is made has its name, and is saved
pub fresh_some : (b : Bool) (name : List ℕ) (o : QueueOptions) → is_some (if not b then Some (fresh_queue name o) else None) ≡ not b
fresh_some true name o = refl
fresh_some false name o = refl

pub fresh_name : (b : Bool) (name : List ℕ) (o : QueueOptions) → IfSome (if b then Some (fresh_queue name o) else None) (λ (q : Queue). q.name ≡ name)
fresh_name true name o = refl
fresh_name false name o = tt

pub fresh_options : (b : Bool) (name : List ℕ) (o : QueueOptions) → HasOptions o (if b then Some (fresh_queue name o) else None)
fresh_options true name o = refl
fresh_options false name o = tt

pub fresh_saved : (b : Bool) (name : List ℕ) (o : QueueOptions) → QueueIsSaved (if b then Some (fresh_queue name o) else None)
fresh_saved true name o = record { none = refl; positions = refl; sound = λ failed. absurd cc }
fresh_saved false name o = tt

pub fresh_named : (name : List ℕ) (o : Options) → IsNamed name (fresh_topic name o).backlog
fresh_named name o = record { durable = fresh_some (is_ephemeral name) name (queue_options o); queue = fresh_name (not (is_ephemeral name)) name (queue_options o) }

-- a topic as it is made is sound
pub fresh_room_sound : (h : Hall) (topic : List ℕ) (r : Room) → IsFreshRoom topic h.options r → IsRoomSound h r
fresh_room_sound h topic r f =
    let name : topic_name r ≡ topic = ap (λ (q : TopicSeen). q.name) f.queue in
    record {
      named = subst IsName (sym name) f.named;
      settled = ap (λ (q : TopicSeen). q.backlog.lent) f.queue;
      backlog = subst (λ (q : TopicSeen). IsNamed q.name q.backlog) (sym f.queue) (fresh_named topic h.options);
      capacity = ap (λ (q : TopicSeen). q.backlog.capacity) f.queue;
      limits = subst (λ (q : TopicSeen). HasOptions (queue_options h.options) q.backlog.queue) (sym f.queue) (fresh_options (not (is_ephemeral topic)) topic (queue_options h.options));
      names = subst (λ o. IfSome o (λ names. names ≡ (topic_name r, stall_names r) ∷ [])) (sym f.names) tt;
      order = subst (IsAscendingBy channel_name) (sym f.stalls) (none_of_none (λ (a b : Stall). IsTrue (is_before (channel_name a) (channel_name b))));
      stalls = subst (All (IsStallSound h.options (topic_name r) h.quiet_until h.unsaved_from)) (sym f.stalls) (All-nil (IsStallSound h.options (topic_name r) h.quiet_until h.unsaved_from));
      owed = subst (λ (q : TopicSeen). All (λ name. IsSome (stall_in r.stalls.items name)) (owed_of q.head)) (sym f.queue) (All-nil (λ name. IsSome (stall_in r.stalls.items name)));
      marked = subst (λ since. IsMarked h.unsaved_from since r.queue.backlog.queue) (sym f.since)
          (record { saved = λ none. subst (λ (q : TopicSeen). QueueIsSaved q.backlog.queue) (sym f.queue) (fresh_saved (not (is_ephemeral topic)) topic (queue_options h.options)); later = tt });
      listed = λ l. absurd (false≢true (sym f.listed ∙ l));
      rests = λ l.
          ap (λ (q : TopicSeen). is_none q.head && (q.paused || (is_empty r.stalls.items || has_none_waiting r))) f.queue ∙ ap (λ (xs : List Stall). is_empty xs || has_none_waiting r) f.stalls;
    }

-- a topic with no mark, nor any of its channels
pub no_mark : (at : ℕ) (since : Option ℕ) → since ≡ None → IfSome since (λ m. m ≤ at)
no_mark at since e = subst (λ o. IfSome o (λ m. m ≤ at)) (sym e) tt

pub fresh_past : (at : ℕ) (r : Room) → r.since ≡ None → All (λ (s : Stall). s.since ≡ None) r.stalls.items → IsPast at r
fresh_past at r since stalls = record {
  room = no_mark at r.since since;
  stalls = All-weaker (λ (s : Stall). s.since ≡ None) (λ (s : Stall). IfSome s.since (λ m. m ≤ at)) (λ s e. no_mark at s.since e) r.stalls.items stalls;
}

-- what is found of both
pub both_some : {X Y : Type 0} (R : X → Y → Type 0) (x : X) (o : Option Y) → IfBoth R (Some x) o → (y : Y) × (o ≡ Some y) × R x y
both_some R x None h = absurd h
both_some R x (Some y) h = (y, refl, h)

pub both_none : {X Y : Type 0} (R : X → Y → Type 0) (o : Option Y) → IfBoth R None o → o ≡ None
both_none R None h = refl
both_none R (Some y) h = absurd h

-- the topics of a name in the hall and in a state belong together
topics_found : (h : Hall) (files : Files) (s : State) (topic : List ℕ) → HoldsFor h files s → IfBoth (IsRoomOf files) (room_in h.rooms.items topic) (topic_of s topic)
topics_found h files s topic holds =
    pairs_found (IsRoomOf files) (λ r. bytes_eq topic (topic_name r)) (λ (t : Topic). bytes_eq topic t.name) h.rooms.items s.topics (λ a b r. ap (bytes_eq topic) (sym (room_named files a b r))) holds.stands.topics

pub topic_there : (h : Hall) (files : Files) (s : State) (topic : List ℕ) (room : Room) → HoldsFor h files s → room_in h.rooms.items topic ≡ Some room → (t : Topic) × (topic_of s topic ≡ Some t) × IsRoomOf files room t
topic_there h files s topic room holds there = both_some (IsRoomOf files) room (topic_of s topic) (subst (λ o. IfBoth (IsRoomOf files) o (topic_of s topic)) there (topics_found h files s topic holds))

pub no_topic : (h : Hall) (files : Files) (s : State) (topic : List ℕ) → HoldsFor h files s → room_in h.rooms.items topic ≡ None → topic_of s topic ≡ None
no_topic h files s topic holds none = both_none (IsRoomOf files) (topic_of s topic) (subst (λ o. IfBoth (IsRoomOf files) o (topic_of s topic)) none (topics_found h files s topic holds))

pub some_at : {X : Type 0} (xs : List X) (i : ℕ) → i < length xs → (x : X) × (slice_get xs i ≡ Some x)
some_at [] i l = absurd (let no : ⊥ = omega (arith, l) in no)
some_at (x ∷ xs) i l = (get_or (x ∷ xs) i x, slice_get-get_or (x ∷ xs) i x l)

-- the topic is there already
module _ (h : Hall) (topic : List ℕ) (i : ℕ) (stands : StandsAt topic_name h.rooms.items topic i) where
  there : (r : Room) × (slice_get h.rooms.items i ≡ Some r)
  there = some_at h.rooms.items i stands.in_range

  found : room_in h.rooms.items topic ≡ Some there.0
  found = found_standing topic_name h.rooms.items topic i there.0 stands ∙ ap Some (get_or_from_slice_get h.rooms.items i there.0 there.0 there.1)

  same : h.rooms.items ≡ put_room h.rooms.items there.0
  same =
      let is : get_or h.rooms.items i there.0 ≡ there.0 = get_or_from_slice_get h.rooms.items i there.0 there.0 there.1 in
      sym (subst (λ (r : Room). put_room h.rooms.items r ≡ h.rooms.items) is (put_itself topic_name h.rooms.items i there.0 (subst (λ k. StandsAt topic_name h.rooms.items k i) (sym (stands.is_key there.0)) stands)))

  pub makes_there : MakesRoom topic h h
  makes_there = was_there there.0 found refl refl

  pub there_stands : (files : Files) (s : State) → HoldsFor h files s → (t : State) × (t ≡ made_topic s topic) × HoldsFor h files t
  there_stands files s holds =
      let t = topic_there h files s topic there.0 holds found in
      let name : topic ≡ topic_name there.0 = exact_bytes topic (topic_name there.0) (find_passes (λ r. bytes_eq topic (topic_name r)) h.rooms.items there.0 found) in (
        with_topic s t.0,
        ap (λ o. with_topic s (unwrap_or o (new_topic topic))) (sym t.1),
        holds_put_room h h files s there.0 t.0 (else_stays h h refl) same t.2
            (λ channel none. ap (λ n. stall_at h.rooms.items n channel) (sym name) ∙ ap (option_and_then (λ (r : Room). stall_in r.stalls.items channel)) found ∙ none) holds,
      )

-- or it is made
module _ (h h' : Hall) (topic : List ℕ) (r : Room) (rest : IsElse h h') (none : room_in h.rooms.items topic ≡ None) (fresh : IsFreshRoom topic h.options r) (rooms : h'.rooms.items ≡ put_room h.rooms.items r) where
  new_name : topic_name r ≡ topic
  new_name = ap (λ (q : TopicSeen). q.name) fresh.queue

  none_there : (channel : List ℕ) → stall_at h.rooms.items (topic_name r) channel ≡ None
  none_there channel = ap (λ n. stall_at h.rooms.items n channel) new_name ∙ ap (option_and_then (λ (x : Room). stall_in x.stalls.items channel)) none

  pub new_sound : IsSound h → h'.quiet_until ≤ h.quiet_until → h'.unsaved_from ≤ h.unsaved_from → ((name : List ℕ) → Contains h.pending.items name → Contains h'.pending.items name) → IsSound h'
  new_sound sound quiet unsaved pending =
      let options : h'.options ≡ h.options = ap (λ (x : Hall). x.options) rest in
      sound_put_room h h' r (record {
        sound = sound;
        keeps = else_keeps h h' sound rest quiet unsaved pending;
        rooms = rooms;
        room = fresh_room_sound h' topic r (subst (λ o. IsFreshRoom topic o r) (sym options) fresh);
        past = fresh_past h'.moment r fresh.since (subst (All (λ (s : Stall). s.since ≡ None)) (sym fresh.stalls) (All-nil (λ (s : Stall). s.since ≡ None)));
        members = subst (All (AreMembers h.clients.items (topic_name r))) (sym fresh.stalls) (All-nil (AreMembers h.clients.items (topic_name r)));
        channels = λ channel has. absurd (false≢true (sym (ap is_some (none_there channel)) ∙ has));
      })

  pub new_stands : (files : Files) (s : State) → (BeginsIdle files topic → IsRoomOf files r (new_topic topic)) → HoldsFor h files s → (t : State) × (t ≡ made_topic s topic) × HoldsFor h' files t
  new_stands files s of holds = (
    with_topic s (new_topic topic),
    ap (λ o. with_topic s (unwrap_or o (new_topic topic))) (sym (no_topic h files s topic holds none)),
    holds_put_room h h' files s r (new_topic topic) (else_stays h h' rest) rooms (of (λ durable. holds.idle.topics topic (fresh.named, durable) none)) (λ channel gone. none_there channel) holds,
  )

-- what is inserted where it belongs stands there
pub stands_inserted : {X : Type 0} (key : X → List ℕ) (xs : List X) (x : X) (i : ℕ) → IsAscendingBy key xs → BelongsAt key xs (key x) i → StandsAt key (put_by key xs x) (key x) i
stands_inserted key xs x i up h =
    standing_at key (put_by key xs x) i x (IsAscendingBy-put_by key xs x up) (subst (λ ys. slice_get ys i ≡ Some x) (sym (put_by-belongs key xs x i h)) (inserted_at xs i x h.in_range))

-- room is made, and then the topic is put in
module _ (h0 h1 h2 : Hall) (topic : List ℕ) (i : ℕ) (r : Room) (unsaved : Bool) (rest1 : h1 ≡ record h0 { rooms = h1.rooms; pending = h1.pending }) (rest2 : h2 ≡ record h1 { rooms = h2.rooms; unsaved_names = unsaved })
    (rooms1 : h1.rooms.items ≡ h0.rooms.items) (rooms2 : h2.rooms.items ≡ put_room h1.rooms.items r) (pending1 : h1.pending.items ≡ h0.pending.items) (place : BelongsAt topic_name h0.rooms.items topic i) (sound : IsSound h0) (fresh : IsFreshRoom topic h0.options r) where
  pub added_else : IsElse h0 h2
  added_else =
      ap (λ (x : Hall). record x { rooms = h2.rooms; pending = h2.pending; unsaved_names = h2.unsaved_names; quiet_until = h2.quiet_until; unsaved_from = h2.unsaved_from }) rest2
      ∙ ap (λ (x : Hall). record x { rooms = h2.rooms; pending = h2.pending; unsaved_names = h2.unsaved_names; quiet_until = h2.quiet_until; unsaved_from = h2.unsaved_from }) rest1

  added_rooms : h2.rooms.items ≡ put_room h0.rooms.items r
  added_rooms = rooms2 ∙ ap (λ xs. put_room xs r) rooms1

  added_name : topic_name r ≡ topic
  added_name = ap (λ (q : TopicSeen). q.name) fresh.queue

  none_before : room_in h0.rooms.items topic ≡ None
  none_before = none_belonging topic_name h0.rooms.items topic i place

  pub added_there : IsThere topic_name h2.rooms.items topic i
  added_there =
      there_standing topic_name h2.rooms.items topic i
      (subst (λ k. StandsAt topic_name h2.rooms.items k i) added_name
      (subst (λ xs. StandsAt topic_name xs (topic_name r) i) (sym added_rooms) (stands_inserted topic_name h0.rooms.items r i sound.room_order (subst (λ k. BelongsAt topic_name h0.rooms.items k i) (sym added_name) place))))

  pub added_made : unsaved ≡ (h1.unsaved_names || not (is_ephemeral (topic_name r))) → MakesRoom topic h0 h2
  added_made e =
      is_new r none_before fresh added_rooms
      (ap (λ (x : Hall). x.unsaved_names) rest2 ∙ e ∙ ap (λ (x : Hall). x.unsaved_names || not (is_ephemeral (topic_name r))) rest1 ∙ ap (λ n. h0.unsaved_names || not (is_ephemeral n)) added_name)

  pub added_sound : IsSound h2
  added_sound =
      let quiet : h2.quiet_until ≡ h0.quiet_until = ap (λ (x : Hall). x.quiet_until) rest2 ∙ ap (λ (x : Hall). x.quiet_until) rest1 in
      let from : h2.unsaved_from ≡ h0.unsaved_from = ap (λ (x : Hall). x.unsaved_from) rest2 ∙ ap (λ (x : Hall). x.unsaved_from) rest1 in
      let names : h2.pending.items ≡ h0.pending.items = ap (λ (x : Hall). x.pending.items) rest2 ∙ pending1 in
      new_sound h0 h2 topic r added_else none_before fresh added_rooms sound (omega (arith, quiet)) (omega (arith, from)) (λ name has. subst (λ (xs : List (List ℕ)). Contains xs name) (sym names) has)

  pub added_stands : (files : Files) (s : State) → (BeginsIdle files topic → IsRoomOf files r (new_topic topic)) → HoldsFor h0 files s → (t : State) × (t ≡ made_topic s topic) × HoldsFor h2 files t
  added_stands files s of holds = new_stands h0 h2 topic r added_else none_before fresh added_rooms files s of holds

-- a topic that was made once there was room for it is as it would have been made before
pub fresh_before : (h h' : Hall) (topic : List ℕ) (r : Room) → h' ≡ record h { rooms = h'.rooms; pending = h'.pending } → IsFreshRoom topic h'.options r → IsFreshRoom topic h.options r
fresh_before h h' topic r rest fresh = subst (λ (o : Options). IsFreshRoom topic o r) (ap (λ (x : Hall). x.options) rest) fresh

-- what a queue's last save left stands as it is made, where it would begin with nothing
pub fresh_stands : (b : Bool) (queue : Option Queue) (name : List ℕ) (o : QueueOptions) (files : Files) (idle : Type 0) → queue ≡ (if not b then Some (fresh_queue name o) else None) → (idle → Stands queue files) → (b ≡ false → idle) → Stands queue files
fresh_stands true queue name o files idle e f g = subst (λ q. Stands q files) (sym e) tt
fresh_stands false queue name o files idle e f g = f (g refl)

pub fresh_room_of : (files : Files) (topic : List ℕ) (o : Options) (r : Room) (q : TopicSeen) → r.queue ≡ q → r.stalls.items ≡ [] → q ≡ fresh_topic topic o → IsTopicOf q files (new_topic topic) → (IsIdle (files (meta_file topic)) → Stands q.backlog.queue files) → BeginsIdle files topic
    → IsRoomOf files r (new_topic topic)
fresh_room_of files topic o r q same none is of stands idle = record {
  queue = subst (λ (x : TopicSeen). IsTopicOf x files (new_topic topic)) (sym same) of;
  stands = subst (λ (x : TopicSeen). Stands x.backlog.queue files) (sym same)
      (fresh_stands (is_ephemeral topic) q.backlog.queue topic (queue_options o) files (IsIdle (files (meta_file topic))) (ap (λ (x : TopicSeen). x.backlog.queue) is) stands idle);
  channels = subst (λ xs. Pairwise (IsStallOf files) xs []) (sym none) tt;
  delays = All-nil (λ w. w.message.delay ≤ longest_delay);
  taken = tt;
}
