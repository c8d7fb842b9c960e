-- A topic that is made for messages comes into the hall with them, or doesn't come, as its queue's files change.
use Rattle.std.proofs.Common.{◌≡◌, ◌≢◌, inl, ◌≤◌, ◌+◌, min, ℕ, Bool, true, false, not, ◌&&◌, ◌||◌, if◌then◌else◌, List, [], ◌∷◌, length, Option, Some, None, refl, sym, ap, subst, ◌∙◌, arith}
use Rattle.std.specs.Prelude.{IfSome, IsSome, IsTrue, is_none, is_some, option_and_then, unwrap_or}
use Rattle.std.specs.List.{All, Contains}
use Rattle.std.specs.Str.{bytes_eq}
use Rattle.std.proofs.lemmas.Bool.{false≢true}
use Rattle.std.proofs.lemmas.List.Elements.{All-nil, All-weaker}
use Rattle.nsq_base.specs.Name.{IsName, is_ephemeral}
use Rattle.nsq_base.specs.Names.{put_by}
use Rattle.nsq_base.specs.declared.options.Options.{Options}
use Rattle.nsq_outside.specs.Files.{Files}
use Rattle.queue_files.specs.declared.options.QueueOptions.{QueueOptions}
use Rattle.queue_image.specs.FileNames.{meta_file}
use Rattle.queue_image.specs.Metas.{IsIdle}
use Rattle.path_image.specs.Found.{Pairwise}
use Rattle.v2_frame.specs.declared.message.Message.{Message}
use Rattle.disk_queue.specs.Seen.{Seen as Queue, forgotten, fresh_queue}
use Rattle.disk_queue.specs.Holding.{SaveStands}
use Rattle.backlog.specs.Seen.{QueueUnstages}
use Rattle.backlog.specs.Lists.{DiskChanges, Stands}
use Rattle.backlog.specs.declared.answers.PutAll.TheVariants.{Done as AllDone}
use Rattle.broker_history.specs.State.{Channel, State, Topic, is_empty, new_topic, topic_or_new, with_topic}
use Rattle.broker_history.proofs.Lists.{exact_bytes, find_put, same_bytes}
use Rattle.topic_core.specs.Seen.{Seen as TopicSeen, owed_of, queue_options}
use Rattle.topic_core.specs.Rows.{put_messages}
use Rattle.channel_core.specs.Seen.{queue_name}
use Rattle.floor_laws.proofs.Pairs.{pairs_become, pairs_put}
use Rattle.floor_rooms.specs.declared.stall.Stall.{Stall}
use Rattle.floor_rooms.specs.declared.room.Room.{Room}
use Rattle.floor_rooms.specs.declared.hall.Hall.{Hall}
use Rattle.floor_rooms.specs.Rooms.{channel_name, put_room, room_in, stall_at, stall_in, stall_names, topic_name}
use Rattle.floor_rooms.specs.Sound.{AreMembers, IsRoomSound, IsSound, has_none_waiting, rests}
use Rattle.floor_rooms.specs.Standing.{HoldsFor, IsDurableTopic, IsRoomOf, IsStallOf, longest_delay}
use Rattle.floor_rooms.specs.Changes.{OnlyQueueFiles, OthersStay, TouchesRoom}
use Rattle.floor_rooms.specs.Made.{BeginsIdle, IsFreshRoom}
use Rattle.floor_rooms.proofs.Staying.{IsElsewhere, idle_stays, others_stay, room_named, room_stays, topic_is_no_channel}
use Rattle.floor_rooms.proofs.Changing.{IsNamedRoom, apart_names, named_room, none_one}
use Rattle.floor_rooms.proofs.Sounding.{Lowers, room_touched, sound_put_room}
use Rattle.floor_rooms.proofs.Holding.{StaysElse}
use Rattle.floor_rooms.proofs.Marked.{IsElse, else_keeps, else_stays}
use Rattle.floor_rooms.proofs.Forming.{fresh_name, fresh_room_sound, no_topic}
use Rattle.floor_rooms.proofs.Filing.{only_of_topic}
use Rattle.floor_topics.specs.Publishing.{FillsRoom, Refuses, put_into}
use Rattle.floor_topics.proofs.Bodies.{put_delays, put_keeps}
use Rattle.floor_topics.proofs.Frames.{ids_hold}
use Rattle.floor_topics.proofs.Putting.{same_capacity}

-- a queue that was made and took nothing would begin with nothing
kept_off : (q r : Queue) (begun : Bool) (files : Files) → r ≡ forgotten (record q { begun = begun }) → q.saved.finished ≡ false → q.saved.failed ≡ false → SaveStands r files → IsIdle (files (meta_file q.name))
kept_off q r begun files is finished failed stands =
    let there : SaveStands (forgotten (record q { begun = begun })) files = subst (λ x. SaveStands x files) is stands in
    there.unsaved (λ e. false≢true (sym finished ∙ e)) (λ e. false≢true (sym failed ∙ e))

pub unstaged_idle : (queue after : Option Queue) (name : List ℕ) (o : QueueOptions) (files : Files) → queue ≡ Some (fresh_queue name o) → QueueUnstages queue after → Stands after files → IsIdle (files (meta_file name))
unstaged_idle None after name o files is unstages stands = absurd unstages
unstaged_idle (Some q) None name o files is unstages stands = absurd unstages
unstaged_idle (Some q) (Some r) name o files is unstages stands =
    let same : q ≡ fresh_queue name o = cc in
    subst (λ (x : Queue). IsIdle (files (meta_file x.name))) same (kept_off q r unstages.begun files unstages.is (ap (λ (x : Queue). x.saved.finished) same) (ap (λ (x : Queue). x.saved.failed) same) stands)

some_queue : (b : Bool) (q : Queue) → b ≡ false → (if not b then Some q else None) ≡ Some q
some_queue true q e = absurd (false≢true (sym e))
some_queue false q e = refl

-- a topic that isn't in the hall is the only one whose files change
module _ (h : Hall) (old new : Files) (s : State) (topic : List ℕ) (sound : IsSound h) (holds : HoldsFor h old s) (absent : All (λ r. bytes_eq topic (topic_name r) ≡ false) h.rooms.items) (none : room_in h.rooms.items topic ≡ None) (named : IsName topic) (others : OthersStay topic old new) where
  no_own : (t k : List ℕ) → queue_name t k ≢ topic
  no_own t k e = topic_is_no_channel topic t k named (sym e)

  other_one : (a : Room) (b : Topic) → IsNamedRoom a → (bytes_eq topic (topic_name a) ≡ false) × IsRoomOf old a b → IsRoomOf new a b
  other_one a b n x =
      room_stays old new topic a b others n.queue (apart_names topic (topic_name a) x.0)
      (All-weaker (λ k. IfSome k.channel.backlog.queue (λ q. q.name ≡ queue_name (topic_name a) (channel_name k))) (IsElsewhere (topic_name a) topic) (λ k q. (q, no_own (topic_name a) (channel_name k))) a.stalls.items n.stalls) x.1

  -- all topics of the hall stay what they were
  rooms_stay : Pairwise (IsRoomOf new) h.rooms.items s.topics
  rooms_stay =
      let Apart : Room → Type 0 = λ a. bytes_eq topic (topic_name a) ≡ false in
      let Both : Room → Topic → Type 0 = λ a b. Apart a × IsRoomOf old a b in
      pairs_become Both (IsRoomOf new) IsNamedRoom h.rooms.items s.topics other_one (All-weaker (IsRoomSound h) IsNamedRoom (named_room h) h.rooms.items sound.rooms)
      (pairs_become (IsRoomOf old) Both Apart h.rooms.items s.topics (λ a b p r. (p, r)) absent holds.stands.topics)

  idle_name : (IsDurableTopic topic → IsIdle (new (meta_file topic))) → (name : List ℕ) → IsDurableTopic name → room_in h.rooms.items name ≡ None → (b : Bool) → bytes_eq topic name ≡ b → IsIdle (new (meta_file name))
  idle_name idle name durable gone true e =
      let same : topic ≡ name = exact_bytes topic name e in
      subst (λ n. IsIdle (new (meta_file n))) same (idle (subst IsDurableTopic (sym same) durable))
  idle_name idle name durable gone false e = idle_stays old new topic name others (apart_names topic name e) (holds.idle.topics name durable gone)

  -- where its queue would begin with nothing still, the hall stands for the same states
  pub stays_out : (IsDurableTopic topic → IsIdle (new (meta_file topic))) → HoldsFor h new s
  stays_out idle = record {
    stands = record {
      options = holds.stands.options;
      epoch = holds.stands.epoch;
      ids_used = holds.stands.ids_used;
      moment = holds.stands.moment;
      stopped = holds.stands.stopped;
      clients = holds.stands.clients;
      topics = rooms_stay;
    };
    idle = record {
      topics = λ name durable gone. idle_name idle name durable gone (bytes_eq topic name) refl;
      channels = λ t k nt nk gone. idle_stays old new topic (queue_name t k) others (no_own t k) (holds.idle.channels t k nt nk gone);
    };
  }

  back_one : {X Y : Type 0} (f : X → Option Y) (x : X) (o : Option X) (b : Bool) → (b ≡ true → o ≡ None) → option_and_then f (if b then Some x else o) ≡ None → option_and_then f o ≡ None
  back_one f x o true g e = ap (option_and_then f) (g refl)
  back_one f x o false g e = e

  -- where it comes into the hall, it comes into each state
  pub comes_in : (h' : Hall) (r : Room) (t : Topic) → StaysElse h h' → h'.rooms.items ≡ put_room h.rooms.items r → topic_name r ≡ topic → IsRoomOf new r t → HoldsFor h' new (with_topic s t)
  comes_in h' r t else_same rooms called of =
      let earlier = holds.stands.moment in
      let later = else_same.moment in
      let found : (name : List ℕ) → room_in h'.rooms.items name ≡ (if bytes_eq name (topic_name r) then Some r else room_in h.rooms.items name) = λ name. ap (λ xs. room_in xs name) rooms ∙ find_put topic_name h.rooms.items r name in
      record {
        stands = record {
          options = holds.stands.options ∙ sym else_same.options;
          epoch = holds.stands.epoch ∙ sym else_same.epoch;
          ids_used = holds.stands.ids_used ∙ sym else_same.ids_used;
          moment = omega (arith, earlier, later);
          stopped = holds.stands.stopped ∙ sym else_same.stopped;
          clients = holds.stands.clients ∙ sym else_same.clients;
          topics = subst (λ xs. Pairwise (IsRoomOf new) xs (put_by (λ (u : Topic). u.name) s.topics t)) (sym rooms)
              (pairs_put topic_name (λ (u : Topic). u.name) (IsRoomOf new) (IsRoomOf new) r t h.rooms.items s.topics (λ a b x. room_named new a b x) (λ a b apart x. x) (room_named new r t of) of rooms_stay);
        };
        idle = record {
          topics = λ name durable gone.
              let before = none_one r (room_in h.rooms.items name) (bytes_eq name (topic_name r)) (sym (found name) ∙ gone) in
              idle_stays old new topic name others (λ e. false≢true (sym before.0 ∙ ap (bytes_eq name) (called ∙ sym e) ∙ same_bytes name)) (holds.idle.topics name durable before.1);
          channels = λ t k nt nk gone.
              let within : Room → Option Stall = λ x. stall_in x.stalls.items k in
              let before : stall_at h.rooms.items t k ≡ None =
              back_one within r (room_in h.rooms.items t) (bytes_eq t (topic_name r)) (λ e. ap (room_in h.rooms.items) (exact_bytes t (topic_name r) e ∙ called) ∙ none) (ap (option_and_then within) (sym (found t)) ∙ gone) in
              idle_stays old new topic (queue_name t k) others (no_own t k) (holds.idle.channels t k nt nk before);
        };
      }

lowers_itself : (h : Hall) → Lowers h h
lowers_itself h = record { options = refl; quiet = omega arith; unsaved = omega arith; pending = λ name has. has }

-- a fresh topic has the queue of its name
fresh_queue_named : (topic : List ℕ) (o : Options) (fresh : Room) → IsFreshRoom topic o fresh → IfSome fresh.queue.backlog.queue (λ q. q.name ≡ topic)
fresh_queue_named topic o fresh f = subst (λ (q : TopicSeen). IfSome q.backlog.queue (λ x. x.name ≡ topic)) (sym f.queue) (fresh_name (not (is_ephemeral topic)) topic (queue_options o))

pub fresh_others : (topic : List ℕ) (o : Options) (fresh : Room) (old new : Files) → IsFreshRoom topic o fresh → DiskChanges fresh.queue.backlog.queue old new → OthersStay topic old new
fresh_others topic o fresh old new f change = others_stay fresh.queue.backlog.queue topic old new (fresh_queue_named topic o fresh f) change

pub fresh_files : (topic : List ℕ) (o : Options) (fresh : Room) (old new : Files) → IsFreshRoom topic o fresh → DiskChanges fresh.queue.backlog.queue old new → OnlyQueueFiles old new
fresh_files topic o fresh old new f change = only_of_topic topic fresh.queue.backlog.queue old new f.named (fresh_queue_named topic o fresh f) change

-- one into which messages were put, with a mark
module _ (h : Hall) (tells : Bool) (old new : Files) (ms : List Message) (topic : List ℕ) (o : Options) (fresh room : Room) (m : ℕ) (f : IsFreshRoom topic o fresh) (puts : FillsRoom tells ms AllDone old new fresh room) where
  abbrev pub joins : Room
  joins = record room { since = Some m }

  pub joins_name : topic_name room ≡ topic
  joins_name = ap (λ (q : TopicSeen). q.name) puts.seen.is ∙ ap (λ (q : TopicSeen). q.name) f.queue

  pub joins_stalls : room.stalls.items ≡ []
  joins_stalls = ap (λ (r : Room). r.stalls.items) puts.same ∙ f.stalls

  joins_head : room.queue.head ≡ None
  joins_head = ap (λ (q : TopicSeen). q.head) puts.seen.is ∙ ap (λ (q : TopicSeen). q.head) f.queue

  joins_paused : room.queue.paused ≡ false
  joins_paused = ap (λ (q : TopicSeen). q.paused) puts.seen.is ∙ ap (λ (q : TopicSeen). q.paused) f.queue

  joins_rests : rests room ≡ true
  joins_rests =
      ap (λ t. is_none t && (room.queue.paused || (is_empty room.stalls.items || has_none_waiting room))) joins_head ∙ ap (λ p. p || (is_empty room.stalls.items || has_none_waiting room)) joins_paused
      ∙ ap (λ (xs : List Stall). is_empty xs || has_none_waiting room) joins_stalls

  joins_touches : TouchesRoom (record fresh { since = Some m }) joins
  joins_touches = record {
    name = ap (λ (q : TopicSeen). q.name) puts.seen.is;
    settled = puts.settled;
    queue = puts.queue;
    capacity = same_capacity fresh.queue.backlog room.queue.backlog ms AllDone puts.seen.backlog;
    names = subst (λ n. IfSome n (λ names. names ≡ (topic_name fresh, stall_names fresh) ∷ [])) (sym (ap (λ (r : Room). r.names) puts.same ∙ f.names)) tt;
    stalls = ap (λ (r : Room). r.stalls.items) puts.same;
    owed = subst (λ t. All (λ name. IsSome (stall_in fresh.stalls.items name)) (owed_of t)) (sym joins_head) (All-nil (λ name. IsSome (stall_in fresh.stalls.items name)));
    since = refl;
    marked = inl refl;
    listed = λ l. sym (ap (λ (r : Room). r.listed) puts.same) ∙ l;
    rests = λ l. joins_rests;
  }

  joins_sound : h.options ≡ o → h.unsaved_from ≤ m → IsRoomSound h joins
  joins_sound options within =
      let x : IsRoomSound h fresh = fresh_room_sound h topic fresh (subst (λ p. IsFreshRoom topic p fresh) (sym options) f) in
      let marked : IsRoomSound h (record fresh { since = Some m }) = record {
        named = x.named;
        settled = x.settled;
        backlog = x.backlog;
        capacity = x.capacity;
        limits = x.limits;
        names = x.names;
        order = x.order;
        stalls = x.stalls;
        owed = x.owed;
        marked = record { saved = λ none. absurd (let no : ⊥ = cc in no); later = within };
        listed = x.listed;
        rests = x.rests;
      } in
      room_touched h h (record fresh { since = Some m }) joins (lowers_itself h) marked joins_touches

  -- a hall into which it comes is sound
  pub joined_sound : (h0 : Hall) → IsSound h0 → IsElse h0 h → h.quiet_until ≡ h0.quiet_until → h.pending.items ≡ h0.pending.items → h.unsaved_from ≡ min h0.unsaved_from m → h0.options ≡ o → h0.moment ≡ m → room_in h0.rooms.items topic ≡ None → h.rooms.items ≡ put_room h0.rooms.items joins → IsSound h
  joined_sound h0 sound rest quiet pending from options moment none rooms =
      let earlier : h.unsaved_from ≤ h0.unsaved_from = omega (arith, from) in
      let within : h.unsaved_from ≤ m = omega (arith, from) in
      let now : h.moment ≡ h0.moment = ap (λ (x : Hall). x.moment) rest in
      let absent : (channel : List ℕ) → stall_at h0.rooms.items (topic_name room) channel ≡ None =
      λ channel. ap (λ n. stall_at h0.rooms.items n channel) joins_name ∙ ap (option_and_then (λ (x : Room). stall_in x.stalls.items channel)) none in
      sound_put_room h0 h joins (record {
        sound = sound;
        keeps = else_keeps h0 h sound rest (omega (arith, quiet)) earlier (λ name has. subst (λ (names : List (List ℕ)). Contains names name) (sym pending) has);
        rooms = rooms;
        room = joins_sound (ap (λ (x : Hall). x.options) rest ∙ options) within;
        past = record {
          room = omega (arith, moment, now);
          stalls = subst (All (λ (s : Stall). IfSome s.since (λ k. k ≤ h.moment))) (sym joins_stalls) (All-nil (λ (s : Stall). IfSome s.since (λ k. k ≤ h.moment)));
        };
        members = subst (All (AreMembers h0.clients.items (topic_name room))) (sym joins_stalls) (All-nil (AreMembers h0.clients.items (topic_name room)));
        channels = λ channel has. absurd (false≢true (sym (ap is_some (absent channel)) ∙ has));
      })

  -- it is a new topic of the state, with the messages
  joined_of : IsTrue tells → All (λ w. w.delay ≤ longest_delay) ms → IsRoomOf old fresh (new_topic topic) → IsRoomOf new joins (put_messages fresh.queue.backlog.capacity (new_topic topic) ms)
  joined_of told short of =
      let mem : ℕ = fresh.queue.backlog.capacity in
      let keeps = put_keeps mem (new_topic topic) ms in
      record {
        queue = puts.row told (new_topic topic) of.queue;
        stands = puts.stands told of.stands;
        channels = subst (λ xs. Pairwise (IsStallOf new) xs (put_messages mem (new_topic topic) ms).channels) (sym joins_stalls) (subst (λ (ks : List Channel). Pairwise (IsStallOf new) [] ks) (sym keeps.channels) tt);
        delays = put_delays mem (new_topic topic) ms short of.delays;
        taken = subst (λ t. IfSome t (λ x. x.message.delay ≤ longest_delay)) (sym keeps.taken) of.taken;
      }

  pub joined_counted : (h0 : Hall) → IsSound h0 → IsElse h0 h → h0.options ≡ o → All (λ r. bytes_eq topic (topic_name r) ≡ false) h0.rooms.items → room_in h0.rooms.items topic ≡ None → h.rooms.items ≡ put_room h0.rooms.items joins → IsTrue tells
      → All (λ w. w.delay ≤ longest_delay) ms → (BeginsIdle old topic → IsRoomOf old fresh (new_topic topic)) → (count : ℕ) → count ≡ length ms → (s : State) → HoldsFor h0 old s → (t : State) × (t ≡ put_into s topic ms) × HoldsFor (record h { ids_used = h.ids_used + count }) new t
  joined_counted h0 sound rest options absent none rooms told short made count all s holds =
      let of = made (λ durable. holds.idle.topics topic (f.named, durable) none) in
      let t : Topic = put_messages fresh.queue.backlog.capacity (new_topic topic) ms in
      let there : HoldsFor h new (with_topic s t) =
      comes_in h0 old new s topic sound holds absent none f.named (fresh_others topic o fresh old new f (puts.others told)) h joins t (else_stays h0 h rest) rooms joins_name (joined_of told short of) in
      let mem : fresh.queue.backlog.capacity ≡ s.options.mem_queue_size =
      ap (λ (q : TopicSeen). q.backlog.capacity) f.queue ∙ ap (λ (x : Options). x.mem_queue_size) (sym options) ∙ ap (λ (x : Options). x.mem_queue_size) (sym holds.stands.options) in
      let is : t ≡ put_messages s.options.mem_queue_size (topic_or_new s topic) ms =
      ap (λ n. put_messages n (new_topic topic) ms) mem ∙ ap (λ (u : Option Topic). put_messages s.options.mem_queue_size (unwrap_or u (new_topic topic)) ms) (sym (no_topic h0 old s topic holds none)) in (
        record (with_topic s t) { ids_used = s.ids_used + length ms },
        ap (λ (u : Topic). with_topic (record s { ids_used = s.ids_used + length ms }) u) is,
        ids_hold h new (with_topic s t) count (length ms) all there,
      )

-- one that was refused was no topic of any state
pub refused_stays : (h : Hall) (tells : Bool) (old new : Files) (topic : List ℕ) (fresh : Room) → IsSound h → IsFreshRoom topic h.options fresh → Refuses tells fresh.queue.backlog.queue old new → All (λ r. bytes_eq topic (topic_name r) ≡ false) h.rooms.items → room_in h.rooms.items topic ≡ None → IsTrue tells
    → (BeginsIdle old topic → IsRoomOf old fresh (new_topic topic)) → (s : State) → HoldsFor h old s → HoldsFor h new s
refused_stays h tells old new topic fresh sound f refuses absent none told made s holds =
    let of = made (λ durable. holds.idle.topics topic (f.named, durable) none) in
    stays_out h old new s topic sound holds absent none f.named (fresh_others topic h.options fresh old new f (refuses.others told))
    (λ durable.
    unstaged_idle fresh.queue.backlog.queue refuses.after topic (queue_options h.options) new (ap (λ (q : TopicSeen). q.backlog.queue) f.queue ∙ some_queue (is_ephemeral topic) (fresh_queue topic (queue_options h.options)) durable.1) refuses.unstages
    (refuses.stands told of.stands))
