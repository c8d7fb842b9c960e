-- A channel that is made and put into a topic of a hall.
use Rattle.std.proofs.Common.{◌≡◌, ◌≤◌, ◌<◌, ◌==◌, ℕ, set, Bool, true, false, not, ◌&&◌, ◌||◌, if◌then◌else◌, nat_eq, List, [], ◌∷◌, map, length, get_or, Option, Some, None, Result, Ok, Err, OnErr, refl, sym, ap, subst, ◌∙◌, arith}
use Rattle.std.specs.Prelude.{HoldsAt, IfSome, IsSome, IsTrue, is_some, is_none, option_and_then, unwrap_or}
use Rattle.std.specs.Global.{Vec}
use Rattle.std.specs.List.{All, AllPairs, Contains, list_any, slice_get}
use Rattle.std.specs.Str.{bytes_eq}
use Rattle.std.proofs.lemmas.Bool.{false≢true}
use Rattle.std.proofs.lemmas.List.{get_or-set_same, length-set, set-set}
use Rattle.std.proofs.lemmas.List.Elements.{All-cons, All-nil, All-weaker}
use Rattle.std.proofs.lemmas.Option.{get_or_from_slice_get, slice_get_within}
use Rattle.nsq_base.specs.Name.{IsName, is_ephemeral}
use Rattle.nsq_base.specs.Names.{IsAscendingBy, is_before}
use Rattle.nsq_base.specs.Options.{IsInRange}
use Rattle.nsq_base.specs.Places.{BelongsAt, StandsAt}
use Rattle.nsq_base.specs.declared.options.Options.{Options}
use Rattle.nsq_base.proofs.PutBy.{All-put_by, IsAscendingBy-put_by}
use Rattle.nsq_outside.specs.Files.{Files}
use Rattle.channel_core.specs.QueueOptions.{QueueOptions}
use Rattle.queue_image.specs.FileNames.{meta_file}
use Rattle.queue_image.specs.Metas.{IsIdle}
use Rattle.path_image.specs.Found.{Pairwise}
use Rattle.channel_core.specs.Queues.{fresh_queue}
use Rattle.channel_core.specs.Backlogs.{QueueIsSaved, ring_depth, disk_depth}
use Rattle.channel_core.specs.Lists.{OnDisk, Stands}
use Rattle.broker_history.specs.State.{Client, Phase, Fresh, Subscribed, Closing, Lost, Route, Channel, Topic, State, has_channel, is_empty, is_ephemeral_channel, is_lost, is_on, new_channel, new_topic, channel_of, channel_or_new, with_channel, with_topic}
use Rattle.broker_history.specs.Channels.{IsKept}
use Rattle.broker_history.specs.Changes.{made_channel}
use Rattle.broker_history.proofs.Lists.{exact_bytes, find_put}
use Rattle.topic_core.specs.Kept.{IsNamed}
use Rattle.topic_core.specs.Rows.{IsTopicOf}
use Rattle.topic_core.specs.Seen.{Seen as TopicSeen, fresh_topic, owed_of, queue_options as topic_options}
use Rattle.channel_core.specs.Clients.{client_of}
use Rattle.channel_core.specs.Answers.{all_due}
use Rattle.channel_core.specs.Made.{FitsRun, IsFresh, about_of, queue_options}
use Rattle.channel_core.specs.Seen.{Seen as ChannelSeen, channel_with, queue_name, seen_channel}
use Rattle.floor_rooms.specs.Seen.{held_channel}
use Rattle.floor_laws.proofs.Lifting.{new_kept}
use Rattle.floor_laws.proofs.Pairs.{IfBoth, pairs_found, pairs_put}
use Rattle.floor_rooms.specs.declared.stall.Stall.{Stall}
use Rattle.floor_rooms.specs.declared.room.Room.{Room}
use Rattle.floor_rooms.specs.declared.hall.Hall.{Hall}
use Rattle.floor_rooms.specs.Rooms.{channel_name, topic_name, stall_names, room_in, stall_in, stall_at, put_room, put_stall, client_in}
use Rattle.floor_rooms.specs.Sound.{AreMembers, HasItsChannel, HasOptions, IsMarked, IsPast, IsRoomSound, IsSound, IsStallSound, has_none_waiting, member_of}
use Rattle.floor_rooms.specs.Standing.{HoldsFor, IsRoomOf, IsStallOf, longest_delay}
use Rattle.floor_rooms.specs.Changes.{AtRoom}
use Rattle.floor_rooms.specs.Made.{AddsStall, BeginsIdle, ChannelBeginsIdle, IsFreshStall, IsRoomWith, SameStalls}
use Rattle.floor_rooms.proofs.Placing.{at_place, found_at, found_standing, none_belonging, put_at, put_itself, standing_at}
use Rattle.floor_rooms.proofs.Staying.{other_channels, stall_named}
use Rattle.floor_rooms.proofs.Changing.{all_found}
use Rattle.floor_rooms.proofs.Sounding.{KeepsRest, all_past, at_all, room_lowered, room_past, sound_at_room, sound_put_room}
use Rattle.floor_rooms.proofs.Holding.{holds_at_room, holds_put_room}
use Rattle.floor_rooms.proofs.Marked.{IsElse, ListsRoom, else_keeps, else_stays, now_listed, still_listed}
use Rattle.floor_rooms.proofs.Forming.{both_some, both_none, fresh_name, fresh_named, fresh_options, fresh_past, fresh_saved, fresh_some, fresh_stands, no_mark, no_topic, none_of_none, some_at, topic_there}

-- options in their ranges fit a run
pub fits_run : (o : Options) → IsInRange o → FitsRun o
fits_run o i =
    let msg = i.times.msg_timeout.at_most in
    let most = i.times.max_msg_timeout.at_most in
    record { msg_timeout = omega (arith, msg, most); max_msg_timeout = omega (arith, most) }

-- a channel as it is made is a new one of a state
pub fresh_is_kept : (topic name : List ℕ) (o : Options) (v : ChannelSeen) → IsFresh topic name o v → IsKept (seen_channel v []) (new_channel name)
fresh_is_kept topic name o v f = subst (λ (w : ChannelSeen). IsKept (seen_channel w []) (new_channel name)) (sym f.is) (new_kept (new_channel name) refl)

pub fresh_stall_of : (files : Files) (topic name : List ℕ) (o : Options) (s : Stall) → IsFresh topic name o s.channel → OnDisk s.channel.backlog.queue files [] → (IsIdle (files (meta_file (queue_name topic name))) → Stands s.channel.backlog.queue files) → ChannelBeginsIdle files topic name
    → IsStallOf files s (new_channel name)
fresh_stall_of files topic name o s f disk stands idle = record {
  disk = [];
  on_disk = disk;
  is_kept = fresh_is_kept topic name o s.channel f;
  stands = fresh_stands (is_ephemeral_channel topic name) s.channel.backlog.queue (queue_name topic name) (queue_options o) files (IsIdle (files (meta_file (queue_name topic name)))) (ap (λ (v : ChannelSeen). v.backlog.queue) f.is) stands idle;
}

-- and it is sound
pub fresh_stall_sound : (o : Options) (topic name : List ℕ) (quiet unsaved : ℕ) (s : Stall) → IsFreshStall topic name o s → IsStallSound o topic quiet unsaved s
fresh_stall_sound o topic name quiet unsaved s f =
    let is : s.channel ≡ _ = f.channel.is in
    let called : channel_name s ≡ name = ap (λ (v : ChannelSeen). v.about.name) is in
    let e : Bool = is_ephemeral_channel topic name in
    record {
      about = ap (λ (v : ChannelSeen). v.about) is ∙ ap (λ n. about_of topic n o) (sym called);
      named = subst IsName (sym called) f.named;
      settled = ap (λ (v : ChannelSeen). v.drawn) is;
      durable = ap (λ (v : ChannelSeen). is_some v.backlog.queue) is ∙ fresh_some e (queue_name topic name) (queue_options o) ∙ ap (λ n. not (is_ephemeral_channel topic n)) (sym called);
      queue = subst (λ n. IfSome s.channel.backlog.queue (λ q. q.name ≡ queue_name topic n)) (sym called)
          (subst (λ (v : ChannelSeen). IfSome v.backlog.queue (λ q. q.name ≡ queue_name topic name)) (sym is) (fresh_name (not e) (queue_name topic name) (queue_options o)));
      limits = subst (λ (v : ChannelSeen). HasOptions (queue_options o) v.backlog.queue) (sym is) (fresh_options (not e) (queue_name topic name) (queue_options o));
      calm = λ now before. ap (λ (v : ChannelSeen). all_due now (channel_with v [])) is;
      marked = subst (λ since. IsMarked unsaved since s.channel.backlog.queue) (sym f.since)
          (record { saved = λ none. subst (λ (v : ChannelSeen). QueueIsSaved v.backlog.queue) (sym is) (fresh_saved (not e) (queue_name topic name) (queue_options o)); later = tt });
      members = subst (AllPairs (λ a b. a < b)) (sym f.members) (none_of_none (λ a b. a < b));
    }

-- no client has a channel that isn't there
neither : (b c : Bool) → (b ≡ true → c ≡ true → ⊥) → b && c ≡ false
neither true true f = absurd (f refl refl)
neither true false f = refl
neither false c f = refl

module _ (rooms : List Room) (topic name : List ℕ) (none : stall_at rooms topic name ≡ None) where
  abbrev there_is : Option Route → Type 0
  there_is o = IfSome o (λ (r : Route). IsSome (stall_at rooms r.topic r.channel))

  not_on : (o : Option Route) → there_is o → is_on o topic name ≡ false
  not_on None h = refl
  not_on (Some r) h =
      neither (bytes_eq topic r.topic) (bytes_eq name r.channel)
      (λ e f. let same : stall_at rooms topic name ≡ stall_at rooms r.topic r.channel = ap (λ t. stall_at rooms t name) (exact_bytes topic r.topic e) ∙ ap (stall_at rooms r.topic) (exact_bytes name r.channel f) in
      false≢true (ap is_some (sym none ∙ same) ∙ h))

  has_none : (phase : Phase) (o : Option Route) → there_is (held_channel phase o) → not (is_lost phase) && is_on o topic name ≡ false
  has_none Fresh o h = not_on o h
  has_none Subscribed o h = not_on o h
  has_none Closing o h = not_on o h
  has_none Lost o h = refl

member_none : (topic name : List ℕ) (clients : List Client) (n : ℕ) → ((c : Client) → client_in clients n ≡ Some c → has_channel topic name c ≡ false) → (o : Option Client) → client_in clients n ≡ o → member_of topic name o ≡ None
member_none topic name clients n h None e = refl
member_none topic name clients n h (Some c) e = ap (λ b. if b then Some (record { timeout = c.timeout; ready = c.ready }) else None) (h c e)

pub no_members : (h : Hall) (topic name : List ℕ) (n : ℕ) → IsSound h → stall_at h.rooms.items topic name ≡ None → member_of topic name (client_in h.clients.items n) ≡ None
no_members h topic name n sound none =
    member_none topic name h.clients.items n
    (λ c found. has_none h.rooms.items topic name none c.phase c.route (all_found (HasItsChannel h) (λ (d : Client). d.number == n) h.clients.items c sound.channels found))
    (client_in h.clients.items n) refl

pub fresh_members : (h : Hall) (topic name : List ℕ) (o : Options) (s : Stall) → IsSound h → stall_at h.rooms.items topic name ≡ None → IsFreshStall topic name o s → AreMembers h.clients.items topic s
fresh_members h topic name o s sound none f =
    let is : s.channel ≡ _ = f.channel.is in
    let called : channel_name s ≡ name = ap (λ (v : ChannelSeen). v.about.name) is in
    record {
      known = λ n. ap (λ (v : ChannelSeen). client_of v.clients n) is ∙ sym (no_members h topic name n sound none) ∙ ap (λ k. member_of topic k (client_in h.clients.items n)) (sym called);
      listed = λ n. ap (list_any (nat_eq n)) f.members ∙ sym (ap is_some (no_members h topic name n sound none)) ∙ ap (λ k. is_some (member_of topic k (client_in h.clients.items n))) (sym called);
    }

-- where something is there, it still is once another is put in
some_put : {X : Type 0} (x : X) (o : Option X) (b : Bool) → IsSome o → IsSome (if b then Some x else o)
some_put x o true h = refl
some_put x o false h = h

still_in : (xs : List Stall) (s : Stall) (name : List ℕ) → IsSome (stall_in xs name) → IsSome (stall_in (put_stall xs s) name)
still_in xs s name has = subst IsSome (sym (find_put channel_name xs s name)) (some_put s (stall_in xs name) (bytes_eq name (channel_name s)) has)

none_if : {X : Type 0} (x : X) (o : Option X) (b : Bool) → (if b then Some x else o) ≡ None → o ≡ None
none_if x o true e = absurd (let no : ⊥ = cc in no)
none_if x o false e = e

not_in : (xs : List Stall) (s : Stall) (name : List ℕ) → stall_in (put_stall xs s) name ≡ None → stall_in xs name ≡ None
not_in xs s name e = none_if s (stall_in xs name) (bytes_eq name (channel_name s)) (sym (find_put channel_name xs s name) ∙ e)

-- a channel that is put into a topic of a sound hall
module _ (h h' : Hall) (i : ℕ) (s : Stall) (sound : IsSound h) (rest : IsElse h h') (quiet : h'.quiet_until ≡ h.quiet_until) (from : h'.unsaved_from ≡ h.unsaved_from) (at : AtRoom i (AddsStall s h.pending.items h'.pending.items) h.rooms.items h'.rooms.items) where
  grown_before : IsRoomSound h at.room
  grown_before = at_all (IsRoomSound h) h.rooms.items i at.room sound.rooms at.there

  grown_keeps : KeepsRest h h'
  grown_keeps =
      else_keeps h h' sound rest (omega (arith, quiet)) (omega (arith, from))
      (λ name has. subst (λ (xs : List (List ℕ)). Contains xs name) (sym at.does.pending) (still_listed at.room.listed h.pending.items (topic_name at.room) name has))

  grown_name : topic_name at.after ≡ topic_name at.room
  grown_name = ap topic_name at.does.is

  grown_found : room_in h.rooms.items (topic_name at.after) ≡ Some at.room
  grown_found = ap (room_in h.rooms.items) grown_name ∙ found_at topic_name h.rooms.items i at.room sound.room_order at.there

  grown_rooms : h'.rooms.items ≡ put_room h.rooms.items at.after
  grown_rooms = at.is ∙ put_at topic_name h.rooms.items i at.room at.after sound.room_order at.there grown_name

  pub grown_sound : IsStallSound h'.options (topic_name at.room) h'.quiet_until h'.unsaved_from s → IfSome s.since (λ m. m ≤ h'.moment) → AreMembers h.clients.items (topic_name at.room) s → IsSound h'
  grown_sound stall past mine =
      let x : IsRoomSound h' at.room = room_lowered h h' at.room grown_keeps.lowers grown_before in
      let P : Stall → Type 0 = IsStallSound h'.options (topic_name at.room) h'.quiet_until h'.unsaved_from in
      let M : Stall → Type 0 = AreMembers h.clients.items (topic_name at.room) in
      let IsOld : Stall → Type 0 = λ (y : Stall). IfSome y.since (λ m. m ≤ h'.moment) in
      let grown_past : IsPast h'.moment at.room = at_all (IsPast h'.moment) h.rooms.items i at.room (all_past h h' grown_keeps.later sound) at.there in
      sound_put_room h h' at.after (record {
        sound = sound;
        keeps = grown_keeps;
        rooms = grown_rooms;
        room = subst (IsRoomSound h') (sym at.does.is) (record {
          named = x.named;
          settled = x.settled;
          backlog = x.backlog;
          capacity = x.capacity;
          limits = x.limits;
          names = tt;
          order = subst (IsAscendingBy channel_name) (sym at.does.stalls) (IsAscendingBy-put_by channel_name at.room.stalls.items s x.order);
          stalls = subst (All P) (sym at.does.stalls) (All-put_by channel_name P at.room.stalls.items s x.stalls stall);
          owed = subst (λ xs. All (λ name. IsSome (stall_in xs name)) (owed_of at.room.queue.head)) (sym at.does.stalls)
              (All-weaker (λ name. IsSome (stall_in at.room.stalls.items name)) (λ name. IsSome (stall_in (put_stall at.room.stalls.items s) name)) (λ name has. still_in at.room.stalls.items s name has) (owed_of at.room.queue.head) x.owed);
          marked = x.marked;
          listed = λ l. subst (λ (xs : List (List ℕ)). Contains xs (topic_name at.room)) (sym at.does.pending) (now_listed at.room.listed h.pending.items (topic_name at.room) grown_before.listed);
          rests = λ l. absurd (false≢true (sym l));
        });
        past = subst (IsPast h'.moment) (sym at.does.is) (record {
          room = grown_past.room;
          stalls = subst (All IsOld) (sym at.does.stalls) (All-put_by channel_name IsOld at.room.stalls.items s grown_past.stalls past);
        });
        members = subst (λ n. All (AreMembers h.clients.items n) at.after.stalls.items) (sym grown_name)
            (subst (All M) (sym at.does.stalls) (All-put_by channel_name M at.room.stalls.items s (at_all (λ (r : Room). All (AreMembers h.clients.items (topic_name r)) r.stalls.items) h.rooms.items i at.room sound.members at.there) mine));
        channels = λ channel has.
            subst (λ xs. IsSome (stall_in xs channel)) (sym at.does.stalls)
            (still_in at.room.stalls.items s channel (subst (λ o. IsSome (option_and_then (λ (r : Room). stall_in r.stalls.items channel) o)) grown_found has));
      })

  -- it is the new one of the topic of a state
  pub grown_stands : (files : Files) (st : State) (name : List ℕ) → channel_name s ≡ name → stall_in at.room.stalls.items name ≡ None → IsStallOf files s (new_channel name) → HoldsFor h files st → (t : State) × (t ≡ made_channel st (topic_name at.room) name) × HoldsFor h' files t
  grown_stands files st name called none of holds =
      let t = topic_there h files st (topic_name at.room) at.room holds (found_at topic_name h.rooms.items i at.room sound.room_order at.there) in
      let k : channel_of t.0 name ≡ None =
      both_none (IsStallOf files) (channel_of t.0 name)
      (subst (λ o. IfBoth (IsStallOf files) o (channel_of t.0 name)) none
      (pairs_found (IsStallOf files) (λ x. bytes_eq name (channel_name x)) (λ (c : Channel). bytes_eq name c.name) at.room.stalls.items t.0.channels (λ a b r. ap (bytes_eq name) (sym (stall_named files a b r))) t.2.channels)) in
      let to : Topic = with_channel t.0 (new_channel name) in
      let pairs : Pairwise (IsStallOf files) (put_stall at.room.stalls.items s) to.channels =
      pairs_put channel_name (λ (c : Channel). c.name) (IsStallOf files) (IsStallOf files) s (new_channel name) at.room.stalls.items t.0.channels (λ a b r. stall_named files a b r) (λ a b apart r. r) (sym called) of t.2.channels in
      let after : IsRoomOf files at.after to = subst (λ r. IsRoomOf files r to) (sym at.does.is) (record {
        queue = other_channels files at.room t.0 to.channels t.2.queue;
        stands = t.2.stands;
        channels = subst (λ xs. Pairwise (IsStallOf files) xs to.channels) (sym at.does.stalls) pairs;
        delays = t.2.delays;
        taken = t.2.taken;
      }) in (
        with_topic st to,
        ap (λ o. with_topic st (with_channel t.0 (unwrap_or o (new_channel name)))) (sym k) ∙ ap (λ o. with_topic st (with_channel (unwrap_or o (new_topic (topic_name at.room))) (channel_or_new (unwrap_or o (new_topic (topic_name at.room))) name))) (sym t.1),
        holds_put_room h h' files st at.after to (else_stays h h' rest) grown_rooms after
            (λ channel gone. ap (option_and_then (λ (r : Room). stall_in r.stalls.items channel)) grown_found ∙ not_in at.room.stalls.items s channel (ap (λ xs. stall_in xs channel) (sym at.does.stalls) ∙ gone)) holds,
      )

-- a topic whose list of channels has more room is as it was
module _ (h h' : Hall) (i : ℕ) (rest : IsElse h h') (at : AtRoom i SameStalls h.rooms.items h'.rooms.items) where
  pub reserved_sound : IsSound h → h'.quiet_until ≡ h.quiet_until → h'.unsaved_from ≡ h.unsaved_from → h'.pending.items ≡ h.pending.items → IsSound h'
  reserved_sound sound quiet from pending =
      let keeps : KeepsRest h h' = else_keeps h h' sound rest (omega (arith, quiet)) (omega (arith, from)) (λ name has. subst (λ (xs : List (List ℕ)). Contains xs name) (sym pending) has) in
      let x : IsRoomSound h' at.room = room_lowered h h' at.room keeps.lowers (at_all (IsRoomSound h) h.rooms.items i at.room sound.rooms at.there) in
      sound_at_room h h' i SameStalls sound keeps at (ap topic_name at.does.is) at.does.stalls
      (subst (IsRoomSound h') (sym at.does.is) (record {
        named = x.named;
        settled = x.settled;
        backlog = x.backlog;
        capacity = x.capacity;
        limits = x.limits;
        names = subst (λ xs. IfSome at.room.names (λ names. names ≡ (topic_name at.room, map channel_name xs) ∷ [])) (sym at.does.stalls) x.names;
        order = subst (IsAscendingBy channel_name) (sym at.does.stalls) x.order;
        stalls = subst (All (IsStallSound h'.options (topic_name at.room) h'.quiet_until h'.unsaved_from)) (sym at.does.stalls) x.stalls;
        owed = subst (λ xs. All (λ name. IsSome (stall_in xs name)) (owed_of at.room.queue.head)) (sym at.does.stalls) x.owed;
        marked = x.marked;
        listed = x.listed;
        rests = λ l. ap (λ (xs : List Stall). is_none at.room.queue.head && (at.room.queue.paused || (is_empty xs || has_none_waiting at.room))) at.does.stalls ∙ x.rests l;
      }))
      (subst (λ o. IfSome o (λ m. m ≤ h'.moment)) (sym (ap (λ (r : Room). r.since) at.does.is)) (room_past h h' i SameStalls sound keeps.later at))

  pub reserved_stands : (files : Files) (s : State) → HoldsFor h files s → HoldsFor h' files s
  reserved_stands files s holds =
      holds_at_room h h' files s i SameStalls (else_stays h h' rest) at (ap topic_name at.does.is)
      (λ t of. subst (λ r. IsRoomOf files r t) (sym at.does.is) (record {
        queue = of.queue;
        stands = of.stands;
        channels = subst (λ xs. Pairwise (IsStallOf files) xs t.channels) (sym at.does.stalls) of.channels;
        delays = of.delays;
        taken = of.taken;
      }))
      (λ channel none. ap (λ xs. stall_in xs channel) (sym at.does.stalls) ∙ none) holds

-- the channels of a room that was read after it was listed
pub stalls_listed : (i : ℕ) (before after : List (List ℕ)) (xs ys : List Room) (b : Room) (P : Vec Stall → Type 0) → AtRoom i (ListsRoom before after) xs ys → b ≡ get_or ys i b → HoldsAt (λ (r : Room). P r.stalls) xs i → P b.stalls
stalls_listed i before after xs ys b P a e holds =
    let same : b ≡ a.after = e ∙ ap (λ (zs : List Room). get_or zs i b) a.is ∙ get_or-set_same xs i a.after b (slice_get_within xs i a.room a.there) in
    let stalls : b.stalls ≡ a.room.stalls = ap (λ (r : Room). r.stalls) (same ∙ a.does.0) in
    subst P (sym stalls) (subst (λ (r : Room). P r.stalls) (get_or_from_slice_get xs i a.room a.room a.there) (holds a.room))

-- a room that was read after it was listed, with a channel more
pub grown_at : (i : ℕ) (s : Stall) (before after : List (List ℕ)) (xs ys : List Room) (b to : Room) → AtRoom i (ListsRoom before after) xs ys → b ≡ get_or ys i b → to ≡ record b { names = None; stalls = to.stalls } → to.stalls.items ≡ put_stall b.stalls.items s
    → AtRoom i (AddsStall s before after) xs (set ys i to)
grown_at i s before after xs ys b to a e is stalls =
    let same : b ≡ a.after = e ∙ ap (λ (zs : List Room). get_or zs i b) a.is ∙ get_or-set_same xs i a.after b (slice_get_within xs i a.room a.there) in
    let listed : b ≡ record (a.room) { listed = true } = same ∙ a.does.0 in
    record {
      room = a.room;
      after = to;
      there = a.there;
      is = ap (λ (zs : List Room). set zs i to) a.is ∙ set-set xs i a.after to;
      does = record {
        is = is ∙ ap (λ (r : Room). record r { names = None; stalls = to.stalls }) listed;
        stalls = stalls ∙ ap (λ (r : Room). put_stall r.stalls.items s) listed;
        pending = a.does.1;
      };
    }

-- what a name says of a room that was read after it was listed
pub grown_name_at : (i : ℕ) (before after : List (List ℕ)) (xs ys : List Room) (b : Room) → AtRoom i (ListsRoom before after) xs ys → b ≡ get_or ys i b → (d : Room) → topic_name b ≡ topic_name (get_or xs i d)
grown_name_at i before after xs ys b a e d =
    let same : b ≡ a.after = e ∙ ap (λ (zs : List Room). get_or zs i b) a.is ∙ get_or-set_same xs i a.after b (slice_get_within xs i a.room a.there) in
    ap topic_name same ∙ ap topic_name a.does.0 ∙ ap topic_name (sym (get_or_from_slice_get xs i a.room d a.there))

-- nothing but rooms, the list of those that may have something to do, and names that are unsaved differs
pub else_from : (h h' : Hall) → h' ≡ record h { rooms = h'.rooms; pending = h'.pending; unsaved_names = h'.unsaved_names } → IsElse h h'
else_from h h' e = ap (λ (x : Hall). record x { rooms = h'.rooms; pending = h'.pending; unsaved_names = h'.unsaved_names; quiet_until = h'.quiet_until; unsaved_from = h'.unsaved_from }) e

pub else_both : (h0 h1 h2 : Hall) → h1 ≡ record h0 { rooms = h1.rooms; pending = h1.pending } → h2 ≡ record h1 { rooms = h2.rooms; pending = h2.pending; unsaved_names = h2.unsaved_names } → h2 ≡ record h0 { rooms = h2.rooms; pending = h2.pending; unsaved_names = h2.unsaved_names }
else_both h0 h1 h2 e f = f ∙ ap (λ (x : Hall). record x { rooms = h2.rooms; pending = h2.pending; unsaved_names = h2.unsaved_names }) e

pub else_added : (h h' : Hall) (unsaved : Bool) → h' ≡ record h { rooms = h'.rooms; unsaved_names = unsaved } → IsElse h h'
else_added h h' unsaved e = ap (λ (x : Hall). record x { rooms = h'.rooms; pending = h'.pending; unsaved_names = h'.unsaved_names; quiet_until = h'.quiet_until; unsaved_from = h'.unsaved_from }) e

-- and once there was room for it a topic was put in
pub else_put : (h0 h1 h2 : Hall) (unsaved : Bool) → h1 ≡ record h0 { rooms = h1.rooms; pending = h1.pending } → h2 ≡ record h1 { rooms = h2.rooms; unsaved_names = unsaved } → h2 ≡ record h0 { rooms = h2.rooms; pending = h2.pending; unsaved_names = h2.unsaved_names }
else_put h0 h1 h2 unsaved e f = else_both h0 h1 h2 e (ap (λ (x : Hall). record x { rooms = h2.rooms; pending = h2.pending; unsaved_names = h2.unsaved_names }) f)

pub else_spaced : (h h' : Hall) → h' ≡ record h { rooms = h'.rooms; pending = h'.pending } → h' ≡ record h { rooms = h'.rooms; pending = h'.pending; unsaved_names = h'.unsaved_names }
else_spaced h h' e = ap (λ (x : Hall). record x { rooms = h'.rooms; pending = h'.pending; unsaved_names = h'.unsaved_names }) e

-- a topic whose list of channels has more room stands where it stood, and places in it are as they were
pub reserved_place : (xs ys : List Room) (i j : ℕ) (name : List ℕ) → AtRoom i SameStalls xs ys → HoldsAt (λ (r : Room). BelongsAt channel_name r.stalls.items name j) xs i → HoldsAt (λ (r : Room). BelongsAt channel_name r.stalls.items name j) ys i
reserved_place xs ys i j name at place =
    λ d.
    let now : get_or ys i d ≡ at.after = ap (λ (zs : List Room). get_or zs i d) at.is ∙ get_or-set_same xs i at.after d (slice_get_within xs i at.room at.there) in
    subst (λ (r : Room). BelongsAt channel_name r.stalls.items name j) (sym now)
    (subst (λ zs. BelongsAt channel_name zs name j) (sym at.does.stalls) (subst (λ (r : Room). BelongsAt channel_name r.stalls.items name j) (get_or_from_slice_get xs i at.room at.room at.there) (place at.room)))

pub reserved_stands_at : (xs ys : List Room) (i : ℕ) (name : List ℕ) → AtRoom i SameStalls xs ys → IsAscendingBy topic_name ys → StandsAt topic_name xs name i → StandsAt topic_name ys name i
reserved_stands_at xs ys i name at up stands =
    let called : topic_name at.after ≡ name = ap topic_name at.does.is ∙ ap topic_name (sym (get_or_from_slice_get xs i at.room at.room at.there)) ∙ stands.is_key at.room in
    let now : slice_get ys i ≡ Some at.after =
    at_place ys i at.after (omega (arith, ap length at.is, length-set xs i at.after, slice_get_within xs i at.room at.there)) (sym (ap (λ (zs : List Room). get_or zs i at.after) at.is ∙ get_or-set_same xs i at.after at.after (slice_get_within xs i at.room at.there))) in
    subst (λ k. StandsAt topic_name ys k i) called (standing_at topic_name ys i at.after up now)

-- a fresh channel that was put into its topic
module _ (h h' : Hall) (i j : ℕ) (topic name : List ℕ) (s : Stall) (sound : IsSound h) (rest : h' ≡ record h { rooms = h'.rooms; pending = h'.pending; unsaved_names = h'.unsaved_names }) (at : AtRoom i (AddsStall s h.pending.items h'.pending.items) h.rooms.items h'.rooms.items)
    (stands : StandsAt topic_name h.rooms.items topic i) (place : HoldsAt (λ (r : Room). BelongsAt channel_name r.stalls.items name j) h.rooms.items i) (fresh : IsFreshStall topic name h.options s) where
  room_called : topic_name at.room ≡ topic
  room_called = ap topic_name (sym (get_or_from_slice_get h.rooms.items i at.room at.room at.there)) ∙ stands.is_key at.room

  none_in : stall_in at.room.stalls.items name ≡ None
  none_in = none_belonging channel_name at.room.stalls.items name j (subst (λ (r : Room). BelongsAt channel_name r.stalls.items name j) (get_or_from_slice_get h.rooms.items i at.room at.room at.there) (place at.room))

  room_there : room_in h.rooms.items topic ≡ Some at.room
  room_there = found_standing topic_name h.rooms.items topic i at.room stands ∙ ap Some (get_or_from_slice_get h.rooms.items i at.room at.room at.there)

  none_at : stall_at h.rooms.items topic name ≡ None
  none_at = ap (option_and_then (λ (r : Room). stall_in r.stalls.items name)) room_there ∙ none_in

  stall_called : channel_name s ≡ name
  stall_called = ap (λ (v : ChannelSeen). v.about.name) fresh.channel.is

  pub added_stall_sound : IsSound h'
  added_stall_sound =
      let options : h'.options ≡ h.options = ap (λ (x : Hall). x.options) rest in
      grown_sound h h' i s sound (else_from h h' rest) (ap (λ (x : Hall). x.quiet_until) rest) (ap (λ (x : Hall). x.unsaved_from) rest) at
      (subst (λ n. IsStallSound h'.options n h'.quiet_until h'.unsaved_from s) (sym room_called)
      (fresh_stall_sound h'.options topic name h'.quiet_until h'.unsaved_from s (subst (λ o. IsFreshStall topic name o s) (sym options) fresh)))
      (no_mark h'.moment s.since fresh.since)
      (subst (λ n. AreMembers h.clients.items n s) (sym room_called) (fresh_members h topic name h.options s sound none_at fresh))

  pub added_stall_stands : (files : Files) (st : State) → (ChannelBeginsIdle files topic name → IsStallOf files s (new_channel name)) → HoldsFor h files st → (t : State) × (t ≡ made_channel st topic name) × HoldsFor h' files t
  added_stall_stands files st of holds =
      let named : IsName topic = subst IsName room_called (grown_before h h' i s sound (else_from h h' rest) (ap (λ (x : Hall). x.quiet_until) rest) (ap (λ (x : Hall). x.unsaved_from) rest) at).named in
      let done = grown_stands h h' i s sound (else_from h h' rest) (ap (λ (x : Hall). x.quiet_until) rest) (ap (λ (x : Hall). x.unsaved_from) rest) at files st name stall_called none_in (of (λ durable. holds.idle.channels topic name named (fresh.named, durable) none_at)) holds in
      (done.0, done.1 ∙ ap (λ n. made_channel st n name) room_called, done.2)

-- the channel is there already
pub both_there : (h : Hall) (topic name : List ℕ) (i j : ℕ) (room : Room) → StandsAt topic_name h.rooms.items topic i → room ≡ get_or h.rooms.items i room → StandsAt channel_name room.stalls.items name j → (files : Files) (st : State) → HoldsFor h files st
    → (t : State) × (t ≡ made_channel st topic name) × HoldsFor h files t
both_there h topic name i j room stands e within files st holds =
    let at : slice_get h.rooms.items i ≡ Some room = at_place h.rooms.items i room stands.in_range e in
    let found : room_in h.rooms.items topic ≡ Some room = found_standing topic_name h.rooms.items topic i room stands ∙ ap Some (sym e) in
    let called : topic_name room ≡ topic = ap topic_name e ∙ stands.is_key room in
    let t = topic_there h files st topic room holds found in
    let x = some_at room.stalls.items j within.in_range in
    let is : get_or room.stalls.items j x.0 ≡ x.0 = get_or_from_slice_get room.stalls.items j x.0 x.0 x.1 in
    let has : stall_in room.stalls.items name ≡ Some x.0 = found_standing channel_name room.stalls.items name j x.0 within ∙ ap Some is in
    let k = both_some (IsStallOf files) x.0 (channel_of t.0 name)
    (subst (λ o. IfBoth (IsStallOf files) o (channel_of t.0 name)) has
    (pairs_found (IsStallOf files) (λ y. bytes_eq name (channel_name y)) (λ (c : Channel). bytes_eq name c.name) room.stalls.items t.0.channels (λ a b r. ap (bytes_eq name) (sym (stall_named files a b r))) t.2.channels)) in
    let whole : put_stall room.stalls.items x.0 ≡ room.stalls.items =
    subst (λ (y : Stall). put_stall room.stalls.items y ≡ room.stalls.items) is (put_itself channel_name room.stalls.items j x.0 (subst (λ n. StandsAt channel_name room.stalls.items n j) (sym (within.is_key x.0)) within)) in
    let same : h.rooms.items ≡ put_room h.rooms.items room =
    sym (subst (λ (r : Room). put_room h.rooms.items r ≡ h.rooms.items) (sym e) (put_itself topic_name h.rooms.items i room (subst (λ n. StandsAt topic_name h.rooms.items n i) (sym (stands.is_key room)) stands))) in
    let to : Topic = with_channel t.0 k.0 in
    let pairs : Pairwise (IsStallOf files) room.stalls.items to.channels =
    subst (λ xs. Pairwise (IsStallOf files) xs to.channels) whole
    (pairs_put channel_name (λ (c : Channel). c.name) (IsStallOf files) (IsStallOf files) x.0 k.0 room.stalls.items t.0.channels (λ a b r. stall_named files a b r) (λ a b apart r. r) (stall_named files x.0 k.0 k.2) k.2 t.2.channels) in
    let after : IsRoomOf files room to = record { queue = other_channels files room t.0 to.channels t.2.queue; stands = t.2.stands; channels = pairs; delays = t.2.delays; taken = t.2.taken } in (
      with_topic st to,
      ap (λ o. with_topic st (with_channel t.0 (unwrap_or o (new_channel name)))) (sym k.1) ∙ ap (λ o. with_topic st (with_channel (unwrap_or o (new_topic topic)) (channel_or_new (unwrap_or o (new_topic topic)) name))) (sym t.1),
      holds_put_room h h files st room to (else_stays h h refl) same after
          (λ channel gone. ap (λ n. stall_at h.rooms.items n channel) called ∙ ap (option_and_then (λ (r : Room). stall_in r.stalls.items channel)) found ∙ gone) holds,
    )

-- a topic that is made with a channel
fresh_rests : (b e : Bool) (name : List ℕ) (o : QueueOptions) → e || ((0 == 0) && (disk_depth (if not b then Some (fresh_queue name o) else None) == 0)) ≡ true
fresh_rests true true name o = refl
fresh_rests true false name o = refl
fresh_rests false true name o = refl
fresh_rests false false name o = refl

one_pair : {X : Type 0} (R : X → X → Type 0) (x : X) → AllPairs R (x ∷ [])
one_pair R x = λ i j d l m. absurd (let no : ⊥ = omega (arith, l, m) in no)

module _ (h h' : Hall) (topic name : List ℕ) (r : Room) (sound : IsSound h) (rest : IsElse h h') (quiet : h'.quiet_until ≡ h.quiet_until) (from : h'.unsaved_from ≡ h.unsaved_from) (pending : h'.pending.items ≡ h.pending.items) (none : room_in h.rooms.items topic ≡ None) (f : IsRoomWith topic name h.options r)
    (rooms : h'.rooms.items ≡ put_room h.rooms.items r) where
  with_called : topic_name r ≡ topic
  with_called = ap (λ (q : TopicSeen). q.name) f.queue

  with_none : (channel : List ℕ) → stall_at h.rooms.items (topic_name r) channel ≡ None
  with_none channel = ap (λ n. stall_at h.rooms.items n channel) with_called ∙ ap (option_and_then (λ (x : Room). stall_in x.stalls.items channel)) none

  with_options : h'.options ≡ h.options
  with_options = ap (λ (x : Hall). x.options) rest

  with_stall : IsStallSound h'.options (topic_name r) h'.quiet_until h'.unsaved_from f.stall
  with_stall =
      subst (λ n. IsStallSound h'.options n h'.quiet_until h'.unsaved_from f.stall) (sym with_called)
      (fresh_stall_sound h'.options topic name h'.quiet_until h'.unsaved_from f.stall (subst (λ o. IsFreshStall topic name o f.stall) (sym with_options) f.fresh))

  with_room : IsRoomSound h' r
  with_room =
      let P : Stall → Type 0 = IsStallSound h'.options (topic_name r) h'.quiet_until h'.unsaved_from in
      record {
        named = subst IsName (sym with_called) f.named;
        settled = ap (λ (q : TopicSeen). q.backlog.lent) f.queue;
        backlog = subst (λ (q : TopicSeen). IsNamed q.name q.backlog) (sym f.queue) (fresh_named topic h.options);
        capacity = ap (λ (q : TopicSeen). q.backlog.capacity) f.queue ∙ ap (λ (o : Options). o.mem_queue_size) (sym with_options);
        limits = subst (λ (o : Options). HasOptions (topic_options o) r.queue.backlog.queue) (sym with_options)
            (subst (λ (q : TopicSeen). HasOptions (topic_options h.options) q.backlog.queue) (sym f.queue) (fresh_options (not (is_ephemeral topic)) topic (topic_options h.options)));
        names = subst (λ o. IfSome o (λ names. names ≡ (topic_name r, stall_names r) ∷ [])) (sym f.names) tt;
        order = subst (IsAscendingBy channel_name) (sym f.stalls) (one_pair (λ (a b : Stall). IsTrue (is_before (channel_name a) (channel_name b))) f.stall);
        stalls = subst (All P) (sym f.stalls) (All-cons P f.stall [] with_stall (All-nil P));
        owed = subst (λ (q : TopicSeen). All (λ n. IsSome (stall_in r.stalls.items n)) (owed_of q.head)) (sym f.queue) (All-nil (λ n. IsSome (stall_in r.stalls.items n)));
        marked = subst (λ since. IsMarked h'.unsaved_from since r.queue.backlog.queue) (sym f.since)
            (record { saved = λ no. subst (λ (q : TopicSeen). QueueIsSaved q.backlog.queue) (sym f.queue) (fresh_saved (not (is_ephemeral topic)) topic (topic_options h.options)); later = tt });
        listed = λ l. absurd (false≢true (sym f.listed ∙ l));
        rests = λ l.
            ap (λ (q : TopicSeen). is_none q.head && (q.paused || (is_empty r.stalls.items || ((ring_depth q.backlog == 0) && (disk_depth q.backlog.queue == 0))))) f.queue
            ∙ fresh_rests (is_ephemeral topic) (is_empty r.stalls.items) topic (topic_options h.options);
      }

  pub with_sound : IsSound h'
  with_sound =
      let M : Stall → Type 0 = AreMembers h.clients.items (topic_name r) in
      sound_put_room h h' r (record {
        sound = sound;
        keeps = else_keeps h h' sound rest (omega (arith, quiet)) (omega (arith, from)) (λ n has. subst (λ (xs : List (List ℕ)). Contains xs n) (sym pending) has);
        rooms = rooms;
        room = with_room;
        past = fresh_past h'.moment r f.since (subst (All (λ (s : Stall). s.since ≡ None)) (sym f.stalls) (All-cons (λ (s : Stall). s.since ≡ None) f.stall [] f.fresh.since (All-nil (λ (s : Stall). s.since ≡ None))));
        members = subst (All M) (sym f.stalls)
            (All-cons M f.stall [] (subst (λ n. AreMembers h.clients.items n f.stall) (sym with_called) (fresh_members h topic name h.options f.stall sound (ap (λ n. stall_at h.rooms.items n name) (sym with_called) ∙ with_none name) f.fresh)) (All-nil M));
        channels = λ channel has. absurd (false≢true (sym (ap is_some (with_none channel)) ∙ has));
      })

  pub with_stands : (files : Files) (st : State) → IsName name → (BeginsIdle files topic → ChannelBeginsIdle files topic name → IsRoomOf files r (with_channel (new_topic topic) (new_channel name))) → HoldsFor h files st
      → (t : State) × (t ≡ made_channel st topic name) × HoldsFor h' files t
  with_stands files st named of holds =
      let idle : BeginsIdle files topic = λ durable. holds.idle.topics topic (f.named, durable) none in
      let idle_channel : ChannelBeginsIdle files topic name = λ durable. holds.idle.channels topic name f.named (named, durable) (ap (λ n. stall_at h.rooms.items n name) (sym with_called) ∙ with_none name) in
      let to : Topic = with_channel (new_topic topic) (new_channel name) in (
        with_topic st to,
        ap (λ o. with_topic st (with_channel (unwrap_or o (new_topic topic)) (channel_or_new (unwrap_or o (new_topic topic)) name))) (sym (no_topic h files st topic holds none)),
        holds_put_room h h' files st r to (else_stays h h' rest) rooms (of idle idle_channel) (λ channel gone. with_none channel) holds,
      )

-- one channel of a new topic
pub room_with_of : (files : Files) (topic name : List ℕ) (r r' : Room) (s : Stall) → r' ≡ record r { stalls = r'.stalls } → r'.stalls.items ≡ s ∷ [] → IsRoomOf files r (new_topic topic) → IsStallOf files s (new_channel name) → IsRoomOf files r' (with_channel (new_topic topic) (new_channel name))
room_with_of files topic name r r' s is stalls of stall =
    let to : Topic = with_channel (new_topic topic) (new_channel name) in
    subst (λ x. IsRoomOf files x to) (sym is) (record {
      queue = other_channels files r (new_topic topic) to.channels of.queue;
      stands = of.stands;
      channels = subst (λ xs. Pairwise (IsStallOf files) xs to.channels) (sym stalls) (stall, tt);
      delays = of.delays;
      taken = of.taken;
    })

-- so it is where both were made
pub fresh_room_with : (files : Files) (topic name : List ℕ) (o : Options) (r : Room) (q : TopicSeen) (s : Stall) → r.queue ≡ q → r.stalls.items ≡ s ∷ [] → q ≡ fresh_topic topic o → IsTopicOf q files (new_topic topic) → (IsIdle (files (meta_file topic)) → Stands q.backlog.queue files)
    → BeginsIdle files topic → IsStallOf files s (new_channel name) → IsRoomOf files r (with_channel (new_topic topic) (new_channel name))
fresh_room_with files topic name o r q s same stalls is of stands idle stall =
    let to : Topic = with_channel (new_topic topic) (new_channel name) in
    record {
      queue = other_channels files r (new_topic topic) to.channels (subst (λ (x : TopicSeen). IsTopicOf x files (new_topic topic)) (sym same) of);
      stands = subst (λ (x : TopicSeen). Stands x.backlog.queue files) (sym same)
          (fresh_stands (is_ephemeral topic) q.backlog.queue topic (topic_options o) files (IsIdle (files (meta_file topic))) (ap (λ (x : TopicSeen). x.backlog.queue) is) stands idle);
      channels = subst (λ xs. Pairwise (IsStallOf files) xs to.channels) (sym stalls) (stall, tt);
      delays = All-nil (λ w. w.message.delay ≤ longest_delay);
      taken = tt;
    }

-- what is said of an error
pub on_error : {X Y : Type 0} (r : Result X Y) (P : Type 0) → P → OnErr r P
on_error (Ok x) P p = tt
on_error (Err e) P p = p
