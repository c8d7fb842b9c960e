-- Channels are opened into a topic one after another, and the topic is put into a hall.
use Rattle.std.proofs.Common.{◌≡◌, ◌≢◌, inl, inr, ◌≤◌, ◌<◌, ℕ, Bool, true, false, if◌then◌else◌, List, [], ◌∷◌, ◌++◌, ◌+◌, take, drop, get_or, length, append_assoc, add-one, Option, Some, None, is_some, refl, sym, ap, subst, ◌∙◌, arith}
use Rattle.std.specs.Prelude.{IfSome, IsSome, IsTrue, nat_eq, option_and_then}
use Rattle.std.specs.List.{All, Contains, list_any}
use Rattle.std.specs.Str.{bytes_eq}
use Rattle.std.proofs.lemmas.Bool.{false≢true}
use Rattle.std.proofs.Math.Seq.{take-suc}
use Rattle.std.proofs.lemmas.List.{map-append, take-append-drop}
use Rattle.std.proofs.lemmas.List.Elements.{All-cons, All-nil, All-weaker, Contains-append_left, Contains-get_or, Contains-push}
use Rattle.std.proofs.lemmas.List.Folds.{list_any-append}
use Rattle.nsq_base.specs.Name.{IsName}
use Rattle.nsq_base.specs.Names.{IsAscendingBy, is_before}
use Rattle.nsq_base.specs.declared.options.Options.{Options}
use Rattle.nsq_base.proofs.PutBy.{All-put_by, IsAscendingBy-put_by}
use Rattle.nsq_outside.specs.Files.{Files}
use Rattle.queue_image.specs.FileNames.IsFileOf.{own}
use Rattle.queue_image.proofs.Naming.{one_channel, one_queue}
use Rattle.v2_frame.specs.declared.message.Message.{Message}
use Rattle.path_image.specs.Data.{KeptChannel}
use Rattle.path_image.specs.Found.{FindsChannel, FoundChannel, HasMessages, Pairwise}
use Rattle.disk_queue.specs.Opened.{FilesOfChange}
use Rattle.disk_queue.specs.Seen.{Seen as Queue}
use Rattle.broker_history.specs.Found.{started_channel}
use Rattle.broker_history.specs.State.{Channel, State, Topic, with_channel, with_topic}
use Rattle.broker_history.proofs.Lists.{find_put}
use Rattle.channel_copies.specs.Clients.{client_of}
use Rattle.topic_core.specs.Kept.{IsNamed}
use Rattle.topic_core.specs.Laws.{DiskStays, OwnFilesStay}
use Rattle.topic_core.specs.Seen.{owed_of, queue_options}
use Rattle.topic_core.proofs.Keeping.{opening_stays, save_stays, topic_stays}
use Rattle.channel_core.specs.Seen.{queue_name}
use Rattle.floor_laws.proofs.Pairs.{pairs_become, pairs_put}
use Rattle.floor_rooms.specs.declared.hall.Hall.{Hall}
use Rattle.floor_rooms.specs.declared.room.Room.{Room}
use Rattle.floor_rooms.specs.declared.stall.Stall.{Stall}
use Rattle.floor_rooms.specs.Rooms.{channel_name, client_in, put_room, put_stall, room_in, stall_at, stall_in, stall_names, topic_name}
use Rattle.floor_rooms.specs.Sound.{AreMembers, HasOptions, IsMarked, IsRoomSound, IsSound, IsStallSound, member_of}
use Rattle.floor_rooms.specs.Standing.{IsRoomOf, IsStallOf, StandsFor}
use Rattle.floor_rooms.proofs.Dating.{pairs_weaker}
use Rattle.floor_rooms.proofs.Forming.{fresh_past, none_of_none}
use Rattle.floor_rooms.proofs.Growing.{no_members}
use Rattle.floor_rooms.proofs.Holding.{StaysElse, stands_put_room}
use Rattle.floor_rooms.proofs.Sounding.{KeepsRest, sound_put_room}
use Rattle.floor_rooms.proofs.Staying.{other_channels, stall_named, stall_stays, topic_is_no_channel}
use Rattle.queue_opening.specs.declared.refusal.Open.{Open}
use Rattle.floor_files.specs.Opened.{AreApart, HasOpened, RefusesChannel, IsOpenedRoom, IsOpenedStall, OnlyTopicFiles, kept_channels, with_channels}
use Rattle.floor_files.proofs.Parting.{all_front, all_last, last_of, name_apart, or_parts, queues_apart}
use Rattle.floor_files.proofs.Starting.{messages_stay}

-- none was opened yet
pub opened_none : (tells : Bool) (o : Options) (topic : List ℕ) (files : Files) (k : ℕ) (r : Room) → r.stalls.items ≡ [] → HasOpened tells o topic [] files files k k r r
opened_none tells o topic files k r empty = record {
  rest = refl;
  order = subst (IsAscendingBy channel_name) (sym empty) (none_of_none (λ (x y : Stall). IsTrue (is_before (channel_name x) (channel_name y))));
  stalls = subst (All (IsOpenedStall o topic)) (sym empty) (All-nil (IsOpenedStall o topic));
  names = λ name none. ap (λ xs. stall_in xs name) empty;
  told = λ tells t found of pairs. with_none t found of pairs;
  only = λ tells file no_topic no_channel. refl;
  others = λ tells name apart all file its. refl;
  faults = omega arith;
}
  where
    with_none : (t : Topic) (found : List FoundChannel) → IsRoomOf files r t → Pairwise (FindsChannel files topic) [] found → IsRoomOf files r (with_channels t found)
    with_none t [] of pairs = of
    with_none t (c ∷ found) of pairs = absurd pairs

with_last : (t : Topic) (front : List FoundChannel) (c : FoundChannel) → with_channels t (front ++ c ∷ []) ≡ with_channel (with_channels t front) (started_channel c)
with_last t [] c = refl
with_last t (d ∷ front) c = with_last (with_channel t (started_channel d)) front c

disk_named : (name : List ℕ) (queue : Option Queue) (old new : Files) → IfSome queue (λ q. q.name ≡ name) → OwnFilesStay name old new → DiskStays queue old new
disk_named name None old new is stays = tt
disk_named name (Some q) old new is stays = subst (λ (n : List ℕ). OwnFilesStay n old new) (sym is) stays

-- one channel more is opened
module _ (o : Options) (topic : List ℕ) (c : List ℕ × Bool) (f1 f2 : Files) (b b' : Room) (s : Stall) (is : b' ≡ record b { stalls = b'.stalls }) (stalls : b'.stalls.items ≡ put_stall b.stalls.items s) (named : IsName topic) (called : channel_name s ≡ c.0) (change : FilesOfChange (queue_name topic c.0) f1 f2) where
  room_with : IfSome b.queue.backlog.queue (λ q. q.name ≡ topic) → All (IsOpenedStall o topic) b.stalls.items → (t : Topic) (k : Channel) → IsRoomOf f1 b t → IsStallOf f2 s k → IsRoomOf f2 b' (with_channel t k)
  room_with queue opened t k of stall =
      let R : Stall → Channel → Type 0 = λ x y. IsOpenedStall o topic x × IsStallOf f1 x y in
      let disk : DiskStays b.queue.backlog.queue f1 f2 = disk_named topic b.queue.backlog.queue f1 f2 queue (opening_stays topic (queue_name topic c.0) f1 f2 (λ e. topic_is_no_channel topic topic c.0 named (sym e)) change) in
      subst (λ x. IsRoomOf f2 x (with_channel t k)) (sym is) (record {
        queue = other_channels f2 b t (with_channel t k).channels (topic_stays b.queue f1 f2 t disk of.queue);
        stands = save_stays b.queue.backlog.queue f1 f2 disk of.stands;
        channels = subst (λ xs. Pairwise (IsStallOf f2) xs (with_channel t k).channels) (sym stalls)
            (pairs_put channel_name (λ (d : Channel). d.name) R (IsStallOf f2) s k b.stalls.items t.channels (λ x y r. stall_named f1 x y r.1)
            (λ x y apart r.
            stall_stays f1 f2 topic x y (r.0.sound 0 0).queue
            (opening_stays (queue_name topic (channel_name x)) (queue_name topic c.0) f1 f2 (λ e. name_apart (channel_name s) (channel_name x) apart (called ∙ (same_channel c.0 (channel_name x) e))) change) r.1)
            (stall_named f2 s k stall) stall (pairs_become (IsStallOf f1) R (IsOpenedStall o topic) b.stalls.items t.channels (λ x y p r. (p, r)) opened of.channels));
        delays = of.delays;
        taken = of.taken;
      })
    where
      same_channel : (m n : List ℕ) → queue_name topic m ≡ queue_name topic n → m ≡ n
      same_channel m n e = (one_channel topic m topic n named named e).1

-- the found channel by its name and its pause
found_is : (c : List ℕ × Bool) (z : FoundChannel) → z.name ≡ c.0 → z.paused ≡ c.1 → z ≡ record { name = c.0; paused = c.1; messages = z.messages }
found_is c z n p = ap (λ m. record { name = m; paused = z.paused; messages = z.messages }) n ∙ ap (λ on. record { name = c.0; paused = on; messages = z.messages }) p

-- the queue that comes next is as it was
pub next_stays : (tells : Bool) (o : Options) (topic : List ℕ) (done : List (List ℕ × Bool)) (c : List ℕ × Bool) (f0 f1 : Files) (k0 k1 : ℕ) (a b : Room) → IsName topic → HasOpened tells o topic done f0 f1 k0 k1 a b → list_any (λ d. bytes_eq c.0 d.0) done ≡ false → IsTrue tells → OwnFilesStay (queue_name topic c.0) f0 f1
next_stays tells o topic done c f0 f1 k0 k1 a b named h apart told = h.others told (queue_name topic c.0) (λ e. topic_is_no_channel topic topic c.0 named (sym e)) (queues_apart topic c.0 named done apart)

module _ (tells : Bool) (o : Options) (topic : List ℕ) (done : List (List ℕ × Bool)) (c : List ℕ × Bool) (f0 f1 f2 : Files) (k0 k1 k2 : ℕ) (a b b' : Room) (s : Stall) (named : IsName topic) (h : HasOpened tells o topic done f0 f1 k0 k1 a b) (queue : IfSome a.queue.backlog.queue (λ q. q.name ≡ topic))
    (apart : list_any (λ d. bytes_eq c.0 d.0) done ≡ false) where
  module _ (opened : IsOpenedStall o topic s) (called : channel_name s ≡ c.0) (finds : IsTrue tells → (ms : List Message) → HasMessages f1 (queue_name topic c.0) ms → IsStallOf f2 s (started_channel (record { name = c.0; paused = c.1; messages = ms })))
      (change : IsTrue tells → FilesOfChange (queue_name topic c.0) f1 f2) (faults : k1 ≤ k2) (is : b' ≡ record b { stalls = b'.stalls }) (stalls : b'.stalls.items ≡ put_stall b.stalls.items s) where
    told_one : IsTrue tells → (t : Topic) (found : List FoundChannel) → IsRoomOf f0 a t → Pairwise (FindsChannel f0 topic) (kept_channels (done ++ c ∷ [])) found → IsRoomOf f2 b' (with_channels t found)
    told_one told t found of pairs =
        let kept : KeptChannel = record { name = c.0; paused = c.1 } in
        let split = last_of (FindsChannel f0 topic) (kept_channels done) kept found (subst (λ xs. Pairwise (FindsChannel f0 topic) xs found) (map-append (λ (d : List ℕ × Bool). record { name = d.0; paused = d.1 }) done (c ∷ [])) pairs) in
        let z : FoundChannel = split.last in
        let one = split.pair in
        let stall : IsStallOf f2 s (started_channel z) =
        subst (λ x. IsStallOf f2 s (started_channel x)) (sym (found_is c z one.name one.paused)) (finds told z.messages (messages_stay (queue_name topic c.0) f0 f1 z.messages (next_stays tells o topic done c f0 f1 k0 k1 a b named h apart told) one.messages)) in
        let before : IsRoomOf f1 b (with_channels t split.front) = h.told told t split.front of split.pairs in
        subst (λ xs. IsRoomOf f2 b' (with_channels t xs)) (sym split.whole)
        (subst (IsRoomOf f2 b') (sym (with_last t split.front z))
        (room_with o topic c f1 f2 b b' s is stalls named called (change told) (subst (λ (x : Room). IfSome x.queue.backlog.queue (λ q. q.name ≡ topic)) (sym h.rest) queue) h.stalls (with_channels t split.front) (started_channel z) before stall))

    names_one : (name : List ℕ) → list_any (λ d. bytes_eq name d.0) (done ++ c ∷ []) ≡ false → stall_in b'.stalls.items name ≡ None
    names_one name none =
        let parts = or_parts (list_any (λ d. bytes_eq name d.0) done) (list_any (λ d. bytes_eq name d.0) (c ∷ [])) (sym (list_any-append (λ d. bytes_eq name d.0) done (c ∷ [])) ∙ none) in
        let last : bytes_eq name c.0 ≡ false = (or_parts (bytes_eq name c.0) false parts.1).0 in
        ap (λ xs. stall_in xs name) stalls ∙ find_put channel_name b.stalls.items s name ∙ ap (λ e. if e then Some s else stall_in b.stalls.items name) (ap (bytes_eq name) called ∙ last) ∙ h.names name parts.0

    pub opened_one : HasOpened tells o topic (done ++ c ∷ []) f0 f2 k0 k2 a b'
    opened_one = record {
      rest = is ∙ ap (λ (x : Room). record x { stalls = b'.stalls }) h.rest;
      order = subst (IsAscendingBy channel_name) (sym stalls) (IsAscendingBy-put_by channel_name b.stalls.items s h.order);
      stalls = subst (All (IsOpenedStall o topic)) (sym stalls) (All-put_by channel_name (IsOpenedStall o topic) b.stalls.items s h.stalls opened);
      names = names_one;
      told = told_one;
      only = λ told file no_topic no_channel. change told file (no_channel c.0) ∙ h.only told file no_topic no_channel;
      others = λ told name no_topic all file its.
          opening_stays name (queue_name topic c.0) f1 f2 (λ e. all_last (λ (d : List ℕ × Bool). name ≢ queue_name topic d.0) done c all (sym e)) (change told) file its ∙ h.others told name no_topic (all_front (λ (d : List ℕ × Bool). name ≢ queue_name topic d.0) done (c ∷ []) all) file its;
      faults = let first = h.faults in omega (arith, first, faults);
    }

-- with channels it is the topic's room still
pub opened_with : (o : Options) (topic : List ℕ) (on : Bool) (a b : Room) → b ≡ record a { stalls = b.stalls } → IsOpenedRoom o topic on a → IsOpenedRoom o topic on b
opened_with o topic on a b is x = subst (IsOpenedRoom o topic on) (sym is) (record {
  named = x.named;
  name = x.name;
  paused = x.paused;
  settled = x.settled;
  backlog = x.backlog;
  capacity = x.capacity;
  limits = x.limits;
  head = x.head;
  saved = x.saved;
  since = x.since;
  listed = x.listed;
  names = x.names;
})

-- where there is no topic there is none of its channels
pub none_of_topic : (rooms : List Room) (topic channel : List ℕ) → room_in rooms topic ≡ None → stall_at rooms topic channel ≡ None
none_of_topic rooms topic channel none = ap (option_and_then (λ (r : Room). stall_in r.stalls.items channel)) none

-- an opened channel has no client, and there is none whose channel it is
opened_members : (h : Hall) (o : Options) (topic : List ℕ) (s : Stall) → IsSound h → room_in h.rooms.items topic ≡ None → IsOpenedStall o topic s → AreMembers h.clients.items topic s
opened_members h o topic s sound none x =
    let nobody : (n : ℕ) → member_of topic (channel_name s) (client_in h.clients.items n) ≡ None = λ n. no_members h topic (channel_name s) n sound (none_of_topic h.rooms.items topic (channel_name s) none) in
    record {
      known = λ n. ap (λ cs. client_of cs n) x.clients ∙ sym (nobody n);
      listed = λ n. ap (list_any (nat_eq n)) x.members ∙ sym (ap is_some (nobody n));
    }

opened_sound : (h : Hall) (o : Options) (topic : List ℕ) (on : Bool) (r : Room) → o ≡ h.options → IsOpenedRoom o topic on r → IsAscendingBy channel_name r.stalls.items → All (IsOpenedStall o topic) r.stalls.items → Contains h.pending.items (topic_name r) → IsRoomSound h r
opened_sound h o topic on r options x order stalls listed = record {
  named = subst IsName (sym x.name) x.named;
  settled = x.settled;
  backlog = subst (λ n. IsNamed n r.queue.backlog) (sym x.name) x.backlog;
  capacity = x.capacity ∙ ap (λ (p : Options). p.mem_queue_size) options;
  limits = subst (λ (p : Options). HasOptions (queue_options p) r.queue.backlog.queue) options x.limits;
  names = subst (λ n. IfSome n (λ names. names ≡ (topic_name r, stall_names r) ∷ [])) (sym x.names) tt;
  order = order;
  stalls = subst (λ n. All (IsStallSound h.options n h.quiet_until h.unsaved_from) r.stalls.items) (sym x.name)
      (subst (λ p. All (IsStallSound p topic h.quiet_until h.unsaved_from) r.stalls.items) options
      (All-weaker (IsOpenedStall o topic) (IsStallSound o topic h.quiet_until h.unsaved_from) (λ s y. y.sound h.quiet_until h.unsaved_from) r.stalls.items stalls));
  owed = subst (λ head. All (λ name. IsSome (stall_in r.stalls.items name)) (owed_of head)) (sym x.head) (All-nil (λ name. IsSome (stall_in r.stalls.items name)));
  marked = subst (λ since. IsMarked h.unsaved_from since r.queue.backlog.queue) (sym x.since) (record { saved = λ none. x.saved; later = tt });
  listed = λ l. listed;
  rests = λ l. absurd (false≢true (sym l ∙ x.listed));
}

-- where none is found each has another name
none_first : (topic : List ℕ) (x : Room) (xs : List Room) (b : Bool) → bytes_eq topic (topic_name x) ≡ b → (room_in xs topic ≡ None → All (λ (y : Room). topic_name y ≢ topic) xs) → (if b then Some x else room_in xs topic) ≡ None → All (λ (y : Room). topic_name y ≢ topic) (x ∷ xs)
none_first topic x xs true is rest e = absurd cc
none_first topic x xs false is rest e = All-cons (λ (y : Room). topic_name y ≢ topic) x xs (λ same. name_apart topic (topic_name x) is (sym same)) (rest e)

none_named : (topic : List ℕ) (xs : List Room) → room_in xs topic ≡ None → All (λ (x : Room). topic_name x ≢ topic) xs
none_named topic [] e = All-nil (λ (x : Room). topic_name x ≢ topic)
none_named topic (x ∷ xs) e = none_first topic x xs (bytes_eq topic (topic_name x)) refl (λ f. none_named topic xs f) e

-- the topic is put into the hall
module _ (h h' : Hall) (o : Options) (topic : List ℕ) (on : Bool) (r : Room) (sound : IsSound h) (none : room_in h.rooms.items topic ≡ None) (rest : h' ≡ record h { rooms = h'.rooms; pending = h'.pending }) (rooms : h'.rooms.items ≡ put_room h.rooms.items r) (opened : IsOpenedRoom o topic on r)
    (stalls : All (IsOpenedStall o topic) r.stalls.items) where
  else_of : StaysElse h h'
  else_of =
      let moment : h'.moment ≡ h.moment = ap (λ (x : Hall). x.moment) rest in
      record {
        options = ap (λ (x : Hall). x.options) rest;
        epoch = ap (λ (x : Hall). x.epoch) rest;
        ids_used = ap (λ (x : Hall). x.ids_used) rest;
        moment = omega (arith, moment);
        stopped = ap (λ (x : Hall). x.stopped) rest;
        clients = ap (λ (x : Hall). x.clients.items) rest;
      }

  pub put_sound : o ≡ h.options → IsAscendingBy channel_name r.stalls.items → h'.pending.items ≡ h.pending.items ++ topic_name r ∷ [] → IsSound h'
  put_sound options order pending =
      let moment : h'.moment ≡ h.moment = ap (λ (x : Hall). x.moment) rest in
      let early = sound.moment in
      let quiet : h'.quiet_until ≡ h.quiet_until = ap (λ (x : Hall). x.quiet_until) rest in
      let unsaved : h'.unsaved_from ≡ h.unsaved_from = ap (λ (x : Hall). x.unsaved_from) rest in
      let keeps : KeepsRest h h' = record {
        lowers = record {
          options = ap (λ (x : Hall). x.options) rest;
          quiet = omega (arith, quiet);
          unsaved = omega (arith, unsaved);
          pending = λ name has. subst (λ (names : List (List ℕ)). Contains names name) (sym pending) (Contains-append_left h.pending.items (topic_name r ∷ []) name has);
        };
        epoch = ap (λ (x : Hall). x.epoch) rest;
        ids_used = ap (λ (x : Hall). x.ids_used) rest;
        moment = omega (arith, moment, early);
        later = omega (arith, moment);
        clients = ap (λ (x : Hall). x.clients.items) rest;
      } in
      sound_put_room h h' r (record {
        sound = sound;
        keeps = keeps;
        rooms = rooms;
        room = opened_sound h' o topic on r (options ∙ sym keeps.lowers.options) opened order stalls (subst (λ (names : List (List ℕ)). Contains names (topic_name r)) (sym pending) (Contains-push h.pending.items (topic_name r)));
        past = fresh_past h'.moment r opened.since (All-weaker (IsOpenedStall o topic) (λ (s : Stall). s.since ≡ None) (λ s x. x.since) r.stalls.items stalls);
        members = subst (λ n. All (AreMembers h.clients.items n) r.stalls.items) (sym opened.name) (All-weaker (IsOpenedStall o topic) (AreMembers h.clients.items topic) (λ s x. opened_members h o topic s sound none x) r.stalls.items stalls);
        channels = λ channel has.
            absurd (false≢true (sym (ap is_some (none_of_topic h.rooms.items topic channel none)) ∙ ap (λ n. is_some (stall_at h.rooms.items n channel)) (sym opened.name) ∙ has));
      })

  -- other topics' queues are as they were
  module _ (f0 f2 : Files) (only : OnlyTopicFiles topic f0 f2) where
    elsewhere : (name : List ℕ) → name ≢ topic → ((channel : List ℕ) → name ≢ queue_name topic channel) → OwnFilesStay name f0 f2
    elsewhere name no_topic no_channel = λ file its. only file (λ of. no_topic (sym (one_queue topic name file of (own its)))) (λ channel of. no_channel channel (sym (one_queue (queue_name topic channel) name file of (own its))))

    room_apart : (x : Room) (t : Topic) → IsRoomSound h x → topic_name x ≢ topic → IsRoomOf f0 x t → IsRoomOf f2 x t
    room_apart x t y apart of =
        let disk : DiskStays x.queue.backlog.queue f0 f2 = disk_named (topic_name x) x.queue.backlog.queue f0 f2 y.backlog.queue (elsewhere (topic_name x) apart (λ channel. topic_is_no_channel (topic_name x) topic channel y.named)) in
        record {
          queue = topic_stays x.queue f0 f2 t disk of.queue;
          stands = save_stays x.queue.backlog.queue f0 f2 disk of.stands;
          channels =
              pairs_become (IsStallOf f0) (IsStallOf f2) (IsStallSound h.options (topic_name x) h.quiet_until h.unsaved_from) x.stalls.items t.channels
              (λ s k z i.
              stall_stays f0 f2 (topic_name x) s k z.queue
              (elsewhere (queue_name (topic_name x) (channel_name s)) (λ e. topic_is_no_channel topic (topic_name x) (channel_name s) opened.named (sym e))
              (λ channel e. apart (one_channel (topic_name x) (channel_name s) topic channel y.named opened.named e).0)) i)
              y.stalls of.channels;
          delays = of.delays;
          taken = of.taken;
        }

    rooms_apart : All (λ (x : Room). topic_name x ≢ topic) h.rooms.items
    rooms_apart = none_named topic h.rooms.items none

    stands_apart : (s : State) → StandsFor h f0 s → StandsFor h f2 s
    stands_apart s stands = record {
      options = stands.options;
      epoch = stands.epoch;
      ids_used = stands.ids_used;
      moment = stands.moment;
      stopped = stands.stopped;
      clients = stands.clients;
      topics =
          let R : Room → Topic → Type 0 = λ x t. (topic_name x ≢ topic) × IsRoomOf f0 x t in
          pairs_become R (IsRoomOf f2) (IsRoomSound h) h.rooms.items s.topics (λ x t y r. room_apart x t y r.0 r.1) sound.rooms
          (pairs_become (IsRoomOf f0) R (λ (x : Room). topic_name x ≢ topic) h.rooms.items s.topics (λ x t apart of. (apart, of)) rooms_apart stands.topics);
    }

    pub put_stands : (s : State) (t : Topic) → IsRoomOf f2 r t → StandsFor h f0 s → StandsFor h' f2 (with_topic s t)
    put_stands s t of stands = stands_put_room h h' f2 s r t else_of rooms of (stands_apart s stands)

-- the channel that a loop comes to, of a list whose names differ
module _ (xs : List (List ℕ × Bool)) (i : ℕ) (x : List ℕ × Bool) (l : i < length xs) (is : x ≡ get_or xs i x) where
  pub taken_next : take (i + 1) xs ≡ take i xs ++ x ∷ []
  taken_next = ap (λ k. take k xs) (add-one i) ∙ take-suc xs i x l ∙ ap (λ y. take i xs ++ y ∷ []) (sym is)

  pub next_apart : AreApart xs → list_any (λ d. bytes_eq x.0 d.0) (take i xs) ≡ false
  next_apart apart = apart (take i xs) (drop (i + 1) xs) x (sym (take-append-drop (i + 1) xs) ∙ ap (λ ys. ys ++ drop (i + 1) xs) taken_next ∙ append_assoc (take i xs) (x ∷ []) (drop (i + 1) xs))

  pub next_one : Contains xs x
  next_one = subst (Contains xs) (sym is) (Contains-get_or xs i x l)

-- what is found of channels, and what is refused, by the files before the topic's own queue was opened
module _ (topic : List ℕ) (f0 f1 : Files) (named : IsName topic) (change : FilesOfChange topic f0 f1) where
  pub channel_stays : (channel : List ℕ) → OwnFilesStay (queue_name topic channel) f0 f1
  channel_stays channel = opening_stays (queue_name topic channel) topic f0 f1 (topic_is_no_channel topic topic channel named) change

  pub found_later : (kept : List KeptChannel) (found : List FoundChannel) → Pairwise (FindsChannel f0 topic) kept found → Pairwise (FindsChannel f1 topic) kept found
  found_later kept found pairs =
      pairs_weaker (FindsChannel f0 topic) (FindsChannel f1 topic) (λ k z x. record { name = x.name; paused = x.paused; messages = messages_stay (queue_name topic k.name) f0 f1 z.messages (channel_stays k.name) x.messages }) kept found pairs

  pub refuses_later : (channels : List (List ℕ × Bool)) (f2 : Files) (why : Open) → RefusesChannel topic channels f1 f2 why → RefusesChannel topic channels f0 f2 why
  refuses_later channels f2 why (inl memory) = inl memory
  refuses_later channels f2 why (inr x) = inr (record { channel = x.channel; one = x.one; before = x.before; same = λ file its. x.same file its ∙ channel_stays x.channel.0 file its; refused = x.refused })

pub rest_both : (h h1 h2 : Hall) → h1 ≡ record h { rooms = h1.rooms; pending = h1.pending } → h2 ≡ record h1 { rooms = h2.rooms; pending = h2.pending } → h2 ≡ record h { rooms = h2.rooms; pending = h2.pending }
rest_both h h1 h2 a b = b ∙ ap (λ (x : Hall). record x { rooms = h2.rooms; pending = h2.pending }) a
