-- What is told of a part of a hall is told of each part of a state for which it stands.
use Rattle.std.proofs.Common.{◌≡◌, ◌<◌, ◌≤◌, ℕ, zero, suc, add-one, ◌+◌, ◌-◌, nat_eq, ◌==◌, ◌||◌, if◌then◌else◌, Bool, true, false, List, [], ◌∷◌, ◌++◌, length, take, get_or, Option, Some, None, is_some, refl, sym, ap, subst, ◌∙◌, arith}
use Rattle.std.specs.List.{All, AllPairs, filter, list_any}
use Rattle.std.proofs.lemmas.Bool.{false≢true, eq-eqb, eqb-true}
use Rattle.std.proofs.lemmas.List.{append-nil, get_or_default}
use Rattle.std.proofs.Math.Seq.{take-suc}
use Rattle.std.proofs.lemmas.List.Elements.{filter-append}
use Rattle.nsq_base.specs.Name.{is_ephemeral}
use Rattle.nsq_base.specs.declared.options.Options.{Options}
use Rattle.nsq_outside.specs.Files.{Files}
use Rattle.v2_frame.specs.declared.message.Message.{Message}
use Rattle.path_image.specs.Found.{Pairwise}
use Rattle.backlog.specs.Lists.{OnDisk}
use Rattle.broker_history.specs.declared.stats.ClientStats.{ClientStats}
use Rattle.broker_history.specs.declared.stats.ChannelStats.{ChannelStats}
use Rattle.broker_history.specs.declared.stats.TopicStats.{TopicStats}
use Rattle.broker_history.specs.State.{Channel, Client, State, Topic, flying, has_channel, is_ephemeral_channel, queued}
use Rattle.broker_history.specs.Said.{IsBackendDepth, Tells, TellsChannel, TellsClient, TellsTopic, is_wanted}
use Rattle.channel_core.specs.declared.answers.Counts.{Counts}
use Rattle.channel_core.specs.Answers as channels
use Rattle.channel_core.specs.Made.{about_of}
use Rattle.channel_core.specs.Seen.{channel_with, queued_in, seen_channel}
use Rattle.topic_core.specs.Rows.{IsTopicOf}
use Rattle.floor_rooms.specs.ClientPlaces.{AreInOrder}
use Rattle.floor_rooms.specs.Seen.{TellsOf}
use Rattle.broker_history.proofs.Lists.{find_passes}
use Rattle.floor_laws.specs.Counts.{CountsAlike}
use Rattle.floor_laws.proofs.Counting.{counts_alike}
use Rattle.floor_laws.proofs.Pairs.{pairs_append, pairs_become, pairs_filter}
use Rattle.floor_rooms.specs.declared.stall.Stall.{Stall}
use Rattle.floor_rooms.specs.declared.room.Room.{Room}
use Rattle.floor_rooms.specs.declared.hall.Hall.{Hall}
use Rattle.floor_rooms.specs.Rooms.{channel_name, client_in, topic_name}
use Rattle.floor_rooms.specs.Sound.{AreMembers, member_of}
use Rattle.floor_rooms.specs.Standing.{HoldsFor, IsRoomOf, IsStallOf}
use Rattle.floor_rooms.proofs.Staying.{room_named, stall_named}
use Rattle.floor_calls.specs.Stats.{IsToldOfClient, IsToldOfNumber, IsToldOfRoom, IsToldOfStall}
use Rattle.floor_calls.proofs.Members.{each_found, members_are, numbers, of_numbers}

-- two relations to one list, pair by pair, are one between the other two
pub pairs_joined : {X Y Z : Type 0} (R : X → Y → Type 0) (S : X → Z → Type 0) (T : Y → Z → Type 0) → ((x : X) (y : Y) (z : Z) → R x y → S x z → T y z) → (xs : List X) (ys : List Y) (zs : List Z) → Pairwise R xs ys → Pairwise S xs zs → Pairwise T ys zs
pairs_joined R S T f [] [] [] p q = tt
pairs_joined R S T f [] [] (z ∷ zs) p q = absurd q
pairs_joined R S T f [] (y ∷ ys) zs p q = absurd p
pairs_joined R S T f (x ∷ xs) [] zs p q = absurd p
pairs_joined R S T f (x ∷ xs) (y ∷ ys) [] p q = absurd q
pairs_joined R S T f (x ∷ xs) (y ∷ ys) (z ∷ zs) p q = (f x y z p.0 q.0, pairs_joined R S T f xs ys zs p.1 q.1)

-- what holds of each item holds of the one that was read
pub read_of_all : {X : Type 0} (P : X → Type 0) (xs ys : List X) (i : ℕ) (x : X) → All P ys → xs ≡ ys → x ≡ get_or xs i x → i < length xs → P x
read_of_all P xs ys i x all same is l = subst P (sym is) (subst (λ zs. P (get_or zs i x)) (sym same) (all i x (subst (λ zs. i < length zs) same l)))

-- one more of a list is told, or passed over
pub one_told : {X Y : Type 0} (S : X → Y → Type 0) (p : X → Bool) (xs : List X) (i : ℕ) (x : X) (told : List Y) (y : Y) → x ≡ get_or xs i x → i < length xs → p x ≡ true → S x y → Pairwise S (filter p (take i xs)) told
    → Pairwise S (filter p (take (i + 1) xs)) (told ++ y ∷ [])
one_told S p xs i x told y is l passes so h =
    let here : filter p (get_or xs i x ∷ []) ≡ x ∷ [] = ap (λ z. filter p (z ∷ [])) (sym is) ∙ ap (λ b. if b then x ∷ [] else []) passes in
    let all : filter p (take (i + 1) xs) ≡ filter p (take i xs) ++ x ∷ [] = ap (λ n. filter p (take n xs)) (add-one i) ∙ ap (filter p) (take-suc xs i x l) ∙ filter-append p (take i xs) (get_or xs i x ∷ []) ∙ ap (λ ys. filter p (take i xs) ++ ys) here in
    subst (λ zs. Pairwise S zs (told ++ y ∷ [])) (sym all) (pairs_append S (filter p (take i xs)) (x ∷ []) told (y ∷ []) h (so, tt))

pub one_passed : {X Y : Type 0} (S : X → Y → Type 0) (p : X → Bool) (xs : List X) (i : ℕ) (x : X) (told : List Y) → x ≡ get_or xs i x → i < length xs → p x ≡ false → Pairwise S (filter p (take i xs)) told
    → Pairwise S (filter p (take (i + 1) xs)) told
one_passed S p xs i x told is l fails h =
    let here : filter p (get_or xs i x ∷ []) ≡ [] = ap (λ z. filter p (z ∷ [])) (sym is) ∙ ap (λ b. if b then x ∷ [] else []) fails in
    let all : filter p (take (i + 1) xs) ≡ filter p (take i xs) = ap (λ n. filter p (take n xs)) (add-one i) ∙ ap (filter p) (take-suc xs i x l) ∙ filter-append p (take i xs) (get_or xs i x ∷ []) ∙ ap (λ ys. filter p (take i xs) ++ ys) here ∙ append-nil (filter p (take i xs)) in
    subst (λ zs. Pairwise S zs told) (sym all) h

-- the same where all are told
pub each_told : {X Y : Type 0} (S : X → Y → Type 0) (xs : List X) (i : ℕ) (x : X) (told : List Y) (y : Y) → x ≡ get_or xs i x → i < length xs → S x y → Pairwise S (take i xs) told → Pairwise S (take (i + 1) xs) (told ++ y ∷ [])
each_told S xs i x told y is l so h =
    let all : take (i + 1) xs ≡ take i xs ++ x ∷ [] = ap (λ n. take n xs) (add-one i) ∙ take-suc xs i x l ∙ ap (λ z. take i xs ++ z ∷ []) (sym is) in
    subst (λ zs. Pairwise S zs (told ++ y ∷ [])) (sym all) (pairs_append S (take i xs) (x ∷ []) told (y ∷ []) h (so, tt))

-- a backend depth within its bounds
backend : (ephemeral : Bool) (mem depth disk : ℕ) → (ephemeral ≡ true → disk ≡ 0) → depth - mem ≤ disk → disk ≤ depth → IsBackendDepth ephemeral mem depth disk
backend true mem depth disk none least most = none refl
backend false mem depth disk none least most = (least, most)

-- a client that is found by a number has it
found_number : (clients : List Client) (number : ℕ) (c : Client) → client_in clients number ≡ Some c → c.number ≡ number
found_number clients number c found = eqb-true c.number number (find_passes (λ (d : Client). d.number == number) clients c found)

some_one : (c d : Client) → Some c ≡ Some d → c ≡ d
some_one c d e = cc

-- a client, by its number
pub number_told : (clients : List Client) (x : Stall) (number : ℕ) (c : Client) (in_flight : ℕ) (told : ClientStats) → Some c ≡ client_in clients number → ((waits : List Message) → in_flight ≡ flying number (channel_with x.channel waits).copies)
    → TellsOf c in_flight told → IsToldOfNumber clients x number told
number_told clients x number c in_flight told found counts tells d is files k of =
    let same : c ≡ d = some_one c d (found ∙ is) in
    let named : number ≡ c.number = sym (found_number clients number c (sym found)) in
    let flies : in_flight ≡ flying c.number k.copies = counts (queued_in x.channel of.disk) ∙ (counts_alike (channel_with x.channel (queued_in x.channel of.disk)) k of.is_kept).flying number ∙ ap (λ n. flying n k.copies) named in
    subst (λ e. TellsClient k e told) same (tells k flies)

-- a client of a channel is there
or_true : (a b : Bool) → b ≡ true → (a || b) ≡ true
or_true true b e = refl
or_true false b e = e

in_list : (n i : ℕ) (xs : List ℕ) → n ≡ get_or xs i n → i < length xs → list_any (nat_eq n) xs ≡ true
in_list n i [] is l = absurd (let no : ⊥ = omega (arith, l) in no)
in_list n zero (x ∷ xs) is l = ap (λ b. b || list_any (nat_eq n) xs) (eq-eqb n x is)
in_list n (suc i) (x ∷ xs) is l = or_true (nat_eq n x) (list_any (nat_eq n) xs) (in_list n i xs is (omega (arith, l)))

-- so each of a channel's numbers is that of a client
some_of : (topic channel : List ℕ) (o : Option Client) → is_some (member_of topic channel o) ≡ true → is_some o ≡ true
some_of topic channel None e = absurd (false≢true e)
some_of topic channel (Some c) e = refl

pub member_there : (clients : List Client) (topic : List ℕ) (x : Stall) (ns : List ℕ) (i : ℕ) → AreMembers clients topic x → ns ≡ x.members.items → i < length ns → is_some (client_in clients (get_or ns i 0)) ≡ true
member_there clients topic x ns i members same l =
    let there : list_any (nat_eq (get_or ns i 0)) x.members.items ≡ true = subst (λ xs. list_any (nat_eq (get_or ns i 0)) xs ≡ true) same (in_list (get_or ns i 0) i ns (get_or_default ns i 0 (get_or ns i 0) l) l) in
    some_of topic (channel_name x) (client_in clients (get_or ns i 0)) (sym (members.listed (get_or ns i 0)) ∙ there)

pairs_same : {X Y : Type 0} (R S : X → Y → Type 0) → ((x : X) (y : Y) → R x y → S x y) → (xs : List X) (ys : List Y) → Pairwise R xs ys → Pairwise S xs ys
pairs_same R S f [] [] p = tt
pairs_same R S f [] (y ∷ ys) p = absurd p
pairs_same R S f (x ∷ xs) [] p = absurd p
pairs_same R S f (x ∷ xs) (y ∷ ys) p = (f x y p.0, pairs_same R S f xs ys p.1)

-- the clients of a channel
pub clients_told : (clients : List Client) (topic : List ℕ) (x : Stall) (told : List ClientStats) → AreInOrder clients → AllPairs (λ a b. a < b) x.members.items → AreMembers clients topic x → Pairwise (IsToldOfNumber clients x) x.members.items told
    → Pairwise (IsToldOfClient x) (filter (has_channel topic (channel_name x)) clients) told
clients_told clients topic x told order up members h =
    let cs : List Client = filter (has_channel topic (channel_name x)) clients in
    let same : numbers cs ≡ x.members.items = members_are topic (channel_name x) clients x.members.items order up members.listed in
    pairs_become (λ (c : Client) (y : ClientStats). IsToldOfNumber clients x c.number y) (IsToldOfClient x) (λ (c : Client). client_in clients c.number ≡ Some c) cs told (λ c y found tells. tells c found)
    (each_found (has_channel topic (channel_name x)) clients order)
    (of_numbers (IsToldOfNumber clients x) cs told (subst (λ ns. Pairwise (IsToldOfNumber clients x) ns told) (sym same) h))

-- what a channel's call tells
pub record CountsOf (x : Stall) (counts : Counts) : Type 0 where
  pub tells : (files : Files) → (disk : List Message) → OnDisk x.channel.backlog.queue files disk → channels.Tells x.channel.about.mem_queue_size (seen_channel x.channel disk) counts
  pub none : is_ephemeral_channel x.channel.about.topic x.channel.about.name ≡ true → counts.backend_depth ≡ 0

pub stall_told : (h : Hall) (topic : List ℕ) (x : Stall) (counts : Counts) (clients : List ClientStats) → x.channel.about ≡ about_of topic (channel_name x) h.options → CountsOf x counts
    → Pairwise (IsToldOfClient x) (filter (has_channel topic (channel_name x)) h.clients.items) clients
    → IsToldOfStall h topic x (record {
      backend_depth = counts.backend_depth;
      channel_name = x.channel.about.name;
      clients = clients;
      deferred_count = counts.deferred_count;
      depth = counts.depth;
      in_flight_count = counts.in_flight_count;
      message_count = counts.message_count;
      paused = x.channel.paused;
      requeue_count = counts.requeue_count;
      timeout_count = counts.timeout_count;
    })
stall_told h topic x counts clients about of told files s k holds is =
    let t = of.tells files is.disk is.on_disk in
    let alike : CountsAlike (seen_channel x.channel is.disk) k = counts_alike (seen_channel x.channel is.disk) k is.is_kept in
    let named : k.name ≡ channel_name x = stall_named files x k is in
    let mem : s.options.mem_queue_size ≡ x.channel.about.mem_queue_size = ap (λ (o : Options). o.mem_queue_size) holds.stands.options ∙ sym (ap (λ a. a.mem_queue_size) about) in
    let of_topic : x.channel.about.topic ≡ topic = ap (λ a. a.topic) about in
    let depth : counts.depth ≡ queued k.copies = t.depth ∙ alike.queued in
    let least = t.least in
    let most = t.most in
    record {
      backend_depth =
          backend (is_ephemeral_channel topic k.name) s.options.mem_queue_size (queued k.copies) counts.backend_depth
          (λ e. of.none (ap (λ n. is_ephemeral_channel n x.channel.about.name) of_topic ∙ ap (is_ephemeral_channel topic) (sym named) ∙ e))
          (omega (arith, mem, depth, least)) (omega (arith, depth, most));
      channel_name = sym named;
      clients =
          subst (λ cs. Pairwise (TellsClient k) (filter (has_channel topic k.name) cs) clients) (sym holds.stands.clients)
          (subst (λ n. Pairwise (TellsClient k) (filter (has_channel topic n) h.clients.items) clients) (sym named)
          (pairs_same (IsToldOfClient x) (TellsClient k) (λ c y tells. tells files k is) (filter (has_channel topic (channel_name x)) h.clients.items) clients told));
      deferred_count = t.deferred_count ∙ alike.deferred;
      depth = depth;
      in_flight_count = t.in_flight_count ∙ alike.in_flight;
      message_count = t.message_count ∙ alike.message_count;
      paused = alike.paused;
      requeue_count = t.requeue_count ∙ alike.requeue_count;
      timeout_count = t.timeout_count ∙ alike.timeout_count;
    }

-- what a topic's call tells
pub record DepthsOf (r : Room) (ring disk : ℕ) : Type 0 where
  pub within : ring ≤ r.queue.backlog.capacity
  pub none : is_ephemeral (topic_name r) ≡ true → disk ≡ 0
  pub row : (files : Files) (t : Topic) → IsTopicOf r.queue files t → ring + disk ≡ length t.waiting

-- the channels that were asked for
asked_channels : (files : Files) (r : Room) (t : Topic) (channel : Option (List ℕ)) → IsRoomOf files r t → Pairwise (IsStallOf files) (filter (λ x. is_wanted channel (channel_name x)) r.stalls.items) (filter (λ (k : Channel). is_wanted channel k.name) t.channels)
asked_channels files r t channel is = pairs_filter (IsStallOf files) (λ x. is_wanted channel (channel_name x)) (λ (k : Channel). is_wanted channel k.name) r.stalls.items t.channels (λ x k of. ap (is_wanted channel) (sym (stall_named files x k of))) is.channels

pub room_told : (h : Hall) (channel : Option (List ℕ)) (r : Room) (ring disk : ℕ) (channels : List ChannelStats) → r.queue.backlog.capacity ≡ h.options.mem_queue_size → DepthsOf r ring disk
    → Pairwise (IsToldOfStall h (topic_name r)) (filter (λ x. is_wanted channel (channel_name x)) r.stalls.items) channels
    → IsToldOfRoom h channel r (record {
      backend_depth = disk;
      channels = channels;
      depth = ring + disk;
      message_count = r.queue.message_count;
      paused = r.queue.paused;
      topic_name = topic_name r;
    })
room_told h channel r ring disk channels capacity of told files s t holds is =
    let named : t.name ≡ topic_name r = room_named files r t is in
    let mem : s.options.mem_queue_size ≡ h.options.mem_queue_size = ap (λ (o : Options). o.mem_queue_size) holds.stands.options in
    let depth : ring + disk ≡ length t.waiting = of.row files t is.queue in
    let within = of.within in
    record {
      backend_depth =
          backend (is_ephemeral t.name) s.options.mem_queue_size (length t.waiting) disk (λ e. of.none (ap is_ephemeral (sym named) ∙ e))
          (omega (arith, mem, depth, within, capacity)) (omega (arith, depth));
      channels =
          subst (λ n. Pairwise (TellsChannel s n) (filter (λ (k : Channel). is_wanted channel k.name) t.channels) channels) (sym named)
          (pairs_joined (IsStallOf files) (IsToldOfStall h (topic_name r)) (TellsChannel s (topic_name r)) (λ x k y stands tells. tells files s k holds stands)
          (filter (λ x. is_wanted channel (channel_name x)) r.stalls.items) (filter (λ (k : Channel). is_wanted channel k.name) t.channels) channels (asked_channels files r t channel is) told);
      depth = depth;
      message_count = sym is.queue.message_count;
      paused = sym is.queue.paused;
      topic_name = sym named;
    }

-- the topics that were asked for
pub all_told : (h : Hall) (topic channel : Option (List ℕ)) (told : List TopicStats) → Pairwise (IsToldOfRoom h channel) (filter (λ r. is_wanted topic (topic_name r)) h.rooms.items) told
    → (files : Files) (s : State) → HoldsFor h files s → Tells s topic channel (record { topics = told })
all_told h topic channel told all files s holds = record {
  topics =
      pairs_joined (IsRoomOf files) (IsToldOfRoom h channel) (TellsTopic s channel) (λ r t y stands tells. tells files s t holds stands)
      (filter (λ r. is_wanted topic (topic_name r)) h.rooms.items) (filter (λ (t : Topic). is_wanted topic t.name) s.topics) told
      (pairs_filter (IsRoomOf files) (λ r. is_wanted topic (topic_name r)) (λ (t : Topic). is_wanted topic t.name) h.rooms.items s.topics (λ r t of. ap (is_wanted topic) (sym (room_named files r t of))) holds.stands.topics) all;
}
