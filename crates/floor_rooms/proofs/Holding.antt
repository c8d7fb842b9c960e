-- A hall stands for the same states where nothing changes of it but marks and facts for speed.
use Rattle.std.proofs.Common.{◌≡◌, ◌≤◌, ℕ, suc, zero, set, Bool, true, false, if◌then◌else◌, List, [], ◌∷◌, Option, Some, None, refl, sym, ap, subst, ◌∙◌, arith}
use Rattle.std.specs.Prelude.{option_and_then}
use Rattle.std.specs.List.{find, slice_get}
use Rattle.std.specs.Global.{Vec}
use Rattle.std.specs.Str.{bytes_eq}
use Rattle.nsq_outside.specs.Files.{Files}
use Rattle.path_image.specs.Found.{Pairwise}
use Rattle.nsq_base.specs.Names.{put_by}
use Rattle.broker_history.specs.State.{Channel, Topic, State, with_topic}
use Rattle.broker_history.proofs.Lists.{exact_bytes, find_put}
use Rattle.floor_laws.proofs.Pairs.{pairs_put}
use Rattle.broker_history.specs.Channels.{IsKept}
use Rattle.channel_core.specs.Lists.{OnDisk, Stands}
use Rattle.topic_core.specs.Seen.{Seen as TopicSeen}
use Rattle.topic_core.specs.Rows.{IsTopicOf}
use Rattle.channel_core.specs.Seen.{Seen as ChannelSeen, seen_channel}
use Rattle.floor_rooms.specs.declared.stall.Stall.{Stall}
use Rattle.floor_rooms.specs.declared.room.Room.{Room}
use Rattle.floor_rooms.specs.declared.hall.Hall.{Hall}
use Rattle.floor_rooms.specs.Rooms.{channel_name, topic_name, room_in, stall_in, stall_at, put_room}
use Rattle.floor_rooms.specs.Standing.{IsStallOf, IsRoomOf, HoldsFor, StandsFor}
use Rattle.floor_rooms.specs.Changes.{AtRoom, AtStall, InRoom}
use Rattle.floor_rooms.proofs.Staying.{room_named}

-- one item that is still its pair's takes the place of another
pub pairs_set : {X Y : Type 0} (R : X → Y → Type 0) (xs : List X) (ys : List Y) (i : ℕ) (x x' : X) → slice_get xs i ≡ Some x → ((y : Y) → R x y → R x' y) → Pairwise R xs ys → Pairwise R (set xs i x') ys
pairs_set R [] ys i x x' at f p = absurd cc
pairs_set R (z ∷ xs) [] i x x' at f p = absurd p
pairs_set R (z ∷ xs) (y ∷ ys) zero x x' at f p = let same : z ≡ x = cc in (f y (subst (λ a. R a y) same p.0), p.1)
pairs_set R (z ∷ xs) (y ∷ ys) (suc i) x x' at f p = (p.0, pairs_set R xs ys i x x' at f p.1)

-- what is said of the first that passes a test is said of it before, where it passes as the other did
back_one : {X : Type 0} (Q : Option X → Type 0) (x x' : X) (o : Option X) (b c : Bool) → b ≡ c → (Q (Some x') → Q (Some x)) → Q (if b then Some x' else o) → Q (if c then Some x else o)
back_one Q x x' o true true e f h = f h
back_one Q x x' o true false e f h = absurd cc
back_one Q x x' o false true e f h = absurd cc
back_one Q x x' o false false e f h = h

back_more : {X : Type 0} (Q : Option X → Type 0) (z : X) (o u : Option X) (b : Bool) → (Q u → Q o) → Q (if b then Some z else u) → Q (if b then Some z else o)
back_more Q z o u true f h = h
back_more Q z o u false f h = f h

pub found_before : {X : Type 0} (Q : Option X → Type 0) (p : X → Bool) (xs : List X) (i : ℕ) (x x' : X) → slice_get xs i ≡ Some x → p x' ≡ p x → (Q (Some x') → Q (Some x)) → Q (find p (set xs i x')) → Q (find p xs)
found_before Q p [] i x x' at same f h = absurd cc
found_before Q p (z ∷ xs) zero x x' at same f h =
    let it : z ≡ x = cc in
    subst (λ a. Q (find p (a ∷ xs))) (sym it) (back_one Q x x' (find p xs) (p x') (p x) same f h)
found_before Q p (z ∷ xs) (suc i) x x' at same f h = back_more Q z (find p xs) (find p (set xs i x')) (p z) (found_before Q p xs i x x' at same f) h

-- all that a state shows of a hall but its topics is as it was, and its moment no earlier
pub record StaysElse (h h' : Hall) : Type 0 where
  pub options : h'.options ≡ h.options
  pub epoch : h'.epoch ≡ h.epoch
  pub ids_used : h'.ids_used ≡ h.ids_used
  pub moment : h.moment ≤ h'.moment
  pub stopped : h'.stopped ≡ h.stopped
  pub clients : h'.clients.items ≡ h.clients.items

none_some : {X A : Type 0} (x : X) → Some x ≡ None → A
none_some x e = cc

-- with the same topics it stands for the same states
pub holds_same : (h h' : Hall) (files : Files) (s : State) → StaysElse h h' → h'.rooms.items ≡ h.rooms.items → HoldsFor h files s → HoldsFor h' files s
holds_same h h' files s e same holds =
    let earlier = holds.stands.moment in
    let later = e.moment in
    record {
      stands = record {
        options = holds.stands.options ∙ sym e.options;
        epoch = holds.stands.epoch ∙ sym e.epoch;
        ids_used = holds.stands.ids_used ∙ sym e.ids_used;
        moment = omega (arith, earlier, later);
        stopped = holds.stands.stopped ∙ sym e.stopped;
        clients = holds.stands.clients ∙ sym e.clients;
        topics = subst (λ rooms. Pairwise (IsRoomOf files) rooms s.topics) (sym same) holds.stands.topics;
      };
      idle = record {
        topics = λ name named none. holds.idle.topics name named (ap (λ rooms. room_in rooms name) (sym same) ∙ none);
        channels = λ topic channel t c none. holds.idle.channels topic channel t c (ap (λ rooms. stall_at rooms topic channel) (sym same) ∙ none);
      };
    }

-- so it does where one topic became another that stands for the same, and has no channel less
pub holds_at_room : (h h' : Hall) (files : Files) (s : State) (i : ℕ) (Does : Room → Room → Type 0) → StaysElse h h' → (at : AtRoom i Does h.rooms.items h'.rooms.items) → topic_name at.after ≡ topic_name at.room
    → ((t : Topic) → IsRoomOf files at.room t → IsRoomOf files at.after t) → ((channel : List ℕ) → stall_in at.after.stalls.items channel ≡ None → stall_in at.room.stalls.items channel ≡ None) → HoldsFor h files s → HoldsFor h' files s
holds_at_room h h' files s i Does e at name stands stalls holds =
    let earlier = holds.stands.moment in
    let later = e.moment in
    record {
      stands = record {
        options = holds.stands.options ∙ sym e.options;
        epoch = holds.stands.epoch ∙ sym e.epoch;
        ids_used = holds.stands.ids_used ∙ sym e.ids_used;
        moment = omega (arith, earlier, later);
        stopped = holds.stands.stopped ∙ sym e.stopped;
        clients = holds.stands.clients ∙ sym e.clients;
        topics = subst (λ rooms. Pairwise (IsRoomOf files) rooms s.topics) (sym at.is) (pairs_set (IsRoomOf files) h.rooms.items s.topics i at.room at.after at.there stands holds.stands.topics);
      };
      idle = record {
        topics = λ n named none.
            holds.idle.topics n named
            (found_before (λ (o : Option Room). o ≡ None) (λ r. bytes_eq n (topic_name r)) h.rooms.items i at.room at.after at.there (ap (bytes_eq n) name) (none_some at.after) (ap (λ rooms. room_in rooms n) (sym at.is) ∙ none));
        channels = λ t c nt nc none.
            holds.idle.channels t c nt nc
            (found_before (λ (o : Option Room). option_and_then (λ (r : Room). stall_in r.stalls.items c) o ≡ None) (λ r. bytes_eq t (topic_name r)) h.rooms.items i at.room at.after at.there (ap (bytes_eq t) name) (stalls c)
            (ap (λ rooms. stall_at rooms t c) (sym at.is) ∙ none));
      };
    }

-- and where one channel of it became another that stands for the same
pub holds_at_stall : (h h' : Hall) (files : Files) (s : State) (i j : ℕ) (Does : Stall → Stall → Type 0) → StaysElse h h' → (at : AtStall i j Does h.rooms.items h'.rooms.items) → channel_name at.does.after ≡ channel_name at.does.stall
    → ((k : Channel) → IsStallOf files at.does.stall k → IsStallOf files at.does.after k) → HoldsFor h files s → HoldsFor h' files s
holds_at_stall h h' files s i j Does e at name stands holds =
    holds_at_room h h' files s i (InRoom j Does) e at (ap topic_name at.does.is)
    (λ t of. subst (λ r. IsRoomOf files r t) (sym at.does.is) (record {
      queue = of.queue;
      stands = of.stands;
      channels = subst (λ xs. Pairwise (IsStallOf files) xs t.channels) (sym at.does.stalls)
          (pairs_set (IsStallOf files) at.room.stalls.items t.channels j at.does.stall at.does.after at.does.there stands of.channels);
      delays = of.delays;
      taken = of.taken;
    }))
    (λ channel none. found_before (λ (o : Option Stall). o ≡ None) (λ x. bytes_eq channel (channel_name x)) at.room.stalls.items j at.does.stall at.does.after at.does.there (ap (bytes_eq channel) name) (none_some at.does.after)
    (ap (λ xs. stall_in xs channel) (sym at.does.stalls) ∙ none))
    holds

-- marks alone change nothing that a room or a stall stands for
pub room_alike : (files : Files) (r r' : Room) (t : Topic) → r'.queue ≡ r.queue → r'.stalls ≡ r.stalls → IsRoomOf files r t → IsRoomOf files r' t
room_alike files r r' t queue stalls of = record {
  queue = subst (λ q. IsTopicOf q files t) (sym queue) of.queue;
  stands = subst (λ (q : TopicSeen). Stands q.backlog.queue files) (sym queue) of.stands;
  channels = subst (λ (xs : Vec Stall). Pairwise (IsStallOf files) xs.items t.channels) (sym stalls) of.channels;
  delays = of.delays;
  taken = of.taken;
}

pub stall_alike : (files : Files) (x x' : Stall) (k : Channel) → x'.channel ≡ x.channel → IsStallOf files x k → IsStallOf files x' k
stall_alike files x x' k same of = record {
  disk = of.disk;
  on_disk = subst (λ (c : ChannelSeen). OnDisk c.backlog.queue files of.disk) (sym same) of.on_disk;
  is_kept = subst (λ (c : ChannelSeen). IsKept (seen_channel c of.disk) k) (sym same) of.is_kept;
  stands = subst (λ (c : ChannelSeen). Stands c.backlog.queue files) (sym same) of.stands;
}

-- what is said of what is found behind a change is said of it before
before_one : {X : Type 0} (Q : Option X → Type 0) (x : X) (o : Option X) (b : Bool) → (b ≡ true → Q (Some x) → Q o) → Q (if b then Some x else o) → Q o
before_one Q x o true f h = f refl h
before_one Q x o false f h = h

-- a topic that stands for one of its name is put in: so it is in the state
pub stands_put_room : (h h' : Hall) (files : Files) (s : State) (r : Room) (t : Topic) → StaysElse h h' → h'.rooms.items ≡ put_room h.rooms.items r → IsRoomOf files r t → StandsFor h files s → StandsFor h' files (with_topic s t)
stands_put_room h h' files s r t e rooms of stands =
    let earlier = stands.moment in
    let later = e.moment in
    record {
      options = stands.options ∙ sym e.options;
      epoch = stands.epoch ∙ sym e.epoch;
      ids_used = stands.ids_used ∙ sym e.ids_used;
      moment = omega (arith, earlier, later);
      stopped = stands.stopped ∙ sym e.stopped;
      clients = stands.clients ∙ sym e.clients;
      topics = subst (λ xs. Pairwise (IsRoomOf files) xs (put_by (λ (u : Topic). u.name) s.topics t)) (sym rooms)
          (pairs_put topic_name (λ (u : Topic). u.name) (IsRoomOf files) (IsRoomOf files) r t h.rooms.items s.topics (λ a b x. room_named files a b x) (λ a b apart x. x) (room_named files r t of) of stands.topics);
    }

-- and where no channel is lost by that, the hall stands for the state with it
pub holds_put_room : (h h' : Hall) (files : Files) (s : State) (r : Room) (t : Topic) → StaysElse h h' → h'.rooms.items ≡ put_room h.rooms.items r → IsRoomOf files r t
    → ((channel : List ℕ) → stall_in r.stalls.items channel ≡ None → stall_at h.rooms.items (topic_name r) channel ≡ None) → HoldsFor h files s → HoldsFor h' files (with_topic s t)
holds_put_room h h' files s r t e rooms of stalls holds =
    let found : (name : List ℕ) → room_in h'.rooms.items name ≡ (if bytes_eq name (topic_name r) then Some r else room_in h.rooms.items name) = λ name. ap (λ xs. room_in xs name) rooms ∙ find_put topic_name h.rooms.items r name in
    record {
      stands = stands_put_room h h' files s r t e rooms of holds.stands;
      idle = record {
        topics = λ name named none.
            holds.idle.topics name named (before_one (λ (o : Option Room). o ≡ None) r (room_in h.rooms.items name) (bytes_eq name (topic_name r)) (λ same some. none_some r some) (sym (found name) ∙ none));
        channels = λ topic channel nt nc none.
            let within : Room → Option Stall = λ x. stall_in x.stalls.items channel in
            holds.idle.channels topic channel nt nc
            (before_one (λ (o : Option Room). option_and_then within o ≡ None) r (room_in h.rooms.items topic) (bytes_eq topic (topic_name r))
            (λ same gone. subst (λ n. stall_at h.rooms.items n channel ≡ None) (sym (exact_bytes topic (topic_name r) same)) (stalls channel gone)) (ap (option_and_then within) (sym (found topic)) ∙ none));
      };
    }
