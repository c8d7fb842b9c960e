-- A change of one channel of a hall is that change of the state that the hall stands for.
use Rattle.std.proofs.Common.{◌≡◌, ◌≢◌, ◌⊎◌, inl, inr, ℕ, Bool, true, false, if◌then◌else◌, List, [], ◌∷◌, Option, Some, None, refl, sym, ap, subst, ◌∙◌, arith}
use Rattle.std.specs.Prelude.{IfSome, option_and_then}
use Rattle.std.specs.List.{All, find}
use Rattle.std.specs.Str.{bytes_eq}
use Rattle.std.proofs.lemmas.Bool.{false≢true}
use Rattle.std.proofs.lemmas.List.Elements.{All-head, All-tail, All-weaker}
use Rattle.nsq_base.specs.Name.{IsName}
use Rattle.nsq_base.specs.Names.{put_by}
use Rattle.nsq_outside.specs.Files.{Files}
use Rattle.queue_image.specs.FileNames.{meta_file}
use Rattle.queue_image.specs.Metas.{IsIdle}
use Rattle.path_image.specs.Found.{Pairwise}
use Rattle.broker_history.specs.State.{Channel, Topic, State, topic_of, channel_of, with_topic, with_channel}
use Rattle.broker_history.specs.Changes.{AtChannel}
use Rattle.broker_history.proofs.Lists.{find_put, find_passes, exact_bytes, same_bytes}
use Rattle.channel_core.specs.Lists.{Stands}
use Rattle.topic_core.specs.Seen.{Seen as Queue}
use Rattle.topic_core.specs.Rows.{IsTopicOf}
use Rattle.topic_core.specs.Laws.{DiskStays}
use Rattle.topic_core.proofs.Keeping.{topic_stays, save_stays}
use Rattle.channel_core.specs.Seen.{queue_name}
use Rattle.floor_laws.proofs.Pairs.{IfBoth, pairs_become, pairs_found, pairs_put}
use Rattle.floor_rooms.specs.declared.stall.Stall.{Stall}
use Rattle.floor_rooms.specs.declared.room.Room.{Room}
use Rattle.floor_rooms.specs.declared.hall.Hall.{Hall}
use Rattle.floor_rooms.specs.Rooms.{channel_name, topic_name, room_in, stall_in, stall_at, put_stall}
use Rattle.floor_rooms.specs.Sound.{IsRoomSound, IsStallSound, IsSound}
use Rattle.floor_rooms.specs.Standing.{IsDurableChannel, IsDurableTopic, IsStallOf, IsRoomOf, HoldsFor, LiftsTo}
use Rattle.floor_rooms.specs.Changes.{StallChange}
use Rattle.floor_rooms.proofs.Staying.{IsElsewhere, stall_stays, room_stays, queue_disk, other_channels, idle_stays, stall_named, room_named, topic_is_no_channel, other_topic, other_channel}

-- what is found of a list of which all are so is so
found_one : {X : Type 0} (P : X → Type 0) (p : X → Bool) (x y : X) (xs : List X) (b : Bool) → P x → (find p xs ≡ Some y → P y) → (if b then Some x else find p xs) ≡ Some y → P y
found_one P p x y xs true px f e = let same : x ≡ y = cc in subst P same px
found_one P p x y xs false px f e = f e

pub all_found : {X : Type 0} (P : X → Type 0) (p : X → Bool) (xs : List X) (y : X) → All P xs → find p xs ≡ Some y → P y
all_found P p [] y all e = absurd cc
all_found P p (x ∷ xs) y all e = found_one P p x y xs (p x) (All-head P x xs all) (all_found P p xs y (All-tail P x xs all)) e

pub both_some : {X Y : Type 0} (R : X → Y → Type 0) (x : X) (o : Option Y) → IfBoth R (Some x) o → (y : Y) × (o ≡ Some y) × R x y
both_some R x None h = absurd h
both_some R x (Some y) h = (y, refl, h)

-- the names of a room and of its queues
pub record IsNamedRoom (r : Room) : Type 0 where
  pub named : IsName (topic_name r)
  pub queue : IfSome r.queue.backlog.queue (λ q. q.name ≡ topic_name r)
  pub stalls : All (λ s. IfSome s.channel.backlog.queue (λ q. q.name ≡ queue_name (topic_name r) (channel_name s))) r.stalls.items

pub named_room : (h : Hall) (r : Room) → IsRoomSound h r → IsNamedRoom r
named_room h r i = record {
  named = i.named;
  queue = i.backlog.queue;
  stalls = All-weaker (IsStallSound h.options (topic_name r) h.quiet_until h.unsaved_from) (λ s. IfSome s.channel.backlog.queue (λ q. q.name ≡ queue_name (topic_name r) (channel_name s))) (λ s x. x.queue) r.stalls.items i.stalls;
}

-- names that bytes tell apart are two
pub apart_names : (a b : List ℕ) → bytes_eq a b ≡ false → b ≢ a
apart_names a b e same = false≢true (sym e ∙ ap (bytes_eq a) same ∙ same_bytes a)

none_some : {X A : Type 0} (x : X) → Some x ≡ None → A
none_some x e = cc

-- where none of a name is found behind a change, none was before, and the changed one has another name
pub none_one : {X : Type 0} (x : X) (o : Option X) (b : Bool) → (if b then Some x else o) ≡ None → (b ≡ false) × (o ≡ None)
none_one x o true e = none_some x e
none_one x o false e = (refl, e)

-- what is found in one of the name or else in another
in_one : (channel : List ℕ) (r : Room) (o : Option Room) (b : Bool) → option_and_then (λ (r : Room). stall_in r.stalls.items channel) (if b then Some r else o) ≡ None
    → ((b ≡ true) × (stall_in r.stalls.items channel ≡ None)) ⊎ ((b ≡ false) × (option_and_then (λ (r : Room). stall_in r.stalls.items channel) o ≡ None))
in_one channel r o true e = inl (refl, e)
in_one channel r o false e = inr (refl, e)

module _ (h h' : Hall) (old new : Files) (s : State) (topic channel : List ℕ) (stall to : Stall) (sound : IsSound h) (holds : HoldsFor h old s) (c : StallChange h h' old new topic channel stall to) where
  all_named : All IsNamedRoom h.rooms.items
  all_named = All-weaker (IsRoomSound h) IsNamedRoom (named_room h) h.rooms.items sound.rooms

  room_is : IsNamedRoom c.room
  room_is = all_found IsNamedRoom (λ r. bytes_eq topic (topic_name r)) h.rooms.items c.room all_named c.there

  topic_is : topic ≡ topic_name c.room
  topic_is = exact_bytes topic (topic_name c.room) (find_passes (λ r. bytes_eq topic (topic_name r)) h.rooms.items c.room c.there)

  named_topic : IsName topic
  named_topic = subst IsName (sym topic_is) room_is.named

  after_is : topic_name c.after ≡ topic
  after_is = ap (λ (q : Queue). q.name) c.queue ∙ sym topic_is

  stall_is : channel ≡ channel_name stall
  stall_is = exact_bytes channel (channel_name stall) (find_passes (λ x. bytes_eq channel (channel_name x)) c.room.stalls.items stall c.has)

  -- the topic of the state, and its channel
  at_topic : (t : Topic) × (topic_of s topic ≡ Some t) × IsRoomOf old c.room t
  at_topic =
      both_some (IsRoomOf old) c.room (topic_of s topic)
      (subst (λ o. IfBoth (IsRoomOf old) o (topic_of s topic)) c.there
      (pairs_found (IsRoomOf old) (λ r. bytes_eq topic (topic_name r)) (λ (t : Topic). bytes_eq topic t.name) h.rooms.items s.topics (λ a b r. ap (bytes_eq topic) (sym (room_named old a b r))) holds.stands.topics))

  at_own : (k : Channel) × (channel_of at_topic.0 channel ≡ Some k) × IsStallOf old stall k
  at_own =
      both_some (IsStallOf old) stall (channel_of at_topic.0 channel)
      (subst (λ o. IfBoth (IsStallOf old) o (channel_of at_topic.0 channel)) c.has
      (pairs_found (IsStallOf old) (λ x. bytes_eq channel (channel_name x)) (λ (k : Channel). bytes_eq channel k.name) c.room.stalls.items at_topic.0.channels (λ a b r. ap (bytes_eq channel) (sym (stall_named old a b r))) at_topic.2.channels))

  -- the other rooms stay what they were
  other_room : (a : Room) (b : Topic) → bytes_eq (topic_name c.after) (topic_name a) ≡ false → IsNamedRoom a × IsRoomOf old a b → IsRoomOf new a b
  other_room a b apart x =
      let other : topic_name a ≢ topic = subst (λ n. topic_name a ≢ n) after_is (apart_names (topic_name c.after) (topic_name a) apart) in
      room_stays old new (queue_name topic channel) a b c.others x.0.queue (topic_is_no_channel (topic_name a) topic channel x.0.named)
      (All-weaker (λ s. IfSome s.channel.backlog.queue (λ q. q.name ≡ queue_name (topic_name a) (channel_name s))) (IsElsewhere (topic_name a) (queue_name topic channel))
      (λ s q. (q, other_topic (topic_name a) (channel_name s) topic channel x.0.named named_topic other)) a.stalls.items x.0.stalls) x.1

  -- so do the other channels of the topic
  other_stall : (a : Stall) (k : Channel) → bytes_eq (channel_name to) (channel_name a) ≡ false → IfSome a.channel.backlog.queue (λ q. q.name ≡ queue_name (topic_name c.room) (channel_name a)) × IsStallOf old a k → IsStallOf new a k
  other_stall a k apart x =
      let other : channel_name a ≢ channel = subst (λ n. channel_name a ≢ n) c.named (apart_names (channel_name to) (channel_name a) apart) in
      stall_stays old new (topic_name c.room) a k x.0 (c.others (queue_name (topic_name c.room) (channel_name a)) (other_channel (topic_name c.room) (channel_name a) topic channel room_is.named named_topic other)) x.1

  module _ (Row : Channel → Channel → Type 0) (up : LiftsTo Row new to at_own.0) where
    room_now : IsRoomOf new c.after (with_channel at_topic.0 up.to)
    room_now =
        let Of : Stall → Type 0 = λ a. IfSome a.channel.backlog.queue (λ q. q.name ≡ queue_name (topic_name c.room) (channel_name a)) in
        let Both : Stall → Channel → Type 0 = λ a k. Of a × IsStallOf old a k in
        let all : Pairwise Both c.room.stalls.items at_topic.0.channels = pairs_become (IsStallOf old) Both Of c.room.stalls.items at_topic.0.channels (λ a k q r. (q, r)) room_is.stalls at_topic.2.channels in
        let same : up.to.name ≡ channel_name to = up.named ∙ stall_named old stall at_own.0 at_own.2 ∙ sym stall_is ∙ sym c.named in
        let channels : Pairwise (IsStallOf new) (put_stall c.room.stalls.items to) (put_by (λ (k : Channel). k.name) at_topic.0.channels up.to) =
        pairs_put channel_name (λ (k : Channel). k.name) Both (IsStallOf new) to up.to c.room.stalls.items at_topic.0.channels (λ a k x. stall_named old a k x.1) other_stall same up.is all in
        let disk : DiskStays c.room.queue.backlog.queue old new = queue_disk old new (queue_name topic channel) c.room c.others room_is.queue (topic_is_no_channel (topic_name c.room) topic channel room_is.named) in
        let queue : IsTopicOf c.room.queue new (with_channel at_topic.0 up.to) =
        other_channels new c.room at_topic.0 (put_by (λ (k : Channel). k.name) at_topic.0.channels up.to) (topic_stays c.room.queue old new at_topic.0 disk at_topic.2.queue) in
        record {
          queue = subst (λ q. IsTopicOf q new (with_channel at_topic.0 up.to)) (sym c.queue) queue;
          stands = subst (λ (q : Queue). Stands q.backlog.queue new) (sym c.queue) (save_stays c.room.queue.backlog.queue old new disk at_topic.2.stands);
          channels = subst (λ xs. Pairwise (IsStallOf new) xs (put_by (λ (k : Channel). k.name) at_topic.0.channels up.to)) (sym c.stalls) channels;
          delays = at_topic.2.delays;
          taken = at_topic.2.taken;
        }

    rooms_now : Pairwise (IsRoomOf new) h'.rooms.items (put_by (λ (t : Topic). t.name) s.topics (with_channel at_topic.0 up.to))
    rooms_now =
        let Both : Room → Topic → Type 0 = λ a b. IsNamedRoom a × IsRoomOf old a b in
        let all : Pairwise Both h.rooms.items s.topics = pairs_become (IsRoomOf old) Both IsNamedRoom h.rooms.items s.topics (λ a b n r. (n, r)) all_named holds.stands.topics in
        let same : at_topic.0.name ≡ topic_name c.after = room_named old c.room at_topic.0 at_topic.2 ∙ sym topic_is ∙ sym after_is in
        subst (λ xs. Pairwise (IsRoomOf new) xs (put_by (λ (t : Topic). t.name) s.topics (with_channel at_topic.0 up.to))) (sym c.rooms)
        (pairs_put topic_name (λ (t : Topic). t.name) Both (IsRoomOf new) c.after (with_channel at_topic.0 up.to) h.rooms.items s.topics (λ a b x. room_named old a b x.1) other_room same room_now all)

    -- names that the hall doesn't have now it didn't have before
    none_before : (name : List ℕ) → room_in h'.rooms.items name ≡ None → room_in h.rooms.items name ≡ None
    none_before name none =
        (none_one c.after (room_in h.rooms.items name) (bytes_eq name (topic_name c.after)) (sym (find_put topic_name h.rooms.items c.after name) ∙ ap (λ xs. room_in xs name) (sym c.rooms) ∙ none)).1

    idle_now : (name : List ℕ) → IsDurableTopic name → room_in h'.rooms.items name ≡ None → IsIdle (new (meta_file name))
    idle_now name named none = idle_stays old new (queue_name topic channel) name c.others (topic_is_no_channel name topic channel named.0) (holds.idle.topics name named (none_before name none))

    idle_channels_now : (t k : List ℕ) → IsName t → IsDurableChannel t k → stall_at h'.rooms.items t k ≡ None → IsIdle (new (meta_file (queue_name t k)))
    idle_channels_now t k nt nk none =
        elim (in_one k c.after (room_in h.rooms.items t) (bytes_eq t (topic_name c.after)) (ap (option_and_then (λ (r : Room). stall_in r.stalls.items k)) (sym (find_put topic_name h.rooms.items c.after t) ∙ ap (λ xs. room_in xs t) (sym c.rooms)) ∙ none)) [
          | inl here ↦
              let same : t ≡ topic = exact_bytes t (topic_name c.after) here.0 ∙ after_is in
              let gone = none_one to (stall_in c.room.stalls.items k) (bytes_eq k (channel_name to)) (sym (find_put channel_name c.room.stalls.items to k) ∙ ap (λ xs. stall_in xs k) (sym c.stalls) ∙ here.1) in
              let other : k ≢ channel = λ e. false≢true (sym gone.0 ∙ ap (bytes_eq k) (c.named ∙ sym e) ∙ same_bytes k) in
              let before : stall_at h.rooms.items t k ≡ None = ap (λ n. stall_at h.rooms.items n k) same ∙ ap (option_and_then (λ (r : Room). stall_in r.stalls.items k)) c.there ∙ gone.1 in
              idle_stays old new (queue_name topic channel) (queue_name t k) c.others (other_channel t k topic channel nt named_topic other) (holds.idle.channels t k nt nk before)
          | inr there ↦
              let other : t ≢ topic = λ e. false≢true (sym there.0 ∙ ap (bytes_eq t) (after_is ∙ sym e) ∙ same_bytes t) in
              idle_stays old new (queue_name topic channel) (queue_name t k) c.others (other_topic t k topic channel nt named_topic other) (holds.idle.channels t k nt nk there.1)
        ]

    changed : AtChannel topic channel Row s (with_topic s (with_channel at_topic.0 up.to))
    changed = record {
      old = at_topic.0;
      new = with_channel at_topic.0 up.to;
      there = at_topic.1;
      row = record { from = at_own.0; to = up.to; there = at_own.1; row = up.row; is = refl };
      is = refl;
    }

    holds_now : HoldsFor h' new (with_topic s (with_channel at_topic.0 up.to))
    holds_now =
        let earlier = holds.stands.moment in
        let later = c.moment in
        record {
          stands = record {
            options = holds.stands.options ∙ sym c.options;
            epoch = holds.stands.epoch ∙ sym c.epoch;
            ids_used = holds.stands.ids_used ∙ sym c.ids_used;
            moment = omega (arith, earlier, later);
            stopped = holds.stands.stopped ∙ sym c.stopped;
            clients = holds.stands.clients ∙ sym c.clients;
            topics = rooms_now;
          };
          idle = record {
            topics = idle_now;
            channels = idle_channels_now;
          };
        }

-- where each channel of a state that the stall was leads by the row to one that the changed stall is, so does the state that the hall stood for
pub at_stall : (h h' : Hall) (old new : Files) (s : State) (topic channel : List ℕ) (stall to : Stall) (Row : Channel → Channel → Type 0) → IsSound h → HoldsFor h old s → StallChange h h' old new topic channel stall to
    → ((k : Channel) → IsStallOf old stall k → LiftsTo Row new to k) → (t : State) × AtChannel topic channel Row s t × HoldsFor h' new t
at_stall h h' old new s topic channel stall to Row sound holds c lift =
    let k = at_own h h' old new s topic channel stall to sound holds c in
    let t = at_topic h h' old new s topic channel stall to sound holds c in
    let up = lift k.0 k.2 in (
      with_topic s (with_channel t.0 up.to),
      changed h h' old new s topic channel stall to sound holds c Row up,
      holds_now h h' old new s topic channel stall to sound holds c Row up,
    )
