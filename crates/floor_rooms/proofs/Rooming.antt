-- A change of one topic's own queue, or of its facts, is that change of the state that the hall stands for.
use Rattle.std.proofs.Common.{◌≡◌, ◌≢◌, ℕ, Bool, true, false, if◌then◌else◌, List, Option, Some, None, refl, sym, ap, subst, ◌∙◌, arith}
use Rattle.std.specs.Prelude.{IfSome, option_and_then}
use Rattle.std.specs.List.{All}
use Rattle.std.specs.Str.{bytes_eq}
use Rattle.std.proofs.lemmas.Bool.{false≢true}
use Rattle.std.proofs.lemmas.List.Elements.{All-weaker}
use Rattle.nsq_base.specs.Name.{IsName}
use Rattle.nsq_base.specs.Names.{put_by}
use Rattle.nsq_outside.specs.Files.{Files}
use Rattle.queue_image.specs.FileNames.{meta_file}
use Rattle.queue_image.specs.Metas.{IsIdle}
use Rattle.path_image.specs.Found.{Pairwise}
use Rattle.broker_history.specs.State.{Topic, State, topic_of, with_topic}
use Rattle.broker_history.specs.Changes.{AtTopic}
use Rattle.broker_history.proofs.Lists.{find_put, find_passes, exact_bytes, same_bytes}
use Rattle.channel_core.specs.Seen.{queue_name}
use Rattle.floor_laws.proofs.Pairs.{IfBoth, pairs_become, pairs_found, pairs_put}
use Rattle.floor_rooms.specs.declared.room.Room.{Room}
use Rattle.floor_rooms.specs.declared.hall.Hall.{Hall}
use Rattle.floor_rooms.specs.Rooms.{channel_name, topic_name, room_in, stall_in, stall_at}
use Rattle.floor_rooms.specs.Sound.{IsRoomSound, IsSound}
use Rattle.floor_rooms.specs.Standing.{IsDurableChannel, IsDurableTopic, IsStallOf, IsRoomOf, HoldsFor}
use Rattle.floor_rooms.specs.RoomChanges.{RoomChange, LiftsRoom}
use Rattle.floor_rooms.proofs.Staying.{IsElsewhere, stall_stays, room_stays, idle_stays, room_named, topic_is_no_channel}
use Rattle.floor_rooms.proofs.Changing.{all_found, IsNamedRoom, named_room, apart_names, none_one, both_some}

-- where no channel of a name is found in a topic behind a change of another one or of one with the same channels, none was before
in_same : (channel : List ℕ) (r a : Room) (o : Option Room) (b : Bool) → r.stalls.items ≡ a.stalls.items → (b ≡ true → o ≡ Some a) → option_and_then (λ (r : Room). stall_in r.stalls.items channel) (if b then Some r else o) ≡ None
    → option_and_then (λ (r : Room). stall_in r.stalls.items channel) o ≡ None
in_same channel r a o true same is e = ap (option_and_then (λ (r : Room). stall_in r.stalls.items channel)) (is refl) ∙ ap (λ xs. stall_in xs channel) (sym same) ∙ e
in_same channel r a o false same is e = e

module _ (h h' : Hall) (old new : Files) (s : State) (topic : List ℕ) (room to : Room) (sound : IsSound h) (holds : HoldsFor h old s) (c : RoomChange h h' old new topic room to) where
  all_named : All IsNamedRoom h.rooms.items
  all_named = All-weaker (IsRoomSound h) IsNamedRoom (named_room h) h.rooms.items sound.rooms

  room_is : IsNamedRoom room
  room_is = all_found IsNamedRoom (λ r. bytes_eq topic (topic_name r)) h.rooms.items room all_named c.there

  topic_is : topic ≡ topic_name room
  topic_is = exact_bytes topic (topic_name room) (find_passes (λ r. bytes_eq topic (topic_name r)) h.rooms.items room c.there)

  -- the topic of the state
  at_own : (t : Topic) × (topic_of s topic ≡ Some t) × IsRoomOf old room t
  at_own =
      both_some (IsRoomOf old) room (topic_of s topic)
      (subst (λ o. IfBoth (IsRoomOf old) o (topic_of s topic)) c.there
      (pairs_found (IsRoomOf old) (λ r. bytes_eq topic (topic_name r)) (λ (t : Topic). bytes_eq topic t.name) h.rooms.items s.topics (λ a b r. ap (bytes_eq topic) (sym (room_named old a b r))) holds.stands.topics))

  -- no channel's queue is the topic's
  no_own : (t k : List ℕ) → IsName topic → queue_name t k ≢ topic
  no_own t k named e = topic_is_no_channel topic t k named (sym e)

  named_topic : IsName topic
  named_topic = subst IsName (sym topic_is) room_is.named

  -- the other rooms stay what they were
  other_room : (a : Room) (b : Topic) → bytes_eq (topic_name to) (topic_name a) ≡ false → IsNamedRoom a × IsRoomOf old a b → IsRoomOf new a b
  other_room a b apart x =
      let other : topic_name a ≢ topic = subst (λ n. topic_name a ≢ n) c.named (apart_names (topic_name to) (topic_name a) apart) in
      room_stays old new topic a b c.others x.0.queue other
      (All-weaker (λ s. IfSome s.channel.backlog.queue (λ q. q.name ≡ queue_name (topic_name a) (channel_name s))) (IsElsewhere (topic_name a) topic)
      (λ s q. (q, no_own (topic_name a) (channel_name s) named_topic)) a.stalls.items x.0.stalls) x.1

  -- so do the topic's channels
  own_stalls : Pairwise (IsStallOf new) room.stalls.items at_own.0.channels
  own_stalls =
      pairs_become (IsStallOf old) (IsStallOf new) (λ a. IfSome a.channel.backlog.queue (λ q. q.name ≡ queue_name (topic_name room) (channel_name a))) room.stalls.items at_own.0.channels
      (λ a k q r. stall_stays old new (topic_name room) a k q (c.others (queue_name (topic_name room) (channel_name a)) (no_own (topic_name room) (channel_name a) named_topic)) r) room_is.stalls at_own.2.channels

  module _ (Row : Topic → Topic → Type 0) (up : LiftsRoom Row new to at_own.0) where
    room_now : IsRoomOf new to up.to
    room_now = record {
      queue = up.queue;
      stands = up.stands;
      channels = subst (λ ks. Pairwise (IsStallOf new) to.stalls.items ks) (sym up.channels) (subst (λ xs. Pairwise (IsStallOf new) xs at_own.0.channels) (sym c.stalls) own_stalls);
      delays = up.delays;
      taken = up.taken;
    }

    rooms_now : Pairwise (IsRoomOf new) h'.rooms.items (put_by (λ (t : Topic). t.name) s.topics up.to)
    rooms_now =
        let Both : Room → Topic → Type 0 = λ a b. IsNamedRoom a × IsRoomOf old a b in
        let all : Pairwise Both h.rooms.items s.topics = pairs_become (IsRoomOf old) Both IsNamedRoom h.rooms.items s.topics (λ a b n r. (n, r)) all_named holds.stands.topics in
        subst (λ xs. Pairwise (IsRoomOf new) xs (put_by (λ (t : Topic). t.name) s.topics up.to)) (sym c.rooms)
        (pairs_put topic_name (λ (t : Topic). t.name) Both (IsRoomOf new) to up.to h.rooms.items s.topics (λ a b x. room_named old a b x.1) other_room (room_named new to up.to room_now) room_now all)

    -- what is found of a name now
    found_now : (name : List ℕ) → room_in h'.rooms.items name ≡ (if bytes_eq name (topic_name to) then Some to else room_in h.rooms.items name)
    found_now name = ap (λ xs. room_in xs name) c.rooms ∙ find_put topic_name h.rooms.items to name

    idle_now : (name : List ℕ) → IsDurableTopic name → room_in h'.rooms.items name ≡ None → IsIdle (new (meta_file name))
    idle_now name named none =
        let gone = none_one to (room_in h.rooms.items name) (bytes_eq name (topic_name to)) (sym (found_now name) ∙ none) in
        let other : name ≢ topic = λ e. false≢true (sym gone.0 ∙ ap (bytes_eq name) (c.named ∙ sym e) ∙ same_bytes name) in
        idle_stays old new topic name c.others other (holds.idle.topics name named gone.1)

    here_before : (name : List ℕ) → bytes_eq name (topic_name to) ≡ true → room_in h.rooms.items name ≡ Some room
    here_before name e = ap (λ n. room_in h.rooms.items n) (exact_bytes name (topic_name to) e ∙ c.named) ∙ c.there

    idle_channels_now : (t k : List ℕ) → IsName t → IsDurableChannel t k → stall_at h'.rooms.items t k ≡ None → IsIdle (new (meta_file (queue_name t k)))
    idle_channels_now t k nt nk none =
        let before = in_same k to room (room_in h.rooms.items t) (bytes_eq t (topic_name to)) c.stalls (here_before t) (ap (option_and_then (λ (r : Room). stall_in r.stalls.items k)) (sym (found_now t)) ∙ none) in
        idle_stays old new topic (queue_name t k) c.others (no_own t k named_topic) (holds.idle.channels t k nt nk before)

    changed : AtTopic topic Row s (with_topic s up.to)
    changed = record { old = at_own.0; new = up.to; there = at_own.1; row = up.row; is = refl }

    holds_now : HoldsFor h' new (with_topic s up.to)
    holds_now =
        let earlier = holds.stands.moment in
        let later = c.moment in
        record {
          stands = record {
            options = holds.stands.options ∙ sym c.options;
            epoch = holds.stands.epoch ∙ sym c.epoch;
            ids_used = holds.stands.ids_used ∙ sym c.ids_used;
            moment = omega (arith, earlier, later);
            stopped = holds.stands.stopped ∙ sym c.stopped;
            clients = holds.stands.clients ∙ sym c.clients;
            topics = rooms_now;
          };
          idle = record {
            topics = idle_now;
            channels = idle_channels_now;
          };
        }

-- where each topic of a state that the room was leads by the row to one whose queue the changed room has, so does the state that the hall stood for
pub at_room : (h h' : Hall) (old new : Files) (s : State) (topic : List ℕ) (room to : Room) (Row : Topic → Topic → Type 0) → IsSound h → HoldsFor h old s → RoomChange h h' old new topic room to
    → ((t : Topic) → IsRoomOf old room t → LiftsRoom Row new to t) → (t : State) × AtTopic topic Row s t × HoldsFor h' new t
at_room h h' old new s topic room to Row sound holds c lift =
    let t = at_own h h' old new s topic room to sound holds c in
    let up = lift t.0 t.2 in (
      with_topic s up.to,
      changed h h' old new s topic room to sound holds c Row up,
      holds_now h h' old new s topic room to sound holds c Row up,
    )
