-- A queue that a folder doesn't list begins with nothing, also once the listed ones are opened.
use Rattle.std.proofs.Common.{◌≡◌, ◌≢◌, ◌⊎◌, inl, inr, ℕ, Bool, true, false, if◌then◌else◌, List, [], ◌∷◌, get_or, map, Some, None, refl, sym, ap, subst, ◌∙◌}
use Rattle.std.specs.Prelude.{option_and_then}
use Rattle.std.specs.List.{All, Contains}
use Rattle.std.specs.Str.{bytes_eq}
use Rattle.std.proofs.lemmas.Bool.{false≢true}
use Rattle.std.proofs.lemmas.List.Elements.{All-cons, All-contains, All-nil, All-weaker, Contains-get_or}
use Rattle.nsq_base.specs.Names.{is_before}
use Rattle.nsq_outside.specs.Files.{Files}
use Rattle.queue_image.specs.FileNames.{IsFileOf, IsQueueName, meta_file}
use Rattle.queue_image.specs.FileNames.IsFileOf.{own}
use Rattle.queue_image.specs.FileNames.IsOwnFile.{metadata}
use Rattle.queue_image.specs.FileNames.IsQueueName.{of_channel, of_topic}
use Rattle.queue_image.specs.Metas.{IsIdle}
use Rattle.queue_image.proofs.Naming.{one_queue}
use Rattle.path_image.specs.Data.{KeptChannel, KeptTopic}
use Rattle.path_image.specs.Found.{FindsChannel, FindsTopic, FoundChannel, FoundTopic, Pairwise, queues_of}
use Rattle.names_file.specs.Kept.{CanKeepAll}
use Rattle.queue_sweep.specs.Swept.{HasOnlyListed, IsListedQueue}
use Rattle.queue_sweep.proofs.Listing.{made_of, owner, topics_ascend}
use Rattle.queue_sweep.proofs.Staying.{no_files}
use Rattle.broker_history.specs.Found.{started, started_channel}
use Rattle.broker_history.proofs.Lists.{exact_bytes, same_bytes}
use Rattle.channel_core.specs.Seen.{queue_name}
use Rattle.floor_rooms.specs.declared.hall.Hall.{Hall}
use Rattle.floor_rooms.specs.declared.room.Room.{Room}
use Rattle.floor_rooms.specs.declared.stall.Stall.{Stall}
use Rattle.floor_rooms.specs.Rooms.{channel_name, room_in, stall_at, stall_in, topic_name}
use Rattle.floor_rooms.specs.Standing.{AreIdle, IsRoomOf, IsStallOf}
use Rattle.floor_rooms.proofs.Staying.{room_named, stall_named}
use Rattle.floor_files.proofs.Parting.{name_apart}
use Rattle.broker_floor.specs.Adding.{IsElsewhere, OnlyFilesOf}
use Rattle.broker_floor.proofs.Orders.{Ascends, ascends, before_apart}

some_none : {X A : Type 0} (x : X) → Some x ≡ None → A
some_none x e = absurd cc

-- where a hall has no topic of a name, none of that name was found
module _ (f0 f : Files) (name : List ℕ) where
  none_one : (t : KeptTopic) (r : Room) (rooms : List Room) (b : Bool) → t.name ≡ topic_name r → bytes_eq name (topic_name r) ≡ b → (if b then Some r else room_in rooms name) ≡ None → (t.name ≢ name) × (room_in rooms name ≡ None)
  none_one t r rooms true same e none = some_none r none
  none_one t r rooms false same e none = (λ is. false≢true (sym e ∙ ap (bytes_eq name) (sym same ∙ is) ∙ same_bytes name), none)

  pub none_found : (topics : List KeptTopic) (founds : List FoundTopic) (rooms : List Room) → Pairwise (FindsTopic f0) topics founds → Pairwise (IsRoomOf f) rooms (map started founds) → room_in rooms name ≡ None → All (λ (t : KeptTopic). t.name ≢ name) topics
  none_found [] founds rooms p q none = All-nil (λ (t : KeptTopic). t.name ≢ name)
  none_found (t ∷ topics) [] rooms p q none = absurd p
  none_found (t ∷ topics) (z ∷ founds) [] p q none = absurd q
  none_found (t ∷ topics) (z ∷ founds) (r ∷ rooms) p q none =
      let one = none_one t r rooms (bytes_eq name (topic_name r)) (sym p.0.name ∙ room_named f r (started z) q.0) refl none in
      All-cons (λ (x : KeptTopic). x.name ≢ name) t topics one.0 (none_found topics founds rooms p.1 q.1 one.1)

-- where a topic has no channel of a name, none of that name was found of it
module _ (f0 f : Files) (topic channel : List ℕ) where
  none_stall : (c : KeptChannel) (s : Stall) (stalls : List Stall) (b : Bool) → c.name ≡ channel_name s → bytes_eq channel (channel_name s) ≡ b → (if b then Some s else stall_in stalls channel) ≡ None → (c.name ≢ channel) × (stall_in stalls channel ≡ None)
  none_stall c s stalls true same e none = some_none s none
  none_stall c s stalls false same e none = (λ is. false≢true (sym e ∙ ap (bytes_eq channel) (sym same ∙ is) ∙ same_bytes channel), none)

  no_channels : (name : List ℕ) (channels : List KeptChannel) (founds : List FoundChannel) (stalls : List Stall) → Pairwise (FindsChannel f0 name) channels founds → Pairwise (IsStallOf f) stalls (map started_channel founds) → stall_in stalls channel ≡ None → All (λ (c : KeptChannel). c.name ≢ channel) channels
  no_channels name [] founds stalls p q none = All-nil (λ (c : KeptChannel). c.name ≢ channel)
  no_channels name (c ∷ channels) [] stalls p q none = absurd p
  no_channels name (c ∷ channels) (z ∷ founds) [] p q none = absurd q
  no_channels name (c ∷ channels) (z ∷ founds) (s ∷ stalls) p q none =
      let one = none_stall c s stalls (bytes_eq channel (channel_name s)) (sym p.0.name ∙ stall_named f s (started_channel z) q.0) refl none in
      All-cons (λ (x : KeptChannel). x.name ≢ channel) c channels one.0 (no_channels name channels founds stalls p.1 q.1 one.1)

  -- what is told of the channels of the topic of that name
  abbrev pub HasNoChannel : KeptTopic → Type 0
  HasNoChannel t = t.name ≡ topic → All (λ (c : KeptChannel). c.name ≢ channel) t.channels

  stall_here : (t : KeptTopic) (z : FoundTopic) (r : Room) (rooms : List Room) (b : Bool) → FindsTopic f0 t z → IsRoomOf f r (started z) → bytes_eq topic (topic_name r) ≡ b → option_and_then (λ (x : Room). stall_in x.stalls.items channel) (if b then Some r else room_in rooms topic) ≡ None
      → HasNoChannel t × ((t.name ≡ topic) ⊎ (stall_at rooms topic channel ≡ None))
  stall_here t z r rooms true p q e none = (λ same. no_channels t.name t.channels z.channels r.stalls.items p.channels q.channels none, inl (sym p.name ∙ room_named f r (started z) q ∙ sym (exact_bytes topic (topic_name r) e)))
  stall_here t z r rooms false p q e none = (λ same. absurd (false≢true (sym e ∙ ap (bytes_eq topic) (sym (room_named f r (started z) q) ∙ p.name ∙ same) ∙ same_bytes topic)), inr none)

  -- topics behind one of a name have other names
  others_behind : (k : List ℕ) (topics : List KeptTopic) → k ≡ topic → All (λ (t : KeptTopic). is_before k t.name ≡ true) topics → All HasNoChannel topics
  others_behind k topics same behind = All-weaker (λ (t : KeptTopic). is_before k t.name ≡ true) HasNoChannel (λ t b is. absurd (name_apart t.name k (before_apart k t.name b) (is ∙ sym same))) topics behind

  pub no_stall_found : (topics : List KeptTopic) (founds : List FoundTopic) (rooms : List Room) → Ascends (λ (t : KeptTopic). t.name) topics → Pairwise (FindsTopic f0) topics founds → Pairwise (IsRoomOf f) rooms (map started founds) → stall_at rooms topic channel ≡ None → All HasNoChannel topics
  no_stall_found [] founds rooms up p q none = All-nil HasNoChannel
  no_stall_found (t ∷ topics) [] rooms up p q none = absurd p
  no_stall_found (t ∷ topics) (z ∷ founds) [] up p q none = absurd q
  no_stall_found (t ∷ topics) (z ∷ founds) (r ∷ rooms) up p q none =
      let one = stall_here t z r rooms (bytes_eq topic (topic_name r)) p.0 q.0 refl none in
      All-cons HasNoChannel t topics one.0
      (elim one.1 [
        | inl same ↦ others_behind t.name topics same up.0
        | inr later ↦ no_stall_found topics founds rooms up.1 p.1 q.1 later
      ])

module _ (topics : List KeptTopic) (can : CanKeepAll topics) (f0 f : Files) (swept : HasOnlyListed topics f0) (only : OnlyFilesOf topics f0 f) where
  -- a file of an unlisted queue is of none of theirs
  spared : (name file : List ℕ) → IsFileOf name file → ¬ IsListedQueue topics name → All (IsElsewhere file) topics
  spared name file of unlisted k d low =
      let t : KeptTopic = get_or topics k d in
      λ j e high is.
      unlisted (record { topic = t; listed = Contains-get_or topics k d low; own = subst (Contains (queues_of t)) (one_queue (get_or (queues_of t) j e) name file is of) (Contains-get_or (queues_of t) j e high) })

  idle_unlisted : (name : List ℕ) → IsQueueName name → ¬ IsListedQueue topics name → IsIdle (f (meta_file name))
  idle_unlisted name named unlisted = inl (only (meta_file name) (spared name (meta_file name) (own (metadata refl)) unlisted) ∙ (no_files topics f0 name swept named unlisted).meta)

  -- so each queue that a hall of the found topics doesn't have begins with nothing
  pub idle_found : (h : Hall) (founds : List FoundTopic) → Pairwise (FindsTopic f0) topics founds → Pairwise (IsRoomOf f) h.rooms.items (map started founds) → AreIdle h f
  idle_found h founds pairs rooms = record {
    topics = λ name named none. idle_unlisted name (of_topic named.0) (λ l.
        let o = owner topics name None can named.0 l in
        All-contains (λ (t : KeptTopic). t.name ≢ name) topics o.of (none_found f0 f name topics founds h.rooms.items pairs rooms none) o.listed o.is);
    channels = λ topic channel named channel_named none. idle_unlisted (queue_name topic channel) (of_channel topic channel named channel_named.0 refl) (λ l.
        let o = owner topics topic (Some channel) can named l in
        let m = made_of (λ (c : KeptChannel). c.name) o.of.channels channel o.has in
        let none_here : All (λ (c : KeptChannel). c.name ≢ channel) o.of.channels = All-contains (HasNoChannel f0 f topic channel) topics o.of (no_stall_found f0 f topic channel topics founds h.rooms.items (ascends (λ (t : KeptTopic). t.name) topics (topics_ascend topics can)) pairs rooms none) o.listed o.is in
        All-contains (λ (c : KeptChannel). c.name ≢ channel) o.of.channels m.of none_here m.here m.is);
  }
