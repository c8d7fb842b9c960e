-- How many messages the changes of a state leave in it.
use Rattle.std.proofs.Common.{◌≡◌, ℕ, ◌+◌, Bool, true, false, ◌&&◌, if◌then◌else◌, List, [], ◌∷◌, length, Option, Some, None, is_some, refl, sym, ap, subst, ◌∙◌, arith}
use Rattle.std.specs.Prelude.{unwrap_or}
use Rattle.std.specs.List.{All, find}
use Rattle.std.specs.Str.{bytes_eq}
use Rattle.std.proofs.lemmas.Bool.{false≢true}
use Rattle.std.proofs.lemmas.List.Elements.{All-head, All-tail}
use Rattle.nsq_base.specs.Name.{is_ephemeral}
use Rattle.nsq_base.proofs.PutBy.{All-put_by, IsAscendingBy-put_by}
use Rattle.broker_history.specs.State.{Channel, Client, Phase, Fresh, Subscribed, Closing, Lost, Route, State, Topic, channel_of, channel_or_new, clients_of, is_empty, is_ephemeral_channel, new_topic, topic_of, with_channel, with_topic, without_client}
use Rattle.broker_history.specs.Changes.{AtChannel, AtTopic, InChannel, channel_changed, deleted_in, gone_client, left_by, left_channel, made, published, set_paused, topic_changed}
use Rattle.broker_history.specs.Topics.{put_bodies}
use Rattle.broker_history.proofs.Lists.{exact_bytes, find_passes}
use Rattle.drill_parts.specs.Conserving.{HasOne, HaveOnes, IsDurable, IsOnly}
use Rattle.drill_parts.specs.Counts.{left_in, left_of, left_with}
use Rattle.drill_parts.proofs.Channels.{ChannelKeeps}
use Rattle.drill_parts.proofs.Sums.{found_size, put_sum}
use Rattle.drill_parts.proofs.Topics.{TopicKeeps, bodies_keep, channel_paused_keeps, found_in, made_keeps, new_one, paused_keeps, row_keeps, some_is}

-- what holds of each item holds of the one that is found
first_holds : {X : Type 0} (P : X → Type 0) (p : X → Bool) (x y : X) (xs : List X) (b : Bool) → P x → (find p xs ≡ Some y → P y) → (if b then Some x else find p xs) ≡ Some y → P y
first_holds P p x y xs true here rest e = subst P (some_is x y e) here
first_holds P p x y xs false here rest e = rest e

pub found_holds : {X : Type 0} (P : X → Type 0) (p : X → Bool) (xs : List X) (y : X) → All P xs → find p xs ≡ Some y → P y
found_holds P p [] y all e = absurd cc
found_holds P p (x ∷ xs) y all e = first_holds P p x y xs (p x) (All-head P x xs all) (found_holds P p xs y (All-tail P x xs all)) e

-- what has a name is found by it
topic_name : (s : State) (name : List ℕ) (t : Topic) → topic_of s name ≡ Some t → name ≡ t.name
topic_name s name t e = exact_bytes name t.name (find_passes (λ (t : Topic). bytes_eq name t.name) s.topics t e)

-- a state changes: its topics stay as they are to be, so many messages more are left, and so many fewer
pub record StateKeeps (only : List ℕ → List ℕ) (more fewer : ℕ) (s s' : State) : Type 0 where
  pub ones : HaveOnes only s'.topics
  pub sum : left_of s' + fewer ≡ left_of s + more

module _ (only : List ℕ → List ℕ) where
  -- the topics are the same
  pub state_same : (s s' : State) → HaveOnes only s.topics → s'.topics ≡ s.topics → StateKeeps only 0 0 s s'
  state_same s s' ones same = record { ones = subst (λ ts. HaveOnes only ts) (sym same) ones; sum = let e = ap left_in same in omega (arith, e) }

  -- a further change that leaves the topics
  pub onto : (more fewer : ℕ) (s t u : State) → StateKeeps only more fewer s t → u.topics ≡ t.topics → StateKeeps only more fewer s u
  onto more fewer s t u k same = record {
    ones = let o = k.ones in subst (λ ts. HaveOnes only ts) (sym same) o;
    sum = let e = ap left_in same in let f = k.sum in omega (arith, e, f);
  }

  pub from_same : (more fewer : ℕ) (s t u : State) → t.topics ≡ s.topics → StateKeeps only more fewer t u → StateKeeps only more fewer s u
  from_same more fewer s t u same k = record { ones = k.ones; sum = let e = ap left_in same in let f = k.sum in omega (arith, e, f) }

  -- a topic is put
  state_put : (more fewer : ℕ) (s : State) (to : Topic) (o : Option Topic) → HaveOnes only s.topics → topic_of s to.name ≡ o → HasOne only to → left_with to + fewer ≡ found_size (λ (t : Topic). t.name) left_with o + more
      → StateKeeps only more fewer s (with_topic s to)
  state_put more fewer s to o ones e one change =
      let sum = put_sum (λ (t : Topic). t.name) left_with s.topics to o ones.ascending e in
      record {
        ones = record { ascending = IsAscendingBy-put_by (λ (t : Topic). t.name) s.topics to ones.ascending; each = All-put_by (λ (t : Topic). t.name) (HasOne only) s.topics to ones.each one };
        sum = omega (arith, sum, change);
      }

  pub one_of : (s : State) (name : List ℕ) (t : Topic) → HaveOnes only s.topics → topic_of s name ≡ Some t → HasOne only t
  one_of s name t ones e = found_holds (HasOne only) (λ (x : Topic). bytes_eq name x.name) s.topics t ones.each e

  -- a topic that is there changes
  there_keeps : (more fewer : ℕ) (s : State) (name : List ℕ) (t t' : Topic) → HaveOnes only s.topics → topic_of s name ≡ Some t → TopicKeeps only more fewer t t' → StateKeeps only more fewer s (with_topic s t')
  there_keeps more fewer s name t t' ones e k =
      state_put more fewer s t' (Some t) ones (subst (λ n. topic_of s n ≡ Some t) (topic_name s name t e ∙ sym k.name) e) k.one k.sum

  pub at_topic : (more fewer : ℕ) (name : List ℕ) (Row : Topic → Topic → Type 0) (s s' : State) → HaveOnes only s.topics → ((t t' : Topic) → name ≡ t.name → HasOne only t → Row t t' → TopicKeeps only more fewer t t')
      → AtTopic name Row s s' → StateKeeps only more fewer s s'
  at_topic more fewer name Row s s' ones good a =
      subst (λ x. StateKeeps only more fewer s x) (sym a.is)
      (there_keeps more fewer s name a.old a.new ones a.there (good a.old a.new (topic_name s name a.old a.there) (one_of s name a.old ones a.there) a.row))

  pub at_channel : (more fewer : ℕ) (topic channel : List ℕ) (Row : Channel → Channel → Type 0) (s s' : State) → HaveOnes only s.topics
      → ((k k' : Channel) → is_ephemeral_channel topic channel ≡ false → Row k k' → ChannelKeeps more fewer k k') → AtChannel topic channel Row s s' → StateKeeps only more fewer s s'
  at_channel more fewer topic channel Row s s' ones good a =
      at_topic more fewer topic (InChannel channel Row) s s' ones
      (λ t t' named one r. row_keeps only more fewer channel Row t t' one (λ k k' durable q. good k k' (ap (λ n. is_ephemeral_channel n channel) named ∙ durable) q) r) a

  -- a topic that is there or made changes
  or_new : (more : ℕ) (s : State) (name : List ℕ) (o : Option Topic) (to : Topic → Topic) → HaveOnes only s.topics → IsDurable name → topic_of s name ≡ o
      → ((t : Topic) → t.name ≡ name → HasOne only t → TopicKeeps only more 0 t (to t)) → StateKeeps only more 0 s (with_topic s (to (unwrap_or o (new_topic name))))
  or_new more s name (Some t) to ones durable e good = there_keeps more 0 s name t (to t) ones e (good t (sym (topic_name s name t e)) (one_of s name t ones e))
  or_new more s name None to ones durable e good =
      let k = good (new_topic name) refl (new_one only name durable) in
      state_put more 0 s (to (new_topic name)) None ones (subst (λ n. topic_of s n ≡ None) (sym k.name) e) k.one k.sum

  -- messages are published
  pub published_keeps : (s : State) (at delay : ℕ) (topic : List ℕ) (bodies : List (List ℕ)) → HaveOnes only s.topics → IsDurable topic → StateKeeps only (length bodies) 0 s (published s at delay topic bodies)
  published_keeps s at delay topic bodies ones durable =
      let u : State = record s { ids_used = s.ids_used + length bodies } in
      from_same (length bodies) 0 s u (published s at delay topic bodies) refl
      (or_new (length bodies) u topic (topic_of s topic) (λ t. put_bodies s.options.mem_queue_size s.epoch s.ids_used at delay t bodies) ones durable refl
      (λ t named one. bodies_keep only s.options.mem_queue_size s.epoch s.ids_used at delay t bodies one))

  -- a topic or a channel is made
  pub topic_made : (s : State) (topic : List ℕ) → HaveOnes only s.topics → IsDurable topic → StateKeeps only 0 0 s (made s topic None)
  topic_made s topic ones durable = or_new 0 s topic (topic_of s topic) (λ t. t) ones durable refl (λ t named one. record { name = refl; one = one; sum = refl })

  pub channel_made : (s : State) (topic channel : List ℕ) → HaveOnes only s.topics → IsOnly only topic channel → StateKeeps only 0 0 s (made s topic (Some channel))
  channel_made s topic channel ones is =
      or_new 0 s topic (topic_of s topic) (λ t. with_channel t (channel_or_new t channel)) ones is.topic_stays refl (λ t named one. made_keeps only t channel one (subst (λ n. IsOnly only n channel) (sym named) is))

  -- a topic or a channel is paused where it is there
  changed : (f : Topic → Topic) (s : State) (topic : List ℕ) (o : Option Topic) → topic_of s topic ≡ o → HaveOnes only s.topics → ((t : Topic) → HasOne only t → TopicKeeps only 0 0 t (f t)) → StateKeeps only 0 0 s (topic_changed f s o)
  changed f s topic None e ones good = state_same s s ones refl
  changed f s topic (Some t) e ones good = there_keeps 0 0 s topic t (f t) ones e (good t (one_of s topic t ones e))

  pub pause_keeps : (on : Bool) (s : State) (topic : List ℕ) (channel : Option (List ℕ)) → HaveOnes only s.topics → StateKeeps only 0 0 s (set_paused on s topic channel)
  pause_keeps on s topic None ones = changed (λ (t : Topic). record t { paused = on }) s topic (topic_of s topic) refl ones (λ t one. paused_keeps only on t one)
  pause_keeps on s topic (Some channel) ones =
      changed (channel_changed (λ (c : Channel). record c { paused = on }) channel) s topic (topic_of s topic) refl ones (λ t one. channel_paused_keeps only on t channel one)

  -- no channel is ephemeral, so none goes with its last client
  kept_off : (s : State) (topic channel : List ℕ) (t : Topic) (k : Channel) (empty : Bool) → HaveOnes only s.topics → topic_of s topic ≡ Some t → channel_of t channel ≡ Some k → (is_ephemeral_channel topic channel && empty) ≡ false
  kept_off s topic channel t k empty ones e f =
      let one = one_of s topic t ones e in
      let there = found_in only t channel k f one.has in
      let a : is_ephemeral topic ≡ false = ap is_ephemeral (topic_name s topic t e) ∙ one.stays in
      let b : is_ephemeral channel ≡ false = ap is_ephemeral there.named ∙ there.stays in
      rw (a, b) refl

  deleted_same : (s : State) (topic channel : List ℕ) (t : Topic) (k : Option Channel) (b empty : Bool) → b ≡ (is_ephemeral_channel topic channel && empty) → HaveOnes only s.topics → topic_of s topic ≡ Some t → channel_of t channel ≡ k → (u : State)
      → (if b then (if is_some k then u else s) else s) ≡ s
  deleted_same s topic channel t k false empty is ones e f u = refl
  deleted_same s topic channel t None true empty is ones e f u = refl
  deleted_same s topic channel t (Some k) true empty is ones e f u = absurd (false≢true (sym (kept_off s topic channel t k empty ones e f) ∙ sym is))

  none_deleted : (s : State) (b : Bool) → (if b then s else s) ≡ s
  none_deleted s true = refl
  none_deleted s false = refl

  left_from : (s : State) (route : Route) (o : Option Topic) (empty : Bool) → HaveOnes only s.topics → topic_of s route.topic ≡ o
      → (if is_ephemeral_channel route.topic route.channel && empty then deleted_in s route.channel o else s) ≡ s
  left_from s route None empty ones e = none_deleted s (is_ephemeral_channel route.topic route.channel && empty)
  left_from s route (Some t) empty ones e = deleted_same s route.topic route.channel t (channel_of t route.channel) (is_ephemeral_channel route.topic route.channel && empty) empty refl ones e refl _

  left_same : (s : State) (route : Route) → HaveOnes only s.topics → left_channel s route ≡ s
  left_same s route ones = left_from s route (topic_of s route.topic) (is_empty (clients_of s route.topic route.channel)) ones refl

  pub left_by_same : (s : State) (phase : Phase) (route : Option Route) → HaveOnes only s.topics → left_by s phase route ≡ s
  left_by_same s phase None ones = refl
  left_by_same s Lost (Some route) ones = refl
  left_by_same s Fresh (Some route) ones = left_same s route ones
  left_by_same s Subscribed (Some route) ones = left_same s route ones
  left_by_same s Closing (Some route) ones = left_same s route ones

  pub gone_same : (s : State) (number : ℕ) (c : Option Client) → HaveOnes only s.topics → (gone_client s number c).topics ≡ s.topics
  gone_same s number None ones = refl
  gone_same s number (Some c) ones = ap (λ (x : State). x.topics) (left_by_same (record s { clients = without_client s.clients number }) c.phase c.route ones)
