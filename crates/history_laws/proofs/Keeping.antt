-- Each step lets the copies of a channel go on.
use Rattle.std.proofs.Common.{◌≡◌, ℕ, Bool, true, false, ◌&&◌, if◌then◌else◌, List, [], ◌∷◌, map, Option, Some, None, is_some, refl, sym, ap, subst, ◌∙◌}
use Rattle.std.specs.List.{find}
use Rattle.std.specs.Str.{bytes_eq}
use Rattle.nsq_base.specs.Name.{is_ephemeral}
use Rattle.broker_history.specs.State.{State, Topic, Channel, is_empty, topic_of, channel_of, with_topic, with_channel, is_ephemeral_channel}
use Rattle.broker_history.specs.Changes.{lost, with_fewer, without_topic, without_channel, deleted_in, deleted_channel, deleted_channels, deleted, channels_in, AtTopic, InChannel, AtChannel}
use Rattle.history_laws.specs.Copies.{ChannelGoesOn}
use Rattle.broker_history.proofs.Lists.{exact_bytes, find_passes, find_put, find_gone}
use Rattle.history_laws.proofs.Copying.{channel_same}

-- a topic goes on: each channel that it has before and after does
pub record TopicGoesOn (t t' : Topic) : Type 0 where
  pub channels : (name : List ℕ) (k k' : Channel) → channel_of t name ≡ Some k → channel_of t' name ≡ Some k' → ChannelGoesOn (is_ephemeral_channel t.name name) k k'

-- a state goes on: each topic that it has before and after does
pub record StateGoesOn (s s' : State) : Type 0 where
  pub topics : (name : List ℕ) (t t' : Topic) → topic_of s name ≡ Some t → topic_of s' name ≡ Some t' → TopicGoesOn t t'

some_is : {X : Type 0} (x y : X) → Some x ≡ Some y → x ≡ y
some_is x y e = cc

none_some : {X A : Type 0} (x : X) → None ≡ Some x → A
none_some x e = cc

pub topic_same : (t t' : Topic) → t'.channels ≡ t.channels → TopicGoesOn t t'
topic_same t t' same = record {
  channels = λ name k k' e e'. channel_same (is_ephemeral_channel t.name name) k k' (ap (λ (x : Channel). x.copies) (some_is k' k (sym e' ∙ ap (λ cs. find (λ (c : Channel). bytes_eq name c.name) cs) same ∙ e)));
}

-- one channel of a topic goes on, and the others stay
put_one : (t : Topic) (to : Channel) (name : List ℕ) (b : Bool) → bytes_eq name to.name ≡ b → ((from : Channel) → channel_of t to.name ≡ Some from → ChannelGoesOn (is_ephemeral_channel t.name to.name) from to)
    → (k k' : Channel) → channel_of t name ≡ Some k → (if b then Some to else channel_of t name) ≡ Some k' → ChannelGoesOn (is_ephemeral_channel t.name name) k k'
put_one t to name true same on k k' e e' =
    let is : name ≡ to.name = exact_bytes name to.name same in
    let there : channel_of t to.name ≡ Some k = subst (λ n. channel_of t n ≡ Some k) is e in
    subst (λ x. ChannelGoesOn (is_ephemeral_channel t.name name) k x) (some_is to k' e') (subst (λ n. ChannelGoesOn (is_ephemeral_channel t.name n) k to) (sym is) (on k there))
put_one t to name false same on k k' e e' = channel_same (is_ephemeral_channel t.name name) k k' (ap (λ (x : Channel). x.copies) (some_is k' k (sym e' ∙ e)))

pub topic_put : (t : Topic) (to : Channel) → ((from : Channel) → channel_of t to.name ≡ Some from → ChannelGoesOn (is_ephemeral_channel t.name to.name) from to) → TopicGoesOn t (with_channel t to)
topic_put t to on = record { channels = λ name k k' e e'. put_one t to name (bytes_eq name to.name) refl on k k' e (sym (find_put (λ (c : Channel). c.name) t.channels to name) ∙ e') }

-- one topic of a state goes on, and the others stay
state_one : (s : State) (to : Topic) (name : List ℕ) (b : Bool) → bytes_eq name to.name ≡ b → ((from : Topic) → topic_of s to.name ≡ Some from → TopicGoesOn from to) → (t t' : Topic) → topic_of s name ≡ Some t
    → (if b then Some to else topic_of s name) ≡ Some t' → TopicGoesOn t t'
state_one s to name true same on t t' e e' =
    subst (λ x. TopicGoesOn t x) (some_is to t' e') (on t (subst (λ n. topic_of s n ≡ Some t) (exact_bytes name to.name same) e))
state_one s to name false same on t t' e e' = topic_same t t' (ap (λ (x : Topic). x.channels) (some_is t' t (sym e' ∙ e)))

pub state_put : (s : State) (to : Topic) → ((from : Topic) → topic_of s to.name ≡ Some from → TopicGoesOn from to) → StateGoesOn s (with_topic s to)
state_put s to on = record { topics = λ name t t' e e'. state_one s to name (bytes_eq name to.name) refl on t t' e (sym (find_put (λ (t : Topic). t.name) s.topics to name) ∙ e') }

-- a state with the same topics
pub state_same : (s s' : State) → s'.topics ≡ s.topics → StateGoesOn s s'
state_same s s' same = record {
  topics = λ name t t' e e'. topic_same t t' (ap (λ (x : Topic). x.channels) (some_is t' t (sym e' ∙ ap (λ ts. find (λ (t : Topic). bytes_eq name t.name) ts) same ∙ e)));
}

-- the same with what stands behind
pub onto : (s t u : State) → StateGoesOn s t → u.topics ≡ t.topics → StateGoesOn s u
onto s t u on same = record { topics = λ name x y e e'. on.topics name x y e (ap (λ ts. find (λ (t : Topic). bytes_eq name t.name) ts) (sym same) ∙ e') }

pub from_same : (s t u : State) → t.topics ≡ s.topics → StateGoesOn t u → StateGoesOn s u
from_same s t u same on = record { topics = λ name x y e e'. on.topics name x y (ap (λ ts. find (λ (t : Topic). bytes_eq name t.name) ts) same ∙ e) e' }

-- what has a name is found by it
topic_name : (s : State) (name : List ℕ) (t : Topic) → topic_of s name ≡ Some t → name ≡ t.name
topic_name s name t e = exact_bytes name t.name (find_passes (λ (t : Topic). bytes_eq name t.name) s.topics t e)

channel_name : (t : Topic) (name : List ℕ) (k : Channel) → channel_of t name ≡ Some k → name ≡ k.name
channel_name t name k e = exact_bytes name k.name (find_passes (λ (c : Channel). bytes_eq name c.name) t.channels k e)

-- a row at a topic
pub at_topic : (name : List ℕ) (Row : Topic → Topic → Type 0) (s s' : State) → ((t t' : Topic) → topic_of s name ≡ Some t → Row t t' → (t'.name ≡ t.name) × TopicGoesOn t t') → AtTopic name Row s s' → StateGoesOn s s'
at_topic name Row s s' good a =
    let g = good a.old a.new a.there a.row in
    let named : name ≡ a.new.name = topic_name s name a.old a.there ∙ sym g.0 in
    subst (λ x. StateGoesOn s x) (sym a.is) (state_put s a.new (λ from e. subst (λ x. TopicGoesOn x a.new) (some_is a.old from (sym a.there ∙ subst (λ n. topic_of s n ≡ Some from) (sym named) e)) g.1))

-- a row at a channel of a topic
pub in_channel : (name : List ℕ) (Row : Channel → Channel → Type 0) (t t' : Topic) → ((k k' : Channel) → Row k k' → (k'.name ≡ k.name) × ChannelGoesOn (is_ephemeral_channel t.name name) k k') → InChannel name Row t t' → TopicGoesOn t t'
in_channel name Row t t' good a =
    let g = good a.from a.to a.row in
    let named : name ≡ a.to.name = channel_name t name a.from a.there ∙ sym g.0 in
    subst (λ x. TopicGoesOn t x) (sym a.is)
    (topic_put t a.to (λ from e. subst (λ n. ChannelGoesOn (is_ephemeral_channel t.name n) from a.to) named
    (subst (λ x. ChannelGoesOn (is_ephemeral_channel t.name name) x a.to) (some_is a.from from (sym a.there ∙ subst (λ n. channel_of t n ≡ Some from) (sym named) e)) g.1)))

pub at_channel : (topic channel : List ℕ) (Row : Channel → Channel → Type 0) (s s' : State) → ((k k' : Channel) → Row k k' → (k'.name ≡ k.name) × ChannelGoesOn (is_ephemeral_channel topic channel) k k') → AtChannel topic channel Row s s' → StateGoesOn s s'
at_channel topic channel Row s s' good a = at_topic topic (InChannel channel Row) s s' (λ t t' e r. (ap (λ (x : Topic). x.name) r.is, in_channel channel Row t t' (λ k k' q. let g = good k k' q in (g.0, subst (λ n. ChannelGoesOn (is_ephemeral_channel n channel) k k') (topic_name s topic t e) g.1)) r)) a

-- fewer topics and channels: what is there is as it was
pub record Fewer (s s' : State) : Type 0 where
  pub topics : (name : List ℕ) (t' : Topic) → topic_of s' name ≡ Some t' → (t : Topic) × (topic_of s name ≡ Some t) × ((channel : List ℕ) (k : Channel) → channel_of t' channel ≡ Some k → channel_of t channel ≡ Some k)

pub fewer_itself : (s s' : State) → s'.topics ≡ s.topics → Fewer s s'
fewer_itself s s' same = record { topics = λ name t' e. (t', ap (λ ts. find (λ (t : Topic). bytes_eq name t.name) ts) (sym same) ∙ e, λ channel k h. h) }

fewer_trans : (s t u : State) → Fewer s t → Fewer t u → Fewer s u
fewer_trans s t u a b = record {
  topics = λ name t' e. let q = b.topics name t' e in let p = a.topics name q.0 q.1 in (p.0, p.1, λ channel k h. p.2 channel k (q.2 channel k h));
}

pub fewer_on : (s s' : State) → Fewer s s' → StateGoesOn s s'
fewer_on s s' f = record {
  topics = λ name t t' e e'. record {
    channels = λ channel k k' h h'.
        let p = f.topics name t' e' in
        let same : p.0 ≡ t = some_is p.0 t (sym p.1 ∙ e) in
        channel_same (is_ephemeral_channel t.name channel) k k' (ap (λ (x : Channel). x.copies) (some_is k' k (sym (subst (λ x. channel_of x channel ≡ Some k') same (p.2 channel k' h')) ∙ h)));
  };
}

gone_one : (s : State) (t' : Topic) (b : Bool) (o : Option Topic) → (if b then None else o) ≡ Some t' → o ≡ Some t'
gone_one s t' true o e = none_some t' e
gone_one s t' false o e = e

fewer_topic : (s : State) (name : List ℕ) → Fewer s (without_topic s name)
fewer_topic s name = record { topics = λ n t' e. (t', gone_one s t' (bytes_eq name n) (topic_of s n) (sym (find_gone (λ (t : Topic). t.name) s.topics name n) ∙ e), λ channel k h. h) }

gone_channel : (k : Channel) (b : Bool) (o : Option Channel) → (if b then None else o) ≡ Some k → o ≡ Some k
gone_channel k true o e = none_some k e
gone_channel k false o e = e

fewer_put : (s : State) (to from : Topic) (name : List ℕ) (t' : Topic) (b : Bool) → bytes_eq name to.name ≡ b → topic_of s to.name ≡ Some from → ((channel : List ℕ) (k : Channel) → channel_of to channel ≡ Some k → channel_of from channel ≡ Some k)
    → (if b then Some to else topic_of s name) ≡ Some t' → (t : Topic) × (topic_of s name ≡ Some t) × ((channel : List ℕ) (k : Channel) → channel_of t' channel ≡ Some k → channel_of t channel ≡ Some k)
fewer_put s to from name t' true same there few e = (
  from,
  subst (λ n. topic_of s n ≡ Some from) (sym (exact_bytes name to.name same)) there,
  λ channel k h. few channel k (subst (λ x. channel_of x channel ≡ Some k) (sym (some_is to t' e)) h),
)
fewer_put s to from name t' false same there few e = (t', e, λ channel k h. h)

fewer_channel : (s : State) (t : Topic) (channel : List ℕ) → topic_of s t.name ≡ Some t → Fewer s (with_topic s (without_channel t channel))
fewer_channel s t channel there = record {
  topics = λ name t' e.
      fewer_put s (without_channel t channel) t name t' (bytes_eq name t.name) refl there
      (λ n k h. gone_channel k (bytes_eq channel n) (channel_of t n) (sym (find_gone (λ (c : Channel). c.name) t.channels channel n) ∙ h))
      (sym (find_put (λ (t : Topic). t.name) s.topics (without_channel t channel) name) ∙ e);
}

fewer_either : (s : State) (b : Bool) (t u : State) → Fewer s t → Fewer s u → Fewer s (if b then t else u)
fewer_either s true t u a c = a
fewer_either s false t u a c = c

deleted_fewer : (s : State) (topic channel : List ℕ) (o : Option Topic) → topic_of s topic ≡ o → Fewer s (deleted_in s channel o)
deleted_fewer s topic channel None e = fewer_itself s s refl
deleted_fewer s topic channel (Some t) e =
    let u : State = record s { clients = map (lost t.name channel) s.clients } in
    let there : topic_of u t.name ≡ Some t = subst (λ n. topic_of s n ≡ Some t) (topic_name s topic t e) e in
    let few : Fewer s (with_fewer u (without_channel t channel)) = fewer_trans s u (with_fewer u (without_channel t channel)) (fewer_itself s u refl) (fewer_either u (is_ephemeral t.name && is_empty (without_channel t channel).channels) (without_topic u t.name) (with_topic u (without_channel t channel)) (fewer_topic u t.name) (fewer_channel u t channel there)) in
    fewer_either s (is_some (channel_of t channel)) (with_fewer u (without_channel t channel)) s few (fewer_itself s s refl)

pub fewer_deleted : (s : State) (topic channel : List ℕ) → Fewer s (deleted_channel s topic channel)
fewer_deleted s topic channel = deleted_fewer s topic channel (topic_of s topic) refl

pub fewer_channels : (topic : List ℕ) (channels : List (List ℕ)) (s u : State) → Fewer s u → Fewer s (deleted_channels u topic channels)
fewer_channels topic [] s u f = f
fewer_channels topic (c ∷ cs) s u f = fewer_channels topic cs s (deleted_channel u topic c) (fewer_trans s u (deleted_channel u topic c) f (fewer_deleted u topic c))

pub deleted_on : (s : State) (topic : List ℕ) (channel : Option (List ℕ)) → StateGoesOn s (deleted s topic channel)
deleted_on s topic None =
    let u : State = deleted_channels s topic (channels_in (topic_of s topic)) in
    fewer_on s (without_topic u topic) (fewer_trans s u (without_topic u topic) (fewer_channels topic (channels_in (topic_of s topic)) s s (fewer_itself s s refl)) (fewer_topic u topic))
deleted_on s topic (Some channel) = fewer_on s (deleted_channel s topic channel) (fewer_deleted s topic channel)
