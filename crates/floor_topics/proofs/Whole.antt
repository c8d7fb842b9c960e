-- The channels of a topic that go one after another, in a state.
use Rattle.std.proofs.Common.{◌≡◌, ◌⊎◌, inl, inr, ◌<◌, ℕ, suc, zero, Bool, true, false, not, ◌&&◌, if◌then◌else◌, List, [], ◌∷◌, map, take, length, Some, refl, sym, ap, subst, ◌∙◌, arith}
use Rattle.std.specs.Prelude.{is_some}
use Rattle.std.specs.List.{filter, find}
use Rattle.std.specs.Str.{bytes_eq}
use Rattle.std.proofs.lemmas.Bool.{false≢true}
use Rattle.std.proofs.lemmas.List.Elements.{All-weaker, filter_passes}
use Rattle.nsq_base.specs.Name.{is_ephemeral}
use Rattle.nsq_base.specs.Names.{IsAscendingBy, byte_order, is_before}
use Rattle.nsq_base.proofs.PutBy.{IsAscendingBy-put_by, Less-from_before, filter_all, other_from_order}
use Rattle.broker_history.specs.State.{Channel, State, Topic, channel_of, is_empty, topic_of, with_topic}
use Rattle.broker_history.specs.Changes.{deleted_channel, deleted_channels, deleted_in, lost, with_fewer, without_channel, without_topic}
use Rattle.broker_history.proofs.Lists.{exact_bytes, find_passes, find_put, same_bytes}
use Rattle.floor_topics.specs.Losing.{LosesChannel}
use Rattle.floor_topics.specs.Deleting.{kept_in, kept_without, kept_without_all}
use Rattle.floor_topics.proofs.Fewer.{gone_put}

-- what a channel's deletion alone makes is what the topic keeps
pub kept_is : (s t : State) (topic channel : List ℕ) → LosesChannel topic channel s t → t ≡ kept_without s topic channel
kept_is s t topic channel x =
    let named : topic ≡ x.of.name = exact_bytes topic x.of.name (find_passes (λ (u : Topic). bytes_eq topic u.name) s.topics x.of x.there) in
    x.is ∙ ap (λ n. with_topic (record s { clients = map (lost n channel) s.clients }) (without_channel x.of channel)) named ∙ sym (ap (kept_in s channel) x.there)

-- the topic of a state has these channels, each of another name
pub record Has (s : State) (topic : List ℕ) (cs : List Channel) : Type 0 where
  pub of : Topic
  pub there : topic_of s topic ≡ Some of
  pub channels : of.channels ≡ cs
  pub up : IsAscendingBy (λ (k : Channel). k.name) cs
  pub order : IsAscendingBy (λ (u : Topic). u.name) s.topics

module _ (s : State) (topic : List ℕ) (c : Channel) (cs : List Channel) (x : Has s topic (c ∷ cs)) where
  has_named : topic ≡ x.of.name
  has_named = exact_bytes topic x.of.name (find_passes (λ (u : Topic). bytes_eq topic u.name) s.topics x.of x.there)

  abbrev loser : State
  loser = record s { clients = map (lost x.of.name c.name) s.clients }

  abbrev fewer : Topic
  fewer = without_channel x.of c.name

  fewer_has : fewer.channels ≡ cs
  fewer_has =
      let p : Channel → Bool = λ k. not (bytes_eq c.name k.name) in
      let rest : filter p cs ≡ cs =
      filter_all p cs
      (All-weaker (λ (k : Channel). is_before c.name k.name ≡ true) (λ k. p k ≡ true) (λ k e. ap not (other_from_order c.name k.name _ (Less-from_before (byte_order c.name k.name) e) refl)) cs (λ i d m. x.up 0 (suc i) d (omega arith) (omega (arith, m)))) in
      ap (filter p) x.channels ∙ ap (λ b. if not b then c ∷ filter p cs else filter p cs) (same_bytes c.name) ∙ rest

  kept_now : kept_without s topic c.name ≡ with_topic loser fewer
  kept_now = ap (kept_in s c.name) x.there

  has_first : is_some (channel_of x.of c.name) ≡ true
  has_first =
      ap (λ (ks : List Channel). is_some (find (λ (k : Channel). bytes_eq c.name k.name) ks)) x.channels
      ∙ ap (λ b. is_some (if b then Some c else find (λ (k : Channel). bytes_eq c.name k.name) cs)) (same_bytes c.name)

  deleted_now : deleted_channel s topic c.name ≡ with_fewer loser fewer
  deleted_now = ap (deleted_in s c.name) x.there ∙ ap (λ b. if b then with_fewer loser fewer else s) has_first

  test_now : (is_ephemeral x.of.name && is_empty fewer.channels) ≡ (is_ephemeral topic && is_empty cs)
  test_now = ap (λ n. is_ephemeral n && is_empty fewer.channels) (sym has_named) ∙ ap (λ (ks : List Channel). is_ephemeral topic && is_empty ks) fewer_has

  pub stays : (is_ephemeral topic && is_empty cs) ≡ false → deleted_channel s topic c.name ≡ kept_without s topic c.name
  stays e = deleted_now ∙ ap (λ b. if b then without_topic loser x.of.name else with_topic loser fewer) (test_now ∙ e) ∙ sym kept_now

  -- where it goes, the topic goes of both
  pub goes : (is_ephemeral topic && is_empty cs) ≡ true → without_topic (deleted_channel s topic c.name) topic ≡ without_topic (kept_without s topic c.name) topic
  goes e =
      let p : Topic → Bool = λ u. not (bytes_eq topic u.name) in
      let once : without_topic loser x.of.name ≡ without_topic loser topic = ap (without_topic loser) (sym has_named) in
      let twice : without_topic (without_topic loser topic) topic ≡ without_topic loser topic =
      ap (λ ts. record loser { topics = ts }) (filter_all p (filter p s.topics) (filter_passes p s.topics)) in
      ap (λ u. without_topic u topic) (deleted_now ∙ ap (λ b. if b then without_topic loser x.of.name else with_topic loser fewer) (test_now ∙ e) ∙ once) ∙ twice
      ∙ sym (ap (λ u. without_topic u topic) kept_now ∙ ap (λ ts. record loser { topics = ts }) (gone_put (λ (v : Topic). v.name) topic s.topics fewer (sym has_named) x.order))

  pub next : Has (kept_without s topic c.name) topic cs
  next = subst (λ u. Has u topic cs) (sym kept_now) (record {
    of = fewer;
    there = find_put (λ (u : Topic). u.name) s.topics fewer topic ∙ ap (λ b. if b then Some fewer else topic_of s topic) (ap (bytes_eq topic) (sym has_named) ∙ same_bytes topic);
    channels = fewer_has;
    up = λ i j d l m. x.up (suc i) (suc j) d (omega (arith, l)) (omega (arith, m));
    order = IsAscendingBy-put_by (λ (u : Topic). u.name) s.topics fewer x.order;
  })

and_no : (b : Bool) → (b && false) ≡ false
and_no true = refl
and_no false = refl

no_and : (b c : Bool) → b ≡ false → (b && c) ≡ false
no_and true c e = absurd (false≢true (sym e))
no_and false c e = refl

-- while the topic stays, the definitions' deletions are those that leave it
not_last : (topic : List ℕ) (cs : List Channel) (k : ℕ) → (suc k < suc (length cs)) ⊎ (is_ephemeral topic ≡ false) → (is_ephemeral topic && is_empty cs) ≡ false
not_last topic [] k (inl l) = absurd (let no : ⊥ = omega (arith, l) in no)
not_last topic (c ∷ cs) k (inl l) = and_no (is_ephemeral topic)
not_last topic cs k (inr e) = no_and (is_ephemeral topic) (is_empty cs) e

fewer_left : (topic : List ℕ) (n k : ℕ) → (suc k < suc n) ⊎ (is_ephemeral topic ≡ false) → (k < n) ⊎ (is_ephemeral topic ≡ false)
fewer_left topic n k (inl l) = inl (omega (arith, l))
fewer_left topic n k (inr e) = inr e

pub first_kept : (topic : List ℕ) (cs : List Channel) (k : ℕ) (s : State) → Has s topic cs → (k < length cs) ⊎ (is_ephemeral topic ≡ false) → deleted_channels s topic (take k (map (λ (c : Channel). c.name) cs)) ≡ kept_without_all s topic (take k (map (λ (c : Channel). c.name) cs))
first_kept topic [] zero s x e = refl
first_kept topic [] (suc k) s x e = refl
first_kept topic (c ∷ cs) zero s x e = refl
first_kept topic (c ∷ cs) (suc k) s x e =
    ap (λ u. deleted_channels u topic (take k (map (λ (d : Channel). d.name) cs))) (stays s topic c cs x (not_last topic cs k e)) ∙ first_kept topic cs k (kept_without s topic c.name) (next s topic c cs x) (fewer_left topic (length cs) k e)

-- and with the topic all are gone
last_one : (topic : List ℕ) (c : Channel) (s : State) → Has s topic (c ∷ []) → (b : Bool) → is_ephemeral topic && true ≡ b → without_topic (deleted_channel s topic c.name) topic ≡ without_topic (kept_without s topic c.name) topic
last_one topic c s x true e = goes s topic c [] x e
last_one topic c s x false e = ap (λ u. without_topic u topic) (stays s topic c [] x e)

pub all_kept : (topic : List ℕ) (cs : List Channel) (s : State) → Has s topic cs → without_topic (deleted_channels s topic (map (λ (c : Channel). c.name) cs)) topic ≡ without_topic (kept_without_all s topic (map (λ (c : Channel). c.name) cs)) topic
all_kept topic [] s x = refl
all_kept topic (c ∷ []) s x = last_one topic c s x (is_ephemeral topic && true) refl
all_kept topic (c ∷ (d ∷ ds)) s x =
    ap (λ u. without_topic (deleted_channels u topic (map (λ (k : Channel). k.name) (d ∷ ds))) topic) (stays s topic c (d ∷ ds) x (and_no (is_ephemeral topic))) ∙ all_kept topic (d ∷ ds) (kept_without s topic c.name) (next s topic c (d ∷ ds) x)
