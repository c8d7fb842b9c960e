-- What an opening finds is what was left.
use Rattle.std.proofs.Common.{◌≡◌, inl, inr, ℕ, true, not, List, [], ◌∷◌, filter, length, map, refl, sym, ap, subst, ◌∙◌, arith}
use Rattle.std.specs.List.{All, count_by, sum_by}
use Rattle.std.proofs.lemmas.List.{length-map}
use Rattle.std.proofs.lemmas.List.Elements.{All-head, All-tail, All-weaker}
use Rattle.std.proofs.lemmas.List.Sums.{sum_by-cons}
use Rattle.nsq_base.specs.Name.{is_ephemeral}
use Rattle.nsq_base.proofs.PutBy.{filter_all}
use Rattle.v2_frame.specs.declared.message.Message.{Message}
use Rattle.path_image.specs.Data.{durable}
use Rattle.path_image.specs.Found.{Found, FoundChannel, FoundTopic, Pairwise}
use Rattle.broker_history.specs.Left.{IsAllLeft, IsLeftChannel, IsLeftTopic, SameMessages, durable_channels, durable_topics, left_in_channel, left_in_topic}
use Rattle.broker_history.specs.State.{Channel, State, Topic, compared}
use Rattle.broker_history.proofs.Counting.{count-cons}
use Rattle.drill_parts.specs.Conserving.{HasOne, HasOnly, HaveOnes, IsDurable}
use Rattle.drill_parts.specs.Counts.{left_in, left_of, left_with}
use Rattle.drill_parts.specs.Left.{messages_in, messages_of, messages_within}

-- each as often, so as many
all_counted : {X : Type 0} (xs : List X) → count_by (λ x. true) xs ≡ length xs
all_counted [] = refl
all_counted (x ∷ xs) = let rest = all_counted xs in let more = count-cons (λ y. true) x xs in omega (arith, rest, more)

same_many : (ms ns : List Message) → SameMessages ms ns → length ms ≡ length ns
same_many ms ns same =
    sym (length-map ms compared) ∙ sym (all_counted (map compared ms)) ∙ same (λ m. true) ∙ all_counted (map compared ns) ∙ length-map ns compared

-- channels and topics that are all durable
channel_durable : (k : Channel) → IsDurable k.name → filter (λ (c : Channel). not (is_ephemeral c.name)) (k ∷ []) ≡ k ∷ []
channel_durable k stays = rw stays refl

only_durable : (t : Topic) (channel : List ℕ) → HasOnly channel t.channels → durable_channels t ≡ t.channels
only_durable t channel (inl none) = ap (λ ks. durable (λ (k : Channel). k.name) ks) none ∙ sym none
only_durable t channel (inr one) = ap (λ ks. durable (λ (k : Channel). k.name) ks) one.1 ∙ channel_durable one.0 one.3 ∙ sym one.1

channels_left : (ks : List Channel) (found : List FoundChannel) → Pairwise IsLeftChannel ks found → sum_by (λ (k : Channel). length (left_in_channel k)) ks ≡ messages_within found
channels_left [] [] p = refl
channels_left [] (f ∷ found) p = absurd p
channels_left (k ∷ ks) [] p = absurd p
channels_left (k ∷ ks) (f ∷ found) p =
    let here = same_many (left_in_channel k) f.messages p.0.messages in
    let rest = channels_left ks found p.1 in
    let a = sum_by-cons (λ (c : Channel). length (left_in_channel c)) k ks in
    let b = sum_by-cons (λ (c : FoundChannel). length c.messages) f found in
    omega (arith, here, rest, a, b)

module _ (only : List ℕ → List ℕ) where
  topic_left : (t : Topic) (found : FoundTopic) → HasOne only t → IsLeftTopic t found → left_with t ≡ messages_of found
  topic_left t found one left =
      let mine = same_many (left_in_topic t) found.messages left.messages in
      let channels : Pairwise IsLeftChannel t.channels found.channels = subst (λ ks. Pairwise IsLeftChannel ks found.channels) (only_durable t (only t.name) one.has) left.channels in
      let theirs = channels_left t.channels found.channels channels in
      omega (arith, mine, theirs)

  topics_left : (ts : List Topic) (found : List FoundTopic) → All (HasOne only) ts → Pairwise IsLeftTopic ts found → left_in ts ≡ sum_by messages_of found
  topics_left [] [] all p = refl
  topics_left [] (f ∷ found) all p = absurd p
  topics_left (t ∷ ts) [] all p = absurd p
  topics_left (t ∷ ts) (f ∷ found) all p =
      let here = topic_left t f (All-head (HasOne only) t ts all) p.0 in
      let rest = topics_left ts found (All-tail (HasOne only) t ts all) p.1 in
      let a = sum_by-cons left_with t ts in
      let b = sum_by-cons messages_of f found in
      omega (arith, here, rest, a, b)

  -- all messages that are left are found
  pub all_found : (s : State) (found : Found) → HaveOnes only s.topics → IsAllLeft s found → left_of s ≡ messages_in found
  all_found s found ones all =
      let kept : durable_topics s ≡ s.topics =
      filter_all (λ (t : Topic). not (is_ephemeral t.name)) s.topics (All-weaker (HasOne only) (λ (t : Topic). not (is_ephemeral t.name) ≡ true) (λ t one. ap not one.stays) s.topics ones.each) in
      topics_left s.topics found.topics ones.each (subst (λ ts. Pairwise IsLeftTopic ts found.topics) kept all.topics)
