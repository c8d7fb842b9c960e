-- Which queues topics in byte order have.
use Rattle.std.proofs.Common.{◌≡◌, ◌≢◌, ◌<◌, ◌↔◌, ◌⊎◌, Option, Some, None, Result, Ok, Err, is_ok, Bool, true, false, not, IsTrue, ℕ, List, [], ◌∷◌, length, map, get_or, refl, sym, ◌∙◌, ap, subst, inl, inr, arith}
use Rattle.std.specs.List.{fold, Contains}
use Rattle.std.specs.Str.{bytes_eq}
use Rattle.std.proofs.lemmas.Bool.{false≢true, cases_lt}
use Rattle.std.proofs.lemmas.List.Elements.{All-contains, All-from_recursion, Contains-get_or, Contains-push, Contains-push_cases, Contains-append_left, Contains-append_right, Contains-append_cases}
use Rattle.std.proofs.lemmas.List.{get_or_default}
use Rattle.std.proofs.lemmas.Slice.Eq.{bytes_eq-Decides}
use Rattle.nsq_base.specs.Name.{IsName}
use Rattle.nsq_base.specs.Names.{IsAscendingBy, is_before, put_by}
use Rattle.nsq_base.specs.Places.{StandsAt, BelongsAt, IsPlaceOf}
use Rattle.nsq_base.proofs.PutBy.{IsAscendingBy-put_by}
use Rattle.queue_image.specs.FileNames.{channel_queue}
use Rattle.queue_image.proofs.Naming.{one_channel, no_channel}
use Rattle.path_image.specs.Data.{KeptTopic, KeptChannel, CanKeepTopic, IsKept, durable}
use Rattle.path_image.specs.Found.{queues_of}
use Rattle.path_image.proofs.NameLists.{before_once}
use Rattle.queue_sweep.specs.Forms.{HasForm}
use Rattle.names_file.specs.Kept.{CanKeepAll}
use Rattle.queue_sweep.specs.Names.{queue_named, spelled, HasNames}
use Rattle.queue_sweep.specs.Swept.{IsListedQueue, IsUnlisted, topic_name, channel_name}
use Rattle.queue_sweep.specs.declared.queue_name.QueueName.{QueueName}
use Rattle.queue_sweep.proofs.Colons.{one_form, queue_name}

-- the first of a list is in it, and so is each of the rest
pub first_in : {X : Type 0} (x : X) (xs : List X) → Contains (x ∷ xs) x
first_in x xs = Contains-append_left (x ∷ []) xs x (Contains-push [] x)

pub rest_in : {X : Type 0} (x : X) (xs : List X) (y : X) → Contains xs y → Contains (x ∷ xs) y
rest_in x xs y h = Contains-append_right (x ∷ []) xs y h

none_in : {X A : Type 0} (y : X) → Contains [] y → A
none_in y h = absurd (omega (arith, h.1))

first_or_rest : {X : Type 0} (x : X) (xs : List X) (y : X) → Contains (x ∷ xs) y → (x ≡ y) ⊎ Contains xs y
first_or_rest x xs y h =
    elim (Contains-append_cases (x ∷ []) xs y h) [
      | inl first ↦ elim (Contains-push_cases [] x y first) [ inl none ↦ none_in y none | inr same ↦ inl same ]
      | inr rest ↦ inr rest
    ]

-- what a list's items are made into
pub made_in : {X Y : Type 0} (f : X → Y) (xs : List X) (x : X) → Contains xs x → Contains (map f xs) (f x)
made_in f [] x h = none_in x h
made_in f (y ∷ ys) x h =
    elim (first_or_rest y ys x h) [
      | inl same ↦ subst (λ z. Contains (f y ∷ map f ys) (f z)) same (first_in (f y) (map f ys))
      | inr rest ↦ rest_in (f y) (map f ys) (f x) (made_in f ys x rest)
    ]

pub record IsMadeOf {X Y : Type 0} (f : X → Y) (xs : List X) (y : Y) : Type 0 where
  pub of : X
  pub here : Contains xs of
  pub is : f of ≡ y

pub made_of : {X Y : Type 0} (f : X → Y) (xs : List X) (y : Y) → Contains (map f xs) y → IsMadeOf f xs y
made_of f [] y h = none_in y h
made_of f (x ∷ xs) y h =
    elim (first_or_rest (f x) (map f xs) y h) [
      | inl same ↦ record { of = x; here = first_in x xs; is = same }
      | inr rest ↦ let m = made_of f xs y rest in record { of = m.of; here = rest_in x xs m.of m.here; is = m.is }
    ]

module _ {X : Type 0} (key : X → List ℕ) where
  folded_ascends : (xs start : List X) → IsAscendingBy key start → IsAscendingBy key (fold (put_by key) start xs)
  folded_ascends [] start up = up
  folded_ascends (x ∷ xs) start up = folded_ascends xs (put_by key start x) (IsAscendingBy-put_by key start x up)

  -- what is kept is in byte order
  pub kept_ascends : (listed kept : List X) → IsKept key listed kept → IsAscendingBy key kept
  kept_ascends listed kept k = subst (λ (xs : List X). IsAscendingBy key xs) (sym k.order) (folded_ascends (durable key listed) [] (λ i j d low high. absurd (omega arith)))

  -- of an ascending list no two items have one key
  not_later : (xs : List X) (i j : ℕ) (d : X) → IsAscendingBy key xs → i < j → j < length xs → key (get_or xs i d) ≢ key (get_or xs j d)
  not_later xs i j d up low high same =
      let a = key (get_or xs i d) in
      let b = key (get_or xs j d) in
      let before : is_before a b ≡ true = up i j d low high in
      let itself : is_before b a ≡ true = subst (λ (x : List ℕ). is_before x a ≡ true) same (subst (λ (x : List ℕ). is_before a x ≡ true) (sym same) before) in
      false≢true (sym (before_once a b before) ∙ itself)

  -- an item with the key that stands at a place is the item there
  pub stands_alone : (xs : List X) (k : List ℕ) (i : ℕ) (x d : X) → IsAscendingBy key xs → StandsAt key xs k i → Contains xs x → key x ≡ k → get_or xs i d ≡ x
  stands_alone xs k i x d up at has is =
      let j = has.0 in
      let here : key (get_or xs j x) ≡ k = ap key has.2 ∙ is in
      elim (cases_lt i j) [
        | inl low ↦ absurd (not_later xs i j x up low has.1 (at.is_key x ∙ sym here))
        | inr high ↦ elim (cases_lt j i) [
          | inl low ↦ absurd (not_later xs j i x up low at.in_range (here ∙ sym (at.is_key x)))
          | inr low ↦ let same : i ≡ j = omega (arith, high, low) in get_or_default xs i d x at.in_range ∙ ap (λ (n : ℕ). get_or xs n x) same ∙ has.2
        ]
      ]

  -- no item has a key that only belongs
  pub none_stands : (xs : List X) (k : List ℕ) (i : ℕ) (x : X) → BelongsAt key xs k i → Contains xs x → key x ≢ k
  none_stands xs k i x at has is =
      let differs : bytes_eq k (key x) ≡ false = All-contains (λ y. bytes_eq k (key y) ≡ false) xs x at.absent has in
      false≢true (sym differs ∙ (bytes_eq-Decides k (key x)).1 (sym is))

  -- a place tells whether an item has the key
  pub place_tells : (xs : List X) (k : List ℕ) (r : Result ℕ ℕ) → IsPlaceOf key xs k r → IsTrue (is_ok r) ↔ Contains (map key xs) k
  place_tells [] k (Ok i) at = absurd (omega (arith, at.in_range))
  place_tells (y ∷ ys) k (Ok i) at = (
    λ _. subst (λ (x : List ℕ). Contains (map key (y ∷ ys)) x) (at.is_key y) (made_in key (y ∷ ys) (get_or (y ∷ ys) i y) (Contains-get_or (y ∷ ys) i y at.in_range)),
    λ _. refl,
  )
  place_tells xs k (Err i) at = (λ wrong. absurd (false≢true wrong), λ has. let m = made_of key xs k has in absurd (none_stands xs k i m.of at m.here m.is))

-- the topics are in byte order, and so are the channels of each
pub topics_ascend : (topics : List KeptTopic) → CanKeepAll topics → IsAscendingBy topic_name topics
topics_ascend topics kept = kept_ascends topic_name topics topics kept.keeps

pub can_keep : (topics : List KeptTopic) (topic : KeptTopic) → CanKeepAll topics → Contains topics topic → CanKeepTopic topic
can_keep topics topic kept has = All-contains CanKeepTopic topics topic (All-from_recursion CanKeepTopic topics kept.topics) has

pub channels_ascend : (topics : List KeptTopic) (topic : KeptTopic) → CanKeepAll topics → Contains topics topic → IsAscendingBy channel_name topic.channels
channels_ascend topics topic kept has = kept_ascends channel_name topic.channels topic.channels (can_keep topics topic kept has).keeps

-- the topic has the channel, where there is one
abbrev pub HasChannel : KeptTopic → Option (List ℕ) → Type 0
HasChannel topic None = Unit {0}
HasChannel topic (Some channel) = Contains (map channel_name topic.channels) channel

-- the topic whose queue, or whose channel's queue, a listed one is
pub record IsOwnedBy (topics : List KeptTopic) (topic : List ℕ) (channel : Option (List ℕ)) : Type 0 where
  pub of : KeptTopic
  pub listed : Contains topics of
  pub is : of.name ≡ topic
  pub has : HasChannel of channel

pub owner : (topics : List KeptTopic) (topic : List ℕ) (channel : Option (List ℕ)) → CanKeepAll topics → IsName topic → IsListedQueue topics (queue_named topic channel) → IsOwnedBy topics topic channel
owner topics topic None kept named l =
    elim (first_or_rest l.topic.name (map (λ (c : KeptChannel). channel_queue l.topic.name c.name) l.topic.channels) topic l.own) [
      | inl same ↦ record { of = l.topic; listed = l.listed; is = same; has = tt }
      | inr rest ↦ let m = made_of (λ (c : KeptChannel). channel_queue l.topic.name c.name) l.topic.channels topic rest in absurd (no_channel topic l.topic.name m.of.name named (sym m.is))
    ]
owner topics topic (Some channel) kept named l =
    let own_name : IsName l.topic.name = (can_keep topics l.topic kept l.listed).named in
    elim (first_or_rest l.topic.name (map (λ (c : KeptChannel). channel_queue l.topic.name c.name) l.topic.channels) (channel_queue topic channel) l.own) [
      | inl same ↦ absurd (no_channel l.topic.name topic channel own_name same)
      | inr rest ↦
          let m = made_of (λ (c : KeptChannel). channel_queue l.topic.name c.name) l.topic.channels (channel_queue topic channel) rest in
          let both = one_channel l.topic.name m.of.name topic channel own_name named m.is in
          record {
            of = l.topic;
            listed = l.listed;
            is = both.0;
            has = subst (λ (x : List ℕ). Contains (map channel_name l.topic.channels) x) both.1 (made_in channel_name l.topic.channels m.of m.here);
          }
    ]

pub owned : (topics : List KeptTopic) (topic : List ℕ) (channel : Option (List ℕ)) → IsOwnedBy topics topic channel → IsListedQueue topics (queue_named topic channel)
owned topics topic None o = record { topic = o.of; listed = o.listed; own = subst (λ (x : List ℕ). Contains (queues_of o.of) x) o.is (first_in o.of.name (map (λ (c : KeptChannel). channel_queue o.of.name c.name) o.of.channels)) }
owned topics topic (Some channel) o =
    let m = made_of channel_name o.of.channels channel o.has in
    let queue : KeptChannel → List ℕ = λ c. channel_queue o.of.name c.name in
    let same : channel_queue o.of.name m.of.name ≡ channel_queue topic channel = ap (λ (x : List ℕ). channel_queue x m.of.name) o.is ∙ ap (channel_queue topic) m.is in
    record {
      topic = o.of;
      listed = o.listed;
      own = subst (λ (x : List ℕ). Contains (queues_of o.of) x) same (rest_in o.of.name (map queue o.of.channels) (channel_queue o.of.name m.of.name) (made_in queue o.of.channels m.of m.here));
    }

-- where no topic has the name, no queue of that topic is listed
pub none_owns : (topics : List KeptTopic) (queue : QueueName) (i : ℕ) → CanKeepAll topics → HasNames queue → BelongsAt topic_name topics queue.topic i → ¬ IsListedQueue topics (spelled queue)
none_owns topics queue i kept named at l =
    let o = owner topics queue.topic queue.channel kept named.of_topic l in none_stands topic_name topics queue.topic i o.of at o.listed o.is

-- where a topic of the name stands, its queue is listed, or that of a channel that it has
pub one_owns : (topics : List KeptTopic) (topic : List ℕ) (channel : Option (List ℕ)) (i : ℕ) (kept_topic : KeptTopic) → CanKeepAll topics → IsName topic → StandsAt topic_name topics topic i
    → kept_topic ≡ get_or topics i kept_topic → HasChannel kept_topic channel ↔ IsListedQueue topics (queue_named topic channel)
one_owns topics topic channel i kept_topic kept named at here = (
  λ has. owned topics topic channel (record {
    of = kept_topic;
    listed = (i, at.in_range, sym here);
    is = ap topic_name here ∙ at.is_key kept_topic;
    has = has;
  }),
  λ l.
      let o = owner topics topic channel kept named l in
      let same : o.of ≡ kept_topic = sym (stands_alone topic_name topics topic i o.of kept_topic (topics_ascend topics kept) at o.listed o.is) ∙ sym here in
      subst (λ (t : KeptTopic). HasChannel t channel) same o.has,
)

-- a file is unlisted where its queue is
pub unlisted_tells : (topics : List KeptTopic) (file : List ℕ) (queue : QueueName) (b : Bool) → HasForm (spelled queue) file → HasNames queue → IsTrue b ↔ IsListedQueue topics (spelled queue) → IsTrue (not b) ↔ IsUnlisted topics file
unlisted_tells topics file queue true form named tells = (
  λ wrong. absurd (false≢true wrong),
  λ u. absurd (u.absent (subst (λ (x : List ℕ). IsListedQueue topics x) (one_form (spelled queue) u.queue.name file form u.queue.form) (tells.0 refl))),
)
unlisted_tells topics file queue false form named tells = (
  λ _. record { queue = record { name = spelled queue; queue = queue_name queue named; form = form }; absent = λ l. false≢true (tells.1 l) },
  λ _. refl,
)
