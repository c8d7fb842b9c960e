-- What an opening finds in a folder is one thing.
use Rattle.std.proofs.Common.{◌≡◌, ℕ, ◌<◌, Bool, List, [], ◌∷◌, length, map, Option, Some, None, codes, refl, sym, ap, subst, ◌∙◌, arith, zero, suc, slice_index_or}
use Rattle.serde_json.specs.Data as json
use Rattle.serde_json.specs.Find.{get_member, as_object}
use Rattle.nsq_outside.specs.Files.{Files}
use Rattle.v2_frame.specs.declared.message.Message.{Message}
use Rattle.v2_frame.proofs.MessageLemmas.{message_same}
use Rattle.queue_image.specs.FileNames.{channel_queue}
use Rattle.queue_image.specs.Finds as queue
use Rattle.queue_image.proofs.Walking.{one_finding}
use Rattle.path_image.specs.Data.{KeptChannel, KeptTopic, Kept, SaysTopic, SaysEpoch, SaysList, IsNames, IsBadNames, data_name, last_epoch, durable, in_order}
use Rattle.path_image.specs.Once.{list_once, topic_once}
use Rattle.path_image.specs.Found.{FoundChannel, FoundTopic, Found, Finding, Names, IsRecordOf, Pairwise, IsFoundQueue, HasMessages, FindsChannel, FindsTopic, queues_of, HasBadQueue, IsFound, least_record, longest_record}
use Rattle.path_image.specs.Found.IsFound.{fresh, spoilt, spent, bad_queue, names}

some_one : {X : Type 0} (a b : X) → Some a ≡ Some b → a ≡ b
some_one a b e = cc

none_some : {X A : Type 0} (o : Option X) (x : X) → o ≡ None → o ≡ Some x → A
none_some o x e f = absurd (let bad : None ≡ Some x = sym e ∙ f in cc)

text_once : (o : Option (List ℕ)) (s t : List ℕ) → o ≡ Some s → o ≡ Some t → s ≡ t
text_once o s t e f = some_one s t (sym e ∙ f)

epoch_once : (m : Option json.Data) (a b : ℕ) → SaysEpoch m a → SaysEpoch m b → a ≡ b
epoch_once None a b g h = g ∙ sym h
epoch_once (Some json.null) a b g h = g ∙ sym h
epoch_once (Some (json.boolean x)) a b g h = absurd g
epoch_once (Some (json.number (json.unsigned n))) a b g h = g.0 ∙ sym h.0
epoch_once (Some (json.number (json.negative z))) a b g h = absurd g
epoch_once (Some (json.number (json.float x))) a b g h = absurd g
epoch_once (Some (json.string s)) a b g h = absurd g
epoch_once (Some (json.array ds)) a b g h = absurd g
epoch_once (Some (json.object ms)) a b g h = absurd g

-- a text keeps one thing
pub names_once : (text : List ℕ) (a b : Kept) → IsNames text a → IsNames text b → a ≡ b
names_once text a b g h =
    let k : h.members ≡ g.members = some_one h.members g.members (ap as_object (some_one (json.object h.members) (json.object g.members) (sym h.object ∙ g.object))) in
    let P : json.Members → Type 0 = λ ms. SaysEpoch (get_member (codes "id_epoch") ms) b.epoch in
    let Q : json.Members → Type 0 = λ ms. SaysList SaysTopic (get_member (codes "topics") ms) h.listed in
    let KeptOf : ℕ → List KeptTopic → Kept = λ n ts. record { epoch = n; topics = ts } in
    let same : g.listed ≡ h.listed = list_once SaysTopic topic_once (get_member (codes "topics") g.members) g.listed h.listed g.topics (subst Q k h.topics) in
    let sorted : List KeptTopic → List KeptTopic = λ ts. in_order (λ (t : KeptTopic). t.name) (durable (λ (t : KeptTopic). t.name) ts) in
    ap (λ n. KeptOf n a.topics) (epoch_once (get_member (codes "id_epoch") g.members) a.epoch b.epoch g.epoch (subst P k h.epoch))
    ∙ ap (KeptOf b.epoch) (g.keeps.order ∙ ap sorted same ∙ sym h.keeps.order)

module _ {X Y : Type 0} (R : X → Y → Type 0) where
  pairwise_once : ((x : X) (y z : Y) → R x y → R x z → y ≡ z) → (xs : List X) (ys zs : List Y) → Pairwise R xs ys → Pairwise R xs zs → ys ≡ zs
  pairwise_once once [] [] [] g h = refl
  pairwise_once once [] [] (z ∷ zs) g h = absurd h
  pairwise_once once [] (y ∷ ys) zs g h = absurd g
  pairwise_once once (x ∷ xs) [] zs g h = absurd g
  pairwise_once once (x ∷ xs) (y ∷ ys) [] g h = absurd h
  pairwise_once once (x ∷ xs) (y ∷ ys) (z ∷ zs) g h = ap (λ v. v ∷ ys) (once x y z g.0 h.0) ∙ ap (λ vs. z ∷ vs) (pairwise_once once xs ys zs g.1 h.1)

-- a record is one message
record_once : (body : List ℕ) (m n : Message) → IsRecordOf body m → IsRecordOf body n → m ≡ n
record_once body m n g h =
    let same = message_same m n (record { stamp = g.stamp; attempts = g.attempts; id = g.id }) (record { stamp = h.stamp; attempts = h.attempts; id = h.id }) (sym g.whole ∙ h.whole) in
    let MessageOf : ℕ → ℕ → List ℕ → List ℕ → ℕ → Message = λ s a i b d. record { stamp = s; attempts = a; id = i; body = b; delay = d } in
    ap (λ x. MessageOf x m.attempts m.id m.body m.delay) same.stamp
    ∙ ap (λ x. MessageOf n.stamp x m.id m.body m.delay) same.attempts
    ∙ ap (λ x. MessageOf n.stamp n.attempts x m.body m.delay) same.id
    ∙ ap (λ x. MessageOf n.stamp n.attempts n.id x m.delay) same.body
    ∙ ap (λ x. MessageOf n.stamp n.attempts n.id n.body x) (g.delay ∙ sym h.delay)

bodies_in : queue.Finding → List (List ℕ)
bodies_in queue.BadMeta = []
bodies_in (queue.Records bodies bad) = bodies

queue_once : (files : Files) (name : List ℕ) (x y : queue.Finding) → IsFoundQueue files name x → IsFoundQueue files name y → x ≡ y
queue_once files name x y g h = one_finding least_record longest_record files name x y (omega arith) g h

not_bad : {A : Type 0} (files : Files) (name : List ℕ) (messages : List Message) → HasMessages files name messages → IsFoundQueue files name queue.BadMeta → A
not_bad files name messages g b = absurd (let bad : queue.BadMeta ≡ queue.Records g.bodies g.bad = queue_once files name queue.BadMeta (queue.Records g.bodies g.bad) b g.queue in cc)

-- a queue has its messages once
messages_once : (files : Files) (name : List ℕ) (xs ys : List Message) → HasMessages files name xs → HasMessages files name ys → xs ≡ ys
unfolding bodies_in
messages_once files name xs ys g h =
    let same : g.bodies ≡ h.bodies = ap bodies_in (queue_once files name (queue.Records g.bodies g.bad) (queue.Records h.bodies h.bad) g.queue h.queue) in
    pairwise_once IsRecordOf record_once h.bodies xs ys (subst (λ bs. Pairwise IsRecordOf bs xs) same g.records) h.records

channel_once : (files : Files) (topic : List ℕ) (kept : KeptChannel) (x y : FoundChannel) → FindsChannel files topic kept x → FindsChannel files topic kept y → x ≡ y
channel_once files topic kept x y g h =
    let ChannelOf : List ℕ → Bool → List Message → FoundChannel = λ n p ms. record { name = n; paused = p; messages = ms } in
    ap (λ n. ChannelOf n x.paused x.messages) (g.name ∙ sym h.name) ∙ ap (λ p. ChannelOf y.name p x.messages) (g.paused ∙ sym h.paused)
    ∙ ap (ChannelOf y.name y.paused) (messages_once files (channel_queue topic kept.name) x.messages y.messages g.messages h.messages)

finds_once : (files : Files) (kept : KeptTopic) (x y : FoundTopic) → FindsTopic files kept x → FindsTopic files kept y → x ≡ y
finds_once files kept x y g h =
    let TopicOf : List ℕ → Bool → List Message → List FoundChannel → FoundTopic = λ n p ms cs. record { name = n; paused = p; messages = ms; channels = cs } in
    ap (λ n. TopicOf n x.paused x.messages x.channels) (g.name ∙ sym h.name) ∙ ap (λ p. TopicOf y.name p x.messages x.channels) (g.paused ∙ sym h.paused)
    ∙ ap (λ ms. TopicOf y.name y.paused ms x.channels) (messages_once files kept.name x.messages y.messages g.messages h.messages)
    ∙ ap (TopicOf y.name y.paused y.messages) (pairwise_once (FindsChannel files kept.name) (channel_once files kept.name) kept.channels x.channels y.channels g.channels h.channels)

module _ {X Y : Type 0} (R : X → Y → Type 0) where
  -- what is found for an element
  pairwise_at : (xs : List X) (ys : List Y) (x : X) → Pairwise R xs ys → (k : ℕ) → k < length xs → slice_index_or xs k x ≡ x → (y : Y) × R x y
  pairwise_at [] ys x p k l e = absurd (omega (arith, l))
  pairwise_at (z ∷ xs) [] x p k l e = absurd p
  pairwise_at (z ∷ xs) (y ∷ ys) x p zero l e = (y, subst (λ (w : X). R w y) e p.0)
  pairwise_at (z ∷ xs) (y ∷ ys) x p (suc k) l e = pairwise_at xs ys x p.1 k (omega (arith, l)) e

-- no channel that is found has bad metadata
channels_good : {A : Type 0} (files : Files) (topic : List ℕ) (cs : List KeptChannel) (fs : List FoundChannel) (name : List ℕ) → Pairwise (FindsChannel files topic) cs fs
    → (k : ℕ) → k < length (map (λ (c : KeptChannel). channel_queue topic c.name) cs) → slice_index_or (map (λ (c : KeptChannel). channel_queue topic c.name) cs) k name ≡ name
    → IsFoundQueue files name queue.BadMeta → A
channels_good files topic [] fs name p k l e b = absurd (omega (arith, l))
channels_good files topic (c ∷ cs) [] name p k l e b = absurd p
channels_good files topic (c ∷ cs) (f ∷ fs) name p zero l e b = not_bad files (channel_queue topic c.name) f.messages p.0.messages (subst (λ (n : List ℕ). IsFoundQueue files n queue.BadMeta) (sym e) b)
channels_good files topic (c ∷ cs) (f ∷ fs) name p (suc k) l e b = channels_good files topic cs fs name p.1 k (omega (arith, l)) e b

-- no queue of a topic that is found has
topic_good : {A : Type 0} (files : Files) (kept : KeptTopic) (found : FoundTopic) (name : List ℕ) → FindsTopic files kept found → (k : ℕ) → k < length (queues_of kept) → slice_index_or (queues_of kept) k name ≡ name
    → IsFoundQueue files name queue.BadMeta → A
topic_good files kept found name f zero l e b = not_bad files kept.name found.messages f.messages (subst (λ (n : List ℕ). IsFoundQueue files n queue.BadMeta) (sym e) b)
topic_good files kept found name f (suc k) l e b = channels_good files kept.name kept.channels found.channels name f.channels k (omega (arith, l)) e b

-- names are found, or a queue has bad metadata, and never both
not_both : {A : Type 0} (files : Files) (kept : Kept) (founds : List FoundTopic) → Pairwise (FindsTopic files) kept.topics founds → HasBadQueue files kept → A
not_both files kept founds p b =
    let t = pairwise_at (FindsTopic files) kept.topics founds b.topic p b.listed.0 b.listed.1 b.listed.2 in
    topic_good files b.topic t.0 b.name t.1 b.own.0 b.own.1 b.own.2 b.bad

module _ (files : Files) where
  -- two texts of one file keep one thing
  kept_once : (s t : List ℕ) (a b : Kept) → files data_name ≡ Some s → files data_name ≡ Some t → IsNames s a → IsNames t b → a ≡ b
  kept_once s t a b e f g h = names_once s a b g (subst (λ (x : List ℕ). IsNames x b) (text_once (files data_name) t s f e) h)

  bad_or_names : {A : Type 0} (s t : List ℕ) (kept : Kept) → files data_name ≡ Some s → files data_name ≡ Some t → IsBadNames s → IsNames t kept → A
  bad_or_names s t kept e f bad g = absurd (bad kept (subst (λ (x : List ℕ). IsNames x kept) (text_once (files data_name) t s f e) g))

  last_or_below : {A : Type 0} (a b : Kept) → a ≡ b → a.epoch ≡ last_epoch → b.epoch < last_epoch → A
  last_or_below a b same last below = absurd (omega (arith, ap (λ (k : Kept). k.epoch) same, last, below))

  found_bad : {A : Type 0} (a b : Kept) (founds : List FoundTopic) → a ≡ b → Pairwise (FindsTopic files) a.topics founds → HasBadQueue files b → A
  found_bad a b founds same p q = not_both files b founds (subst (λ (k : Kept). Pairwise (FindsTopic files) k.topics founds) same p) q

  found_same : (a b : Kept) (f g : Found) → a ≡ b → f.epoch ≡ a.epoch → g.epoch ≡ b.epoch → Pairwise (FindsTopic files) a.topics f.topics → Pairwise (FindsTopic files) b.topics g.topics → f ≡ g
  found_same a b f g same e e' p q =
      let FoundOf : ℕ → List FoundTopic → Found = λ n ts. record { epoch = n; topics = ts } in
      ap (λ n. FoundOf n f.topics) (e ∙ ap (λ (k : Kept). k.epoch) same ∙ sym e')
      ∙ ap (FoundOf g.epoch) (pairwise_once (FindsTopic files) (finds_once files) b.topics f.topics g.topics (subst (λ (k : Kept). Pairwise (FindsTopic files) k.topics f.topics) same p) q)

  -- an opening finds one thing only
  pub one_found : (x y : Finding) → IsFound files x → IsFound files y → x ≡ y
  one_found x y (fresh e) (fresh e') = refl
  one_found x y (fresh e) (spoilt t e' b') = none_some (files data_name) t e e'
  one_found x y (fresh e) (spent t k e' i' l') = none_some (files data_name) t e e'
  one_found x y (fresh e) (bad_queue t k e' i' l' b') = none_some (files data_name) t e e'
  one_found x y (fresh e) (names t k e' i' l' n' p') = none_some (files data_name) t e e'
  one_found x y (spoilt s e b) (fresh e') = none_some (files data_name) s e' e
  one_found x y (spoilt s e b) (spoilt t e' b') = refl
  one_found x y (spoilt s e b) (spent t k e' i' l') = bad_or_names s t k e e' b i'
  one_found x y (spoilt s e b) (bad_queue t k e' i' l' b') = refl
  one_found x y (spoilt s e b) (names t k e' i' l' n' p') = bad_or_names s t k e e' b i'
  one_found x y (spent s j e i l) (fresh e') = none_some (files data_name) s e' e
  one_found x y (spent s j e i l) (spoilt t e' b') = bad_or_names t s j e' e b' i
  one_found x y (spent s j e i l) (spent t k e' i' l') = refl
  one_found x y (spent s j e i l) (bad_queue t k e' i' l' b') = last_or_below j k (kept_once s t j k e e' i i') l l'
  one_found x y (spent s j e i l) (names t k e' i' l' n' p') = last_or_below j k (kept_once s t j k e e' i i') l l'
  one_found x y (bad_queue s j e i l b) (fresh e') = none_some (files data_name) s e' e
  one_found x y (bad_queue s j e i l b) (spoilt t e' b') = refl
  one_found x y (bad_queue s j e i l b) (spent t k e' i' l') = last_or_below k j (kept_once t s k j e' e i' i) l' l
  one_found x y (bad_queue s j e i l b) (bad_queue t k e' i' l' b') = refl
  one_found x y (bad_queue s j e i l b) (names {found = g} t k e' i' l' n' p') = found_bad k j g.topics (kept_once t s k j e' e i' i) p' b
  one_found x y (names s j e i l n p) (fresh e') = none_some (files data_name) s e' e
  one_found x y (names s j e i l n p) (spoilt t e' b') = bad_or_names t s j e' e b' i
  one_found x y (names s j e i l n p) (spent t k e' i' l') = last_or_below k j (kept_once t s k j e' e i' i) l' l
  one_found x y (names {found = f} s j e i l n p) (bad_queue t k e' i' l' b') = found_bad j k f.topics (kept_once s t j k e e' i i') p b'
  one_found x y (names {found = f} s j e i l n p) (names {found = g} t k e' i' l' n' p') = ap Names (found_same j k f g (kept_once s t j k e e' i i') n n' p p')
