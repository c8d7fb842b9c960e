-- A topic whose channel went, in a state: an ephemeral one goes with its last channel.
use Rattle.std.proofs.Common.{◌≡◌, ℕ, suc, Bool, true, false, not, ◌&&◌, if◌then◌else◌, List, [], ◌∷◌, ◌++◌, map, Some, refl, sym, ap, ◌∙◌, arith, Ordering, Less, Equal, Greater}
use Rattle.std.specs.List.{All, filter}
use Rattle.std.specs.Ordering.{is_lt}
use Rattle.std.specs.Str.{bytes_eq}
use Rattle.std.proofs.lemmas.List.Elements.{All-weaker, filter-append, filter_passes}
use Rattle.nsq_base.specs.Name.{is_ephemeral}
use Rattle.nsq_base.specs.Names.{IsAscendingBy, byte_order, is_before, put_by}
use Rattle.nsq_base.proofs.PutBy.{Less-from_before, byte_order-flip, filter_all, filter_none, is_before-trans, other_from_order, same_from_tie}
use Rattle.broker_history.specs.State.{State, Topic, is_empty, topic_of, with_topic}
use Rattle.broker_history.specs.Changes.{deleted, deleted_in, lost, with_fewer, without_channel, without_topic}
use Rattle.broker_history.proofs.Lists.{exact_bytes, find_passes, find_put, same_bytes}
use Rattle.floor_topics.specs.Losing.{LosesChannel}

module _ {X : Type 0} (key : X → List ℕ) (k : List ℕ) where
  abbrev others : X → Bool
  others y = not (bytes_eq k (key y))

  abbrev before : X → Bool
  before y = is_before (key y) k

  abbrev after : X → Bool
  after y = is_before k (key y)

  -- which of the three tests an item passes, by the order of its name
  part_one : (y : X) (ys : List X) (o : Ordering) → byte_order (key y) k ≡ o → All (λ z. is_before (key y) (key z) ≡ true) ys → filter others ys ≡ filter before ys ++ filter after ys → filter others (y ∷ ys) ≡ filter before (y ∷ ys) ++ filter after (y ∷ ys)
  part_one y ys Less e later h =
      let q : others y ≡ true = ap not (other_from_order k (key y) Greater (byte_order-flip (key y) k Less e) refl) in
      let b : before y ≡ true = ap is_lt e in
      let a : after y ≡ false = ap is_lt (byte_order-flip (key y) k Less e) in
      ap (λ c. if c then y ∷ filter others ys else filter others ys) q ∙ ap (λ zs. y ∷ zs) h ∙ sym (ap (λ c. (if c then y ∷ filter before ys else filter before ys) ++ filter after (y ∷ ys)) b ∙ ap (λ c. y ∷ (filter before ys ++ (if c then y ∷ filter after ys else filter after ys))) a)
  part_one y ys Equal e later h =
      let q : others y ≡ false = ap not (ap (bytes_eq k) (same_from_tie (key y) k e) ∙ same_bytes k) in
      let b : before y ≡ false = ap is_lt e in
      let a : after y ≡ false = ap is_lt (byte_order-flip (key y) k Equal e) in
      ap (λ c. if c then y ∷ filter others ys else filter others ys) q ∙ h ∙ sym (ap (λ c. (if c then y ∷ filter before ys else filter before ys) ++ filter after (y ∷ ys)) b ∙ ap (λ c. filter before ys ++ (if c then y ∷ filter after ys else filter after ys)) a)
  part_one y ys Greater e later h =
      let flip : byte_order k (key y) ≡ Less = byte_order-flip (key y) k Greater e in
      let q : others y ≡ true = ap not (other_from_order k (key y) Less flip refl) in
      let b : before y ≡ false = ap is_lt e in
      let a : after y ≡ true = ap is_lt flip in
      let none : filter before ys ≡ [] =
      filter_none before ys (All-weaker (λ z. is_before (key y) (key z) ≡ true) (λ z. before z ≡ false)
      (λ z l. ap is_lt (byte_order-flip k (key z) Less (Less-from_before (byte_order k (key z)) (is_before-trans k (key y) (key z) a l)))) ys later) in
      ap (λ c. if c then y ∷ filter others ys else filter others ys) q ∙ ap (λ zs. y ∷ zs) (h ∙ ap (λ zs. zs ++ filter after ys) none)
      ∙ sym (ap (λ c. (if c then y ∷ filter before ys else filter before ys) ++ filter after (y ∷ ys)) b ∙ ap (λ zs. zs ++ filter after (y ∷ ys)) none ∙ ap (λ c. if c then y ∷ filter after ys else filter after ys) a)

  -- those of other names are those before it and those after it
  pub others_part : (xs : List X) → IsAscendingBy key xs → filter others xs ≡ filter before xs ++ filter after xs
  others_part [] up = refl
  others_part (y ∷ ys) up =
      part_one y ys (byte_order (key y) k) refl (λ i d m. up 0 (suc i) d (omega arith) (omega (arith, m))) (others_part ys (λ i j d l m. up (suc i) (suc j) d (omega (arith, l)) (omega (arith, m))))

  -- what is put in under the name goes with it
  pub gone_put : (xs : List X) (x : X) → key x ≡ k → IsAscendingBy key xs → filter others (put_by key xs x) ≡ filter others xs
  gone_put xs x named up =
      let put : put_by key xs x ≡ filter before xs ++ x ∷ filter after xs = ap (λ n. filter (λ y. is_before (key y) n) xs ++ x ∷ filter (λ y. is_before n (key y)) xs) named in
      let front : filter others (filter before xs) ≡ filter before xs =
      filter_all others (filter before xs) (All-weaker (λ y. before y ≡ true) (λ y. others y ≡ true)
      (λ y e. ap not (other_from_order k (key y) Greater (byte_order-flip (key y) k Less (Less-from_before (byte_order (key y) k) e)) refl)) (filter before xs) (filter_passes before xs)) in
      let back : filter others (filter after xs) ≡ filter after xs =
      filter_all others (filter after xs) (All-weaker (λ y. after y ≡ true) (λ y. others y ≡ true) (λ y e. ap not (other_from_order k (key y) Less (Less-from_before (byte_order k (key y)) e) refl)) (filter after xs) (filter_passes after xs)) in
      let it : others x ≡ false = ap not (ap (bytes_eq k) named ∙ same_bytes k) in
      ap (filter others) put ∙ filter-append others (filter before xs) (x ∷ filter after xs) ∙ ap (λ zs. zs ++ filter others (x ∷ filter after xs)) front
      ∙ ap (λ c. filter before xs ++ (if c then x ∷ filter others (filter after xs) else filter others (filter after xs))) it ∙ ap (λ zs. filter before xs ++ zs) back ∙ sym (others_part xs up)

-- the topic that lost the channel is that of its name
module _ (s t : State) (topic channel : List ℕ) (x : LosesChannel topic channel s t) where
  named_so : topic ≡ x.of.name
  named_so = exact_bytes topic x.of.name (find_passes (λ (u : Topic). bytes_eq topic u.name) s.topics x.of x.there)

  pub fewer_there : topic_of t topic ≡ Some (without_channel x.of channel)
  fewer_there =
      ap (λ u. topic_of u topic) x.is ∙ find_put (λ (u : Topic). u.name) s.topics (without_channel x.of channel) topic
      ∙ ap (λ b. if b then Some (without_channel x.of channel) else topic_of s topic) (ap (bytes_eq topic) (sym named_so) ∙ same_bytes topic)

  deleted_is : deleted s topic (Some channel) ≡ with_fewer (record s { clients = map (lost x.of.name channel) s.clients }) (without_channel x.of channel)
  deleted_is = ap (deleted_in s channel) x.there ∙ ap (λ b. if b then with_fewer (record s { clients = map (lost x.of.name channel) s.clients }) (without_channel x.of channel) else s) x.has

  fewer_to : t ≡ with_topic (record s { clients = map (lost x.of.name channel) s.clients }) (without_channel x.of channel)
  fewer_to = x.is ∙ ap (λ n. with_topic (record s { clients = map (lost n channel) s.clients }) (without_channel x.of channel)) named_so

  -- it goes where it is to go
  fewer_by : (b : Bool) → (is_ephemeral x.of.name && is_empty (without_channel x.of channel).channels) ≡ b → IsAscendingBy (λ (u : Topic). u.name) s.topics → (if b then without_topic t topic else t) ≡ deleted s topic (Some channel)
  fewer_by true e up =
      let u : State = record s { clients = map (lost x.of.name channel) s.clients } in
      ap (λ n. without_topic t n) named_so ∙ ap (λ v. without_topic v x.of.name) fewer_to ∙ ap (λ ts. record u { topics = ts }) (gone_put (λ (v : Topic). v.name) x.of.name s.topics (without_channel x.of channel) refl up)
      ∙ sym (deleted_is ∙ ap (λ b. if b then without_topic u x.of.name else with_topic u (without_channel x.of channel)) e)
  fewer_by false e up =
      let u : State = record s { clients = map (lost x.of.name channel) s.clients } in
      fewer_to ∙ sym (deleted_is ∙ ap (λ b. if b then without_topic u x.of.name else with_topic u (without_channel x.of channel)) e)

  pub fewer_is : IsAscendingBy (λ (u : Topic). u.name) s.topics → (if is_ephemeral topic && is_empty (without_channel x.of channel).channels then without_topic t topic else t) ≡ deleted s topic (Some channel)
  fewer_is up =
      ap (λ n. if is_ephemeral n && is_empty (without_channel x.of channel).channels then without_topic t topic else t) named_so
      ∙ fewer_by (is_ephemeral x.of.name && is_empty (without_channel x.of channel).channels) refl up
