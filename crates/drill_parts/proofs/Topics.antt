-- How many messages the changes of a topic leave in it, where it is kept on disk and has one channel at most.
use Rattle.std.proofs.Common.{◌≡◌, inl, inr, ℕ, ◌+◌, Bool, true, false, not, ◌&&◌, ◌||◌, if◌then◌else◌, List, [], ◌∷◌, ◌++◌, length, map, Option, Some, None, refl, sym, ap, subst, ◌∙◌, arith, length-append, Ordering, Less, Equal, Greater}
use Rattle.std.specs.Prelude.{unwrap_or, is_none}
use Rattle.std.specs.Ordering.{is_lt, ordering_reverse}
use Rattle.std.proofs.lemmas.List.{length-map}
use Rattle.std.specs.List.{filter, find, list_any, sum_by}
use Rattle.std.specs.Str.{bytes_eq}
use Rattle.std.proofs.lemmas.Bool.{false≢true}
use Rattle.std.proofs.lemmas.List.Sums.{sum_by-cons}
use Rattle.nsq_base.specs.Name.{is_ephemeral}
use Rattle.nsq_base.specs.Names.{TopicList, byte_order, is_before, put_by}
use Rattle.nsq_base.proofs.PutBy.{byte_order-flip}
use Rattle.v2_frame.specs.declared.message.Message.{Message}
use Rattle.broker_history.specs.State.{Channel, Taken, Topic, Waiting, channel_names, channel_of, channel_or_new, is_empty, is_ephemeral_channel, new_channel, new_topic, with_channel}
use Rattle.broker_history.specs.Channels.{Gets, Joins, Room}
use Rattle.broker_history.specs.Changes.{InChannel, channel_changed, channel_changed_in}
use Rattle.broker_history.specs.Left.{left_in_channel, taken_message}
use Rattle.broker_history.specs.Step.{Copies}
use Rattle.broker_history.specs.Topics.{Pays, Takes, is_full, is_owed, owed_no_more, published_message, put_bodies, put_message, still_owed, with_waiting, without_name}
use Rattle.broker_history.proofs.Lists.{exact_bytes, find_passes, same_bytes}
use Rattle.drill_parts.specs.Conserving.{HasOne, HasOnly, IsDurable, IsOnly}
use Rattle.drill_parts.specs.Counts.{left_with}
use Rattle.drill_parts.proofs.Channels.{ChannelKeeps, channel_size, gets_keeps}

pub some_is : {X : Type 0} (x y : X) → Some x ≡ Some y → x ≡ y
some_is x y e = cc

none_some : {X A : Type 0} (x : X) → None ≡ Some x → A
none_some x e = cc

-- how many messages the channels of a topic have, and how many the topic has of its own
abbrev within : List Channel → ℕ
within channels = sum_by (λ (k : Channel). length (left_in_channel k)) channels

abbrev held : Option Taken → ℕ
held taken = length (taken_message taken)

parts : (t : Topic) → left_with t ≡ length t.waiting + held t.taken + within t.channels
parts t =
    let both = length-append (map (λ (w : Waiting). w.message) t.waiting) (taken_message t.taken) in
    let waits = length-map t.waiting (λ (w : Waiting). w.message) in
    omega (arith, both, waits)

single : (k : Channel) → within (k ∷ []) ≡ channel_size k
single k = sum_by-cons (λ (c : Channel). length (left_in_channel c)) k [] ∙ omega arith

-- a topic changes: it keeps its name and one channel at most, so many messages more are left, and so many fewer
pub record TopicKeeps (only : List ℕ → List ℕ) (more fewer : ℕ) (t t' : Topic) : Type 0 where
  pub name : t'.name ≡ t.name
  pub one : HasOne only t'
  pub sum : left_with t' + fewer ≡ left_with t + more

-- nothing comes before itself
not_before : (o : Ordering) → o ≡ ordering_reverse o → is_lt o ≡ false
not_before Less e = absurd cc
not_before Equal e = refl
not_before Greater e = refl

before_itself : (n : List ℕ) → is_before n n ≡ false
before_itself n = not_before (byte_order n n) (byte_order-flip n n (byte_order n n) refl)

-- one channel put in place of one of its name, or alone
put_same : (k c : Channel) → c.name ≡ k.name → put_by (λ (d : Channel). d.name) (k ∷ []) c ≡ c ∷ []
put_same k c same =
    let a : is_before k.name c.name ≡ false = ap (is_before k.name) same ∙ before_itself k.name in
    let b : is_before c.name k.name ≡ false = ap (is_before c.name) (sym same) ∙ before_itself c.name in
    rw (a, b) refl

put_alone : (channels : List Channel) (c : Channel) → channels ≡ [] → put_by (λ (d : Channel). d.name) channels c ≡ c ∷ []
put_alone channels c none = ap (λ ks. put_by (λ (d : Channel). d.name) ks c) none

module _ (only : List ℕ → List ℕ) where
  -- a topic with the same channels and as much taken
  same_keeps : (more fewer : ℕ) (t t' : Topic) → t'.name ≡ t.name → t'.channels ≡ t.channels → t'.taken ≡ t.taken → length t'.waiting + fewer ≡ length t.waiting + more → HasOne only t → TopicKeeps only more fewer t t'
  same_keeps more fewer t t' named channels taken waits one =
      let old = parts t in
      let new = parts t' in
      let same_held = ap held taken in
      let same_within = ap within channels in
      record {
        name = named;
        one = record {
          stays = ap is_ephemeral named ∙ one.stays;
          has = subst (λ n. HasOnly (only n) t'.channels) (sym named) (subst (λ ks. HasOnly (only t.name) ks) (sym channels) one.has);
          owed = λ x e. one.owed x (sym taken ∙ e) ∙ ap (λ n. only n ∷ []) (sym named);
        };
        sum = omega (arith, old, new, same_held, same_within, waits);
      }

  -- what is found of a topic's channels is its only one
  pub record Found (t : Topic) (name : List ℕ) (from : Channel) : Type 0 where
    pub alone : t.channels ≡ from ∷ []
    pub named : name ≡ from.name
    pub is : from.name ≡ only t.name
    pub stays : IsDurable from.name

  pub found_in : (t : Topic) (name : List ℕ) (from : Channel) → channel_of t name ≡ Some from → HasOnly (only t.name) t.channels → Found t name from
  found_in t name from e (inl none) = none_some from (sym (ap (λ ks. find (λ (c : Channel). bytes_eq name c.name) ks) none) ∙ e)
  found_in t name from e (inr one) =
      let found : (if bytes_eq name one.0.name then Some one.0 else None) ≡ Some from = sym (ap (λ ks. find (λ (c : Channel). bytes_eq name c.name) ks) one.1) ∙ e in
      let same : one.0 ≡ from = first (bytes_eq name one.0.name) one.0 from found in
      record {
        alone = one.1 ∙ ap (λ k. k ∷ []) same;
        named = exact_bytes name from.name (find_passes (λ (c : Channel). bytes_eq name c.name) t.channels from e);
        is = ap (λ (k : Channel). k.name) (sym same) ∙ one.2;
        stays = ap (λ (k : Channel). is_ephemeral k.name) (sym same) ∙ one.3;
      }
    where
      first : (b : Bool) (k x : Channel) → (if b then Some k else None) ≡ Some x → k ≡ x
      first true k x h = some_is k x h
      first false k x h = none_some x h

  -- a row at a channel of a topic: the channel keeps its place
  put_keeps : (more fewer : ℕ) (t : Topic) (from to : Channel) (name : List ℕ) → HasOne only t → Found t name from → ChannelKeeps more fewer from to → TopicKeeps only more fewer t (with_channel t to)
  put_keeps more fewer t from to name one found keeps =
      let alone : put_by (λ (d : Channel). d.name) t.channels to ≡ to ∷ [] = ap (λ ks. put_by (λ (d : Channel). d.name) ks to) found.alone ∙ put_same from to keeps.name in
      let old = parts t in
      let new = parts (with_channel t to) in
      let was = ap within found.alone ∙ single from in
      let now = ap within alone ∙ single to in
      let change = keeps.sum in
      record {
        name = refl;
        one = record { stays = one.stays; has = inr (to, alone, keeps.name ∙ found.is, ap is_ephemeral keeps.name ∙ found.stays); owed = one.owed };
        sum = omega (arith, old, new, was, now, change);
      }

  pub row_keeps : (more fewer : ℕ) (name : List ℕ) (Row : Channel → Channel → Type 0) (t t' : Topic) → HasOne only t
      → ((k k' : Channel) → is_ephemeral_channel t.name name ≡ false → Row k k' → ChannelKeeps more fewer k k') → InChannel name Row t t' → TopicKeeps only more fewer t t'
  row_keeps more fewer name Row t t' one good a =
      let found = found_in t name a.from a.there one.has in
      let durable : is_ephemeral_channel t.name name ≡ false = rw (one.stays) (ap is_ephemeral found.named ∙ found.stays) in
      subst (λ x. TopicKeeps only more fewer t x) (sym a.is) (put_keeps more fewer t a.from a.to name one found (good a.from a.to durable a.row))

  -- a publish
  put_one : (mem : ℕ) (t : Topic) (m : Message) → HasOne only t → TopicKeeps only 1 0 t (put_message mem t m)
  put_one mem t m one =
      let is : put_message mem t m ≡ with_waiting t m (is_full mem t) = rw (one.stays) refl in
      subst (λ x. TopicKeeps only 1 0 t x) (sym is)
      (same_keeps 1 0 t (with_waiting t m (is_full mem t)) refl refl refl (let more = length-append t.waiting (record { message = m; loose = is_full mem t } ∷ []) in omega (arith, more)) one)

  keeps_then : (a b : ℕ) (t u v : Topic) → TopicKeeps only a 0 t u → TopicKeeps only b 0 u v → TopicKeeps only (a + b) 0 t v
  keeps_then a b t u v x y = let first = x.sum in let second = y.sum in record { name = y.name ∙ x.name; one = y.one; sum = omega (arith, first, second) }

  pub bodies_keep : (mem epoch n at delay : ℕ) (t : Topic) (bodies : List (List ℕ)) → HasOne only t → TopicKeeps only (length bodies) 0 t (put_bodies mem epoch n at delay t bodies)
  bodies_keep mem epoch n at delay t [] one = same_keeps 0 0 t t refl refl refl refl one
  bodies_keep mem epoch n at delay t (body ∷ bodies) one =
      let m : Message = published_message epoch n at delay body in
      let first = put_one mem t m one in
      let rest = bodies_keep mem epoch (n + 1) at delay (put_message mem t m) bodies first.one in
      subst (λ k. TopicKeeps only k 0 t (put_bodies mem epoch n at delay t (body ∷ bodies))) (omega arith) (keeps_then 1 (length bodies) t (put_message mem t m) (put_bodies mem epoch (n + 1) at delay (put_message mem t m) bodies) first rest)

  -- a message is taken
  four : (a b c d : Bool) → (a && b && c && d) ≡ true → (b ≡ true) × (d ≡ true)
  four true true true true h = (refl, refl)
  four true true true false h = absurd (false≢true h)
  four true true false d h = absurd (false≢true h)
  four true false c d h = absurd (false≢true h)
  four false b c d h = absurd (false≢true h)

  nothing_held : (taken : Option Taken) → is_none taken ≡ true → held taken ≡ 0
  nothing_held None h = refl
  nothing_held (Some taken) h = absurd (false≢true h)

  some_channel : {A : Type 0} (channels : List Channel) → channels ≡ [] → not (is_empty channels) ≡ true → A
  some_channel channels none some = absurd (false≢true (sym (ap (λ ks. not (is_empty ks)) none) ∙ some))

  owed_alone : (t : Topic) → HasOnly (only t.name) t.channels → not (is_empty t.channels) ≡ true → channel_names t ≡ only t.name ∷ []
  owed_alone t (inl none) some = some_channel t.channels none some
  owed_alone t (inr one) some = ap (λ ks. map (λ (c : Channel). c.name) ks) one.1 ∙ ap (λ n. n ∷ []) one.2

  pub takes_keeps : (m : Message) (names : TopicList) (t t' : Topic) → HasOne only t → Takes m names t t' → TopicKeeps only 0 0 t t'
  takes_keeps m names t t' one r =
      let u : Topic = record t { waiting = r.before ++ r.after; taken = Some (record { message = m; owed = channel_names t }) } in
      let due = four (not t.paused) (not (is_empty t.channels)) (not (is_empty t.waiting)) (is_none t.taken) r.due in
      let old = parts t in
      let new = parts u in
      let none = nothing_held t.taken due.1 in
      let was = ap length r.was in
      let a = length-append r.before (r.waits ∷ r.after) in
      let b = length-append r.before r.after in
      let owes : channel_names t ≡ only t.name ∷ [] = owed_alone t one.has due.0 in
      let keeps : TopicKeeps only 0 0 t u = record {
        name = refl;
        one = record { stays = one.stays; has = one.has; owed = λ x e. ap (λ (y : Taken). y.owed) (sym (some_is _ x e)) ∙ owes };
        sum = omega (arith, old, new, none, was, a, b);
      } in
      subst (λ x. TopicKeeps only 0 0 t x) (sym r.is) keeps

  -- the taken message is paid to the one channel, so it is held no more
  both_false : (b : Bool) (n : List ℕ) → (b || false) ≡ true → filter (λ (x : List ℕ). not b) (n ∷ []) ≡ []
  both_false true n h = refl
  both_false false n h = absurd (false≢true h)

  paid_off : (name : List ℕ) (m : Message) (old new : Option Taken) (n : List ℕ) → ((taken : Taken) → old ≡ Some taken → taken.owed ≡ n ∷ []) → Pays name m old new → (held old ≡ 1) × (new ≡ None)
  paid_off name m old new n owed p =
      let whole : p.taken.owed ≡ n ∷ [] = owed p.taken p.was in
      let here : is_owed (Some p.taken) name ≡ true = ap (λ o. is_owed o name) (sym p.was) ∙ p.owed in
      let left : without_name p.taken.owed name ≡ [] = ap (λ ns. without_name ns name) whole ∙ both_false (bytes_eq n name) n (sym (ap (λ ns. list_any (λ x. bytes_eq x name) ns) whole) ∙ here) in
      (ap held p.was, p.is ∙ ap (λ o. owed_no_more o name) p.was ∙ ap (still_owed p.taken.message) left)

  pub copies_keep : (room : Room) (at : ℕ) (channel : List ℕ) (m : Message) (t t' : Topic) → HasOne only t → (is_ephemeral_channel t.name channel ≡ false → room.ephemeral ≡ false) → Copies room at channel m t t'
      → TopicKeeps only 0 0 t t'
  copies_keep room at channel m t t' one durable r =
      let got : TopicKeeps only 1 0 t r.between = row_keeps 1 0 channel (Gets Joins room at m) t r.between one (λ k k' stays q. gets_keeps room (durable stays) k k' at m q) r.gets in
      let paid = paid_off channel m t.taken t'.taken (only t.name) one.owed r.pays in
      let old = parts t in
      let middle = parts r.between in
      let new = parts t' in
      let more = got.sum in
      let same_taken : held r.between.taken ≡ held t.taken = ap (λ (x : Topic). held x.taken) r.gets.is in
      let none : held t'.taken ≡ 0 = ap held paid.1 in
      let waits : length t'.waiting ≡ length r.between.waiting = ap (λ (x : Topic). length x.waiting) r.is in
      let same_within : within t'.channels ≡ within r.between.channels = ap (λ (x : Topic). within x.channels) r.is in
      let was : held t.taken ≡ 1 = paid.0 in
      let named : t'.name ≡ t.name = ap (λ (x : Topic). x.name) r.is ∙ got.name in
      record {
        name = named;
        one = record {
          stays = ap is_ephemeral named ∙ one.stays;
          has = subst (λ n. HasOnly (only n) t'.channels) (ap (λ (x : Topic). x.name) (sym r.is)) (subst (λ ks. HasOnly (only r.between.name) ks) (ap (λ (x : Topic). x.channels) (sym r.is)) (let o = got.one in o.has));
          owed = λ x e. none_some x (sym paid.1 ∙ e);
        };
        sum = omega (arith, old, middle, new, more, same_taken, none, waits, same_within, was);
      }

  -- a topic as it is made
  pub new_one : (name : List ℕ) → IsDurable name → HasOne only (new_topic name)
  new_one name durable = record { stays = durable; has = inl refl; owed = λ x e. none_some x e }

  -- a channel is made where there is none
  made_of : (t : Topic) (name : List ℕ) (o : Option Channel) → channel_of t name ≡ o → HasOne only t → IsOnly only t.name name → TopicKeeps only 0 0 t (with_channel t (unwrap_or o (new_channel name)))
  made_of t name (Some k) e one is = put_keeps 0 0 t k k name one (found_in t name k e one.has) (record { name = refl; sum = refl })
  made_of t name None e one is = fresh one.has
    where
      none_there : (k : Channel) → t.channels ≡ k ∷ [] → k.name ≡ only t.name → None ≡ Some k
      none_there k alone named =
          let here : bytes_eq name k.name ≡ true = ap (λ n. bytes_eq n k.name) (is.is ∙ sym named) ∙ same_bytes k.name in
          sym e ∙ ap (λ ks. find (λ (c : Channel). bytes_eq name c.name) ks) alone ∙ rw here refl

      fresh : HasOnly (only t.name) t.channels → TopicKeeps only 0 0 t (with_channel t (new_channel name))
      fresh (inl none) =
          let k : Channel = new_channel name in
          let alone : put_by (λ (d : Channel). d.name) t.channels k ≡ k ∷ [] = put_alone t.channels k none in
          let old = parts t in
          let new = parts (with_channel t k) in
          let was = ap within none in
          let now = ap within alone ∙ single k in
          record {
            name = refl;
            one = record { stays = one.stays; has = inr (k, alone, is.is, is.channel_stays); owed = one.owed };
            sum = omega (arith, old, new, was, now);
          }
      fresh (inr there) = none_some there.0 (none_there there.0 there.1 there.2)

  pub made_keeps : (t : Topic) (name : List ℕ) → HasOne only t → IsOnly only t.name name → TopicKeeps only 0 0 t (with_channel t (channel_or_new t name))
  made_keeps t name one is = made_of t name (channel_of t name) refl one is

  -- a pause, of the topic or of its channel
  pub paused_keeps : (on : Bool) (t : Topic) → HasOne only t → TopicKeeps only 0 0 t (record t { paused = on })
  paused_keeps on t one = same_keeps 0 0 t (record t { paused = on }) refl refl refl refl one

  channel_paused : (on : Bool) (t : Topic) (name : List ℕ) (o : Option Channel) → channel_of t name ≡ o → HasOne only t → TopicKeeps only 0 0 t (channel_changed_in (λ (c : Channel). record c { paused = on }) t o)
  channel_paused on t name None e one = same_keeps 0 0 t t refl refl refl refl one
  channel_paused on t name (Some k) e one = put_keeps 0 0 t k (record k { paused = on }) name one (found_in t name k e one.has) (record { name = refl; sum = refl })

  pub channel_paused_keeps : (on : Bool) (t : Topic) (name : List ℕ) → HasOne only t → TopicKeeps only 0 0 t (channel_changed (λ (c : Channel). record c { paused = on }) name t)
  channel_paused_keeps on t name one = channel_paused on t name (channel_of t name) refl one
