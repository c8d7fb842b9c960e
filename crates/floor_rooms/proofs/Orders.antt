-- The topics and channels of a state are in byte order where the hall's are; so what is put back as it is found changes nothing.
use Rattle.std.proofs.Common.{◌≡◌, ◌≤◌, ℕ, suc, Bool, true, false, if◌then◌else◌, List, [], ◌∷◌, ◌++◌, Some, refl, sym, ap, subst, ◌∙◌, arith, Ordering, Less, Equal, Greater}
use Rattle.std.specs.List.{All, filter, find}
use Rattle.std.specs.Ordering.{is_eq, is_lt}
use Rattle.std.specs.Str.{bytes_eq}
use Rattle.std.specs.Cmp.Lexicographic.{texts_ties}
use Rattle.std.proofs.lemmas.Bool.{false≢true}
use Rattle.std.proofs.lemmas.List.Elements.{All-head, All-tail, All-cons, All-nil}
use Rattle.std.proofs.lemmas.List.Kept.{AllPairs-cons}
use Rattle.nsq_base.specs.Names.{byte_order, is_before, IsAscendingBy, put_by}
use Rattle.nsq_base.proofs.PutBy.{byte_order-flip, Less-from_before, filters_part}
use Rattle.nsq_outside.specs.Files.{Files}
use Rattle.path_image.specs.Found.{Pairwise}
use Rattle.broker_history.specs.State.{Channel, Topic, State, with_topic, with_channel, at_moment}
use Rattle.broker_history.specs.Changes.{AtTopic, AtChannel}
use Rattle.broker_history.proofs.Lists.{same_bytes}
use Rattle.floor_laws.specs.Lifting.{Leads}
use Rattle.floor_rooms.specs.declared.stall.Stall.{Stall}
use Rattle.floor_rooms.specs.declared.room.Room.{Room}
use Rattle.floor_rooms.specs.declared.hall.Hall.{Hall}
use Rattle.floor_rooms.specs.Rooms.{channel_name, topic_name}
use Rattle.floor_rooms.specs.Sound.{IsRoomSound, IsSound}
use Rattle.floor_rooms.specs.Standing.{IsStallOf, IsRoomOf, HoldsFor}
use Rattle.floor_rooms.specs.Changes.{StallChange}
use Rattle.floor_rooms.specs.RoomChanges.{RoomChange, LiftsRoom}
use Rattle.floor_rooms.proofs.Staying.{stall_named, room_named}
use Rattle.floor_rooms.proofs.Changing.{all_found, at_stall}
use Rattle.floor_rooms.proofs.Rooming.{at_room}

module _ {X Y : Type 0} where
  -- where all of the one list are so, the others are what the pairs make of that
  pub pairs_all : (R : X → Y → Type 0) (P : X → Type 0) (Q : Y → Type 0) (xs : List X) (ys : List Y) → ((a : X) (b : Y) → P a → R a b → Q b) → All P xs → Pairwise R xs ys → All Q ys
  pairs_all R P Q [] [] f all h = All-nil Q
  pairs_all R P Q [] (y ∷ ys) f all h = absurd h
  pairs_all R P Q (x ∷ xs) [] f all h = absurd h
  pairs_all R P Q (x ∷ xs) (y ∷ ys) f all h = All-cons Q y ys (f x y (All-head P x xs all) h.0) (pairs_all R P Q xs ys f (All-tail P x xs all) h.1)

  -- the keys of pairs are in the same order
  pub pairs_order : (key : X → List ℕ) (key' : Y → List ℕ) (R : X → Y → Type 0) (xs : List X) (ys : List Y) → ((a : X) (b : Y) → R a b → key' b ≡ key a) → IsAscendingBy key xs → Pairwise R xs ys → IsAscendingBy key' ys
  pairs_order key key' R [] [] named up h = λ i j d l m. absurd (let no : ⊥ = omega (arith, m) in no)
  pairs_order key key' R [] (y ∷ ys) named up h = absurd h
  pairs_order key key' R (x ∷ xs) [] named up h = absurd h
  pairs_order key key' R (x ∷ xs) (y ∷ ys) named up h =
      let head : All (λ a. is_before (key x) (key a) ≡ true) xs = λ k d m. up 0 (suc k) d (omega arith) (omega (arith, m)) in
      let first : is_before (key' y) ≡ is_before (key x) = ap is_before (named x y h.0) in
      AllPairs-cons (λ a b. is_before (key' a) (key' b) ≡ true) y ys
      (pairs_all R (λ a. is_before (key x) (key a) ≡ true) (λ b. is_before (key' y) (key' b) ≡ true) xs ys (λ a b e r. ap (is_before (key' y)) (named a b r) ∙ ap (λ f. f (key a)) first ∙ e) head h.1)
      (pairs_order key key' R xs ys named (λ i j d l m. up (suc i) (suc j) d (omega (arith, l)) (omega (arith, m))) h.1)

-- a name ties with itself
tie : (o : Ordering) → is_eq o ≡ true → o ≡ Equal
tie Less e = absurd (false≢true e)
tie Equal e = refl
tie Greater e = absurd (false≢true e)

pub tied : (a : List ℕ) → byte_order a a ≡ Equal
tied a = tie (byte_order a a) (sym (texts_ties a a) ∙ same_bytes a)

module _ {X : Type 0} (key : X → List ℕ) where
  -- the first of a list in order is put back in front
  put_first : (y : X) (ys : List X) → IsAscendingBy key (y ∷ ys) → put_by key (y ∷ ys) y ≡ y ∷ ys
  put_first y ys up =
      let back : All (λ z. byte_order (key z) (key y) ≡ Greater) ys = λ k d m. byte_order-flip (key y) _ Less (Less-from_before _ (up 0 (suc k) d (omega arith) (omega (arith, m)))) in
      let parts = filters_part key (key y) [] (y ∷ []) ys (All-nil (λ z. byte_order (key z) (key y) ≡ Less)) (All-cons (λ z. byte_order (key z) (key y) ≡ Equal) y [] (tied (key y)) (All-nil (λ z. byte_order (key z) (key y) ≡ Equal))) back in
      ap (λ zs. zs ++ y ∷ filter (λ z. is_before (key y) (key z)) (y ∷ ys)) parts.0 ∙ ap (λ zs. y ∷ zs) parts.1

  -- an item that comes before the one that is put stays in front
  put_later : (y : X) (ys : List X) (x : X) (before after : Bool) → is_before (key y) (key x) ≡ before → is_before (key x) (key y) ≡ after → before ≡ true → after ≡ false → put_by key ys x ≡ ys → put_by key (y ∷ ys) x ≡ y ∷ ys
  put_later y ys x before after e f b a h =
      let front : filter (λ z. is_before (key z) (key x)) (y ∷ ys) ≡ y ∷ filter (λ z. is_before (key z) (key x)) ys = ap (λ c. if c then y ∷ filter (λ z. is_before (key z) (key x)) ys else filter (λ z. is_before (key z) (key x)) ys) (e ∙ b) in
      let back : filter (λ z. is_before (key x) (key z)) (y ∷ ys) ≡ filter (λ z. is_before (key x) (key z)) ys = ap (λ c. if c then y ∷ filter (λ z. is_before (key x) (key z)) ys else filter (λ z. is_before (key x) (key z)) ys) (f ∙ a) in
      ap (λ zs. zs ++ x ∷ filter (λ z. is_before (key x) (key z)) (y ∷ ys)) front ∙ ap (λ zs. y ∷ (filter (λ z. is_before (key z) (key x)) ys ++ x ∷ zs)) back ∙ ap (λ zs. y ∷ zs) h

  not_after : (a b : List ℕ) → is_before a b ≡ true → is_before b a ≡ false
  not_after a b e = ap is_lt (byte_order-flip a b Less (Less-from_before _ e))

  put_one : (k : List ℕ) (y : X) (ys : List X) (x : X) (b : Bool) → IsAscendingBy key (y ∷ ys) → (find (λ z. bytes_eq k (key z)) ys ≡ Some x → put_by key ys x ≡ ys) → (if b then Some y else find (λ z. bytes_eq k (key z)) ys) ≡ Some x → put_by key (y ∷ ys) x ≡ y ∷ ys
  put_one k y ys x true up rest e = let same : y ≡ x = cc in subst (λ z. put_by key (y ∷ ys) z ≡ y ∷ ys) same (put_first y ys up)
  put_one k y ys x false up rest e =
      let head : All (λ z. is_before (key y) (key z) ≡ true) ys = λ i d m. up 0 (suc i) d (omega arith) (omega (arith, m)) in
      let before : is_before (key y) (key x) ≡ true = all_found (λ z. is_before (key y) (key z) ≡ true) (λ z. bytes_eq k (key z)) ys x head e in
      put_later y ys x true false before (not_after (key y) (key x) before) refl refl (rest e)

  -- an item that is put back as it was found leaves the list
  pub put_found : (k : List ℕ) (xs : List X) (x : X) → IsAscendingBy key xs → find (λ z. bytes_eq k (key z)) xs ≡ Some x → put_by key xs x ≡ xs
  put_found k [] x up e = absurd (let no : ⊥ = cc in no)
  put_found k (y ∷ ys) x up e = put_one k y ys x (bytes_eq k (key y)) up (put_found k ys x (λ i j d l m. up (suc i) (suc j) d (omega (arith, l)) (omega (arith, m)))) e

-- a state's topics are in byte order where the hall stands for it
pub topics_order : (h : Hall) (files : Files) (s : State) → IsSound h → HoldsFor h files s → IsAscendingBy (λ (t : Topic). t.name) s.topics
topics_order h files s sound holds = pairs_order topic_name (λ (t : Topic). t.name) (IsRoomOf files) h.rooms.items s.topics (λ a b r. room_named files a b r) sound.room_order holds.stands.topics

-- so are the channels of each
pub channels_order : (h : Hall) (files : Files) (s : State) → IsSound h → HoldsFor h files s → All (λ (t : Topic). IsAscendingBy (λ (k : Channel). k.name) t.channels) s.topics
channels_order h files s sound holds =
    pairs_all (IsRoomOf files) (IsRoomSound h) (λ (t : Topic). IsAscendingBy (λ (k : Channel). k.name) t.channels) h.rooms.items s.topics
    (λ r t i o. pairs_order channel_name (λ (k : Channel). k.name) (IsStallOf files) r.stalls.items t.channels (λ a k x. stall_named files a k x) i.order o.channels) sound.rooms holds.stands.topics

-- a state in which a topic is put back as it was is the same
pub same_topic : (h : Hall) (files : Files) (s t : State) (topic : List ℕ) → IsSound h → HoldsFor h files s → AtTopic topic (λ a b. b ≡ a) s t → t ≡ s
same_topic h files s t topic sound holds at =
    at.is ∙ ap (λ u. with_topic s u) at.row ∙ ap (λ us. record s { topics = us }) (put_found (λ (u : Topic). u.name) topic s.topics at.old (topics_order h files s sound holds) at.there)

-- and one in which a channel is
pub same_channel : (h : Hall) (files : Files) (s t : State) (topic channel : List ℕ) → IsSound h → HoldsFor h files s → AtChannel topic channel (λ a b. b ≡ a) s t → t ≡ s
same_channel h files s t topic channel sound holds at =
    let up : IsAscendingBy (λ (k : Channel). k.name) at.old.channels = all_found (λ (u : Topic). IsAscendingBy (λ (k : Channel). k.name) u.channels) (λ (u : Topic). bytes_eq topic u.name) s.topics at.old (channels_order h files s sound holds) at.there in
    let own : at.new ≡ at.old = at.row.is ∙ ap (λ k. with_channel at.old k) at.row.row ∙ ap (λ ks. record at.old { channels = ks }) (put_found (λ (k : Channel). k.name) channel at.old.channels at.row.from up at.row.there) in
    same_topic h files s t topic sound holds (record { old = at.old; new = at.new; there = at.there; row = own; is = at.is })

-- where a channel of the hall becomes another that is the same of a state, the hall stands for the same states
pub stall_as_before : (h h' : Hall) (old new : Files) (s : State) (topic channel : List ℕ) (stall to : Stall) → IsSound h → HoldsFor h old s → StallChange h h' old new topic channel stall to
    → ((k : Channel) → IsStallOf old stall k → IsStallOf new to k) → HoldsFor h' new s
stall_as_before h h' old new s topic channel stall to sound holds c same =
    let at = at_stall h h' old new s topic channel stall to (λ a b. b ≡ a) sound holds c (λ k i. record { to = k; row = refl; is = same k i; named = refl }) in
    subst (λ t. HoldsFor h' new t) (same_channel h old s at.0 topic channel sound holds at.1) at.2

-- so it is where a topic's own queue, or what is known of it, becomes another
pub room_as_before : (h h' : Hall) (old new : Files) (s : State) (topic : List ℕ) (room to : Room) → IsSound h → HoldsFor h old s → RoomChange h h' old new topic room to
    → ((t : Topic) → IsRoomOf old room t → LiftsRoom (λ a b. b ≡ a) new to t) → HoldsFor h' new s
room_as_before h h' old new s topic room to sound holds c same =
    let at = at_room h h' old new s topic room to (λ a b. b ≡ a) sound holds c same in
    subst (λ t. HoldsFor h' new t) (same_topic h old s at.0 topic sound holds at.1) at.2

-- where a row leads from the channel, it leads from the state that has the channel
pub at_channel_leads : (s t : State) (topic channel : List ℕ) (Row : Channel → Channel → Type 0) → AtChannel topic channel (λ a b. (b ≡ a) × Leads Row a) s t → (u : State) × AtChannel topic channel Row s u
at_channel_leads s t topic channel Row at = (
  with_topic s (with_channel at.old at.row.row.1.to),
  record { old = at.old; new = with_channel at.old at.row.row.1.to; there = at.there; row = record { from = at.row.from; to = at.row.row.1.to; there = at.row.there; row = at.row.row.1.row; is = refl }; is = refl },
)

-- a change of a channel that is the same of a state still, while a row could have led from it
pub stall_kept_off : (h h' : Hall) (old new : Files) (s : State) (topic channel : List ℕ) (stall to : Stall) (Row : Channel → Channel → Type 0) → IsSound h → HoldsFor h old s → StallChange h h' old new topic channel stall to
    → ((k : Channel) → IsStallOf old stall k → IsStallOf new to k × Leads Row k) → ((u : State) × AtChannel topic channel Row s u) × HoldsFor h' new s
stall_kept_off h h' old new s topic channel stall to Row sound holds c off =
    let at = at_stall h h' old new s topic channel stall to (λ a b. (b ≡ a) × Leads Row a) sound holds c (λ k i. record { to = k; row = (refl, (off k i).1); is = (off k i).0; named = refl }) in
    let same : AtChannel topic channel (λ a b. b ≡ a) s at.0 =
    record { old = at.1.old; new = at.1.new; there = at.1.there; row = record { from = at.1.row.from; to = at.1.row.to; there = at.1.row.there; row = at.1.row.row.0; is = at.1.row.is }; is = at.1.is } in
    (at_channel_leads s at.0 topic channel Row at.1, subst (λ t. HoldsFor h' new t) (same_channel h old s at.0 topic channel sound holds same) at.2)

-- the state at a later moment, no later than the hall's
pub holds_at : (h : Hall) (files : Files) (s : State) (at : ℕ) → at ≤ h.moment → HoldsFor h files s → HoldsFor h files (at_moment s at)
holds_at h files s at within holds = record {
  stands = record {
    options = holds.stands.options;
    epoch = holds.stands.epoch;
    ids_used = holds.stands.ids_used;
    moment = within;
    stopped = holds.stands.stopped;
    clients = holds.stands.clients;
    topics = holds.stands.topics;
  };
  idle = record {
    topics = holds.idle.topics;
    channels = holds.idle.channels;
  };
}
