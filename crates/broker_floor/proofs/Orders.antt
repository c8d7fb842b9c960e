-- Topics and channels in byte order, put one after another.
use Rattle.std.proofs.Common.{◌≡◌, ℕ, suc, ◌<◌, ◌+◌, true, false, ◌||◌, List, [], ◌∷◌, ◌++◌, map, take, drop, get_or, length, refl, sym, ap, subst, ◌∙◌, arith, append_assoc, add-one}
use Rattle.std.specs.List.{All, list_any}
use Rattle.std.specs.Str.{bytes_eq}
use Rattle.std.proofs.Math.Seq.{take-suc}
use Rattle.std.proofs.lemmas.List.{append-nil, map-append, take-append-drop}
use Rattle.std.proofs.lemmas.List.Elements.{All-cons, All-head, All-map, All-nil, All-push, All-tail, All-weaker}
use Rattle.nsq_base.specs.Names.{IsAscendingBy, byte_order, is_before, put_by}
use Rattle.nsq_base.proofs.PutBy.{Less-from_before, byte_order-flip, filter_all, filter_none, other_from_order}
use Rattle.path_image.specs.Found.{FoundChannel, FoundTopic, Pairwise}
use Rattle.path_image.proofs.NameLists.{before_once}
use Rattle.broker_history.specs.Found.{started, started_channel}
use Rattle.broker_history.specs.State.{Channel, State, Topic, with_topic}
use Rattle.topic_core.specs.Rows.{found_topic, paused_in}
use Rattle.floor_files.specs.Opened.{opened_topic, with_channels}

-- a name that comes before another isn't that one
pub before_apart : (a b : List ℕ) → is_before a b ≡ true → bytes_eq b a ≡ false
before_apart a b h = other_from_order b a _ (byte_order-flip a b _ (Less-from_before (byte_order a b) h)) refl

pub middle_of : {X : Type 0} (P : X → Type 0) (front : List X) (x : X) (back : List X) → All P (front ++ x ∷ back) → P x
middle_of P [] x back h = All-head P x back h
middle_of P (y ∷ front) x back h = middle_of P front x back (All-tail P y (front ++ x ∷ back) h)

module _ {X : Type 0} (key : X → List ℕ) where
  -- each comes before all later ones
  abbrev pub Ascends : List X → Type 0
  Ascends [] = Unit {0}
  Ascends (x ∷ xs) = All (λ y. is_before (key x) (key y) ≡ true) xs × Ascends xs

  pub ascends : (xs : List X) → IsAscendingBy key xs → Ascends xs
  ascends [] up = tt
  ascends (x ∷ xs) up = (λ k d l. up 0 (suc k) d (omega arith) (omega (arith, l)), ascends xs (λ i j d l m. up (suc i) (suc j) d (omega (arith, l)) (omega (arith, m))))

  -- those in front of one come before it
  pub before_middle : (front : List X) (x : X) (back : List X) → Ascends (front ++ x ∷ back) → All (λ y. is_before (key y) (key x) ≡ true) front
  before_middle [] x back up = All-nil (λ y. is_before (key y) (key x) ≡ true)
  before_middle (y ∷ front) x back up = All-cons (λ z. is_before (key z) (key x) ≡ true) y front (middle_of (λ z. is_before (key y) (key z) ≡ true) front x back up.0) (before_middle front x back up.1)

  -- so none of them has its name
  pub none_before : (k : List ℕ) (xs : List X) → All (λ y. is_before (key y) k ≡ true) xs → list_any (λ y. bytes_eq k (key y)) xs ≡ false
  none_before k [] all = refl
  none_before k (x ∷ xs) all = ap (λ b. b || list_any (λ y. bytes_eq k (key y)) xs) (before_apart (key x) k (All-head (λ y. is_before (key y) k ≡ true) x xs all)) ∙ none_before k xs (All-tail (λ y. is_before (key y) k ≡ true) x xs all)

  -- an item behind all others is put at the end
  pub put_last : (front : List X) (x : X) → All (λ y. is_before (key y) (key x) ≡ true) front → put_by key front x ≡ front ++ x ∷ []
  put_last front x before =
      let none : All (λ y. is_before (key x) (key y) ≡ false) front = All-weaker (λ y. is_before (key y) (key x) ≡ true) (λ y. is_before (key x) (key y) ≡ false) (λ y b. before_once (key y) (key x) b) front before in
      rw (filter_all (λ y. is_before (key y) (key x)) front before, filter_none (λ y. is_before (key x) (key y)) front none) refl

  -- the item that a loop comes to
  module _ (xs : List X) (i : ℕ) (x : X) (l : i < length xs) (is : x ≡ get_or xs i x) where
    pub next_taken : take (i + 1) xs ≡ take i xs ++ x ∷ []
    next_taken = ap (λ k. take k xs) (add-one i) ∙ take-suc xs i x l ∙ ap (λ y. take i xs ++ y ∷ []) (sym is)

    pub next_split : xs ≡ take i xs ++ x ∷ drop (i + 1) xs
    next_split = sym (take-append-drop (i + 1) xs) ∙ ap (λ ys. ys ++ drop (i + 1) xs) next_taken ∙ append_assoc (take i xs) (x ∷ []) (drop (i + 1) xs)

    pub next_before : IsAscendingBy key xs → All (λ y. is_before (key y) (key x) ≡ true) (take i xs)
    next_before up = before_middle (take i xs) x (drop (i + 1) xs) (subst Ascends next_split (ascends xs up))

-- items with the same names are in the same order
module _ {X Y : Type 0} (key : X → List ℕ) (key' : Y → List ℕ) (R : X → Y → Type 0) (same : (x : X) (y : Y) → R x y → key' y ≡ key x) where
  pub pairs_before : (k : List ℕ) (xs : List X) (ys : List Y) → Pairwise R xs ys → All (λ x. is_before k (key x) ≡ true) xs → All (λ y. is_before k (key' y) ≡ true) ys
  pairs_before k [] [] p all = All-nil (λ y. is_before k (key' y) ≡ true)
  pairs_before k [] (y ∷ ys) p all = absurd p
  pairs_before k (x ∷ xs) [] p all = absurd p
  pairs_before k (x ∷ xs) (y ∷ ys) p all =
      All-cons (λ z. is_before k (key' z) ≡ true) y ys (ap (is_before k) (same x y p.0) ∙ All-head (λ z. is_before k (key z) ≡ true) x xs all) (pairs_before k xs ys p.1 (All-tail (λ z. is_before k (key z) ≡ true) x xs all))

  pub pairs_behind : (k : List ℕ) (xs : List X) (ys : List Y) → Pairwise R xs ys → All (λ x. is_before (key x) k ≡ true) xs → All (λ y. is_before (key' y) k ≡ true) ys
  pairs_behind k [] [] p all = All-nil (λ y. is_before (key' y) k ≡ true)
  pairs_behind k [] (y ∷ ys) p all = absurd p
  pairs_behind k (x ∷ xs) [] p all = absurd p
  pairs_behind k (x ∷ xs) (y ∷ ys) p all =
      All-cons (λ z. is_before (key' z) k ≡ true) y ys (ap (λ n. is_before n k) (same x y p.0) ∙ All-head (λ z. is_before (key z) k ≡ true) x xs all) (pairs_behind k xs ys p.1 (All-tail (λ z. is_before (key z) k ≡ true) x xs all))

  pub pairs_ascend : (xs : List X) (ys : List Y) → Pairwise R xs ys → Ascends key xs → Ascends key' ys
  pairs_ascend [] [] p up = tt
  pairs_ascend [] (y ∷ ys) p up = absurd p
  pairs_ascend (x ∷ xs) [] p up = absurd p
  pairs_ascend (x ∷ xs) (y ∷ ys) p up = (subst (λ n. All (λ z. is_before n (key' z) ≡ true) ys) (sym (same x y p.0)) (pairs_before (key x) xs ys p.1 up.0), pairs_ascend xs ys p.1 up.1)

-- channels in order, put behind those that a topic has
pub with_channels_end : (found : List FoundChannel) (t : Topic) → Ascends (λ (c : FoundChannel). c.name) found → All (λ (k : Channel). All (λ (c : FoundChannel). is_before k.name c.name ≡ true) found) t.channels
    → with_channels t found ≡ record t { channels = t.channels ++ map started_channel found }
with_channels_end [] t up all = ap (λ cs. record t { channels = cs }) (sym (append-nil t.channels))
with_channels_end (c ∷ found) t up all =
    let k : Channel = started_channel c in
    let P : List FoundChannel → Channel → Type 0 = λ fs d. All (λ (e : FoundChannel). is_before d.name e.name ≡ true) fs in
    let before : All (λ (d : Channel). is_before d.name k.name ≡ true) t.channels = All-weaker (P (c ∷ found)) (λ d. is_before d.name k.name ≡ true) (λ d h. All-head (λ (e : FoundChannel). is_before d.name e.name ≡ true) c found h) t.channels all in
    let rest : All (P found) (t.channels ++ k ∷ []) = All-push (P found) t.channels k (All-weaker (P (c ∷ found)) (P found) (λ d h. All-tail (λ (e : FoundChannel). is_before d.name e.name ≡ true) c found h) t.channels all) up.0 in
    ap (λ cs. with_channels (record t { channels = cs }) found) (put_last (λ (d : Channel). d.name) t.channels k before)
    ∙ with_channels_end found (record t { channels = t.channels ++ k ∷ [] }) up.1 rest
    ∙ ap (λ cs. record t { channels = cs }) (append_assoc t.channels (k ∷ []) (map started_channel found))

-- a topic that was found is the topic at the start of a run
pub opened_is : (found : FoundTopic) → Ascends (λ (c : FoundChannel). c.name) found.channels → opened_topic found.name found.paused found.messages found.channels ≡ started found
opened_is found up = with_channels_end found.channels (paused_in found.paused (found_topic found.name found.messages)) up (All-nil (λ (k : Channel). All (λ (c : FoundChannel). is_before k.name c.name ≡ true) found.channels))

-- a topic behind all others is the last one of a state
pub topic_last : (s : State) (front : List FoundTopic) (last : FoundTopic) → All (λ (t : FoundTopic). is_before t.name last.name ≡ true) front → with_topic (record s { topics = map started front }) (started last) ≡ record s { topics = map started (front ++ last ∷ []) }
topic_last s front last before = ap (λ ts. record s { topics = ts }) (put_last (λ (t : Topic). t.name) (map started front) (started last) (All-map (λ (t : Topic). is_before t.name last.name ≡ true) started front before) ∙ sym (map-append started front (last ∷ [])))
