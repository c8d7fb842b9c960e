-- The names of a topic's channels, added in byte order to a list that has the topic alone, are its channels' names.
use Rattle.std.proofs.Common.{◌≡◌, ◌<◌, ℕ, ◌+◌, add-one, Bool, true, false, if◌then◌else◌, cond, List, [], ◌∷◌, ◌++◌, map, take, length, get_or, Some, None, refl, sym, ap, subst, ◌∙◌, arith}
use Rattle.std.specs.Ordering.{is_lt, ordering_reverse}
use Rattle.std.specs.List.{All, filter}
use Rattle.std.specs.Option.{unwrap_or}
use Rattle.std.specs.Str.{bytes_eq}
use Rattle.std.proofs.lemmas.Bool.{false≢true}
use Rattle.std.proofs.Math.Seq.{take-suc}
use Rattle.std.proofs.lemmas.List.{get_or-take, get_or_default, length-take-le, map-append}
use Rattle.std.proofs.lemmas.List.Elements.{All-map, All-weaker}
use Rattle.nsq_base.specs.Names.{IsAscendingBy, TopicList, byte_order, channels_of, insert_name, is_before, put_by, topic_of, with_channel}
use Rattle.nsq_base.proofs.PutBy.{byte_order-flip, filter_all, filter_none, Less-from_before, other_from_order}
use Rattle.broker_history.proofs.Lists.{same_bytes}
use Rattle.floor_rooms.specs.declared.stall.Stall.{Stall}
use Rattle.floor_rooms.specs.Rooms.{channel_name}

-- what comes before a name doesn't come after it, and no name comes before itself
pub not_after : (a b : List ℕ) → is_before a b ≡ true → is_before b a ≡ false
not_after a b h = ap is_lt (byte_order-flip a b (byte_order a b) refl ∙ ap ordering_reverse (Less-from_before (byte_order a b) h))

before_other : (a b : List ℕ) → is_before a b ≡ true → bytes_eq b a ≡ false
before_other a b h = other_from_order b a _ (byte_order-flip a b _ (Less-from_before (byte_order a b) h)) refl

itself_not : (a : List ℕ) (b : Bool) → is_before a a ≡ b → b ≡ false
itself_not a true h = absurd (false≢true (sym (before_other a a h) ∙ same_bytes a))
itself_not a false h = refl

pub not_before : (a : List ℕ) → is_before a a ≡ false
not_before a = itself_not a (is_before a a) refl

-- a name that comes behind all others is put at the end
put_end : (names : List (List ℕ)) (n : List ℕ) → All (λ d. is_before d n ≡ true) names → insert_name names n ≡ names ++ n ∷ []
put_end names n before =
    ap (λ ys. ys ++ n ∷ filter (λ d. is_before n d) names) (filter_all (λ d. is_before d n) names before)
    ∙ ap (λ ys. names ++ n ∷ ys) (filter_none (λ d. is_before n d) names (All-weaker (λ d. is_before d n ≡ true) (λ d. is_before n d ≡ false) (λ d h. not_after d n h) names before))

-- the channels of the only topic
of_only : (t : List ℕ) (channels : List (List ℕ)) → channels_of ((t, channels) ∷ []) t ≡ channels
of_only t channels = ap (λ b. unwrap_or (cond b (Some channels) None) []) (same_bytes t)

-- which takes its own place
put_only : (t : List ℕ) (old new : List (List ℕ)) → put_by topic_of ((t, old) ∷ []) (t, new) ≡ (t, new) ∷ []
put_only t old new = ap (λ b. (if b then (t, old) ∷ [] else []) ++ (t, new) ∷ (if b then (t, old) ∷ [] else [])) (not_before t)

channel_added : (t c : List ℕ) (channels : List (List ℕ)) → All (λ d. is_before d c ≡ true) channels → with_channel ((t, channels) ∷ []) t c ≡ (t, channels ++ c ∷ []) ∷ []
channel_added t c channels k =
    ap (λ cs. put_by topic_of ((t, channels) ∷ []) (t, insert_name cs c)) (of_only t channels)
    ∙ ap (λ cs. put_by topic_of ((t, channels) ∷ []) (t, cs)) (put_end channels c k)
    ∙ put_only t channels (channels ++ c ∷ [])

-- the items in front of one come before it
front_before : {X : Type 0} (key : X → List ℕ) (xs : List X) (i : ℕ) (x : X) → IsAscendingBy key xs → x ≡ get_or xs i x → i < length xs → All (λ y. is_before (key y) (key x) ≡ true) (take i xs)
front_before {X} key xs i x up is l j e m =
    let n : j < i = omega (arith, length-take-le i xs (omega arith)) in
    let same : get_or (take i xs) j e ≡ get_or xs j x = get_or-take i xs j e n ∙ get_or_default xs j e x (omega arith) in
    ap (λ (y : X). is_before (key y) (key x)) same ∙ ap (λ (y : X). is_before (key (get_or xs j x)) (key y)) is ∙ up j i x n l

-- one more is taken of a list
taken_more : {X Y : Type 0} (f : X → Y) (xs : List X) (i : ℕ) (x : X) → x ≡ get_or xs i x → i < length xs → map f (take (i + 1) xs) ≡ map f (take i xs) ++ f x ∷ []
taken_more f xs i x is l =
    ap (λ n. map f (take n xs)) (add-one i) ∙ ap (map f) (take-suc xs i x l) ∙ map-append f (take i xs) (get_or xs i x ∷ []) ∙ ap (λ y. map f (take i xs) ++ f y ∷ []) (sym is)

-- a channel is added behind those before it
pub stall_added : (new names : TopicList) (t t' n : List ℕ) (items xs : List Stall) (i : ℕ) (x : Stall) → new ≡ with_channel names t' n → t' ≡ t → n ≡ channel_name x → names ≡ (t, map channel_name (take i xs)) ∷ [] → IsAscendingBy channel_name items → xs ≡ items
    → x ≡ get_or xs i x → i < length xs → new ≡ (t, map channel_name (take (i + 1) xs)) ∷ []
stall_added new names t t' n items xs i x is topic name before up same at l =
    is ∙ ap (λ ns. with_channel ns t' n) before ∙ ap (λ k. with_channel ((t, map channel_name (take i xs)) ∷ []) k n) topic ∙ ap (with_channel ((t, map channel_name (take i xs)) ∷ []) t) name
    ∙ channel_added t (channel_name x) (map channel_name (take i xs))
    (All-map (λ d. is_before d (channel_name x) ≡ true) channel_name (take i xs) (front_before channel_name xs i x (subst (IsAscendingBy channel_name) (sym same) up) at l))
    ∙ ap (λ cs. (t, cs) ∷ []) (sym (taken_more channel_name xs i x at l))
