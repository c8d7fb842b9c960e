-- Names that are added in byte order come to stand behind all others.
use Rattle.std.proofs.Common.{◌≡◌, ◌<◌, ℕ, ◌+◌, add-one, Bool, true, false, if◌then◌else◌, cond, List, [], ◌∷◌, ◌++◌, map, take, length, get_or, Some, None, refl, sym, ap, subst, ◌∙◌, arith}
use Rattle.std.specs.Ordering.{is_lt, ordering_reverse}
use Rattle.std.specs.List.{All, filter}
use Rattle.std.specs.Map.{lookup}
use Rattle.std.specs.Option.{unwrap_or}
use Rattle.std.specs.Str.{bytes_eq}
use Rattle.std.proofs.lemmas.Bool.{false≢true}
use Rattle.std.proofs.Math.Seq.{take-suc}
use Rattle.std.proofs.lemmas.List.{append-nil, get_or-take, get_or_default, length-take-le, map-append}
use Rattle.std.proofs.lemmas.List.Elements.{All-head, All-tail, All-map, All-weaker, filter-append}
use Rattle.nsq_base.specs.Names.{IsAscendingBy, TopicList, byte_order, channels_of, insert_name, is_before, put_by, topic_of, with_channel, with_topic}
use Rattle.nsq_base.proofs.PutBy.{byte_order-flip, filter_all, filter_none, Less-from_before, other_from_order}
use Rattle.nsq_outside.specs.Files.{Files}
use Rattle.broker_history.proofs.Lists.{same_bytes}
use Rattle.broker_history.specs.State.{Channel, State, Topic, channel_names, names_of}
use Rattle.floor_laws.proofs.Pairs.{pairs_told}
use Rattle.floor_rooms.specs.declared.stall.Stall.{Stall}
use Rattle.floor_rooms.specs.declared.room.Room.{Room}
use Rattle.floor_rooms.specs.declared.hall.Hall.{Hall}
use Rattle.floor_rooms.specs.Rooms.{channel_name, hall_names, stall_names, topic_name}
use Rattle.floor_rooms.specs.Standing.{HoldsFor, IsRoomOf, IsStallOf}
use Rattle.floor_rooms.proofs.Staying.{room_named, stall_named}

-- what comes before a name doesn't come after it, and is another
not_after : (a b : List ℕ) → is_before a b ≡ true → is_before b a ≡ false
not_after a b h = ap is_lt (byte_order-flip a b (byte_order a b) refl ∙ ap ordering_reverse (Less-from_before (byte_order a b) h))

before_other : (a b : List ℕ) → is_before a b ≡ true → bytes_eq b a ≡ false
before_other a b h = other_from_order b a _ (byte_order-flip a b _ (Less-from_before (byte_order a b) h)) refl

-- no name comes before itself
itself_not : (a : List ℕ) (b : Bool) → is_before a a ≡ b → b ≡ false
itself_not a true h = absurd (false≢true (sym (before_other a a h) ∙ same_bytes a))
itself_not a false h = refl

not_before : (a : List ℕ) → is_before a a ≡ false
not_before a = itself_not a (is_before a a) refl

-- an item whose key comes behind all others is put at the end
pub put_end : {X : Type 0} (key : X → List ℕ) (xs : List X) (x : X) → All (λ y. is_before (key y) (key x) ≡ true) xs → put_by key xs x ≡ xs ++ x ∷ []
put_end key xs x before =
    ap (λ ys. ys ++ x ∷ filter (λ y. is_before (key x) (key y)) xs) (filter_all (λ y. is_before (key y) (key x)) xs before)
    ∙ ap (λ ys. xs ++ x ∷ ys) (filter_none (λ y. is_before (key x) (key y)) xs (All-weaker (λ y. is_before (key y) (key x) ≡ true) (λ y. is_before (key x) (key y) ≡ false) (λ y h. not_after (key y) (key x) h) xs before))

-- and in place of the last one, where it has that one's key
put_last : {X : Type 0} (key : X → List ℕ) (xs : List X) (x y : X) → All (λ z. is_before (key z) (key x) ≡ true) xs → key y ≡ key x → put_by key (xs ++ y ∷ []) x ≡ xs ++ x ∷ []
put_last key xs x y before same =
    let here : is_before (key y) (key x) ≡ false = ap (λ k. is_before k (key x)) same ∙ not_before (key x) in
    let there : is_before (key x) (key y) ≡ false = ap (is_before (key x)) same ∙ not_before (key x) in
    let front : filter (λ z. is_before (key z) (key x)) (xs ++ y ∷ []) ≡ xs = filter-append (λ z. is_before (key z) (key x)) xs (y ∷ []) ∙ ap (λ ys. ys ++ filter (λ z. is_before (key z) (key x)) (y ∷ [])) (filter_all (λ z. is_before (key z) (key x)) xs before) ∙ ap (λ b. xs ++ (if b then y ∷ [] else [])) here ∙ append-nil xs in
    let back : filter (λ z. is_before (key x) (key z)) (xs ++ y ∷ []) ≡ [] = filter-append (λ z. is_before (key x) (key z)) xs (y ∷ []) ∙ ap (λ ys. ys ++ filter (λ z. is_before (key x) (key z)) (y ∷ [])) (filter_none (λ z. is_before (key x) (key z)) xs (All-weaker (λ z. is_before (key z) (key x) ≡ true) (λ z. is_before (key x) (key z) ≡ false) (λ z h. not_after (key z) (key x) h) xs before)) ∙ ap (λ b. if b then y ∷ [] else []) there in
    ap (λ ys. ys ++ x ∷ filter (λ z. is_before (key x) (key z)) (xs ++ y ∷ [])) front ∙ ap (λ ys. xs ++ x ∷ ys) back

-- the channels of a topic that isn't there yet, and of the last one
none_yet : (names : TopicList) (t : List ℕ) → All (λ e. is_before (topic_of e) t ≡ true) names → channels_of names t ≡ []
none_yet [] t h = refl
none_yet (e ∷ es) t h =
    ap (λ b. unwrap_or (cond b (Some e.1) (lookup (bytes_eq t) es)) []) (before_other e.0 t (All-head (λ e. is_before (topic_of e) t ≡ true) e es h)) ∙ none_yet es t (All-tail (λ e. is_before (topic_of e) t ≡ true) e es h)

of_last : (names : TopicList) (t : List ℕ) (channels : List (List ℕ)) → All (λ e. is_before (topic_of e) t ≡ true) names → channels_of (names ++ (t, channels) ∷ []) t ≡ channels
of_last [] t channels h = ap (λ b. unwrap_or (cond b (Some channels) None) []) (same_bytes t)
of_last (e ∷ es) t channels h =
    ap (λ b. unwrap_or (cond b (Some e.1) (lookup (bytes_eq t) (es ++ (t, channels) ∷ []))) []) (before_other e.0 t (All-head (λ e. is_before (topic_of e) t ≡ true) e es h)) ∙ of_last es t channels (All-tail (λ e. is_before (topic_of e) t ≡ true) e es h)

-- a topic that comes behind all others is added at the end, and then its channels in their order
pub topic_added : (names : TopicList) (t : List ℕ) → All (λ e. is_before (topic_of e) t ≡ true) names → with_topic names t ≡ names ++ (t, []) ∷ []
topic_added names t h = ap (λ cs. put_by topic_of names (t, cs)) (none_yet names t h) ∙ put_end topic_of names (t, []) h

pub channel_added : (names : TopicList) (t c : List ℕ) (channels : List (List ℕ)) → All (λ e. is_before (topic_of e) t ≡ true) names → All (λ d. is_before d c ≡ true) channels
    → with_channel (names ++ (t, channels) ∷ []) t c ≡ names ++ (t, channels ++ c ∷ []) ∷ []
channel_added names t c channels h k =
    ap (λ cs. put_by topic_of (names ++ (t, channels) ∷ []) (t, insert_name cs c)) (of_last names t channels h)
    ∙ ap (λ cs. put_by topic_of (names ++ (t, channels) ∷ []) (t, cs)) (put_end (λ (d : List ℕ). d) channels c k)
    ∙ put_last topic_of names (t, channels ++ c ∷ []) (t, channels) h refl

-- the items in front of one come before it
pub front_before : {X : Type 0} (key : X → List ℕ) (xs : List X) (i : ℕ) (x : X) → IsAscendingBy key xs → x ≡ get_or xs i x → i < length xs → All (λ y. is_before (key y) (key x) ≡ true) (take i xs)
front_before {X} key xs i x up is l j e m =
    let n : j < i = omega (arith, length-take-le i xs (omega arith)) in
    let same : get_or (take i xs) j e ≡ get_or xs j x = get_or-take i xs j e n ∙ get_or_default xs j e x (omega arith) in
    ap (λ (y : X). is_before (key y) (key x)) same ∙ ap (λ (y : X). is_before (key (get_or xs j x)) (key y)) is ∙ up j i x n l

-- one more is taken of a list
pub taken_more : {X Y : Type 0} (f : X → Y) (xs : List X) (i : ℕ) (x : X) → x ≡ get_or xs i x → i < length xs → map f (take (i + 1) xs) ≡ map f (take i xs) ++ f x ∷ []
taken_more f xs i x is l =
    ap (λ n. map f (take n xs)) (add-one i) ∙ ap (map f) (take-suc xs i x l) ∙ map-append f (take i xs) (get_or xs i x ∷ []) ∙ ap (λ y. map f (take i xs) ++ f y ∷ []) (sym is)

-- the entry of a room among names
abbrev pub entry_of : Room → List ℕ × List (List ℕ)
entry_of r = (topic_name r, stall_names r)

-- the names of a hall are those of each state that it stands for
named_alike : (files : Files) (r : Room) (t : Topic) → IsRoomOf files r t → entry_of r ≡ (t.name, channel_names t)
named_alike files r t is =
    ap (λ n. (n, stall_names r)) (sym (room_named files r t is)) ∙ ap (λ ns. (t.name, ns)) (pairs_told (IsStallOf files) channel_name (λ (k : Channel). k.name) r.stalls.items t.channels (λ x k of. sym (stall_named files x k of)) is.channels)

pub names_alike : (h : Hall) (files : Files) (s : State) → HoldsFor h files s → hall_names h ≡ names_of s
names_alike h files s holds = pairs_told (IsRoomOf files) entry_of (λ (t : Topic). (t.name, channel_names t)) h.rooms.items s.topics (named_alike files) holds.stands.topics

-- a channel of a room is added behind those before it
pub stall_added : (old new names : TopicList) (t t' n : List ℕ) (items xs : List Stall) (i : ℕ) (x : Stall) → new ≡ with_channel names t' n → t' ≡ t → n ≡ channel_name x → names ≡ old ++ (t, map channel_name (take i xs)) ∷ []
    → All (λ e. is_before (topic_of e) t ≡ true) old → IsAscendingBy channel_name items → xs ≡ items → x ≡ get_or xs i x → i < length xs → new ≡ old ++ (t, map channel_name (take (i + 1) xs)) ∷ []
stall_added old new names t t' n items xs i x is topic name before first up same at l =
    is ∙ ap (λ ns. with_channel ns t' n) before ∙ ap (λ k. with_channel (old ++ (t, map channel_name (take i xs)) ∷ []) k n) topic ∙ ap (with_channel (old ++ (t, map channel_name (take i xs)) ∷ []) t) name
    ∙ channel_added old t (channel_name x) (map channel_name (take i xs)) first
    (All-map (λ d. is_before d (channel_name x) ≡ true) channel_name (take i xs) (front_before channel_name xs i x (subst (IsAscendingBy channel_name) (sym same) up) at l))
    ∙ ap (λ cs. old ++ (t, cs) ∷ []) (sym (taken_more channel_name xs i x at l))

-- a room comes behind those before it, and is added there
pub rooms_before : (names : TopicList) (items xs : List Room) (i : ℕ) (x : Room) → names ≡ map entry_of (take i xs) → IsAscendingBy topic_name items → xs ≡ items → x ≡ get_or xs i x → i < length xs → All (λ e. is_before (topic_of e) (topic_name x) ≡ true) names
rooms_before names items xs i x is up same at l =
    subst (All (λ e. is_before (topic_of e) (topic_name x) ≡ true)) (sym is)
    (All-map (λ e. is_before (topic_of e) (topic_name x) ≡ true) entry_of (take i xs) (front_before topic_name xs i x (subst (IsAscendingBy topic_name) (sym same) up) at l))

pub room_added : (new names : TopicList) (xs : List Room) (i : ℕ) (x : Room) → new ≡ names ++ entry_of x ∷ [] → names ≡ map entry_of (take i xs) → x ≡ get_or xs i x → i < length xs → new ≡ map entry_of (take (i + 1) xs)
room_added new names xs i x is before at l = is ∙ ap (λ ns. ns ++ entry_of x ∷ []) before ∙ sym (taken_more entry_of xs i x at l)
