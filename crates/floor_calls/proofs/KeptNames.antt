-- What is kept of a hall is what is kept of each state that it stands for.
use Rattle.std.proofs.Common.{◌≡◌, ◌<◌, ℕ, add-one, ◌+◌, Bool, true, false, not, if◌then◌else◌, List, [], ◌∷◌, ◌++◌, length, map, take, get_or, sym, ap, ◌∙◌}
use Rattle.std.specs.List.{filter}
use Rattle.std.proofs.Math.Seq.{take-suc}
use Rattle.std.proofs.lemmas.List.{append-nil, map-append}
use Rattle.std.proofs.lemmas.List.Elements.{filter-append}
use Rattle.nsq_base.specs.Name.{is_ephemeral}
use Rattle.nsq_outside.specs.Files.{Files}
use Rattle.path_image.specs.Data.{durable}
use Rattle.broker_history.specs.State.{Channel, State, Topic}
use Rattle.broker_history.specs.Left.{kept_channel, kept_names, kept_topic}
use Rattle.floor_laws.proofs.Counting.{counts_alike}
use Rattle.floor_laws.proofs.Pairs.{pairs_filter, pairs_told}
use Rattle.channel_core.specs.Seen.{seen_channel}
use Rattle.floor_rooms.specs.declared.stall.Stall.{Stall}
use Rattle.floor_rooms.specs.declared.room.Room.{Room}
use Rattle.floor_rooms.specs.declared.hall.Hall.{Hall}
use Rattle.floor_rooms.specs.Rooms.{channel_name, topic_name}
use Rattle.floor_rooms.specs.Standing.{HoldsFor, IsRoomOf, IsStallOf}
use Rattle.floor_rooms.proofs.Staying.{room_named, stall_named}
use Rattle.floor_rooms.specs.Kept.{hall_kept, room_kept, stall_kept}

-- one more of a list is kept, or passed over
pub one_kept : {X Y : Type 0} (f : X → Y) (p : X → Bool) (xs : List X) (i : ℕ) (x : X) (kept : List Y) (y : Y) → kept ≡ map f (filter p (take i xs)) → y ≡ f x → x ≡ get_or xs i x → i < length xs → p x ≡ true → kept ++ y ∷ [] ≡ map f (filter p (take (i + 1) xs))
one_kept f p xs i x kept y is same at l passes =
    let here : filter p (get_or xs i x ∷ []) ≡ x ∷ [] = ap (λ z. filter p (z ∷ [])) (sym at) ∙ ap (λ b. if b then x ∷ [] else []) passes in
    let all : filter p (take (i + 1) xs) ≡ filter p (take i xs) ++ x ∷ [] = ap (λ n. filter p (take n xs)) (add-one i) ∙ ap (filter p) (take-suc xs i x l) ∙ filter-append p (take i xs) (get_or xs i x ∷ []) ∙ ap (λ ys. filter p (take i xs) ++ ys) here in
    ap (λ ys. ys ++ y ∷ []) is ∙ ap (λ z. map f (filter p (take i xs)) ++ z ∷ []) same ∙ sym (ap (map f) all ∙ map-append f (filter p (take i xs)) (x ∷ []))

pub none_kept : {X Y : Type 0} (f : X → Y) (p : X → Bool) (xs : List X) (i : ℕ) (x : X) (kept : List Y) → kept ≡ map f (filter p (take i xs)) → x ≡ get_or xs i x → i < length xs → p x ≡ false → kept ≡ map f (filter p (take (i + 1) xs))
none_kept f p xs i x kept is at l fails =
    let here : filter p (get_or xs i x ∷ []) ≡ [] = ap (λ z. filter p (z ∷ [])) (sym at) ∙ ap (λ b. if b then x ∷ [] else []) fails in
    let all : filter p (take (i + 1) xs) ≡ filter p (take i xs) = ap (λ n. filter p (take n xs)) (add-one i) ∙ ap (filter p) (take-suc xs i x l) ∙ filter-append p (take i xs) (get_or xs i x ∷ []) ∙ ap (λ ys. filter p (take i xs) ++ ys) here ∙ append-nil (filter p (take i xs)) in
    is ∙ sym (ap (map f) all)

-- a channel and a topic are kept alike
stall_alike : (files : Files) (x : Stall) (k : Channel) → IsStallOf files x k → stall_kept x ≡ kept_channel k
stall_alike files x k is =
    ap (λ n. record { name = n; paused = x.channel.paused }) (sym (stall_named files x k is)) ∙ ap (λ b. record { name = k.name; paused = b }) (counts_alike (seen_channel x.channel is.disk) k is.is_kept).paused

channels_alike : (files : Files) (r : Room) (t : Topic) → IsRoomOf files r t → map stall_kept (durable channel_name r.stalls.items) ≡ map kept_channel (durable (λ (k : Channel). k.name) t.channels)
channels_alike files r t is =
    pairs_told (IsStallOf files) stall_kept kept_channel (durable channel_name r.stalls.items) (durable (λ (k : Channel). k.name) t.channels) (stall_alike files)
    (pairs_filter (IsStallOf files) (λ x. not (is_ephemeral (channel_name x))) (λ (k : Channel). not (is_ephemeral k.name)) r.stalls.items t.channels (λ x k of. ap (λ n. not (is_ephemeral n)) (sym (stall_named files x k of))) is.channels)

room_alike : (files : Files) (r : Room) (t : Topic) → IsRoomOf files r t → room_kept r ≡ kept_topic t
room_alike files r t is =
    ap (λ n. record { name = n; paused = r.queue.paused; channels = map stall_kept (durable channel_name r.stalls.items) }) (sym (room_named files r t is))
    ∙ ap (λ b. record { name = t.name; paused = b; channels = map stall_kept (durable channel_name r.stalls.items) }) (sym is.queue.paused)
    ∙ ap (λ ks. record { name = t.name; paused = t.paused; channels = ks }) (channels_alike files r t is)

pub kept_alike : (h : Hall) (files : Files) (s : State) → HoldsFor h files s → hall_kept h ≡ (kept_names s).topics
kept_alike h files s holds =
    pairs_told (IsRoomOf files) room_kept kept_topic (durable topic_name h.rooms.items) (durable (λ (t : Topic). t.name) s.topics) (room_alike files)
    (pairs_filter (IsRoomOf files) (λ r. not (is_ephemeral (topic_name r))) (λ (t : Topic). not (is_ephemeral t.name)) h.rooms.items s.topics (λ r t of. ap (λ n. not (is_ephemeral n)) (sym (room_named files r t of))) holds.stands.topics)
