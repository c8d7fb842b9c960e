-- What callees ask of a hall in which there is more room for a topic or a channel, and what a mark leaves.
use Rattle.std.proofs.Common.{◌≡◌, ◌<◌, ◌∙◌, ℕ, List, length, get_or, min, sym, ap, subst, arith}
use Rattle.std.specs.List.{HoldsAt}
use Rattle.std.proofs.lemmas.Option.{get_or_from_slice_get, slice_get_within}
use Rattle.std.proofs.lemmas.List.{length-set}
use Rattle.nsq_base.specs.Options.{IsInRange}
use Rattle.nsq_base.specs.declared.options.Options.{Options}
use Rattle.nsq_base.specs.Names.{IsAscendingBy}
use Rattle.nsq_base.specs.Places.{BelongsAt, StandsAt}
use Rattle.topic_core.specs.Seen.{Seen as TopicSeen, fresh_topic}
use Rattle.channel_core.specs.Seen.{Seen as ChannelSeen}
use Rattle.floor_rooms.specs.declared.stall.Stall.{Stall}
use Rattle.floor_rooms.specs.declared.room.Room.{Room}
use Rattle.floor_rooms.specs.declared.hall.Hall.{Hall}
use Rattle.floor_rooms.specs.Rooms.{channel_name, topic_name}
use Rattle.floor_rooms.specs.Made.{IsFreshStall, SameStalls}
use Rattle.floor_rooms.specs.Changes.{AtRoom}
use Rattle.floor_rooms.specs.Sound.{IsRoomSound, IsSound}
use Rattle.floor_rooms.proofs.Placing.{at_place}
use Rattle.floor_rooms.proofs.Sounding.{at_all}
use Rattle.floor_rooms.proofs.Growing.{reserved_place}

-- with more room the options are as they were, and each topic stands where it stood
pub ranges_spaced : (h h' : Hall) → IsSound h → h' ≡ record h { rooms = h'.rooms; pending = h'.pending } → IsInRange h'.options
ranges_spaced h h' sound e = subst IsInRange (sym (ap (λ (x : Hall). x.options) e)) sound.options

pub range_at : (i : ℕ) (Does : Room → Room → Type 0) (xs ys : List Room) → AtRoom i Does xs ys → i < length ys
range_at i Does xs ys at = omega (arith, ap length at.is, length-set xs i at.after, slice_get_within xs i at.room at.there)

pub range_spaced : (xs ys : List Room) (i : ℕ) → AtRoom i SameStalls xs ys → i < length ys
range_spaced xs ys i at = range_at i SameStalls xs ys at

-- a new topic belongs where its name belonged
pub place_spaced : (xs ys : List Room) (name name' : List ℕ) (i : ℕ) → ys ≡ xs → name' ≡ name → BelongsAt topic_name xs name i → BelongsAt topic_name ys name' i
place_spaced xs ys name name' i e f place = subst (λ (zs : List Room). BelongsAt topic_name zs name' i) (sym e) (subst (λ n. BelongsAt topic_name xs n i) (sym f) place)

-- the channels of a topic that is read at its place are in byte order
pub order_read : (h : Hall) (i : ℕ) (name : List ℕ) (room : Room) → IsSound h → StandsAt topic_name h.rooms.items name i → room ≡ get_or h.rooms.items i room → IsAscendingBy channel_name room.stalls.items
order_read h i name room sound stands read =
    let is : IsRoomSound h room = at_all (IsRoomSound h) h.rooms.items i room sound.rooms (at_place h.rooms.items i room stands.in_range read) in
    is.order

-- where a channel belongs in a topic that is read at its place
pub place_read : (h : Hall) (i j : ℕ) (name channel : List ℕ) (room : Room) → StandsAt topic_name h.rooms.items name i → room ≡ get_or h.rooms.items i room → BelongsAt channel_name room.stalls.items channel j
    → HoldsAt (λ (r : Room). BelongsAt channel_name r.stalls.items channel j) h.rooms.items i
place_read h i j name channel room stands read belongs =
    λ d. subst (λ (r : Room). BelongsAt channel_name r.stalls.items channel j) (sym (get_or_from_slice_get h.rooms.items i room d (at_place h.rooms.items i room stands.in_range read))) belongs

-- a channel and a topic as they are made have their names
pub stall_called : (topic name : List ℕ) (o : Options) (s : Stall) → IsFreshStall topic name o s → channel_name s ≡ name
stall_called topic name o s fresh = ap (λ (v : ChannelSeen). v.about.name) fresh.channel.is

pub room_called : (topic : List ℕ) (o : Options) (r : Room) → r.queue ≡ fresh_topic topic o → topic_name r ≡ topic
room_called topic o r is = ap (λ (q : TopicSeen). q.name) is

-- so a fresh channel belongs where its name belonged
pub stall_spaced : (xs ys : List Room) (i j : ℕ) (topic name : List ℕ) (o : Options) (s : Stall) → AtRoom i SameStalls xs ys → HoldsAt (λ (r : Room). BelongsAt channel_name r.stalls.items name j) xs i → IsFreshStall topic name o s
    → HoldsAt (λ (r : Room). BelongsAt channel_name r.stalls.items (channel_name s) j) ys i
stall_spaced xs ys i j topic name o s at place fresh =
    subst (λ (n : List ℕ). HoldsAt (λ (r : Room). BelongsAt channel_name r.stalls.items n j) ys i) (sym (stall_called topic name o s fresh)) (reserved_place xs ys i j name at place)

-- a mark changes nothing else
pub mark_leaves : (h h' : Hall) (from : ℕ) → h' ≡ record h { rooms = h'.rooms; unsaved_from = from } → from ≡ min h.unsaved_from h.moment → h' ≡ record h { rooms = h'.rooms; unsaved_from = min h.unsaved_from h.moment }
mark_leaves h h' from e is = e ∙ ap (λ n. record h { rooms = h'.rooms; unsaved_from = n }) is
