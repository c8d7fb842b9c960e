-- Topics and channels that come to a hall: they are there, no mark begins anew, and names that are kept are told.
use Rattle.std.proofs.Common.{◌≡◌, ℕ, Bool, true, not, ◌||◌, if◌then◌else◌, List, [], ◌∷◌, get_or, Option, Some, None, refl, sym, ap, subst, ◌∙◌}
use Rattle.std.specs.Prelude.{HoldsAt, IsSome, option_and_then}
use Rattle.std.specs.List.{All}
use Rattle.std.specs.Str.{bytes_eq}
use Rattle.std.proofs.lemmas.Option.{get_or_from_slice_get}
use Rattle.nsq_base.specs.Name.{is_ephemeral}
use Rattle.nsq_base.specs.Names.{IsAscendingBy}
use Rattle.nsq_base.specs.Places.{BelongsAt, StandsAt}
use Rattle.broker_history.specs.State.{is_ephemeral_channel}
use Rattle.broker_history.proofs.Lists.{find_put, same_bytes}
use Rattle.floor_rooms.specs.declared.stall.Stall.{Stall}
use Rattle.floor_rooms.specs.declared.room.Room.{Room}
use Rattle.floor_rooms.specs.declared.hall.Hall.{Hall}
use Rattle.floor_rooms.specs.Rooms.{channel_name, topic_name, room_in, stall_in, stall_at, put_room}
use Rattle.floor_rooms.specs.Changes.{AtRoom, KeepsSince}
use Rattle.floor_rooms.specs.Kept.{NamesTold}
use Rattle.floor_rooms.specs.Made.{AddsStall, SameStalls}
use Rattle.floor_rooms.proofs.Placing.{found_standing, none_belonging, put_at}
use Rattle.floor_rooms.proofs.Forming.{some_at}
use Rattle.floor_rooms.proofs.Dating.{if_found, keeps_reserved, leaves_put_stall, since_at_room, since_kept_then, since_put}
use Rattle.floor_rooms.proofs.Naming.{names_adds, names_kept, names_put_room, names_then}

-- one that is put in under its name is found
here : {X : Type 0} (x : X) (o : Option X) (b : Bool) → b ≡ true → (if b then Some x else o) ≡ Some x
here x o b e = ap (λ c. if c then Some x else o) e

-- room is made, and then a topic is put in where it belongs
module _ (h0 h1 h2 : Hall) (topic : List ℕ) (i : ℕ) (r : Room) (rest1 : h1 ≡ record h0 { rooms = h1.rooms; pending = h1.pending }) (rest2 : h2 ≡ record h1 { rooms = h2.rooms; unsaved_names = h1.unsaved_names || not (is_ephemeral (topic_name r)) })
    (rooms1 : h1.rooms.items ≡ h0.rooms.items) (rooms2 : h2.rooms.items ≡ put_room h1.rooms.items r) (place : BelongsAt topic_name h0.rooms.items topic i) (called : topic_name r ≡ topic) where
  came_rooms : h2.rooms.items ≡ put_room h0.rooms.items r
  came_rooms = rooms2 ∙ ap (λ xs. put_room xs r) rooms1

  came_place : BelongsAt topic_name h0.rooms.items (topic_name r) i
  came_place = subst (λ n. BelongsAt topic_name h0.rooms.items n i) (sym called) place

  pub came_names : NamesTold h0 h2
  came_names =
      names_put_room h0 h2 r i came_place came_rooms (ap (λ (x : Hall). x.unsaved_names) rest2 ∙ ap (λ (x : Hall). x.unsaved_names || not (is_ephemeral (topic_name r))) rest1)

  pub came_since : r.since ≡ None → All (λ (s : Stall). s.since ≡ None) r.stalls.items → KeepsSince h0.moment h0.rooms.items h2.rooms.items
  came_since unmarked stalls =
      since_put h0.moment h0.rooms.items h2.rooms.items r came_rooms (none_belonging topic_name h0.rooms.items (topic_name r) i came_place) unmarked
      (λ channel. if_found (λ (s : Stall). s.since ≡ None) (λ s. bytes_eq channel (channel_name s)) r.stalls.items stalls)

  pub came_there : (name : List ℕ) (s : Stall) → r.stalls.items ≡ s ∷ [] → channel_name s ≡ name → IsSome (stall_at h2.rooms.items topic name)
  came_there name s stalls named =
      let room : room_in h2.rooms.items topic ≡ Some r =
      ap (λ xs. room_in xs topic) came_rooms ∙ find_put topic_name h0.rooms.items r topic ∙ here r (room_in h0.rooms.items topic) (bytes_eq topic (topic_name r)) (ap (bytes_eq topic) called ∙ same_bytes topic) in
      let stall : stall_in r.stalls.items name ≡ Some s = ap (λ xs. stall_in xs name) stalls ∙ here s None (bytes_eq name (channel_name s)) (ap (bytes_eq name) named ∙ same_bytes name) in
      subst IsSome (sym (ap (option_and_then (λ (x : Room). stall_in x.stalls.items name)) room ∙ stall)) refl

-- room is made in a topic, and then a channel is put in where it belongs
module _ (h0 h1 h2 : Hall) (topic name : List ℕ) (i j : ℕ) (s : Stall) (rest1 : h1 ≡ record h0 { rooms = h1.rooms; pending = h1.pending }) (at1 : AtRoom i SameStalls h0.rooms.items h1.rooms.items) (at2 : AtRoom i (AddsStall s h1.pending.items h2.pending.items) h1.rooms.items h2.rooms.items)
    (unsaved : HoldsAt (λ (r : Room). h2.unsaved_names ≡ (h1.unsaved_names || not (is_ephemeral_channel (topic_name r) (channel_name s)))) h1.rooms.items i) (place : HoldsAt (λ (r : Room). BelongsAt channel_name r.stalls.items (channel_name s) j) h1.rooms.items i) where
  pub grew_names : NamesTold h0 h2
  grew_names =
      names_then h0 h1 h2 (names_kept h0.moment h0 h1 (ap (λ (x : Hall). x.unsaved_names) rest1) (keeps_reserved h0.moment i h0.rooms.items h1.rooms.items at1))
      (names_adds h1 h2 i j s h1.pending.items h2.pending.items at2 place unsaved)

  pub grew_since : s.since ≡ None → KeepsSince h0.moment h0.rooms.items h2.rooms.items
  grew_since unmarked =
      let belongs : BelongsAt channel_name at2.room.stalls.items (channel_name s) j =
      subst (λ (r : Room). BelongsAt channel_name r.stalls.items (channel_name s) j) (get_or_from_slice_get h1.rooms.items i at2.room at2.room at2.there) (place at2.room) in
      since_kept_then h0.moment h0.rooms.items h1.rooms.items h2.rooms.items (keeps_reserved h0.moment i h0.rooms.items h1.rooms.items at1)
      (since_at_room h0.moment i (AddsStall s h1.pending.items h2.pending.items) h1.rooms.items h2.rooms.items at2
      (leaves_put_stall h0.moment at2.room at2.after s (ap topic_name at2.does.is) (ap (λ (r : Room). r.since) at2.does.is) at2.does.stalls unmarked (none_belonging channel_name at2.room.stalls.items (channel_name s) j belongs)))

  pub grew_there : IsAscendingBy topic_name h1.rooms.items → StandsAt topic_name h1.rooms.items topic i → channel_name s ≡ name → IsSome (stall_at h2.rooms.items topic name)
  grew_there up stands named =
      let before : topic_name at2.room ≡ topic = ap topic_name (sym (get_or_from_slice_get h1.rooms.items i at2.room at2.room at2.there)) ∙ stands.is_key at2.room in
      let called : topic_name at2.after ≡ topic = ap topic_name at2.does.is ∙ before in
      let room : room_in h2.rooms.items topic ≡ Some at2.after =
      ap (λ xs. room_in xs topic) (at2.is ∙ put_at topic_name h1.rooms.items i at2.room at2.after up at2.there (ap topic_name at2.does.is)) ∙ find_put topic_name h1.rooms.items at2.after topic
      ∙ here at2.after (room_in h1.rooms.items topic) (bytes_eq topic (topic_name at2.after)) (ap (bytes_eq topic) called ∙ same_bytes topic) in
      let stall : stall_in at2.after.stalls.items name ≡ Some s =
      ap (λ xs. stall_in xs name) at2.does.stalls ∙ find_put channel_name at2.room.stalls.items s name ∙ here s (stall_in at2.room.stalls.items name) (bytes_eq name (channel_name s)) (ap (bytes_eq name) named ∙ same_bytes name) in
      subst IsSome (sym (ap (option_and_then (λ (x : Room). stall_in x.stalls.items name)) room ∙ stall)) refl

-- the channel is there already
pub both_found : (rooms : List Room) (topic name : List ℕ) (i j : ℕ) (room : Room) → StandsAt topic_name rooms topic i → room ≡ get_or rooms i room → StandsAt channel_name room.stalls.items name j → IsSome (stall_at rooms topic name)
both_found rooms topic name i j room stands e within =
    let d : Stall = (some_at room.stalls.items j within.in_range).0 in
    let found : room_in rooms topic ≡ Some room = found_standing topic_name rooms topic i room stands ∙ ap Some (sym e) in
    let has : stall_in room.stalls.items name ≡ Some (get_or room.stalls.items j d) = found_standing channel_name room.stalls.items name j d within in
    subst IsSome (sym (ap (option_and_then (λ (x : Room). stall_in x.stalls.items name)) found ∙ has)) refl
