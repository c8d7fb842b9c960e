-- A topic that is put into a hall with a mark, where room was made: names that are saved, and marks.
use Rattle.std.proofs.Common.{◌≡◌, ◌||◌, not, ℕ, Bool, List, [], Some, sym, ap, subst, ◌∙◌}
use Rattle.nsq_base.specs.Name.{is_ephemeral}
use Rattle.nsq_base.specs.Places.{BelongsAt}
use Rattle.floor_rooms.specs.declared.room.Room.{Room}
use Rattle.floor_rooms.specs.declared.hall.Hall.{Hall}
use Rattle.floor_rooms.specs.Rooms.{put_room, topic_name}
use Rattle.floor_rooms.specs.Changes.{KeepsSince}
use Rattle.floor_rooms.specs.Kept.{NamesTold}
use Rattle.floor_rooms.proofs.Placing.{none_belonging}
use Rattle.floor_rooms.proofs.Naming.{names_put_room}
use Rattle.floor_rooms.proofs.Marked.{IsElse}
use Rattle.floor_topics.proofs.Marks.{since_comes}

pub added_else : (h h' : Hall) (u : ℕ) (unsaved : Bool) → h' ≡ record h { rooms = h'.rooms; unsaved_names = unsaved; unsaved_from = u } → IsElse h h'
added_else h h' u unsaved e = ap (λ (x : Hall). record x { rooms = h'.rooms; pending = h'.pending; unsaved_names = h'.unsaved_names; quiet_until = h'.quiet_until; unsaved_from = h'.unsaved_from }) e

module _ (h0 h1 h2 : Hall) (i : ℕ) (r : Room) (topic : List ℕ) (place : BelongsAt topic_name h0.rooms.items topic i) (called : topic_name r ≡ topic) (e1 : h1 ≡ record h0 { rooms = h1.rooms; pending = h1.pending }) (same : h1.rooms.items ≡ h0.rooms.items) (rooms : h2.rooms.items ≡ put_room h1.rooms.items r) where
  came_rooms : h2.rooms.items ≡ put_room h0.rooms.items r
  came_rooms = rooms ∙ ap (λ xs. put_room xs r) same

  came_place : BelongsAt topic_name h0.rooms.items (topic_name r) i
  came_place = subst (λ n. BelongsAt topic_name h0.rooms.items n i) (sym called) place

  pub came_names_of : (n : ℕ) → h2.unsaved_names ≡ (h1.unsaved_names || not (is_ephemeral (topic_name r))) → NamesTold h0 (record h2 { ids_used = n })
  came_names_of n unsaved = names_put_room h0 (record h2 { ids_used = n }) r i came_place came_rooms (unsaved ∙ ap (λ (x : Hall). x.unsaved_names || not (is_ephemeral (topic_name r))) e1)

  pub came_since : r.since ≡ Some h0.moment → r.stalls.items ≡ [] → KeepsSince h0.moment h0.rooms.items h2.rooms.items
  came_since since stalls = since_comes h0.moment h0.rooms.items h2.rooms.items r came_rooms (none_belonging topic_name h0.rooms.items (topic_name r) i came_place) since stalls

pub came_names : (h0 h1 h2 : Hall) (i u n : ℕ) (r : Room) (topic : List ℕ) → BelongsAt topic_name h0.rooms.items topic i → topic_name r ≡ topic → h1 ≡ record h0 { rooms = h1.rooms; pending = h1.pending } → h1.rooms.items ≡ h0.rooms.items
    → h2 ≡ record h1 { rooms = h2.rooms; unsaved_names = h1.unsaved_names || not (is_ephemeral (topic_name r)); unsaved_from = u } → h2.rooms.items ≡ put_room h1.rooms.items r → NamesTold h0 (record h2 { ids_used = n })
came_names h0 h1 h2 i u n r topic place called e1 same e2 rooms = came_names_of h0 h1 h2 i r topic place called e1 same rooms n (ap (λ (x : Hall). x.unsaved_names) e2)
