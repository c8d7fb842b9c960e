-- A client joins a channel that is there, one that is made for it in its topic, or one that is made with its topic.
use Rattle.std.proofs.Common.{◌≡◌, ◌<◌, ℕ, Bool, set, not, ◌||◌, List, [], ◌∷◌, length, get_or, Some, None, set-set, refl, sym, ap, subst, ◌∙◌}
use Rattle.std.specs.Prelude.{HoldsAt}
use Rattle.std.specs.List.{All, Contains, slice_get}
use Rattle.std.specs.Vec.{with_item}
use Rattle.std.proofs.lemmas.List.Elements.{All-cons, All-nil}
use Rattle.std.proofs.lemmas.Option.{get_or_from_slice_get}
use Rattle.nsq_base.specs.Name.{is_ephemeral}
use Rattle.nsq_base.specs.Places.{BelongsAt, StandsAt}
use Rattle.nsq_base.specs.declared.options.Options.{Options}
use Rattle.nsq_outside.specs.Files.{Files}
use Rattle.broker_history.specs.State.{Client, State, is_ephemeral_channel, new_channel, new_topic, with_channel}
use Rattle.broker_history.specs.Changes.{made_channel}
use Rattle.broker_history.specs.Step.{subscribed}
use Rattle.topic_core.specs.Seen.{Seen as TopicSeen}
use Rattle.channel_core.specs.Seen.{Seen as ChannelSeen}
use Rattle.floor_rooms.specs.declared.stall.Stall.{Stall}
use Rattle.floor_rooms.specs.declared.room.Room.{Room}
use Rattle.floor_rooms.specs.declared.hall.Hall.{Hall}
use Rattle.floor_rooms.specs.Rooms.{channel_name, topic_name, room_in, put_room}
use Rattle.floor_rooms.specs.Sound.{IsSound}
use Rattle.floor_rooms.specs.Standing.{HoldsFor, IsRoomOf}
use Rattle.floor_rooms.specs.Changes.{AtRoom, AtStall, KeepsRooms, KeepsSince}
use Rattle.floor_rooms.specs.Kept.{NamesTold}
use Rattle.floor_rooms.specs.Made.{AddsStall, BeginsIdle, ChannelBeginsIdle, IsRoomWith, SameStalls}
use Rattle.floor_rooms.proofs.Placing.{none_belonging}
use Rattle.floor_rooms.proofs.Forming.{some_at}
use Rattle.floor_rooms.proofs.Marked.{IsElse, ListsRoom}
use Rattle.floor_rooms.proofs.Dating.{keeps_equal, keeps_lists, keeps_reserved, since_then_kept}
use Rattle.floor_rooms.proofs.Naming.{names_kept, names_then}
use Rattle.floor_rooms.proofs.Growing.{added_stall_sound, added_stall_stands, both_there, else_added, reserved_place, reserved_sound, reserved_stands, reserved_stands_at, room_with_of, with_sound, with_stands}
use Rattle.floor_rooms.proofs.Coming.{came_names, came_since, grew_names, grew_since}
use Rattle.floor_topics.specs.Seating.{IsFree, SameSeats}
use Rattle.floor_topics.proofs.SeatPlaces.{Sits, sits_names, sits_since, sits_sound, unseated_keeps, unseated_sound, unseated_stands}
use Rattle.floor_calls.specs.Subscribing.{IsPeopled, IsSeated, Joins, Remains}
use Rattle.floor_calls.proofs.Exchanged.{put_there, set_itself, set_put, set_there}
use Rattle.floor_calls.proofs.Bare.{bare_hall, bare_room, is_listed, joined_hall, seated_stands, sits_down}

-- a channel that is made has its name, and so has its topic
pub seated_named : (topic channel : List ℕ) (options : Options) (stall : Stall) (clients : List Client) (k : ℕ) → k < length clients → HoldsAt (IsSeated topic channel options stall) clients k → channel_name stall ≡ channel
seated_named topic channel options stall clients k within seated =
    let one : IsSeated topic channel options stall (get_or clients k (some_at clients k within).0) = seated (some_at clients k within).0 in
    ap channel_name one.seats.is ∙ ap (λ (v : ChannelSeen). v.about.name) one.fresh.channel.is

pub peopled_named : (topic channel : List ℕ) (options : Options) (room : Room) (clients : List Client) (k : ℕ) → k < length clients → HoldsAt (IsPeopled topic channel options room) clients k → topic_name room ≡ topic
peopled_named topic channel options room clients k within peopled =
    let one : IsPeopled topic channel options room (get_or clients k (some_at clients k within).0) = peopled (some_at clients k within).0 in
    ap topic_name one.is ∙ ap (λ (q : TopicSeen). q.name) one.fresh.queue

pub peopled_place : (topic channel : List ℕ) (options : Options) (room : Room) (clients : List Client) (k : ℕ) → k < length clients → HoldsAt (IsPeopled topic channel options room) clients k → (old rooms : List Room) (i : ℕ) → rooms ≡ old → BelongsAt topic_name old topic i
    → BelongsAt topic_name rooms (topic_name room) i
peopled_place topic channel options room clients k within peopled old rooms i same place =
    subst (λ (xs : List Room). BelongsAt topic_name xs (topic_name room) i) (sym same) (subst (λ (n : List ℕ). BelongsAt topic_name old n i) (sym (peopled_named topic channel options room clients k within peopled)) place)

-- what stands at a place of a topic that was read
pub stall_within : (rooms : List Room) (i j : ℕ) (room : Room) (channel : List ℕ) → room ≡ get_or rooms i room → HoldsAt (λ (r : Room). StandsAt channel_name r.stalls.items channel j) rooms i → StandsAt channel_name room.stalls.items channel j
stall_within rooms i j room channel e all = subst (λ (r : Room). StandsAt channel_name r.stalls.items channel j) (sym e) (all room)

-- what changed of a hall's list of those that may have something to do is only how much room it has
module _ (h h' : Hall) (i : ℕ) (room : Room) (at : slice_get h.rooms.items i ≡ Some room) (rest : h' ≡ record h { pending = h'.pending }) (pending : h'.pending.items ≡ h.pending.items) where
  waits_else : IsElse h h'
  waits_else = ap (λ (x : Hall). record x { rooms = h'.rooms; pending = h'.pending; unsaved_names = h'.unsaved_names; quiet_until = h'.quiet_until; unsaved_from = h'.unsaved_from }) rest

  waits_rooms : h'.rooms.items ≡ h.rooms.items
  waits_rooms = ap (λ (x : Hall). x.rooms.items) rest

  abbrev waits_at : AtRoom i SameStalls h.rooms.items h'.rooms.items
  waits_at = record { room = room; after = room; there = at; is = waits_rooms ∙ sym (set_itself h.rooms.items i room at); does = record { is = refl; stalls = refl } }

  pub waits : IsSound h → Remains h h'
  waits sound = record {
    same = record {
      rooms = keeps_equal h.moment h.rooms.items h'.rooms.items waits_rooms;
      clients = ap (λ (x : Hall). x.clients.items) rest;
      pending = pending;
      unsaved_names = ap (λ (x : Hall). x.unsaved_names) rest;
    };
    sound = reserved_sound h h' i waits_else waits_at sound (ap (λ (x : Hall). x.quiet_until) rest) (ap (λ (x : Hall). x.unsaved_from) rest) pending;
    stands = reserved_stands h h' i waits_else waits_at;
  }

-- a channel had no memory for one more client
pub unseated : (h h' : Hall) (i j : ℕ) → IsSound h → IsElse h h' → h'.quiet_until ≡ h.quiet_until → h'.unsaved_from ≡ h.unsaved_from → h'.unsaved_names ≡ h.unsaved_names → h'.clients.items ≡ h.clients.items → h'.pending.items ≡ h.pending.items → AtStall i j SameSeats h.rooms.items h'.rooms.items
    → Remains h h'
unseated h h' i j sound rest quiet from unsaved clients pending at = record {
  same = record { rooms = unseated_keeps h h' i j sound rest quiet from pending at; clients = clients; pending = pending; unsaved_names = unsaved };
  sound = unseated_sound h h' i j sound rest quiet from pending at;
  stands = unseated_stands h h' i j sound rest quiet from pending at;
}

-- and there was room for one more channel of a topic, or for one more topic, but no memory for it
pub remains_reserved : (h h' : Hall) (i : ℕ) → h' ≡ record h { rooms = h'.rooms; pending = h'.pending } → AtRoom i SameStalls h.rooms.items h'.rooms.items → h'.pending.items ≡ h.pending.items → IsSound h' → ((files : Files) (s : State) → HoldsFor h files s → HoldsFor h' files s) → Remains h h'
remains_reserved h h' i rest at pending sound stands = record {
  same = record { rooms = keeps_reserved h.moment i h.rooms.items h'.rooms.items at; clients = ap (λ (x : Hall). x.clients.items) rest; pending = pending; unsaved_names = ap (λ (x : Hall). x.unsaved_names) rest };
  sound = sound;
  stands = stands;
}

pub remains_alike : (h h' : Hall) → h' ≡ record h { rooms = h'.rooms; pending = h'.pending } → h'.rooms.items ≡ h.rooms.items → h'.pending.items ≡ h.pending.items → IsSound h' → ((files : Files) (s : State) → HoldsFor h files s → HoldsFor h' files s) → Remains h h'
remains_alike h h' rest rooms pending sound stands = record {
  same = record { rooms = keeps_equal h.moment h.rooms.items h'.rooms.items rooms; clients = ap (λ (x : Hall). x.clients.items) rest; pending = pending; unsaved_names = ap (λ (x : Hall). x.unsaved_names) rest };
  sound = sound;
  stands = stands;
}

-- a topic is listed last
module _ (h h' : Hall) (i : ℕ) (rest : h' ≡ record h { rooms = h'.rooms; pending = h'.pending }) (at : AtRoom i (ListsRoom h.pending.items h'.pending.items) h.rooms.items h'.rooms.items) where
  last_keeps : (moment : ℕ) → KeepsRooms moment h.rooms.items h'.rooms.items
  last_keeps moment = keeps_lists moment i h.pending.items h'.pending.items h.rooms.items h'.rooms.items at

  pub last_names : NamesTold h h'
  last_names = names_kept h.moment h h' (ap (λ (x : Hall). x.unsaved_names) rest) (last_keeps h.moment)

  pub last_since : (moment : ℕ) (old : List Room) → KeepsSince moment old h.rooms.items → KeepsSince moment old h'.rooms.items
  last_since moment old since = since_then_kept moment old h.rooms.items h'.rooms.items since (last_keeps moment)

  pub last_listed : (room : Room) (topic : List ℕ) → slice_get h.rooms.items i ≡ Some room → topic_name room ≡ topic → IsSound h' → Contains h'.pending.items topic
  last_listed room topic there named sound =
      let same : at.room ≡ room = sym (get_or_from_slice_get h.rooms.items i at.room room at.there) ∙ get_or_from_slice_get h.rooms.items i room room there in
      is_listed h' i at.after topic sound (ap (λ (zs : List Room). slice_get zs i) at.is ∙ set_there h.rooms.items i at.room at.after at.there) (ap (λ (r : Room). r.listed) at.does.0) (ap topic_name at.does.0 ∙ ap topic_name same ∙ named)

-- the channel is there
module _ (h0 h3 h4 : Hall) (i j k : ℕ) (topic channel : List ℕ) (room room1 : Room) (stall after : Stall) (c : Client) (sits : Sits h0 h3 i j k c room room1 stall after topic channel) (there : StandsAt topic_name h0.rooms.items topic i) (within : StandsAt channel_name room.stalls.items channel j)
    (rest4 : h4 ≡ record h3 { rooms = h4.rooms; pending = h4.pending }) (at4 : AtRoom i (ListsRoom h3.pending.items h4.pending.items) h3.rooms.items h4.rooms.items) (sound4 : IsSound h3 → IsSound h4) (stands4 : (files : Files) (s : State) → HoldsFor h3 files s → HoldsFor h4 files s) where
  stall_made : (files : Files) (s : State) → HoldsFor h0 files s → HoldsFor h0 files (made_channel s topic channel)
  stall_made files s holds =
      let done = both_there h0 topic channel i j room there (sym (get_or_from_slice_get h0.rooms.items i room room sits.at)) within files s holds in
      subst (HoldsFor h0 files) done.1 done.2

  stall_sound : IsSound h4
  stall_sound = sound4 (sits_sound h0 h3 i j k c room room1 stall after topic channel sits)

  stall_room : slice_get h3.rooms.items i ≡ Some room1
  stall_room = ap (λ (zs : List Room). slice_get zs i) sits.rooms ∙ set_there h0.rooms.items i room room1 sits.at

  pub joins_stall : Joins topic channel k h0 h4 c
  joins_stall = record {
    clients = ap (λ (x : Hall). x.clients.items) rest4 ∙ sits.clients;
    listed = last_listed h3 h4 i rest4 at4 room1 topic stall_room (ap topic_name sits.is ∙ sym sits.called) stall_sound;
    sound = stall_sound;
    names = names_then h0 h3 h4 (sits_names h0 h3 i j k c room room1 stall after topic channel sits) (last_names h3 h4 i rest4 at4);
    since = last_since h3 h4 i rest4 at4 h0.moment h0.rooms.items (sits_since h0 h3 i j k c room room1 stall after topic channel sits);
    stands = λ files s holds. stands4 files _ (seated_stands h0 h0 h3 i j k c room room1 stall after topic channel sits stall_made files s holds);
  }

-- the channel is made for it: room is made in the topic, and the channel is put in with the client
module _ (h0 h1 h2 : Hall) (i j k : ℕ) (topic channel : List ℕ) (stall : Stall) (c d : Client) (sound1 : IsSound h1) (stands1 : (files : Files) (s : State) → HoldsFor h0 files s → HoldsFor h1 files s) (rest1 : h1 ≡ record h0 { rooms = h1.rooms; pending = h1.pending })
    (at1 : AtRoom i SameStalls h0.rooms.items h1.rooms.items) (rest2 : h2 ≡ record h1 { rooms = h2.rooms; pending = h2.pending; unsaved_names = h2.unsaved_names }) (at2 : AtRoom i (AddsStall stall h1.pending.items h2.pending.items) h1.rooms.items h2.rooms.items)
    (unsaved : HoldsAt (λ (r : Room). h2.unsaved_names ≡ (h1.unsaved_names || not (is_ephemeral_channel (topic_name r) (channel_name stall)))) h1.rooms.items i) (there0 : StandsAt topic_name h0.rooms.items topic i) (place0 : HoldsAt (λ (r : Room). BelongsAt channel_name r.stalls.items channel j) h0.rooms.items i)
    (seated : IsSeated topic channel h1.options stall c) (has : slice_get h0.clients.items k ≡ Some c) (free : IsFree c) (is : d ≡ subscribed topic channel c) where
  room_bare_named : channel_name seated.bare ≡ channel
  room_bare_named = ap (λ (v : ChannelSeen). v.about.name) seated.fresh.channel.is

  room_stall_named : channel_name stall ≡ channel_name seated.bare
  room_stall_named = ap channel_name seated.seats.is

  room_place1 : HoldsAt (λ (r : Room). BelongsAt channel_name r.stalls.items channel j) h1.rooms.items i
  room_place1 = reserved_place h0.rooms.items h1.rooms.items i j channel at1 place0

  room_there1 : StandsAt topic_name h1.rooms.items topic i
  room_there1 = reserved_stands_at h0.rooms.items h1.rooms.items i topic at1 sound1.room_order there0

  room_place : HoldsAt (λ (r : Room). BelongsAt channel_name r.stalls.items (channel_name stall) j) h1.rooms.items i
  room_place = subst (λ (n : List ℕ). HoldsAt (λ (r : Room). BelongsAt channel_name r.stalls.items n j) h1.rooms.items i) (sym (room_stall_named ∙ room_bare_named)) room_place1

  room_belongs : BelongsAt channel_name at2.room.stalls.items (channel_name stall) j
  room_belongs = subst (λ (r : Room). BelongsAt channel_name r.stalls.items (channel_name stall) j) (get_or_from_slice_get h1.rooms.items i at2.room at2.room at2.there) (room_place at2.room)

  room_after : slice_get h2.rooms.items i ≡ Some at2.after
  room_after = ap (λ (zs : List Room). slice_get zs i) at2.is ∙ set_there h1.rooms.items i at2.room at2.after at2.there

  room_stall : slice_get at2.after.stalls.items j ≡ Some stall
  room_stall = ap (λ (zs : List Stall). slice_get zs j) at2.does.stalls ∙ put_there channel_name at2.room.stalls.items j stall room_belongs

  room_named : topic_name at2.after ≡ topic
  room_named = ap topic_name at2.does.is ∙ ap topic_name (sym (get_or_from_slice_get h1.rooms.items i at2.room at2.room at2.there)) ∙ room_there1.is_key at2.room

  abbrev room_bare : Room
  room_bare = bare_room j at2.after seated.bare

  abbrev hall_bare : Hall
  hall_bare = bare_hall h2 i j at2.after seated.bare

  room_bare_rest : hall_bare ≡ record h1 { rooms = hall_bare.rooms; pending = hall_bare.pending; unsaved_names = hall_bare.unsaved_names }
  room_bare_rest = ap (λ (x : Hall). record x { rooms = hall_bare.rooms }) rest2

  abbrev room_bare_at : AtRoom i (AddsStall seated.bare h1.pending.items hall_bare.pending.items) h1.rooms.items hall_bare.rooms.items
  room_bare_at = record {
    room = at2.room;
    after = room_bare;
    there = at2.there;
    is = ap (λ (zs : List Room). set zs i room_bare) at2.is ∙ set-set h1.rooms.items i at2.after room_bare;
    does = record {
      is = ap (λ (r : Room). record r { stalls = with_item at2.after.stalls j seated.bare }) at2.does.is;
      stalls = ap (λ (zs : List Stall). set zs j seated.bare) at2.does.stalls ∙ set_put channel_name at2.room.stalls.items j stall seated.bare room_belongs (sym room_stall_named);
      pending = at2.does.pending;
    };
  }

  room_bare_sound : IsSound hall_bare
  room_bare_sound = added_stall_sound h1 hall_bare i j topic channel seated.bare sound1 room_bare_rest room_bare_at room_there1 room_place1 seated.fresh

  room_made : (files : Files) (s : State) → HoldsFor h0 files s → HoldsFor hall_bare files (made_channel s topic channel)
  room_made files s holds =
      let done = added_stall_stands h1 hall_bare i j topic channel seated.bare sound1 room_bare_rest room_bare_at room_there1 room_place1 seated.fresh files s (seated.is_channel files) (stands1 files s holds) in
      subst (HoldsFor hall_bare files) done.1 done.2

  room_clients : h2.clients.items ≡ h0.clients.items
  room_clients = ap (λ (x : Hall). x.clients.items) rest2 ∙ ap (λ (x : Hall). x.clients.items) rest1

  room_sits : Sits hall_bare (joined_hall h2 k d) i j k c room_bare at2.after seated.bare stall topic channel
  room_sits = sits_down h2 i j k at2.after stall seated.bare c d topic channel room_after room_stall (sym room_named) (sym room_bare_named) seated.seats (ap (λ (cs : List Client). slice_get cs k) room_clients ∙ has) free is room_bare_sound

  room_sound : IsSound (joined_hall h2 k d)
  room_sound = sits_sound hall_bare (joined_hall h2 k d) i j k c room_bare at2.after seated.bare stall topic channel room_sits

  pub joins_room : Joins topic channel k h0 (joined_hall h2 k d) c
  joins_room = record {
    clients = ap (set h2.clients.items k) is ∙ ap (λ (cs : List Client). set cs k (subscribed topic channel c)) room_clients;
    listed = is_listed (joined_hall h2 k d) i at2.after topic room_sound room_after (ap (λ (r : Room). r.listed) at2.does.is) room_named;
    sound = room_sound;
    names = grew_names h0 h1 (joined_hall h2 k d) topic channel i j stall rest1 at1 at2 unsaved room_place;
    since = grew_since h0 h1 (joined_hall h2 k d) topic channel i j stall rest1 at1 at2 unsaved room_place (ap (λ (x : Stall). x.since) seated.seats.is ∙ seated.fresh.since);
    stands = seated_stands h0 hall_bare (joined_hall h2 k d) i j k c room_bare at2.after seated.bare stall topic channel room_sits room_made;
  }

-- the channel is made with its topic: room is made, the topic is put in with the channel and the client, and listed last
module _ (h0 h1 h2 h4 : Hall) (i k : ℕ) (topic channel : List ℕ) (room : Room) (c d : Client) (sound1 : IsSound h1) (stands1 : (files : Files) (s : State) → HoldsFor h0 files s → HoldsFor h1 files s) (rest1 : h1 ≡ record h0 { rooms = h1.rooms; pending = h1.pending })
    (rooms1 : h1.rooms.items ≡ h0.rooms.items) (rest2 : h2 ≡ record h1 { rooms = h2.rooms; unsaved_names = h1.unsaved_names || not (is_ephemeral (topic_name room)) }) (rooms2 : h2.rooms.items ≡ put_room h1.rooms.items room) (place0 : BelongsAt topic_name h0.rooms.items topic i)
    (peopled : IsPeopled topic channel h1.options room c) (has : slice_get h0.clients.items k ≡ Some c) (free : IsFree c) (is : d ≡ subscribed topic channel c) (rest4 : h4 ≡ record (joined_hall h2 k d) { rooms = h4.rooms; pending = h4.pending })
    (at4 : AtRoom i (ListsRoom h2.pending.items h4.pending.items) h2.rooms.items h4.rooms.items) (sound4 : IsSound (joined_hall h2 k d) → IsSound h4) (stands4 : (files : Files) (s : State) → HoldsFor (joined_hall h2 k d) files s → HoldsFor h4 files s) where
  hall_named : topic_name room ≡ topic
  hall_named = ap topic_name peopled.is ∙ ap (λ (q : TopicSeen). q.name) peopled.fresh.queue

  hall_place : BelongsAt topic_name h1.rooms.items (topic_name room) i
  hall_place = subst (λ (xs : List Room). BelongsAt topic_name xs (topic_name room) i) (sym rooms1) (subst (λ (n : List ℕ). BelongsAt topic_name h0.rooms.items n i) (sym hall_named) place0)

  hall_room : slice_get h2.rooms.items i ≡ Some room
  hall_room = ap (λ (zs : List Room). slice_get zs i) rooms2 ∙ put_there topic_name h1.rooms.items i room hall_place

  hall_stall : slice_get room.stalls.items 0 ≡ Some peopled.stall
  hall_stall = ap (λ (zs : List Stall). slice_get zs 0) peopled.stalls

  hall_bare_named : channel_name peopled.seated.bare ≡ channel
  hall_bare_named = ap (λ (v : ChannelSeen). v.about.name) peopled.seated.fresh.channel.is

  abbrev new_bare : Room
  new_bare = bare_room 0 room peopled.seated.bare

  abbrev new_hall : Hall
  new_hall = bare_hall h2 i 0 room peopled.seated.bare

  new_rooms : new_hall.rooms.items ≡ put_room h1.rooms.items new_bare
  new_rooms = ap (λ (zs : List Room). set zs i new_bare) rooms2 ∙ set_put topic_name h1.rooms.items i room new_bare hall_place refl

  new_else : IsElse h1 new_hall
  new_else = else_added h1 new_hall (h1.unsaved_names || not (is_ephemeral (topic_name room))) (ap (λ (x : Hall). record x { rooms = new_hall.rooms }) rest2)

  new_none : room_in h1.rooms.items topic ≡ None
  new_none = ap (λ (xs : List Room). room_in xs topic) rooms1 ∙ none_belonging topic_name h0.rooms.items topic i place0

  new_stalls : new_bare.stalls.items ≡ peopled.seated.bare ∷ []
  new_stalls = ap (λ (zs : List Stall). set zs 0 peopled.seated.bare) peopled.stalls

  abbrev new_with : IsRoomWith topic channel h1.options new_bare
  new_with = record {
    named = peopled.fresh.named;
    queue = ap (λ (r : Room). r.queue) peopled.is ∙ peopled.fresh.queue;
    since = ap (λ (r : Room). r.since) peopled.is ∙ peopled.fresh.since;
    listed = ap (λ (r : Room). r.listed) peopled.is ∙ peopled.fresh.listed;
    names = ap (λ (r : Room). r.names) peopled.is ∙ peopled.fresh.names;
    stall = peopled.seated.bare;
    stalls = new_stalls;
    fresh = peopled.seated.fresh;
  }

  new_sound : IsSound new_hall
  new_sound = with_sound h1 new_hall topic channel new_bare sound1 new_else (ap (λ (x : Hall). x.quiet_until) rest2) (ap (λ (x : Hall). x.unsaved_from) rest2) (ap (λ (x : Hall). x.pending.items) rest2) new_none new_with new_rooms

  new_of : (files : Files) → BeginsIdle files topic → ChannelBeginsIdle files topic channel → IsRoomOf files new_bare (with_channel (new_topic topic) (new_channel channel))
  new_of files idle idle_channel =
      room_with_of files topic channel peopled.bare new_bare peopled.seated.bare (ap (λ (r : Room). record r { stalls = new_bare.stalls }) peopled.is) new_stalls (peopled.is_topic files idle) (peopled.seated.is_channel files idle_channel)

  new_made : (files : Files) (s : State) → HoldsFor h0 files s → HoldsFor new_hall files (made_channel s topic channel)
  new_made files s holds =
      let done = with_stands h1 new_hall topic channel new_bare sound1 new_else (ap (λ (x : Hall). x.quiet_until) rest2) (ap (λ (x : Hall). x.unsaved_from) rest2) (ap (λ (x : Hall). x.pending.items) rest2) new_none new_with new_rooms
      files s peopled.seated.fresh.named (new_of files) (stands1 files s holds) in
      subst (HoldsFor new_hall files) done.1 done.2

  hall_clients : h2.clients.items ≡ h0.clients.items
  hall_clients = ap (λ (x : Hall). x.clients.items) rest2 ∙ ap (λ (x : Hall). x.clients.items) rest1

  hall_sits : Sits new_hall (joined_hall h2 k d) i 0 k c new_bare room peopled.seated.bare peopled.stall topic channel
  hall_sits = sits_down h2 i 0 k room peopled.stall peopled.seated.bare c d topic channel hall_room hall_stall (sym hall_named) (sym hall_bare_named) peopled.seated.seats (ap (λ (cs : List Client). slice_get cs k) hall_clients ∙ has) free is new_sound

  hall_sound : IsSound h4
  hall_sound = sound4 (sits_sound new_hall (joined_hall h2 k d) i 0 k c new_bare room peopled.seated.bare peopled.stall topic channel hall_sits)

  hall_names : NamesTold h0 (joined_hall h2 k d)
  hall_names =
      let came : NamesTold h0 h2 = came_names h0 h1 h2 topic i room rest1 rest2 rooms1 rooms2 place0 hall_named in
      record { before = came.before; same = came.same }

  hall_unmarked : All (λ (s : Stall). s.since ≡ None) room.stalls.items
  hall_unmarked =
      subst (All (λ (s : Stall). s.since ≡ None)) (sym peopled.stalls)
      (All-cons (λ (s : Stall). s.since ≡ None) peopled.stall [] (ap (λ (x : Stall). x.since) peopled.seated.seats.is ∙ peopled.seated.fresh.since) (All-nil (λ (s : Stall). s.since ≡ None)))

  pub joins_hall : Joins topic channel k h0 h4 c
  joins_hall = record {
    clients = ap (λ (x : Hall). x.clients.items) rest4 ∙ ap (set h2.clients.items k) is ∙ ap (λ (cs : List Client). set cs k (subscribed topic channel c)) hall_clients;
    listed = last_listed (joined_hall h2 k d) h4 i rest4 at4 room topic hall_room hall_named hall_sound;
    sound = hall_sound;
    names = names_then h0 (joined_hall h2 k d) h4 hall_names (last_names (joined_hall h2 k d) h4 i rest4 at4);
    since = last_since (joined_hall h2 k d) h4 i rest4 at4 h0.moment h0.rooms.items (came_since h0 h1 h2 topic i room rest1 rest2 rooms1 rooms2 place0 hall_named (ap (λ (r : Room). r.since) peopled.is ∙ peopled.fresh.since) hall_unmarked);
    stands = λ files s holds. stands4 files _ (seated_stands h0 new_hall (joined_hall h2 k d) i 0 k c new_bare room peopled.seated.bare peopled.stall topic channel hall_sits new_made files s holds);
  }

-- what joining leaves, call by call
abbrev pub joined_over : Hall → Hall → Hall
joined_over h x = record x { rooms = h.rooms; clients = h.clients; pending = h.pending; unsaved_names = h.unsaved_names }

pub reserved_rest : (h0 h1 : Hall) → h1 ≡ record h0 { rooms = h1.rooms; pending = h1.pending } → h1 ≡ record h0 { rooms = h1.rooms; clients = h1.clients; pending = h1.pending; unsaved_names = h1.unsaved_names }
reserved_rest h0 h1 e = ap (joined_over h1) e

pub room_rest : (h0 h1 h2 h3 : Hall) → h1 ≡ record h0 { rooms = h1.rooms; pending = h1.pending } → h2 ≡ record h1 { rooms = h2.rooms; pending = h2.pending; unsaved_names = h2.unsaved_names } → h3 ≡ record h2 { clients = h3.clients }
    → h3 ≡ record h0 { rooms = h3.rooms; clients = h3.clients; pending = h3.pending; unsaved_names = h3.unsaved_names }
room_rest h0 h1 h2 h3 e1 e2 e3 = ap (joined_over h3) e3 ∙ ap (joined_over h3) e2 ∙ ap (joined_over h3) e1

pub hall_rest : (h0 h1 h2 h3 h4 : Hall) (unsaved : Bool) → h1 ≡ record h0 { rooms = h1.rooms; pending = h1.pending } → h2 ≡ record h1 { rooms = h2.rooms; unsaved_names = unsaved } → h3 ≡ record h2 { clients = h3.clients } → h4 ≡ record h3 { rooms = h4.rooms; pending = h4.pending }
    → h4 ≡ record h0 { rooms = h4.rooms; clients = h4.clients; pending = h4.pending; unsaved_names = h4.unsaved_names }
hall_rest h0 h1 h2 h3 h4 unsaved e1 e2 e3 e4 = ap (joined_over h4) e4 ∙ ap (joined_over h4) e3 ∙ ap (joined_over h4) e2 ∙ ap (joined_over h4) e1

pub said_rest : (h0 h1 h2 : Hall) → h1 ≡ record h0 { rooms = h1.rooms; clients = h1.clients; pending = h1.pending; unsaved_names = h1.unsaved_names } → h2 ≡ record h1 { clients = h2.clients }
    → h2 ≡ record h0 { rooms = h2.rooms; clients = h2.clients; pending = h2.pending; unsaved_names = h2.unsaved_names }
said_rest h0 h1 h2 e1 e2 = ap (joined_over h2) e2 ∙ ap (joined_over h2) e1
