-- Where the channel of a client stands, and what is known of it there.
use Rattle.std.proofs.Common.{◌≡◌, ◌<◌, ℕ, true, false, not, ◌&&◌, if◌then◌else◌, List, [], ◌∷◌, length, get_or, Option, Some, None, HoldsAt, nat_lt, refl, sym, ap, subst, ◌∙◌, arith}
use Rattle.std.specs.Prelude.{IfSome, IsSome, option_and_then, slice_get}
use Rattle.std.specs.List.{All}
use Rattle.std.specs.Str.{bytes_eq}
use Rattle.std.proofs.lemmas.Bool.{ltb-true}
use Rattle.std.proofs.lemmas.Option.{get_or_from_slice_get, slice_get-get_or}
use Rattle.broker_history.proofs.Lists.{same_bytes}
use Rattle.broker_history.specs.State.{Client, Phase, Fresh, Subscribed, Closing, Lost, Route, flying_with, has_channel, is_lost, is_on}
use Rattle.channel_copies.specs.Clients.{client_of}
use Rattle.channel_core.specs.Answers.{IsYours}
use Rattle.channel_core.specs.Seen.{channel_with}
use Rattle.channel_core.proofs.Copies.{flying_with_is}
use Rattle.floor_rooms.specs.Seen.{held_channel, route_named}
use Rattle.floor_acts.specs.Replies.{copies_at, flies_in, stall_on}
use Rattle.floor_acts.proofs.Found.{none_at}
use Rattle.floor_rooms.specs.declared.room.Room.{Room}
use Rattle.floor_rooms.specs.declared.hall.Hall.{Hall}
use Rattle.floor_rooms.specs.Places.{IsPlace, IsThere}
use Rattle.floor_rooms.specs.Rooms.{channel_name, topic_name, client_in, room_in, stall_in, stall_at}
use Rattle.floor_rooms.specs.Sound.{AreMembers, HasItsChannel, IsRoomSound, IsSound, IsStallSound, member_of}
use Rattle.floor_rooms.proofs.Placing.{found_at}
use Rattle.floor_rooms.proofs.Sounding.{at_all}
use Rattle.floor_acts.specs.declared.spots.Spot.{Spot}
use Rattle.floor_acts.specs.Spots.{IsSpotOf, StandsIn}
use Rattle.floor_acts.proofs.Putting.{holds_read, read_holds}

-- what stands at a place where something does
item_at : {X : Type 0} (xs : List X) (i : ℕ) → i < length xs → (x : X) × (slice_get xs i ≡ Some x)
item_at [] i l = absurd (omega (arith, l))
item_at (x ∷ xs) i l = (get_or (x ∷ xs) i x, slice_get-get_or (x ∷ xs) i x l)

there_item : {X : Type 0} (key : X → List ℕ) (xs : List X) (name : List ℕ) (i : ℕ) → IsThere key xs name i → (x : X) × (slice_get xs i ≡ Some x) × (key x ≡ name)
there_item key xs name i h =
    let at = item_at xs i h.stands.in_range in
    (at.0, at.1, ap key (sym (get_or_from_slice_get xs i at.0 at.0 at.1)) ∙ h.stands.is_key at.0)

-- it has one, which is there
module _ (h : Hall) (k : ℕ) (x : Client) (names : List ℕ × List ℕ) (sound : IsSound h) (l : k < length h.clients.items) (e : x ≡ get_or h.clients.items k x) (held : Some (route_named names) ≡ held_channel x.phase x.route) where
  has : IsSome (stall_at h.rooms.items names.0 names.1)
  has = subst (λ o. IfSome o (λ (route : Route). IsSome (stall_at h.rooms.items route.topic route.channel))) (sym held) (read_holds (HasItsChannel h) h.clients.items k x l e (λ d. sound.channels k d l))

  pub lost_stall : (i : ℕ) → IsThere topic_name h.rooms.items names.0 i → HoldsAt (λ r. IsPlace channel_name r.stalls.items names.1 None) h.rooms.items i → ⊥
  lost_stall i there none = let no = subst IsSome (sym (none_at h.rooms.items names.0 names.1 i there none)) has in absurd (let gone : ⊥ = cc in gone)

  pub spot_found : (i j : ℕ) → IsThere topic_name h.rooms.items names.0 i → HoldsAt (λ r. IsPlace channel_name r.stalls.items names.1 (Some j)) h.rooms.items i → HoldsAt (λ c. IsSpotOf h.rooms.items (held_channel c.phase c.route) (Some (record { room = i; stall = j }))) h.clients.items k
  spot_found i j there in_room =
      let room = there_item topic_name h.rooms.items names.0 i there in
      let within : IsThere channel_name room.0.stalls.items names.1 j = subst (λ (r : Room). IsThere channel_name r.stalls.items names.1 j) (get_or_from_slice_get h.rooms.items i room.0 room.0 room.1) (in_room room.0) in
      let stall = there_item channel_name room.0.stalls.items names.1 j within in
      holds_read (λ c. IsSpotOf h.rooms.items (held_channel c.phase c.route) (Some (record { room = i; stall = j }))) h.clients.items k x l e
      (subst (λ o. IsSpotOf h.rooms.items o (Some (record { room = i; stall = j }))) held (record { room = room.0; stall = stall.0; there = room.1; has = stall.1; topic = room.2; channel = stall.2 }))

-- what a spot says of the names
pub spot_some : (rooms : List Room) (o : Option Route) (spot : Spot) → IsSpotOf rooms o (Some spot) → (route : Route) × (o ≡ Some route) × StandsIn rooms spot route
spot_some rooms None spot h = absurd h
spot_some rooms (Some route) spot h = (route, refl, h)

-- who holds a channel is on its route
pub held_route : (p : Phase) (r : Option Route) (route : Route) → held_channel p r ≡ Some route → (r ≡ Some route) × (is_lost p ≡ false)
held_route Fresh r route e = (e, refl)
held_route Subscribed r route e = (e, refl)
held_route Closing r route e = (e, refl)
held_route Lost r route e = absurd (let no : ⊥ = cc in no)

pub on_its : (c : Client) (topic channel : List ℕ) (route : Route) → held_channel c.phase c.route ≡ Some route → topic ≡ route.topic → channel ≡ route.channel → has_channel topic channel c ≡ true
on_its c topic channel route held t k =
    let on = held_route c.phase c.route route held in
    ap (λ b. not b && is_on c.route topic channel) on.1 ∙ ap (λ r. is_on r topic channel) on.0 ∙ ap (λ b. b && bytes_eq channel route.channel) (ap (λ n. bytes_eq n route.topic) t ∙ same_bytes route.topic) ∙ ap (λ n. bytes_eq n route.channel) k ∙ same_bytes route.channel

-- the channel that stands at a spot, of a client that has it
module _ (h : Hall) (x : Client) (spot : Spot) (route : Route) (sound : IsSound h) (held : held_channel x.phase x.route ≡ Some route) (s : StandsIn h.rooms.items spot route) where
  pub room_here : IsRoomSound h s.room
  room_here = at_all (IsRoomSound h) h.rooms.items spot.room s.room sound.rooms s.there

  pub stall_here : IsStallSound h.options (topic_name s.room) h.quiet_until h.unsaved_from s.stall
  stall_here = at_all (IsStallSound h.options (topic_name s.room) h.quiet_until h.unsaved_from) s.room.stalls.items spot.stall s.stall room_here.stalls s.has

  found_here : stall_at h.rooms.items route.topic route.channel ≡ Some s.stall
  found_here =
      ap (option_and_then (λ (r : Room). stall_in r.stalls.items route.channel)) (ap (room_in h.rooms.items) (sym s.topic) ∙ found_at topic_name h.rooms.items spot.room s.room sound.room_order s.there)
      ∙ ap (stall_in s.room.stalls.items) (sym s.channel) ∙ found_at channel_name s.room.stalls.items spot.stall s.stall room_here.order s.has

  members_here : AreMembers h.clients.items (topic_name s.room) s.stall
  members_here =
      at_all (AreMembers h.clients.items (topic_name s.room)) s.room.stalls.items spot.stall s.stall
      (at_all (λ (r : Room). All (AreMembers h.clients.items (topic_name r)) r.stalls.items) h.rooms.items spot.room s.room sound.members s.there) s.has

  -- it knows the client
  pub member_here : client_in h.clients.items x.number ≡ Some x → client_of s.stall.channel.clients x.number ≡ Some (record { timeout = x.timeout; ready = x.ready })
  member_here found =
      members_here.known x.number ∙ ap (member_of (topic_name s.room) (channel_name s.stall)) found
      ∙ ap (λ b. if b then Some (record { timeout = x.timeout; ready = x.ready }) else None) (on_its x (topic_name s.room) (channel_name s.stall) route held s.topic s.channel)

  -- and has what flies with it
  pub yours_here : (id : List ℕ) → flies_in h x id ≡ true → IsYours x.number id s.stall.channel
  yours_here id flies = record {
    flies = λ waits.
        let some : 0 < flying_with x.number id (channel_with s.stall.channel []).copies = ltb-true 0 _ (sym (ap (λ o. nat_lt 0 (flying_with x.number id (copies_at (stall_on h.rooms.items o)))) held ∙ ap (λ o. nat_lt 0 (flying_with x.number id (copies_at o))) found_here) ∙ flies) in
        subst (λ n. 0 < n) (flying_with_is x.number id [] s.stall.channel.flights s.stall.channel.deferred ∙ sym (flying_with_is x.number id waits s.stall.channel.flights s.stall.channel.deferred)) some;
  }
