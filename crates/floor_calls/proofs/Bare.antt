-- A hall of which one channel has a client, and the hall that it would be if the channel didn't have it yet.
use Rattle.std.proofs.Common.{◌≡◌, ℕ, set, true, List, Some, refl, sym, ap, subst}
use Rattle.std.specs.List.{Contains, slice_get}
use Rattle.std.specs.Vec.{with_item}
use Rattle.nsq_outside.specs.Files.{Files}
use Rattle.broker_history.specs.State.{Client, State, with_client}
use Rattle.broker_history.specs.Changes.{made_channel}
use Rattle.broker_history.specs.Step.{subscribed}
use Rattle.floor_rooms.specs.declared.stall.Stall.{Stall}
use Rattle.floor_rooms.specs.declared.room.Room.{Room}
use Rattle.floor_rooms.specs.declared.hall.Hall.{Hall}
use Rattle.floor_rooms.specs.Rooms.{channel_name, topic_name}
use Rattle.floor_rooms.specs.Sound.{IsRoomSound, IsSound}
use Rattle.floor_rooms.specs.Standing.{HoldsFor}
use Rattle.floor_rooms.proofs.Sounding.{at_all}
use Rattle.floor_topics.specs.Seating.{IsFree, Seats}
use Rattle.floor_topics.proofs.SeatPlaces.{Sits, sits_stands}
use Rattle.floor_calls.proofs.Exchanged.{set_back, set_there}

abbrev pub bare_room : (j : ℕ) → Room → (bare : Stall) → Room
bare_room j room bare = record room { stalls = with_item room.stalls j bare }

abbrev pub bare_hall : Hall → (i j : ℕ) → Room → (bare : Stall) → Hall
bare_hall h i j room bare = record h { rooms = with_item h.rooms i (bare_room j room bare) }

-- and the hall in which the client knows of it
abbrev pub joined_hall : Hall → (k : ℕ) → Client → Hall
joined_hall h k d = record h { clients = with_item h.clients k d }

-- so the client takes a seat, from the one to the other
pub sits_down : (h : Hall) (i j k : ℕ) (room : Room) (stall bare : Stall) (c d : Client) (topic channel : List ℕ) → slice_get h.rooms.items i ≡ Some room → slice_get room.stalls.items j ≡ Some stall → topic ≡ topic_name room → channel ≡ channel_name bare
    → Seats c.number (Some (record { timeout = c.timeout; ready = 0 })) bare stall → slice_get h.clients.items k ≡ Some c → IsFree c → d ≡ subscribed topic channel c → IsSound (bare_hall h i j room bare)
    → Sits (bare_hall h i j room bare) (joined_hall h k d) i j k c (bare_room j room bare) room bare stall topic channel
sits_down h i j k room stall bare c d topic channel at there called named seats has free is sound = record {
  sound = sound;
  free = free;
  client = has;
  at = set_there h.rooms.items i room (bare_room j room bare) at;
  there = set_there room.stalls.items j stall bare there;
  called = called;
  named = named;
  rest = refl;
  pending = refl;
  rooms = sym (set_back h.rooms.items i room (bare_room j room bare) at);
  is = refl;
  stalls = sym (set_back room.stalls.items j stall bare there);
  seats = seats;
  clients = ap (set h.clients.items k) is;
}

-- what a hall stands for in which a channel was made, and a client took a seat there
pub seated_stands : (h0 h h1 : Hall) (i j k : ℕ) (c : Client) (room room1 : Room) (stall after : Stall) (topic channel : List ℕ) → Sits h h1 i j k c room room1 stall after topic channel
    → ((files : Files) (s : State) → HoldsFor h0 files s → HoldsFor h files (made_channel s topic channel)) → (files : Files) (s : State) → HoldsFor h0 files s → HoldsFor h1 files (with_client (made_channel s topic channel) (subscribed topic channel c))
seated_stands h0 h h1 i j k c room room1 stall after topic channel sits made files s holds =
    let u : State = made_channel s topic channel in
    subst (λ (n : List ℕ). HoldsFor h1 files (with_client u (subscribed n channel c))) (sym sits.called)
    (subst (λ (n : List ℕ). HoldsFor h1 files (with_client u (subscribed (topic_name room) n c))) (sym sits.named) (sits_stands h h1 i j k c room room1 stall after topic channel sits files u (made files s holds)))

-- a topic that is marked as listed stands in the list
pub is_listed : (h : Hall) (i : ℕ) (room : Room) (topic : List ℕ) → IsSound h → slice_get h.rooms.items i ≡ Some room → room.listed ≡ true → topic_name room ≡ topic → Contains h.pending.items topic
is_listed h i room topic sound at listed named = subst (λ (n : List ℕ). Contains h.pending.items n) named ((at_all (IsRoomSound h) h.rooms.items i room sound.rooms at).listed listed)
