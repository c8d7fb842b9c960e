-- What a client's coming to a channel, and its going, make of the channel as a hall keeps it.
use Rattle.std.specs.Prelude.{◌≡◌, ◌<◌, ◌≤◌, ℕ, true, HoldsAt, nat_eq, if◌then◌else◌, List, All, AllPairs, length, take, drop, Option, Some, None, is_some, slice_get, Result, Ok, Err}
use Rattle.std.specs.List.{list_any}
use Rattle.broker_history.specs.State.{Client, is_fresh}
use Rattle.channel_copies.specs.Clients.{PutsClient}
use Rattle.channel_copies.specs.declared.clients.Client as copies
use Rattle.floor_rooms.specs.Seen.{held_channel}
use Rattle.floor_rooms.specs.declared.room.Room.{Room}
use Rattle.floor_rooms.specs.declared.stall.Stall.{Stall}
use Rattle.floor_rooms.specs.Rooms.{channel_name, topic_name}

-- ascending numbers
abbrev pub AreAscending : List ℕ → Type 0
AreAscending numbers = AllPairs (λ a b. a < b) numbers

-- where a number stands among ascending ones, or else where it belongs
abbrev pub IsNumberPlace : List ℕ → ℕ → Result ℕ ℕ → Type 0
IsNumberPlace numbers n (Ok p) = slice_get numbers p ≡ Some n
IsNumberPlace numbers n (Err p) = (p ≤ length numbers) × (All (λ m. m < n) (take p numbers) × All (λ m. n < m) (drop p numbers))

-- of a channel's clients the one of this number is this one from now on, or isn't there any more; and nothing else of the channel changed
pub record Seats (number : ℕ) (seat : Option copies.Client) (old new : Stall) : Type 0 where
  pub is : new ≡ record old { channel = record old.channel { clients = new.channel.clients }; members = new.members }
  pub clients : PutsClient number seat old.channel.clients new.channel.clients
  pub listed : (n : ℕ) → list_any (nat_eq n) new.members.items ≡ (if nat_eq number n then is_some seat else list_any (nat_eq n) old.members.items)
  pub order : AreAscending new.members.items

-- nothing of it changed but for how many clients there is room
pub record SameSeats (old new : Stall) : Type 0 where
  pub is : new ≡ record old { members = new.members }
  pub members : new.members.items ≡ old.members.items

-- what is so of the topic, the channel and the client that stand at these places
abbrev pub AtSeat : List Room → List Client → (i j k : ℕ) → (P : Room → Stall → Client → Type 0) → Type 0
AtSeat rooms clients i j k P = HoldsAt (λ r. HoldsAt (λ s. HoldsAt (λ c. P r s c) clients k) r.stalls.items j) rooms i

-- a client that has no channel yet
pub record IsFree (c : Client) : Type 0 where
  pub fresh : is_fresh c.phase ≡ true
  pub none : held_channel c.phase c.route ≡ None

-- where a client's channel stands, where it has one
pub record HasSeat (rooms : List Room) (c : Client) (i j : ℕ) : Type 0 where
  pub room : Room
  pub stall : Stall
  pub at : slice_get rooms i ≡ Some room
  pub there : slice_get room.stalls.items j ≡ Some stall
  pub held : held_channel c.phase c.route ≡ Some (record { topic = topic_name room; channel = channel_name stall })

abbrev pub IsSeatOf : List Room → Client → Option (ℕ × ℕ) → Type 0
IsSeatOf rooms c None = held_channel c.phase c.route ≡ None
IsSeatOf rooms c (Some places) = HasSeat rooms c places.0 places.1
