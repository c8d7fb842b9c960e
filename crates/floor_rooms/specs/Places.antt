-- Places in a hall: where a topic stands, a channel in its topic, and a client.
use Rattle.std.specs.Prelude.{◌≡◌, ℕ, List, Option, Some, None, find, slice_index_or}
use Rattle.std.specs.Str.{bytes_eq}
use Rattle.nsq_base.specs.Places.{StandsAt}
use Rattle.broker_history.specs.State.{Client}
use Rattle.floor_rooms.specs.ClientPlaces as clients
use Rattle.floor_rooms.specs.Rooms.{client_in}

-- the item of this name stands at a place, and is the one that is found by the name
pub record IsThere {X : Type 0} (key : X → List ℕ) (items : List X) (name : List ℕ) (i : ℕ) : Type 0 where
  pub stands : StandsAt key items name i
  pub found : (d : X) → find (λ x. bytes_eq name (key x)) items ≡ Some (slice_index_or items i d)

-- where the item of this name stands; None exactly where there is none
abbrev pub IsPlace : {X : Type 0} → (key : X → List ℕ) → (items : List X) → (name : List ℕ) → Option ℕ → Type 0
IsPlace key items name None = find (λ x. bytes_eq name (key x)) items ≡ None
IsPlace key items name (Some i) = IsThere key items name i

-- where the client of this number stands; None exactly where there is none
abbrev pub IsClientPlace : List Client → ℕ → Option ℕ → Type 0
IsClientPlace items number None = client_in items number ≡ None
IsClientPlace items number (Some i) = clients.StandsAt items number i
