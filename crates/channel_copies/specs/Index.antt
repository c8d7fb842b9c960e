-- How flights are reached by their ids. No public clause cites this module.
use Rattle.std.specs.Prelude.{◌≡◌, ℕ, ◌^◌, ◌≤◌, Bool, List, map, Option, Some, None, All, count_by}
use Rattle.backlog.specs.Seen.{FitsLimit}
use Rattle.due_heap.specs.declared.key.Key.{Key}
use Rattle.due_heap.specs.Heap.{Entry, entry_of}
use Rattle.channel_copies.specs.declared.flight.Flight.{Flight}
use Rattle.channel_copies.specs.Flights.{has_id, has_client}

abbrev pub items_of : List (Entry Flight) → List Flight
items_of es = map (λ e. e.item) es

abbrev pub is_of : List ℕ → Entry Flight → Bool
is_of id e = has_id id e.item

-- the key reaches an entry of this id, and there is no other of it
pub record Reaches (es : List (Entry Flight)) (id : List ℕ) (key : Key) : Type 0 where
  pub entry : Entry Flight
  pub there : entry_of key es ≡ Some entry
  pub of : entry.item.message.id ≡ id
  pub once : count_by (is_of id) es ≡ 1

-- no key for an id of which there is no entry, and else the key of the only one
abbrev pub Shows : List (Entry Flight) → List ℕ → Option Key → Type 0
Shows es id None = count_by (is_of id) es ≡ 0
Shows es id (Some key) = Reaches es id key

-- a flight stands in the heap by its due moment, its body is short, and it was sent at a moment in range
pub record IsFit (e : Entry Flight) : Type 0 where
  pub due : e.due ≡ e.item.due
  pub short : FitsLimit e.item.message
  pub sent : e.item.sent ≤ 2 ^ 62

pub record IsIndexed (es : List (Entry Flight)) (index : List ℕ → Option Key) : Type 0 where
  pub shows : (id : List ℕ) → Shows es id (index id)
  pub fit : All IsFit es

abbrev pub is_with : ℕ → Entry Flight → Bool
is_with client e = has_client client e.item

-- the index, and how many each client has
pub record IsKept (es : List (Entry Flight)) (index : List ℕ → Option Key) (held : ℕ → ℕ) : Type 0 where
  pub indexed : IsIndexed es index
  pub counted : (client : ℕ) → held client ≡ count_by (is_with client) es
