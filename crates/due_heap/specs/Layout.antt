-- How a `DueHeap` keeps its items. No public clause cites this module.
use Rattle.std.specs.Prelude.{◌≡◌, ◌≢◌, ◌⊎◌, ℕ, ◌+◌, ◌-◌, ◌*◌, ◌^◌, ◌<◌, ◌≤◌, List, [], ◌∷◌, length, Option, Some, None, slice_index_or, nat_lt, ◌==◌, if◌then◌else◌}
use Rattle.due_heap.specs.declared.key.Key.{Key}
use Rattle.due_heap.specs.declared.node.Node.{Node}
use Rattle.due_heap.specs.declared.slots.Held.{Held}
use Rattle.due_heap.specs.Heap.{Entry}

abbrev pub no_node : Node
no_node = record { due = 0; number = 0; slot = 0 }

abbrev pub node_at : List Node → ℕ → Node
node_at order i = slice_index_or order i no_node

abbrev pub place_of : List ℕ → ℕ → ℕ
place_of places s = slice_index_or places s 0

-- the node of a slot
abbrev pub node_of : List Node → List ℕ → ℕ → Node
node_of order places s = node_at order (place_of places s)

-- b isn't before a: by the due moments, then by the numbers, then by the slots
pub record NotAfter (a b : Node) : Type 0 where
  pub due : a.due ≤ b.due
  pub number : a.due ≡ b.due → a.number ≤ b.number
  pub slot : a.due ≡ b.due → a.number ≡ b.number → a.slot ≤ b.slot

-- each place knows its slot, and each slot its place
pub record Matched (order : List Node) (places : List ℕ) : Type 0 where
  pub same_length : length places ≡ length order
  pub slot_in : (i : ℕ) → i < length order → (node_at order i).slot < length order
  pub back : (i : ℕ) → i < length order → place_of places (node_at order i).slot ≡ i
  pub place_in : (s : ℕ) → s < length order → place_of places s < length order
  pub there : (s : ℕ) → s < length order → (node_of order places s).slot ≡ s

-- no node of the first n is before its parent
abbrev pub IsHeap : List Node → ℕ → Type 0
IsHeap order n = (p c : ℕ) → p * 2 + 1 ≤ c → c ≤ p * 2 + 2 → c < n → NotAfter (node_at order p) (node_at order c)

-- the first n would be a heap, were the node at j taken out
pub record IsHeapBut (order : List Node) (n j : ℕ) : Type 0 where
  pub others : (p c : ℕ) → p * 2 + 1 ≤ c → c ≤ p * 2 + 2 → c < n → p ≢ j → c ≢ j → NotAfter (node_at order p) (node_at order c)
  pub across : (p c : ℕ) → p * 2 + 1 ≤ j → j ≤ p * 2 + 2 → j * 2 + 1 ≤ c → c ≤ j * 2 + 2 → c < n → NotAfter (node_at order p) (node_at order c)

-- no child of j among the first n is before the node at c
abbrev pub AboveChildren : List Node → ℕ → ℕ → ℕ → Type 0
AboveChildren order n j c = (k : ℕ) → j * 2 + 1 ≤ k → k ≤ j * 2 + 2 → k < n → NotAfter (node_at order c) (node_at order k)

-- the node at j isn't before its parent
abbrev pub BelowParent : List Node → ℕ → Type 0
BelowParent order j = (p : ℕ) → p * 2 + 1 ≤ j → j ≤ p * 2 + 2 → NotAfter (node_at order p) (node_at order j)

-- the nodes at two places are in each other's place
pub record Exchanged (old new : List Node) (i j : ℕ) : Type 0 where
  pub same_length : length new ≡ length old
  pub at_i : node_at new i ≡ node_at old j
  pub at_j : node_at new j ≡ node_at old i
  pub others : (k : ℕ) → k ≢ i → k ≢ j → node_at new k ≡ node_at old k

-- only nodes among the first n are at other places
pub record Moved (n : ℕ) (order : List Node) (places : List ℕ) (order' : List Node) (places' : List ℕ) : Type 0 where
  pub same_length : length order' ≡ length order
  pub nodes : (s : ℕ) → s < length order → node_of order' places' s ≡ node_of order places s
  pub inside : (s : ℕ) → s < length order → place_of places s < n → place_of places' s < n
  pub outside : (s : ℕ) → s < length order → n ≤ place_of places s → place_of places' s ≡ place_of places s

-- the slot now has a node, among the first count + 1: all others keep theirs, and where they were within the first count they are
-- within the first count + 1
pub record Attached (count slot due number : ℕ) (order : List Node) (places : List ℕ) (order' : List Node) (places' : List ℕ) : Type 0 where
  pub same_length : length order' ≡ length order
  pub here : node_of order' places' slot ≡ record { due = due; number = number; slot = slot }
  pub place : place_of places' slot < count + 1
  pub nodes : (s : ℕ) → s < length order → s ≢ slot → node_of order' places' s ≡ node_of order places s
  pub inside : (s : ℕ) → s < length order → place_of places s < count + 1 → place_of places' s < count + 1
  pub outside : (s : ℕ) → s < length order → count + 1 ≤ place_of places s → place_of places' s ≡ place_of places s

-- the slot's node now stands behind the first count: all others among the first count + 1 are among the first count
pub record Detached (count slot : ℕ) (order : List Node) (places : List ℕ) (order' : List Node) (places' : List ℕ) : Type 0 where
  pub same_length : length order' ≡ length order
  pub place : count ≤ place_of places' slot
  pub nodes : (s : ℕ) → s < length order → node_of order' places' s ≡ node_of order places s
  pub inside : (s : ℕ) → s < length order → s ≢ slot → place_of places s < count + 1 → place_of places' s < count
  pub outside : (s : ℕ) → s < length order → count + 1 ≤ place_of places s → place_of places' s ≡ place_of places s

-- swaps within n places at most d times, where n < 2^(d + 1)
abbrev pub FewSwaps : ℕ → ℕ → ℕ → Type 0
FewSwaps n before now = (d : ℕ) → n < 2 ^ (d + 1) → now ≤ before + 2 * d

module _ {T : Type 0} where
  -- the entry of an item in this slot
  abbrev pub entry_at : ℕ → Held T → Entry T
  entry_at s h = record { key = record { slot = s; number = h.number }; due = h.due; item = h.item }

  -- an entry among others that stand by rising numbers: at its place, before those of its own number
  abbrev pub among : Entry T → List (Entry T) → List (Entry T)
  among e [] = e ∷ []
  among e (f ∷ fs) = if nat_lt f.key.number e.key.number then f ∷ among e fs else e ∷ f ∷ fs

  -- the entries of these slots, of which the first is s: by rising numbers, and of one number by rising slots
  abbrev pub listed : ℕ → List (Option (Held T)) → List (Entry T)
  listed s [] = []
  listed s (None ∷ slots) = listed (s + 1) slots
  listed s (Some h ∷ slots) = among (entry_at s h) (listed (s + 1) slots)

  abbrev pub item_if : ℕ → Option (Held T) → Option T
  item_if number None = None
  item_if number (Some h) = if h.number == number then Some h.item else None

  -- the item of a key
  abbrev pub item_at : List (Option (Held T)) → Key → Option T
  item_at slots k = item_if k.number (slice_index_or slots k.slot None)

  -- a free slot stands behind the heap, and one with an item in it, with the same due moment and number, which were given before
  abbrev pub Shows : ℕ → ℕ → ℕ → Node → ℕ → Option (Held T) → Type 0
  Shows count made s node place None = count ≤ place
  Shows count made s node place (Some h) = (place < count) × (node ≡ record { due = h.due; number = h.number; slot = s }) × ((h.number < made) ⊎ (made ≡ 2 ^ 64 - 1))

  pub record IsSound (order : List Node) (places : List ℕ) (slots : List (Option (Held T))) (count made : ℕ) : Type 0 where
    pub matched : Matched order places
    pub as_long : length slots ≡ length order
    pub within : count ≤ length order
    pub heap : IsHeap order count
    pub counted : length (listed 0 slots) ≡ count
    pub fits : made < 2 ^ 64
    pub shown : (s : ℕ) → s < length order → Shows count made s (node_of order places s) (place_of places s) (slice_index_or slots s None)

  -- so many free slots stand behind all others
  pub record SlotsAdded (more : ℕ) (order : List Node) (places : List ℕ) (slots : List (Option (Held T))) (order' : List Node) (places' : List ℕ) (slots' : List (Option (Held T))) : Type 0 where
    pub order_longer : length order' ≡ length order + more
    pub places_longer : length places' ≡ length places + more
    pub slots_longer : length slots' ≡ length slots + more
    pub same : listed 0 slots' ≡ listed 0 slots
    pub sound : (count made : ℕ) → IsSound order places slots count made → IsSound order' places' slots' count made
