-- What a contract sees of a `DueHeap`.
use Rattle.std.specs.Prelude.{◌≡◌, ◌≢◌, ℕ, ◌+◌, ◌*◌, ◌^◌, ◌<◌, ◌≤◌, Bool, ◌&&◌, ◌==◌, not, if◌then◌else◌, nat_le, List, [], ◌∷◌, ◌++◌, filter, Option, Some, None, refl}
use Rattle.std.specs.Coded.{Coded, code_by, coded×, coded_ℕ, coded_list}
use Rattle.due_heap.specs.declared.key.Key.{Key}

-- an item that waits, with its key and the moment at which it is due
pub record Entry (T : Type 0) : Type 0 where
  pub key : Key
  pub due : ℕ
  pub item : T

-- the entries in the order in which they were inserted (one that comes after 2^64 - 1 others may stand anywhere), how many
-- insertions were made (2^64 - 1 where there were more), and how many more items go in without memory
pub record Heap (T : Type 0) : Type 0 where
  pub entries : List (Entry T)
  pub made : ℕ
  pub spare : ℕ

abbrev pub entry_code : {T : Type 0} → Coded T → Coded (Entry T)
entry_code {T} code =
    code_by
    ((ℕ × ℕ) × (ℕ × T))
    (coded× (coded× coded_ℕ coded_ℕ) (coded× coded_ℕ code))
    (λ e. ((e.key.slot, e.key.number), (e.due, e.item)))
    (λ p. record { key = record { slot = p.0.0; number = p.0.1 }; due = p.1.0; item = p.1.1 })
    (λ _. refl)

-- a heap is stored as the tuple of its fields
abbrev pub heap_code : {T : Type 0} → Coded T → Coded (Heap T)
heap_code {T} code =
    code_by
    (List (Entry T) × (ℕ × ℕ))
    (coded× (coded_list (entry_code code)) (coded× coded_ℕ coded_ℕ))
    (λ h. (h.entries, (h.made, h.spare)))
    (λ p. record { entries = p.0; made = p.1.0; spare = p.1.1 })
    (λ _. refl)

-- a call with this many items before it adds at most 2d + 2 to the steps, where d is the greatest with 2^d ≤ items + 1: it is
-- the least with items + 1 < 2^(d + 1)
abbrev pub FewSteps : ℕ → ℕ → ℕ → Type 0
FewSteps items before now = (d : ℕ) → items + 1 < 2 ^ (d + 1) → now ≤ before + (2 * d + 2)

-- how many insertions were made before that of the key
abbrev pub number_of : Key → ℕ
number_of k = k.number

module _ {T : Type 0} where
  -- whether an entry has this key
  abbrev pub has_key : Key → Entry T → Bool
  has_key k e = (e.key.slot == k.slot) && (e.key.number == k.number)

  -- the entry of a key: None where the key is not live
  abbrev pub entry_of : Key → List (Entry T) → Option (Entry T)
  entry_of k [] = None
  entry_of k (e ∷ es) = if has_key k e then Some e else entry_of k es

  -- the other entries, in their order
  abbrev pub without : Key → List (Entry T) → List (Entry T)
  without k es = filter (λ e. not (has_key k e)) es

  -- of the two the one that is due sooner, and at one moment the earlier one
  abbrev pub sooner : Entry T → Option (Entry T) → Entry T
  sooner e None = e
  sooner e (Some f) = if nat_le e.due f.due then e else f

  -- the entry of the least due moment, and of several the one inserted earliest
  abbrev pub first_due : List (Entry T) → Option (Entry T)
  first_due [] = None
  first_due (e ∷ es) = Some (sooner e (first_due es))

  -- one entry goes, and all others stay in their order
  pub record TakesOut (entry : Entry T) (old new : List (Entry T)) : Type 0 where
    pub before : List (Entry T)
    pub after : List (Entry T)
    pub was : old ≡ before ++ entry ∷ after
    pub is : new ≡ before ++ after

  -- each other key names what it named
  abbrev pub OthersStay : Key → List (Entry T) → List (Entry T) → Type 0
  OthersStay k old new = (other : Key) → other ≢ k → entry_of other new ≡ entry_of other old

  -- the first entry was due by now, and it alone is gone
  pub record TakesFirst (now : ℕ) (old new : List (Entry T)) (item : T) : Type 0 where
    pub entry : Entry T
    pub first : first_due old ≡ Some entry
    pub due : entry.due ≤ now
    pub is_item : item ≡ entry.item
    pub live : entry_of entry.key old ≡ Some entry
    pub rest : new ≡ without entry.key old
    pub out : TakesOut entry old new
    pub dead : entry_of entry.key new ≡ None
    pub others : OthersStay entry.key old new
