-- Records in a row: each is a size and that many bytes.
use Rattle.std.specs.Prelude.{◌≡◌, ℕ, ◌+◌, ◌<◌, ◌≤◌, ◌⊎◌, List, ◌++◌, length, take}
use Rattle.std.specs.List.{flat_map, AllByRecursion}
use Rattle.std.specs.Int.{w32, to_be_bytes, from_be_bytes}

-- a record: the body's length in four bytes, most significant first, and the body
abbrev pub record_bytes : List ℕ → List ℕ
record_bytes body = to_be_bytes w32 (length body) ++ body

-- the records of the bodies, one behind the other
abbrev pub rows : List (List ℕ) → List ℕ
rows bodies = flat_map record_bytes bodies

-- a size that the queue takes
abbrev pub IsSize : ℕ → ℕ → ℕ → Type 0
IsSize least limit size = (least ≤ size) × (size ≤ limit)

-- the bytes are the records of these bodies and nothing else, each of a size that the queue takes
pub record IsRow (least limit : ℕ) (bytes : List ℕ) (bodies : List (List ℕ)) : Type 0 where
  pub whole : bytes ≡ rows bodies
  pub sizes : AllByRecursion (λ body. IsSize least limit (length body)) bodies

-- a record of this body, of a size that the queue takes, stands in the bytes at that place
pub record HasRecord (least limit : ℕ) (bytes : List ℕ) (place : ℕ) (body : List ℕ) : Type 0 where
  pub front : List ℕ
  pub back : List ℕ
  pub whole : bytes ≡ front ++ record_bytes body ++ back
  pub here : place ≡ length front
  pub size : IsSize least limit (length body)

-- the size that the first four bytes give
abbrev pub size_read : List ℕ → ℕ
size_read bytes = from_be_bytes w32 (take 4 bytes)

-- no record begins these bytes, and this size is read there: 0 where fewer than four bytes are left;
-- else one that the queue does not take, or that is more than what is left behind it
pub data IsNoRecord (least limit : ℕ) (bytes : List ℕ) (size : ℕ) : Type 0 where
  cut : 0 < length bytes → length bytes < 4 → size ≡ 0 → IsNoRecord least limit bytes size
  wrong : 4 ≤ length bytes → size ≡ size_read bytes → (size < least) ⊎ (limit < size) → IsNoRecord least limit bytes size
  passing : 4 ≤ length bytes → size ≡ size_read bytes → length bytes < 4 + size → IsNoRecord least limit bytes size

-- good records, and then at that place something that is no record, where this size is read
pub record IsDamaged (least limit : ℕ) (bytes : List ℕ) (place size : ℕ) : Type 0 where
  pub before : List (List ℕ)
  pub rest : List ℕ
  pub whole : bytes ≡ rows before ++ rest
  pub sizes : AllByRecursion (λ body. IsSize least limit (length body)) before
  pub stands : place ≡ length (rows before)
  pub damage : IsNoRecord least limit rest size
