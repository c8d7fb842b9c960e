-- Sizes of four bytes, and what stands behind them.
use Rattle.std.specs.Prelude.{◌≡◌, ◌⊎◌, ℕ, ◌+◌, ◌^◌, ◌<◌, ◌≤◌, List, ◌++◌, length, drop}
use Rattle.std.specs.Int.{to_be_bytes, w32}
use Rattle.v2_sizes.specs.declared.size.Field.{Field}
use Rattle.v2_sizes.specs.declared.size.Field.TheVariants as field

-- a size or a count in four bytes, most significant first
abbrev pub size4 : ℕ → List ℕ
size4 n = to_be_bytes w32 n

-- a good size: from 1 to the greatest one, and below 2^32, so that four bytes hold it
pub record IsSize (most size : ℕ) : Type 0 where
  pub positive : 0 < size
  pub within : size ≤ most
  pub fits : size < 2 ^ 32

-- a bad size: 0, or above the greatest one
abbrev pub IsBadSize : ℕ → ℕ → Type 0
IsBadSize most size = (size ≡ 0) ⊎ (most < size)

-- the bytes begin with a size of four bytes, and go on with the rest
pub record HasSize (bytes : List ℕ) (size : ℕ) (rest : List ℕ) : Type 0 where
  pub whole : bytes ≡ size4 size ++ rest
  pub fits : size < 2 ^ 32

-- the bytes begin with a good size and so many bytes
pub record IsWholeField (most : ℕ) (bytes : List ℕ) (size : ℕ) : Type 0 where
  pub size_is : HasSize bytes size (drop 4 bytes)
  pub good : IsSize most size
  pub there : 4 + size ≤ length bytes

-- what stands where a size and so many bytes have to stand
abbrev pub IsField : ℕ → List ℕ → Field → Type 0
IsField most bytes field.Open = (length bytes < 4) ⊎ ((size : ℕ) × HasSize bytes size (drop 4 bytes) × IsSize most size × (length (drop 4 bytes) < size))
IsField most bytes field.Bad = (size : ℕ) × HasSize bytes size (drop 4 bytes) × IsBadSize most size
IsField most bytes (field.Whole size) = IsWholeField most bytes size
