-- The text of a queue's metadata.
use Rattle.std.specs.Prelude.{◌≡◌, ℕ, ◌⊎◌, List, [], ◌∷◌, ◌++◌, decimal, Option, Some, None}
use Rattle.nsq_core.specs.Decimal.{IsDecimal}
use Rattle.queue_image.specs.Places.{IsOrdered, IsInRange, IsAtEnd}
use Rattle.queue_image.specs.declared.positions.Positions.{Positions}

-- what the metadata says: how many records there were, which nobody relies on, and the positions
pub record Meta : Type 0 where
  pub depth : ℕ
  pub positions : Positions

-- the text is `depth\nreadfile,readpos\nwritefile,writepos\n`, each of 1 to 40 decimal digits, with positions in range and in order
pub record IsMeta (text : List ℕ) (meta : Meta) : Type 0 where
  pub depth_digits : List ℕ
  pub read_file_digits : List ℕ
  pub read_at_digits : List ℕ
  pub write_file_digits : List ℕ
  pub write_at_digits : List ℕ
  pub whole : text ≡ depth_digits ++ 10 ∷ (read_file_digits ++ 44 ∷ (read_at_digits ++ 10 ∷ (write_file_digits ++ 44 ∷ (write_at_digits ++ 10 ∷ []))))
  pub depth : IsDecimal 40 depth_digits meta.depth
  pub read_file : IsDecimal 40 read_file_digits meta.positions.read_file
  pub read_at : IsDecimal 40 read_at_digits meta.positions.read_at
  pub write_file : IsDecimal 40 write_file_digits meta.positions.write_file
  pub write_at : IsDecimal 40 write_at_digits meta.positions.write_at
  pub in_range : IsInRange meta.positions
  pub ordered : IsOrdered meta.positions

-- the text that a queue writes of its depth and its positions: no number has a leading zero
abbrev pub meta_text : ℕ → Positions → List ℕ
meta_text depth p = decimal depth ++ 10 ∷ (decimal p.read_file ++ 44 ∷ (decimal p.read_at ++ 10 ∷ (decimal p.write_file ++ 44 ∷ (decimal p.write_at ++ 10 ∷ []))))

-- a file is metadata that says these positions
pub record Says (file : Option (List ℕ)) (p : Positions) : Type 0 where
  pub text : List ℕ
  pub depth : ℕ
  pub there : file ≡ Some text
  pub is : IsMeta text (record { depth = depth; positions = p })

-- there is no metadata, or one with two equal positions: an opening finds an empty list
abbrev pub IsIdle : Option (List ℕ) → Type 0
IsIdle file = (file ≡ None) ⊎ ((p : Positions) × Says file p × IsAtEnd p)
