-- What a script in memory has yet to give.
use Rattle.std.specs.Prelude.{ℕ, ◌≡◌, ◌≢◌, ◌+◌, ◌<◌, List, [], drop, length, Some, slice_get}
use Rattle.nsq_fakes.specs.Pieces.{bytes_to_come, front_bytes}
use Rattle.nsq_fakes.specs.declared.script.Script.{Script}
use Rattle.nsq_fakes.specs.declared.script.Piece.{Piece}
use Rattle.nsq_fakes.specs.declared.script.Piece.TheVariants.{Nothing}

-- the bytes from the place on
abbrev pub to_come : Script → List ℕ
to_come script = drop script.offset (bytes_to_come script.pieces.items)

-- what is left of the piece that stands first; nothing at a mark or at the end
abbrev pub rest_of : Script → List ℕ
rest_of script = drop script.offset (front_bytes script.pieces.items)

-- a mark stands first
abbrev pub IsMark : Script → Type 0
IsMark script = slice_get script.pieces.items 0 ≡ Some Nothing

-- no piece stands first, or one of 0 bytes
abbrev pub IsAtEnd : Script → Type 0
IsAtEnd script = (rest_of script ≡ []) × (slice_get script.pieces.items 0 ≢ Some Nothing)

-- these pieces are to come, with none of their bytes taken
abbrev pub IsWhole : List Piece → Script → Type 0
IsWhole pieces script = (script.pieces.items ≡ pieces) × (script.offset ≡ 0)

-- the first piece or mark is passed, and nothing behind it
abbrev pub PassesFirst : Script → Script → Type 0
PassesFirst old new = IsWhole (drop 1 old.pieces.items) new

-- so many bytes of the first piece are passed: the place moves in it, until the piece is used up
pub record PassesBytes (old new : Script) (count : ℕ) : Type 0 where
  pub within : count < length (rest_of old) → (new.pieces.items ≡ old.pieces.items) × (new.offset ≡ old.offset + count)
  pub whole : count ≡ length (rest_of old) → PassesFirst old new
