-- What a list of pieces and marks gives to who reads it.
use Rattle.std.specs.Prelude.{ℕ, List, [], ◌∷◌, ◌++◌}
use Rattle.nsq_fakes.specs.declared.script.Piece.{Piece}
use Rattle.nsq_fakes.specs.declared.script.Piece.TheVariants.{Bytes, Nothing}

-- the bytes of the pieces in order, marks skipped, up to the first piece of 0 bytes
abbrev pub bytes_to_come : List Piece → List ℕ
bytes_to_come [] = []
bytes_to_come (Nothing ∷ rest) = bytes_to_come rest
bytes_to_come (Bytes [] ∷ rest) = []
bytes_to_come (Bytes (byte ∷ bytes) ∷ rest) = byte ∷ bytes ++ bytes_to_come rest

-- the bytes of the first piece; none at a mark or at the end
abbrev pub front_bytes : List Piece → List ℕ
front_bytes [] = []
front_bytes (Nothing ∷ rest) = []
front_bytes (Bytes bytes ∷ rest) = bytes
