-- What passing bytes of the first piece leaves to come.
use Rattle.std.proofs.Common.{◌≡◌, ℕ, ◌+◌, ◌≤◌, List, [], ◌∷◌, ◌++◌, length, take, drop, append_assoc, sym, subst, arith}
use Rattle.std.proofs.lemmas.List.{take-append-drop, take_at, drop_at, length-take-le, drop-append-le, drop-drop}
use Rattle.nsq_fakes.specs.Pieces.{bytes_to_come, front_bytes}
use Rattle.nsq_fakes.specs.declared.script.Piece.{Piece}
use Rattle.nsq_fakes.specs.declared.script.Piece.TheVariants.{Bytes, Nothing}

-- a part of the first of two lists, and what lies behind it
drop-append_parts : (xs ys : List ℕ) (i n : ℕ) → i + n ≤ length xs → drop i (xs ++ ys) ≡ take n (drop i xs) ++ drop (i + n) (xs ++ ys)
drop-append_parts xs ys i n h =
    let here : i ≤ length xs = omega arith in
    rw (drop-append-le i xs ys here, drop-append-le (i + n) xs ys h, ← drop-drop n i xs, ← append_assoc, take-append-drop n (drop i xs))

-- the bytes to come are some of the first piece, and then those behind them
pub drop-bytes_to_come : (pieces : List Piece) (offset count : ℕ) → offset + count ≤ length (front_bytes pieces) → drop offset (bytes_to_come pieces) ≡ take count (drop offset (front_bytes pieces)) ++ drop (offset + count) (bytes_to_come pieces)
drop-bytes_to_come [] offset count h = drop-append_parts [] [] offset count h
drop-bytes_to_come (Nothing ∷ rest) offset count h = drop-append_parts [] (bytes_to_come rest) offset count h
drop-bytes_to_come (Bytes [] ∷ rest) offset count h = drop-append_parts [] [] offset count h
drop-bytes_to_come (Bytes (byte ∷ bytes) ∷ rest) offset count h = drop-append_parts (byte ∷ bytes) (bytes_to_come rest) offset count h

-- bytes that were copied to the start of a buffer stand there
pub piece_read : (into copied rest : List ℕ) (count : ℕ) → copied ≡ take count rest → count ≤ length rest → take count (copied ++ drop count into) ≡ take count rest
piece_read into copied rest count same within =
    subst (λ (piece : List ℕ). take count (piece ++ drop count into) ≡ take count rest) (sym same) (take_at (take count rest) (drop count into) count (length-take-le count rest within))

-- and the buffer behind them is as it was
pub rest_kept : (into copied rest : List ℕ) (count : ℕ) → copied ≡ take count rest → count ≤ length rest → drop count (copied ++ drop count into) ≡ drop count into
rest_kept into copied rest count same within =
    subst (λ (piece : List ℕ). drop count (piece ++ drop count into) ≡ drop count into) (sym same) (drop_at (take count rest) (drop count into) count (length-take-le count rest within))
