-- The positions of a queue: where it reads and where it writes, each a file's number and a place in that file.
use Rattle.std.specs.Prelude.{◌≡◌, ℕ, ◌+◌, ◌*◌, ◌^◌, ◌<◌, ◌≤◌, ◌⊎◌, Bool, ◌&&◌, ◌==◌, nat_lt, if◌then◌else◌}
use Rattle.queue_image.specs.declared.positions.Positions.{Positions}

-- the read position is not past the write position
abbrev pub IsOrdered : Positions → Type 0
IsOrdered p = (p.read_file < p.write_file) ⊎ ((p.read_file ≡ p.write_file) × (p.read_at ≤ p.write_at))

-- the two positions are the same
abbrev pub IsAtEnd : Positions → Type 0
IsAtEnd p = (p.read_file ≡ p.write_file) × (p.read_at ≡ p.write_at)

-- the read position is before the write position
abbrev pub IsBehind : Positions → Type 0
IsBehind p = (p.read_file < p.write_file) ⊎ ((p.read_file ≡ p.write_file) × (p.read_at < p.write_at))

-- a file's number is at most 2 ^ 40, and a place in a file at most 2 ^ 62
pub record IsInRange (p : Positions) : Type 0 where
  pub read_file : p.read_file ≤ 2 ^ 40
  pub read_at : p.read_at ≤ 2 ^ 62
  pub write_file : p.write_file ≤ 2 ^ 40
  pub write_at : p.write_at ≤ 2 ^ 62

-- where the queue's part of a file begins: at the read position in the read file, else at the file's start
abbrev pub part_start : Positions → ℕ → ℕ
part_start p k = if k == p.read_file then p.read_at else 0

-- where it ends: at the write position in the write file, else at the end of the file, which has so many bytes
abbrev pub part_end : Positions → ℕ → ℕ → ℕ
part_end p k len = if k == p.write_file then p.write_at else len

-- whether a record of so many bytes goes to the next file: writing stands past the file's start, the record with its size would pass the greatest length of a file, and a next number is left
abbrev pub rolls : (max_bytes file at size : ℕ) → Bool
rolls max_bytes file at size = nat_lt 0 at && nat_lt max_bytes (at + (4 + size)) && nat_lt file (2 ^ 40)

-- the start of file 0, where a queue begins
abbrev pub start : Positions
start = record { read_file = 0; read_at = 0; write_file = 0; write_at = 0 }

-- how far into the files a place is, with room for the longest file in each
abbrev pub distance : ℕ → ℕ → ℕ
distance file at = file * 2 ^ 62 + at
