-- What an opening finds of a queue in a folder.
use Rattle.std.specs.Prelude.{◌≡◌, ℕ, ◌+◌, ◌<◌, ◌≤◌, List, [], ◌∷◌, ◌++◌, length, Option, Some, None}
use Rattle.std.specs.List.{slice_range}
use Rattle.queue_image.specs.FileNames.{meta_file}
use Rattle.queue_image.specs.Records.{IsRow, IsDamaged}
use Rattle.queue_image.specs.Places.{IsAtEnd, IsBehind, part_start, part_end}
use Rattle.queue_image.specs.Metas.{Meta, IsMeta}
use Rattle.queue_image.specs.Between.{content}
use Rattle.queue_image.specs.declared.positions.Positions.{Positions}

-- the bytes of a file that lie between the positions
abbrev pub segment : Positions → ℕ → List ℕ → List ℕ
segment p k bytes = slice_range bytes (part_start p k) (part_end p k (length bytes))

-- a file that gives these bodies: the positions that stand in it lie in it, and the bytes between them are a row of records
pub record IsGoodFile (least limit : ℕ) (p : Positions) (k : ℕ) (bytes : List ℕ) (bodies : List (List ℕ)) : Type 0 where
  pub starts_inside : part_start p k ≤ length bytes
  pub ends_inside : part_end p k (length bytes) ≤ length bytes
  pub row : IsRow least limit (segment p k bytes) bodies

-- a file that is bad: a position is past its end, or the bytes between the positions are damaged
pub data IsBadFile (least limit : ℕ) (p : Positions) (k : ℕ) (bytes : List ℕ) : Type 0 where
  read_past : length bytes < part_start p k → IsBadFile least limit p k bytes
  write_past : length bytes < part_end p k (length bytes) → IsBadFile least limit p k bytes
  damaged : (place size : ℕ) → IsDamaged least limit (segment p k bytes) place size → IsBadFile least limit p k bytes

-- the walk over the files from the read file up to one of that number, without it, gives these bodies and these numbers of bad files;
-- the records of bad files are left out
pub data Walks (least limit : ℕ) (p : Positions) (bytes : ℕ → List ℕ) : ℕ → List (List ℕ) → List ℕ → Type 0 where
  starts : {k : ℕ} → k ≡ p.read_file → Walks least limit p bytes k [] []
  good : {k next : ℕ} {bodies all : List (List ℕ)} {bad : List ℕ} (more : List (List ℕ)) → Walks least limit p bytes k bodies bad → IsGoodFile least limit p k (bytes k) more
      → next ≡ k + 1 → all ≡ bodies ++ more → Walks least limit p bytes next all bad
  passes : {k next : ℕ} {bodies : List (List ℕ)} {bad all_bad : List ℕ} → Walks least limit p bytes k bodies bad → IsBadFile least limit p k (bytes k)
      → next ≡ k + 1 → all_bad ≡ bad ++ k ∷ [] → Walks least limit p bytes next bodies all_bad

-- what an opening finds: metadata that is none, or a list of bodies, and the numbers of the bad files, lowest first
pub data Finding : Type 0 where
  BadMeta : Finding
  Records : (bodies : List (List ℕ)) (bad : List ℕ) → Finding

-- without metadata the list is empty; metadata that is not in its grammar is BadMeta; where the positions are the same
-- the list is empty and no file is bad; else the walk from the read file to the write file
pub data IsFound (least limit : ℕ) (files : List ℕ → Option (List ℕ)) (name : List ℕ) : Finding → Type 0 where
  fresh : files (meta_file name) ≡ None → IsFound least limit files name (Records [] [])
  spoilt : (text : List ℕ) → files (meta_file name) ≡ Some text → ((meta : Meta) → ¬ IsMeta text meta) → IsFound least limit files name BadMeta
  empty : (text : List ℕ) (meta : Meta) → files (meta_file name) ≡ Some text → IsMeta text meta → IsAtEnd meta.positions → IsFound least limit files name (Records [] [])
  walked : {bodies : List (List ℕ)} {bad : List ℕ} (text : List ℕ) (meta : Meta) → files (meta_file name) ≡ Some text → IsMeta text meta → IsBehind meta.positions
      → Walks least limit meta.positions (content files name) (meta.positions.write_file + 1) bodies bad → IsFound least limit files name (Records bodies bad)
