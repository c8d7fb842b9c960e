-- The records of a queue between two positions.
use Rattle.std.specs.Prelude.{◌≡◌, ℕ, ◌+◌, ◌≤◌, List, [], ◌∷◌, length, Option, Some, unwrap_or}
use Rattle.queue_image.specs.FileNames.{data_file, meta_file}
use Rattle.queue_image.specs.Records.{HasRecord}
use Rattle.queue_image.specs.Metas.{meta_text}
use Rattle.queue_image.specs.declared.positions.Positions.{Positions}

-- the bytes of the queue's data file of that number; a file that is absent counts as empty
abbrev pub content : (List ℕ → Option (List ℕ)) → List ℕ → ℕ → List ℕ
content files name k = unwrap_or (files (data_file name k)) []

-- reading by sizes from a place in a file up to another gives these bodies: nothing where the place is the end;
-- the record that stands there, and what follows it; or where the file ends there, what the next file gives from its start
pub data Reads (least limit : ℕ) (bytes : ℕ → List ℕ) (end_file end_at : ℕ) : ℕ → ℕ → List (List ℕ) → Type 0 where
  arrives : {file place : ℕ} → file ≡ end_file → place ≡ end_at → Reads least limit bytes end_file end_at file place []
  takes : {file place : ℕ} {bodies : List (List ℕ)} (body : List ℕ) → HasRecord least limit (bytes file) place body
      → Reads least limit bytes end_file end_at file (place + (4 + length body)) bodies → Reads least limit bytes end_file end_at file place (body ∷ bodies)
  turns : {file place : ℕ} {bodies : List (List ℕ)} → place ≡ length (bytes file)
      → Reads least limit bytes end_file end_at (file + 1) 0 bodies → Reads least limit bytes end_file end_at file place bodies

-- the queue's records between its positions, oldest first; both positions lie in their files
pub record Between (least limit : ℕ) (files : List ℕ → Option (List ℕ)) (name : List ℕ) (p : Positions) (bodies : List (List ℕ)) : Type 0 where
  pub reads : Reads least limit (content files name) p.write_file p.write_at p.read_file p.read_at bodies
  pub inside : p.write_at ≤ length (content files name p.write_file)

-- the metadata says the list's length and these positions, and the files give the list between them
pub record IsSaved (least limit : ℕ) (files : List ℕ → Option (List ℕ)) (name : List ℕ) (p : Positions) (bodies : List (List ℕ)) : Type 0 where
  pub text : files (meta_file name) ≡ Some (meta_text (length bodies) p)
  pub list : Between least limit files name p bodies
