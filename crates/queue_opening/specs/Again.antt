-- What an opening that failed leaves to be found.
use Rattle.std.specs.Prelude.{ℕ, List}
use Rattle.nsq_outside.specs.Files.{Files}
use Rattle.queue_image.specs.Finds.{IsFound, Records}

-- an opening finds this list, whatever files are bad
pub record FindsList (least limit : ℕ) (files : Files) (name : List ℕ) (bodies : List (List ℕ)) : Type 0 where
  pub bad : List ℕ
  pub found : IsFound least limit files name (Records bodies bad)

-- the list that an opening finds in the old files is found in the new ones
abbrev pub FindsSameList : ℕ → ℕ → List ℕ → Files → Files → Type 0
FindsSameList least limit name old new = (bodies : List (List ℕ)) (bad : List ℕ) → IsFound least limit old name (Records bodies bad) → FindsList least limit new name bodies
