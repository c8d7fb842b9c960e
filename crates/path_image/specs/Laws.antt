-- What follows from the definitions, each the contract of a function that does nothing.
use Rattle.std.specs.Prelude.{◌≡◌, List, ℕ}
use Rattle.nsq_outside.specs.Files.{Files}
use Rattle.path_image.specs.Data.{Kept, IsNames, CanKeep, names_text}
use Rattle.path_image.specs.Found.{Finding, IsFound}

-- the text that is written for what can be kept keeps it
abbrev pub NamesReadBack : Type 0
NamesReadBack = (kept : Kept) → CanKeep kept → IsNames (names_text kept) kept

-- a text keeps one thing only
abbrev pub NamesAreOne : Type 0
NamesAreOne = (text : List ℕ) (a b : Kept) → IsNames text a → IsNames text b → a ≡ b

-- an opening finds one thing only
abbrev pub FindingIsOne : Type 0
FindingIsOne = (files : Files) (x y : Finding) → IsFound files x → IsFound files y → x ≡ y
