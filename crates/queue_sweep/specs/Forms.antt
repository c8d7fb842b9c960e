-- The form of the name of a queue's file, and the name of the queue in it.
use Rattle.std.specs.Prelude.{ℕ, ◌≡◌, ◌≢◌, ◌+◌, ◌<◌, ◌^◌, ◌⊎◌, ◌∷◌, ◌++◌, List, take, drop, Option, Some, None}
use Rattle.std.specs.List.{AllByRecursion}
use Rattle.queue_image.specs.FileNames.{file_digits, data_file, meta_file}

-- the file has the name of a data file of the queue of that name
abbrev pub IsDataFileOf : List ℕ → List ℕ → Type 0
IsDataFileOf name file = (n : ℕ) × (n < 2 ^ 64) × (file ≡ data_file name n)

-- or that of its metadata
abbrev pub HasForm : List ℕ → List ℕ → Type 0
HasForm name file = IsDataFileOf name file ⊎ (file ≡ meta_file name)

-- these are the digits of a data file's number
abbrev pub IsFileNumber : List ℕ → Type 0
IsFileNumber digits = (n : ℕ) × (n < 2 ^ 64) × (digits ≡ file_digits n)

-- the place of the last such byte, none where there is no such byte
abbrev pub IsLastAt : ℕ → List ℕ → Option ℕ → Type 0
IsLastAt c text None = AllByRecursion (λ x. x ≢ c) text
IsLastAt c text (Some i) = (text ≡ take i text ++ c ∷ drop (i + 1) text) × AllByRecursion (λ x. x ≢ c) (drop (i + 1) text)
