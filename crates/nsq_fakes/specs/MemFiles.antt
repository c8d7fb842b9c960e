-- The files that a map from names to bytes stands for.
use Rattle.std.specs.Prelude.{ℕ, ◌≡◌, ◌≢◌, ◌^◌, ◌<◌, ◌⊎◌, List, length, Option, None, IsSome, IfSome, Vec, String, option_map, string_bytes}
use Rattle.std.specs.declared.alloc.Global.{Global}
use Rattle.std.specs.BTreeMap.{BTreeMap, get_by_text}
use Rattle.std.specs.Map.{lookup}
use Rattle.std.specs.Str.{bytes_eq}
use Rattle.nsq_outside.specs.Files.{Files, OnlyChanges}

-- the bytes of the file of a name, where there is one
abbrev pub files_of : BTreeMap (String Global) (Vec ℕ Global) → Files
files_of m name = option_map (λ v. v.items) (get_by_text m name)

-- the bytes of the first file of a name in a list
abbrev pub first_of : List (String Global × Vec ℕ Global) → Files
first_of list name = option_map (λ v. v.items) (lookup (λ key. bytes_eq name (string_bytes key)) list)

-- one file has these bytes now, or is gone, and no other file changes
pub record Sets (old new : Files) (name : List ℕ) (file : Option (List ℕ)) : Type 0 where
  pub here : new name ≡ file
  pub others : OnlyChanges old new name

-- a file would have more bytes than a file may have; or it would be made, or grow to so many, for which there may be no memory
abbrev pub GrowsTo : Option (List ℕ) → ℕ → Type 0
GrowsTo file to = (2 ^ 62 < to) ⊎ IfSome file (λ bytes. length bytes < to)

-- a file would get a name that is new, for which there may be no memory
abbrev pub MovesToNew : Files → List ℕ → List ℕ → Type 0
MovesToNew files from to = IsSome (files from) × (from ≢ to) × (files to ≡ None)
