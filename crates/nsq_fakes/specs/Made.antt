-- Calls that were made on a folder in memory.
use Rattle.std.specs.Prelude.{◌≡◌, ◌⊎◌, ℕ, List, [], ◌∷◌, ◌++◌}
use Rattle.nsq_fakes.specs.declared.folder_calls.FolderCall.{FolderCall}

-- a call: its method, the name of its file, and the new name of a rename; an empty name where there is none
pub record Made : Type 0 where
  pub call : FolderCall
  pub name : List ℕ
  pub to : List ℕ

-- a call joined those that were made; or there was no memory to keep it, which this fact shows
abbrev pub Joins : List Made → List Made → FolderCall → List ℕ → List ℕ → Type 0 → Type 0
Joins old new call name to unkept = (new ≡ old ++ record { call = call; name = name; to = to } ∷ []) ⊎ ((new ≡ old) × unkept)
