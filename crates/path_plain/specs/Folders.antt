-- Files given as a list of names and contents.
use Rattle.std.specs.Prelude.{ℕ, if◌then◌else◌, List, [], ◌∷◌, Option, Some, None}
use Rattle.std.specs.Str.{bytes_eq}
use Rattle.path_plain.specs.declared.named_file.NamedFile.{NamedFile}

-- the content of the file of a name: of the first one in the list that has it
abbrev pub files_of : List NamedFile → List ℕ → Option (List ℕ)
files_of [] name = None
files_of (file ∷ files) name = if bytes_eq file.name name then Some file.bytes else files_of files name
