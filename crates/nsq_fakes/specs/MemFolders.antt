-- What clauses see of a folder in memory.
use Rattle.std.specs.Prelude.{ℕ, ◌≡◌, ◌+◌, ◌-◌, ◌^◌, ◌<◌, List, [], length, min, Option, unwrap_or}
use Rattle.std.specs.List.{Any}
use Rattle.nsq_outside.specs.Files.{Files}
use Rattle.nsq_fakes.specs.MemFiles.{files_of}
use Rattle.nsq_fakes.specs.Failings.{Hits}
use Rattle.nsq_fakes.specs.Made.{Made}
use Rattle.nsq_fakes.specs.declared.folder_calls.FolderCall.{FolderCall}
use Rattle.nsq_fakes.specs.declared.folder_calls.Failing.{Failing}
use Rattle.nsq_fakes.specs.declared.folder_calls.Counts.{Counts}
use Rattle.nsq_fakes.specs.declared.folder.MemFolder.{MemFolder}

-- the bytes of the file of a name, where there is one
abbrev pub files_in : MemFolder → Files
files_in folder = files_of folder.files

-- the calls that fail
abbrev pub fails_of : MemFolder → List Failing
fails_of folder = folder.fails.items

-- how many calls of each method were made, and of all
abbrev pub counts_of : MemFolder → Counts
counts_of folder = folder.counts

-- the calls that were made, in order, as far as there was memory to keep them
abbrev pub called_of : MemFolder → List Made
called_of folder = folder.called.items

-- how often a call failed
abbrev pub faults_of : MemFolder → ℕ
faults_of folder = folder.faults.count

-- the next call of a method is among those that fail
abbrev pub IsRefused : MemFolder → FolderCall → Type 0
IsRefused folder call = Any (Hits (counts_of folder) call) (fails_of folder)

-- there was no memory to keep a call
abbrev pub IsUnkept : MemFolder → MemFolder → Type 0
IsUnkept old new = called_of new ≡ called_of old

-- of so many bytes from a place on, some stand in the file, and they end past the most bytes that a file may have
abbrev pub ReadsPast : Option (List ℕ) → ℕ → ℕ → Type 0
ReadsPast file at most =
    let n = min most (length (unwrap_or file []) - at) in
    (0 < n) × (2 ^ 62 < at + n)
