-- Which calls of a folder in memory fail.
use Rattle.std.specs.Prelude.{ℕ, ◌≡◌, ◌≢◌, ◌+◌, ◌-◌, ◌^◌, ◌≤◌, ◌<◌, ◌⊎◌, min}
use Rattle.nsq_fakes.specs.declared.folder_calls.FolderCall.{FolderCall}
use Rattle.nsq_fakes.specs.declared.folder_calls.FolderCall.TheVariants.{List as ListCalls, Len, ReadAt, WriteAt, Cut, Sync, SyncNames, Rename, Remove, Any}
use Rattle.nsq_fakes.specs.declared.folder_calls.Failing.{Failing}
use Rattle.nsq_fakes.specs.declared.folder_calls.Counts.{Counts}

-- how many calls of a method were made
abbrev pub count_of : Counts → FolderCall → ℕ
count_of counts ListCalls = counts.list
count_of counts Len = counts.len
count_of counts ReadAt = counts.read_at
count_of counts WriteAt = counts.write_at
count_of counts Cut = counts.cut
count_of counts Sync = counts.sync
count_of counts SyncNames = counts.sync_names
count_of counts Rename = counts.rename
count_of counts Remove = counts.remove
count_of counts Any = counts.any

-- the next call of a method is among these calls that fail
abbrev pub Hits : Counts → FolderCall → Failing → Type 0
Hits counts call failing =
    ((failing.call ≡ call) ⊎ (failing.call ≡ Any)) × (failing.from ≤ count_of counts failing.call) × (count_of counts failing.call < failing.to)

-- a call of a method was counted, for the method and for all of them; each other count stays
pub record CountsCall (old new : Counts) (call : FolderCall) : Type 0 where
  pub of_one : call ≢ Any
  pub here : count_of new call ≡ min (count_of old call + 1) (2 ^ 64 - 1)
  pub all : count_of new Any ≡ min (count_of old Any + 1) (2 ^ 64 - 1)
  pub others : (other : FolderCall) → other ≢ call → other ≢ Any → count_of new other ≡ count_of old other
