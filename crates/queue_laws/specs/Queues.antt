-- What holds of the queues of a folder, whatever its files.
use Rattle.std.specs.Prelude.{ℕ, ◌≡◌, ◌≢◌, List}
use Rattle.nsq_outside.specs.Files.{Files}
use Rattle.queue_image.specs.FileNames.{IsOwnFile}
use Rattle.disk_queue.specs.Seen.{Seen}
use Rattle.disk_queue.specs.Holding.{Holds, SaveStands, OwnChange}

-- what a queue's files hold depends on these files alone
abbrev pub HoldingKeeps : Type 0
HoldingKeeps = (q : Seen) (old new : Files) (bodies waiting : List (List ℕ)) → ((file : List ℕ) → IsOwnFile q.name file → new file ≡ old file)
    → Holds q old bodies waiting → Holds q new bodies waiting

-- and so does whether what its last save left still stands
abbrev pub StandingKeeps : Type 0
StandingKeeps = (q : Seen) (old new : Files) → ((file : List ℕ) → IsOwnFile q.name file → new file ≡ old file) → SaveStands q old → SaveStands q new

-- where only the files of a queue change, those of another do not
abbrev pub OthersStay : Type 0
OthersStay = (name other : List ℕ) (old new : Files) → other ≢ name → OwnChange name old new → (file : List ℕ) → IsOwnFile other file → new file ≡ old file
