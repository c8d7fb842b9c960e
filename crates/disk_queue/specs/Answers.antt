-- What the calls of a queue answer, by the cases of their results.
use Rattle.std.specs.Prelude.{ℕ, ◌≡◌, ◌<◌, ◌≤◌, ◌⊎◌, List, [], ◌∷◌, ◌++◌, Some, None, true, false}
use Rattle.nsq_outside.specs.Causes.{Rose, CountsFault}
use Rattle.nsq_outside.specs.Files.{Files, SameFiles}
use Rattle.queue_image.specs.FileNames.{data_file, meta_file, meta_temp}
use Rattle.queue_image.specs.Metas.{meta_text}
use Rattle.queue_image.specs.Between.{IsSaved}
use Rattle.queue_image.specs.Finds.{IsFound, Records}
use Rattle.disk_queue.specs.Seen.{Seen, one_more, IsEarly}
use Rattle.disk_queue.specs.declared.answers.Stage.{Stage}
use Rattle.disk_queue.specs.declared.answers.Stage.TheVariants as stage
use Rattle.disk_queue.specs.declared.answers.Sync.{Sync}
use Rattle.disk_queue.specs.declared.answers.Sync.TheVariants.{NotDue, Done, Failed}
use Rattle.disk_queue.specs.declared.answers.Put.{Put}
use Rattle.disk_queue.specs.declared.answers.Put.TheVariants.{Stored, Fault, TooLong}

-- the staged list after these bytes were to be staged
abbrev pub waiting_after : List (List ℕ) → List ℕ → Stage → List (List ℕ)
waiting_after waiting bytes stage.Staged = waiting ++ bytes ∷ []
waiting_after waiting bytes stage.Fault = waiting
waiting_after waiting bytes (stage.TooLong _) = waiting

-- the list after these bytes were to be put
abbrev pub bodies_after : List (List ℕ) → List ℕ → Put → List (List ℕ)
bodies_after bodies bytes (Stored _) = bodies ++ bytes ∷ []
bodies_after bodies bytes Fault = bodies
bodies_after bodies bytes (TooLong _) = bodies

-- TooLong comes exactly past the limit, and tells it
abbrev pub StageTooLong : ℕ → ℕ → Stage → Type 0
StageTooLong limit size stage.Staged = size ≤ limit
StageTooLong limit size stage.Fault = size ≤ limit
StageTooLong limit size (stage.TooLong told) = (limit < size) × (told ≡ limit)

abbrev pub PutTooLong : ℕ → ℕ → Put → Type 0
PutTooLong limit size (Stored _) = size ≤ limit
PutTooLong limit size Fault = size ≤ limit
PutTooLong limit size (TooLong told) = (limit < size) × (told ≡ limit)

-- a record that is too long changes no file
abbrev pub StaysWhereTooLong : Files → Files → Stage → Type 0
StaysWhereTooLong old new stage.Staged = Unit {0}
StaysWhereTooLong old new stage.Fault = Unit {0}
StaysWhereTooLong old new (stage.TooLong _) = SameFiles old new

-- a fault comes only with a rise
abbrev pub StageFails : ℕ → ℕ → Stage → Type 0
StageFails before now stage.Staged = Unit {0}
StageFails before now stage.Fault = Rose before now
StageFails before now (stage.TooLong _) = Unit {0}

abbrev pub SyncFails : ℕ → ℕ → Sync → Type 0
SyncFails before now NotDue = Unit {0}
SyncFails before now Done = Unit {0}
SyncFails before now Failed = Rose before now

abbrev pub PutFails : ℕ → ℕ → Put → Type 0
PutFails before now (Stored sync) = SyncFails before now sync
PutFails before now Fault = Rose before now
PutFails before now (TooLong _) = Unit {0}

-- a fault is counted, and nothing else
abbrev pub StageCounts : ℕ → ℕ → Stage → Type 0
StageCounts before now stage.Staged = CountsFault before now false
StageCounts before now stage.Fault = CountsFault before now true
StageCounts before now (stage.TooLong _) = CountsFault before now false

-- the save failed exactly where the count rose in it
abbrev pub SyncCounts : ℕ → ℕ → Sync → Type 0
SyncCounts before now NotDue = CountsFault before now false
SyncCounts before now Done = CountsFault before now false
SyncCounts before now Failed = CountsFault before now true

abbrev pub PutCounts : ℕ → ℕ → Put → Type 0
PutCounts before now (Stored sync) = SyncCounts before now sync
PutCounts before now Fault = CountsFault before now true
PutCounts before now (TooLong _) = CountsFault before now false

-- NotDue comes exactly where this holds
abbrev pub NotDueWhere : Type 0 → Sync → Type 0
NotDueWhere P NotDue = P
NotDueWhere P Done = ¬ P
NotDueWhere P Failed = ¬ P

-- the same of the save in a put
abbrev pub PutDue : Seen → ℕ → Put → Type 0
PutDue q size (Stored sync) = NotDueWhere (IsEarly (one_more q size)) sync
PutDue q size Fault = Unit {0}
PutDue q size (TooLong _) = Unit {0}

-- a save that failed before the metadata was written: that is as it was, and so are the data files below the one that is read
abbrev pub IsUnsaved : Seen → Files → Files → Type 0
IsUnsaved q old new = (new (meta_file q.name) ≡ old (meta_file q.name)) × ((k : ℕ) → k < q.positions.read_file → new (data_file q.name k) ≡ old (data_file q.name k))

-- what a save does to the metadata: it writes exactly the text of the queue's depth and positions, and leaves no temporary; one that
-- failed wrote that text, or left what was there and removed no file; where none was due no file changes
abbrev pub Saves : Seen → Files → Files → Sync → Type 0
Saves q old new NotDue = SameFiles old new
Saves q old new Done = (new (meta_file q.name) ≡ Some (meta_text q.depth q.positions)) × (new (meta_temp q.name) ≡ None)
Saves q old new Failed = IsUnsaved q old new ⊎ (new (meta_file q.name) ≡ Some (meta_text q.depth q.positions))

-- the same of the save in a put; a put that was refused leaves the metadata
abbrev pub PutSaves : Seen → Files → Files → Put → Type 0
PutSaves q old new (Stored NotDue) = new (meta_file q.name) ≡ old (meta_file q.name)
PutSaves q old new (Stored Done) = Saves q old new Done
PutSaves q old new (Stored Failed) = (new (meta_file q.name) ≡ old (meta_file q.name)) ⊎ (new (meta_file q.name) ≡ Some (meta_text q.depth q.positions))
PutSaves q old new Fault = new (meta_file q.name) ≡ old (meta_file q.name)
PutSaves q old new (TooLong _) = SameFiles old new

-- the list is saved, and an opening finds it, and no bad file
pub record IsKept (q : Seen) (files : Files) (bodies : List (List ℕ)) : Type 0 where
  pub saved : IsSaved q.options.least q.options.limit files q.name q.positions bodies
  pub found : IsFound q.options.least q.options.limit files q.name (Records bodies [])

-- so it is after a save that was made
abbrev pub KeptWhereDone : Seen → Files → List (List ℕ) → Sync → Type 0
KeptWhereDone q files bodies NotDue = Unit {0}
KeptWhereDone q files bodies Done = IsKept q files bodies
KeptWhereDone q files bodies Failed = Unit {0}

-- an opening finds the list, and no bad file, unless a save failed
abbrev pub FoundUnlessFailed : Seen → Files → List (List ℕ) → Sync → Type 0
FoundUnlessFailed q files bodies NotDue = IsFound q.options.least q.options.limit files q.name (Records bodies [])
FoundUnlessFailed q files bodies Done = IsFound q.options.least q.options.limit files q.name (Records bodies [])
FoundUnlessFailed q files bodies Failed = Unit {0}

abbrev pub PutKept : Seen → Files → List (List ℕ) → Put → Type 0
PutKept q files bodies (Stored sync) = KeptWhereDone q files bodies sync
PutKept q files bodies Fault = Unit {0}
PutKept q files bodies (TooLong _) = Unit {0}
