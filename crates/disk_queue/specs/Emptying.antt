-- What emptying and deleting a queue leave.
use Rattle.std.specs.Prelude.{ℕ, ◌≡◌, ◌≢◌, ◌+◌, ◌<◌, ◌≤◌, ◌⊎◌, List, [], Some, None, IsTrue, true}
use Rattle.nsq_outside.specs.Causes.{Rose, CountsFault}
use Rattle.nsq_outside.specs.Files.{Files}
use Rattle.queue_image.specs.FileNames.{data_file, meta_file, meta_temp}
use Rattle.queue_image.specs.Metas.{meta_text, IsIdle}
use Rattle.queue_image.specs.Finds.{IsFound, Records}
use Rattle.disk_queue.specs.Seen.{Seen, unmarked, emptied, after_save}
use Rattle.disk_queue.specs.Holding.{Holds, SaveStands}
use Rattle.disk_queue.specs.Answers.{IsKept}
use Rattle.queue_opening.specs.Replaced.{OnlyTwoChange}
use Rattle.disk_queue.specs.declared.answers.Sync.TheVariants as sync
use Rattle.disk_queue.specs.declared.answers.Emptied.{Emptied}
use Rattle.disk_queue.specs.declared.answers.Emptied.TheVariants.{Done, Fault}
use Rattle.disk_queue.specs.declared.answers.Deleted.{Deleted}
use Rattle.disk_queue.specs.declared.answers.Deleted.TheVariants.{Done as IsDeleted, Fault as NotDeleted}

-- what emptying changes: the list is gone, and that is saved; where only a removal failed, the save counts as failed. After a fault the
-- list is as before, and a save failed
abbrev pub EmptySeen : Seen → Seen → Emptied → Type 0
EmptySeen q r Done = (r ≡ after_save (emptied q) sync.Done) ⊎ (r ≡ after_save (emptied q) sync.Failed)
EmptySeen q r Fault = r ≡ after_save (unmarked q) sync.Failed

-- the list after emptying
abbrev pub bodies_left : List (List ℕ) → Emptied → List (List ℕ)
bodies_left bodies Done = []
bodies_left bodies Fault = bodies

-- the empty list is saved, and an opening finds it
abbrev pub EmptyKept : Seen → Files → Emptied → Type 0
EmptyKept q files Done = IsKept q files []
EmptyKept q files Fault = Unit {0}

-- after emptying an opening finds nothing, and no bad file, whatever the files held before
abbrev pub EmptyFound : Seen → Files → Emptied → Type 0
EmptyFound q files Done = IsFound q.options.least q.options.limit files q.name (Records [] [])
EmptyFound q files Fault = Unit {0}

-- the metadata is exactly the text of the empty list at the write position, and its temporary is gone; after a fault it is that text or
-- what was there, and no file but these two changed
abbrev pub EmptySaves : Seen → Files → Files → Emptied → Type 0
EmptySaves q old new Done = (new (meta_file q.name) ≡ Some (meta_text 0 (emptied q).positions)) × (new (meta_temp q.name) ≡ None)
EmptySaves q old new Fault =
    OnlyTwoChange old new (meta_file q.name) (meta_temp q.name) × ((new (meta_file q.name) ≡ old (meta_file q.name)) ⊎ (new (meta_file q.name) ≡ Some (meta_text 0 (emptied q).positions)))

-- a fault comes only with a rise, and so does a removal that failed
abbrev pub EmptyFails : ℕ → ℕ → Seen → Emptied → Type 0
EmptyFails before now q Done = IsTrue q.saved.failed → Rose before now
EmptyFails before now q Fault = Rose before now

-- a fault is counted. Done is counted exactly where the save counts as failed, and that comes only where there was a file to remove
abbrev pub EmptyCounts : ℕ → ℕ → Seen → Seen → Emptied → Type 0
EmptyCounts before now q r Done = CountsFault before now r.saved.failed × (IsTrue r.saved.failed → q.saved.positions.read_file < q.positions.write_file)
EmptyCounts before now q r Fault = CountsFault before now true

-- a queue that could not be deleted is as before, and a save failed
abbrev pub DeleteSeen : Seen → Deleted → Type 0
DeleteSeen q IsDeleted = Unit {0}
DeleteSeen q (NotDeleted r) = r ≡ after_save (unmarked q) sync.Failed

-- and it holds these lists
abbrev pub DeleteHolds : Files → List (List ℕ) → List (List ℕ) → Deleted → Type 0
DeleteHolds files bodies waiting IsDeleted = Unit {0}
DeleteHolds files bodies waiting (NotDeleted r) = Holds r files bodies waiting

-- and what its last save left stands
abbrev pub DeleteStands : Files → Deleted → Type 0
DeleteStands files IsDeleted = Unit {0}
DeleteStands files (NotDeleted r) = SaveStands r files

-- and its files are as an emptying leaves them that failed
abbrev pub DeleteSaves : Seen → Files → Files → Deleted → Type 0
DeleteSaves q old new IsDeleted = Unit {0}
DeleteSaves q old new (NotDeleted r) = EmptySaves q old new Fault

-- after a deletion an opening finds nothing, and no bad file: there is no metadata, or one with two equal positions
pub record IsForgotten (q : Seen) (files : Files) : Type 0 where
  pub idle : IsIdle (files (meta_file q.name))
  pub found : IsFound q.options.least q.options.limit files q.name (Records [] [])

abbrev pub DeleteFound : Seen → Files → Deleted → Type 0
DeleteFound q files IsDeleted = IsForgotten q files
DeleteFound q files (NotDeleted r) = Unit {0}

-- the metadata, its temporary, and the data files up to the staged end are gone, and so is the next one, which a record that was refused
-- may have begun
pub record IsGone (q : Seen) (files : Files) : Type 0 where
  pub meta : files (meta_file q.name) ≡ None
  pub temp : files (meta_temp q.name) ≡ None
  pub data_files : (k : ℕ) → k ≤ q.staged.file + 1 → files (data_file q.name k) ≡ None

-- so it is after a deletion in which no removal failed
abbrev pub DeleteGone : Seen → Files → ℕ → ℕ → Deleted → Type 0
DeleteGone q files before now IsDeleted = Rose before now ⊎ IsGone q files
DeleteGone q files before now (NotDeleted r) = Unit {0}

-- the data files go before the metadata: that still says the empty list, or no data file up to the one behind the staged end is left
abbrev pub DeleteOrder : Seen → Files → Deleted → Type 0
DeleteOrder q files IsDeleted =
    (files (meta_file q.name) ≡ Some (meta_text 0 (emptied q).positions)) ⊎ ((k : ℕ) → k ≤ q.staged.file + 1 → files (data_file q.name k) ≡ None)
DeleteOrder q files (NotDeleted r) = Unit {0}

-- a fault comes only with a rise
abbrev pub DeleteFails : ℕ → ℕ → Deleted → Type 0
DeleteFails before now IsDeleted = Unit {0}
DeleteFails before now (NotDeleted r) = Rose before now

-- a fault is counted. In a deletion at most two calls failed: a removal in the emptying, and one behind it
abbrev pub DeleteCounts : ℕ → ℕ → Deleted → Type 0
DeleteCounts before now IsDeleted = now ≤ before + 2
DeleteCounts before now (NotDeleted r) = CountsFault before now true

-- what the removals in a deletion do: these data files and then the metadata are gone where none failed, and no other file changes
pub record Deletes (q : Seen) (old new : Files) (before now : ℕ) : Type 0 where
  pub meta : (new (meta_file q.name) ≡ None) ⊎ (Rose before now × (new (meta_file q.name) ≡ old (meta_file q.name)))
  pub data_files : Rose before now ⊎ ((k : ℕ) → q.saved.positions.read_file ≤ k → k ≤ q.staged.file + 1 → new (data_file q.name k) ≡ None)
  pub order : (new (meta_file q.name) ≡ old (meta_file q.name)) ⊎ ((k : ℕ) → q.saved.positions.read_file ≤ k → k ≤ q.staged.file + 1 → new (data_file q.name k) ≡ None)
  pub others : (file : List ℕ) → file ≢ meta_file q.name → ((k : ℕ) → q.saved.positions.read_file ≤ k → k ≤ q.staged.file + 1 → file ≢ data_file q.name k) → new file ≡ old file
