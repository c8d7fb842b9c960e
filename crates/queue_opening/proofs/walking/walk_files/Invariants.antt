use Rattle.std.proofs.Common.{◌≡◌, ◌≤◌, ◌<◌, ◌-◌, ℕ, IsTrue}
use Rattle.std.specs.List.{Contains}
use Rattle.nsq_outside.specs.Files.{SameFiles}
use Rattle.queue_image.specs.Between.{content}
use Rattle.queue_image.specs.Places.{distance}
use Rattle.queue_opening.specs.Walked.{WalksUpTo, HasNumbers}
use Rattle.queue_opening.proofs.walking.walk_files.Given as goal

abbrev pub invariant-loop-number : goal.invariant-loop-number
invariant-loop-number g l = record {
  name : l.files ≡ l.initial.files;
  low : l.initial.positions.read_file ≤ l.number;
  high : l.number ≤ l.initial.positions.write_file;
  within : (k : ℕ) → Contains l.walk.bad.items k → (l.initial.positions.read_file ≤ k) × (k < l.number);
  depth : l.walk.depth ≤ distance l.number 0;
  same : IsTrue g.F.Folder.tells_files → SameFiles (g.F.Folder.files l.initial.folder) (g.F.Folder.files l.folder);
  walks : IsTrue g.F.Folder.tells_files → HasNumbers (g.F.Folder.files l.initial.folder) l.initial.files l.initial.numbers
      → WalksUpTo l.initial.options.least l.initial.options.limit l.initial.positions (content (g.F.Folder.files l.initial.folder) l.initial.files) l.number l.walk.depth l.walk.bad.items;
  exact : IsTrue g.F.Folder.counts_exactly → g.F.Folder.folder_faults l.folder ≡ g.F.Folder.folder_faults l.initial.folder;
  faults : g.F.Folder.folder_faults l.initial.folder ≤ g.F.Folder.folder_faults l.folder;
}

abbrev pub decreases-loop-number : goal.decreases-loop-number
decreases-loop-number g l = l.initial.positions.write_file - l.number
