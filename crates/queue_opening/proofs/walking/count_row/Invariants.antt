use Rattle.std.proofs.Common.{◌≡◌, ◌≤◌, ◌+◌, ◌-◌, IsTrue, length}
use Rattle.std.specs.List.{slice_range}
use Rattle.nsq_outside.specs.Files.{SameFiles}
use Rattle.queue_image.specs.Between.{content}
use Rattle.queue_opening.specs.Walked.{HasRow}
use Rattle.queue_opening.proofs.walking.count_row.Given as goal

abbrev pub invariant-loop-place : goal.invariant-loop-place
invariant-loop-place g l = record {
  name : l.files ≡ l.initial.files;
  low : l.initial.start ≤ l.place;
  high : l.place ≤ l.initial.end;
  few : l.initial.start + l.count ≤ l.place;
  same : IsTrue g.F.Folder.tells_files → SameFiles (g.F.Folder.files l.initial.folder) (g.F.Folder.files l.folder);
  row : IsTrue g.F.Folder.tells_files → l.initial.end ≤ length (content (g.F.Folder.files l.initial.folder) l.initial.files l.initial.number)
      → HasRow l.initial.options.least l.initial.options.limit (slice_range (content (g.F.Folder.files l.initial.folder) l.initial.files l.initial.number) l.initial.start l.place) l.count;
  exact : IsTrue g.F.Folder.counts_exactly → g.F.Folder.folder_faults l.folder ≡ g.F.Folder.folder_faults l.initial.folder;
  faults : g.F.Folder.folder_faults l.initial.folder ≤ g.F.Folder.folder_faults l.folder;
}

abbrev pub decreases-loop-place : goal.decreases-loop-place
decreases-loop-place g l = l.initial.end - l.place
