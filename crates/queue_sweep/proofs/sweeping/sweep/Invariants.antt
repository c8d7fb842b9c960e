use Rattle.std.proofs.Common.{◌≡◌, ◌≤◌, IsTrue, take}
use Rattle.queue_sweep.specs.Swept.{IsSweptTo}
use Rattle.queue_sweep.specs.Steps.{AreGone}
use Rattle.queue_sweep.proofs.sweeping.sweep.Given as goal

abbrev pub invariant-loop-file : goal.invariant-loop-file
invariant-loop-file g l = record {
  swept : IsTrue g.F.Folder.tells_files → IsSweptTo l.initial.listed (g.F.Folder.files l.initial.folder) (g.F.Folder.files l.folder);
  gone : IsTrue g.F.Folder.tells_files → AreGone l.initial.listed (take l.file-index l.files) (g.F.Folder.files l.folder);
  exact : IsTrue g.F.Folder.counts_exactly → g.F.Folder.folder_faults l.folder ≡ g.F.Folder.folder_faults l.initial.folder;
  faults : g.F.Folder.folder_faults l.initial.folder ≤ g.F.Folder.folder_faults l.folder;
}
