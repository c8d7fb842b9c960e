use Rattle.std.proofs.Common.{◌≡◌, ◌≤◌, IsTrue, take}
use Rattle.queue_opening.specs.Tidied.{IsAside, OnlyAsideChanges}
use Rattle.queue_opening.proofs.tidying.set_aside.Given as goal

abbrev pub invariant-loop-number : goal.invariant-loop-number
invariant-loop-number g l = record {
  name : l.names ≡ l.initial.names;
  aside : IsTrue g.F.Folder.tells_files → IsAside l.initial.names (take l.number-index l.numbers) l.initial.from (g.F.Folder.files l.initial.folder) (g.F.Folder.files l.folder);
  others : IsTrue g.F.Folder.tells_files → OnlyAsideChanges l.initial.names (take l.number-index l.numbers) l.initial.from (g.F.Folder.files l.initial.folder) (g.F.Folder.files l.folder);
  exact : IsTrue g.F.Folder.counts_exactly → g.F.Folder.folder_faults l.folder ≡ g.F.Folder.folder_faults l.initial.folder;
  faults : g.F.Folder.folder_faults l.initial.folder ≤ g.F.Folder.folder_faults l.folder;
}
