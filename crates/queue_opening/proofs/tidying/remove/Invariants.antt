use Rattle.std.proofs.Common.{◌≡◌, ◌≤◌, IsTrue, take}
use Rattle.nsq_outside.specs.declared.did.Did.TheVariants.{Done}
use Rattle.queue_opening.specs.Tidied.{RemovedWhere, OnlyRemovedChange}
use Rattle.queue_opening.proofs.tidying.remove.Given as goal

abbrev pub invariant-loop-number : goal.invariant-loop-number
invariant-loop-number g l = record {
  name : l.files ≡ l.initial.files;
  removed : IsTrue g.F.Folder.tells_files → RemovedWhere l.initial.files (take l.number-index l.numbers) l.initial.to (g.F.Folder.files l.folder) Done;
  others : IsTrue g.F.Folder.tells_files → OnlyRemovedChange l.initial.files (take l.number-index l.numbers) l.initial.to (g.F.Folder.files l.initial.folder) (g.F.Folder.files l.folder);
  exact : IsTrue g.F.Folder.counts_exactly → g.F.Folder.folder_faults l.folder ≡ g.F.Folder.folder_faults l.initial.folder;
  faults : g.F.Folder.folder_faults l.initial.folder ≤ g.F.Folder.folder_faults l.folder;
}
