use Rattle.std.proofs.Common.{◌≡◌, ◌<◌, ◌≤◌, IsTrue}
use Rattle.nsq_outside.specs.declared.did.Did.TheVariants.{Done}
use Rattle.queue_files.specs.FileCalls.{Gone, OnlyNumbersChange}
use Rattle.queue_files.proofs.files.remove_each.Given as goal

abbrev pub invariant-loop-number : goal.invariant-loop-number
invariant-loop-number g l = record {
  name : l.file.name ≡ l.initial.file.name;
  gone : IsTrue g.F.Folder.tells_files → Gone l.initial.file.name (g.F.Folder.files l.folder) l.initial.from l.number Done;
  others : IsTrue g.F.Folder.tells_files → OnlyNumbersChange l.initial.file.name (g.F.Folder.files l.initial.folder) (g.F.Folder.files l.folder) l.initial.from l.number;
  low : l.initial.from ≤ l.number;
  high : l.initial.from < l.number → l.number ≤ l.initial.to;
  exact : IsTrue g.F.Folder.counts_exactly → g.F.Folder.folder_faults l.folder ≡ g.F.Folder.folder_faults l.initial.folder;
  faults : g.F.Folder.folder_faults l.initial.folder ≤ g.F.Folder.folder_faults l.folder;
}
