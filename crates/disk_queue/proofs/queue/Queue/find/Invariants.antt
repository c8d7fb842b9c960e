use Rattle.std.proofs.Common.{◌≡◌, ◌≤◌, ◌-◌, IsTrue}
use Rattle.nsq_outside.specs.Files.{SameFiles}
use Rattle.queue_image.specs.Between.{content}
use Rattle.disk_queue.specs.Seen.{reading_at}
use Rattle.disk_queue.specs.Reading.{Turns}
use Rattle.disk_queue.proofs.queue.Queue.find.Given as goal

abbrev pub invariant-loop-self : goal.invariant-loop-self
invariant-loop-self g l = record {
  seen : l.self ≡ reading_at l.fn.self l.self.positions.read_file l.self.positions.read_at;
  moves : IsTrue g.F.Folder.tells_files → Turns (content (g.F.Folder.files l.fn.folder) l.fn.self.name) l.fn.self.positions l.self.positions;
  same : IsTrue g.F.Folder.tells_files → SameFiles (g.F.Folder.files l.fn.folder) (g.F.Folder.files l.folder);
  exact : IsTrue g.F.Folder.counts_exactly → g.F.Folder.folder_faults l.folder ≡ g.F.Folder.folder_faults l.fn.folder;
  faults : g.F.Folder.folder_faults l.fn.folder ≤ g.F.Folder.folder_faults l.folder;
}

abbrev pub decreases-loop-self : goal.decreases-loop-self
decreases-loop-self g l = l.self.positions.write_file - l.self.positions.read_file
