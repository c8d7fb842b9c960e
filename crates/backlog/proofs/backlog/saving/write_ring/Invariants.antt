use Rattle.std.proofs.Common.{◌≡◌, ◌≤◌, length}
use Rattle.backlog.proofs.Saving.{Moving}
use Rattle.backlog.proofs.backlog.saving.write_ring.Given as goal

-- as many messages moved as turns were made
abbrev pub invariant-loop : goal.invariant-loop
invariant-loop g l = record {
  moving : Moving g.F.Folder.tells_files l.fn.ring.items l.fn.ring.capacity l.ring l.fn.queue l.queue (g.F.Folder.files l.fn.folder) (g.F.Folder.files l.folder) l.counter;
  end : l.end ≡ length l.fn.ring.items;
  scratch : length l.scratch ≡ length l.fn.scratch;
  faults : g.F.Folder.folder_faults l.fn.folder ≤ g.F.Folder.folder_faults l.folder;
}
