use Rattle.floor_files.specs.Flushing.{RoomsSoFar}
use Rattle.floor_files.proofs.flushing.flush_all.Given as goal

-- the first topics were flushed with their channels
abbrev pub invariant-loop-i : goal.invariant-loop-i
invariant-loop-i g l = RoomsSoFar g.F.Folder.tells_files l.i l.fn.hall l.hall l.done (g.F.Folder.files l.fn.folder) (g.F.Folder.files l.folder) (g.F.Folder.folder_faults l.fn.folder) (g.F.Folder.folder_faults l.folder)
