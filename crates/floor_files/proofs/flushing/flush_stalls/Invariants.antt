use Rattle.floor_files.specs.Flushing.{StallsSoFar}
use Rattle.floor_files.proofs.flushing.flush_stalls.Given as goal

-- the first channels were flushed
abbrev pub invariant-loop-j : goal.invariant-loop-j
invariant-loop-j g l = StallsSoFar g.F.Folder.tells_files l.j l.fn.room l.room l.done (g.F.Folder.files l.fn.folder) (g.F.Folder.files l.folder) (g.F.Folder.folder_faults l.fn.folder) (g.F.Folder.folder_faults l.folder)
