use Rattle.floor_files.proofs.Beginning.{RoomSoFar}
use Rattle.floor_files.proofs.saving.sync_room.Given as goal

-- the topic's own queue and its first channels' were looked at
abbrev pub invariant-loop-j : goal.invariant-loop-j
invariant-loop-j g l = RoomSoFar g.F.Folder.tells_files l.i l.j l.count l.fn.hall l.hall (g.F.Folder.files l.fn.folder) (g.F.Folder.files l.folder) (g.F.Folder.folder_faults l.fn.folder) (g.F.Folder.folder_faults l.folder) l.least
