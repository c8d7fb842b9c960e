use Rattle.floor_files.proofs.Beginning.{RoomsSoFar}
use Rattle.floor_files.proofs.saving.sync_rooms.Given as goal

-- the queues of the first topics were looked at
abbrev pub invariant-loop-i : goal.invariant-loop-i
invariant-loop-i g l = RoomsSoFar g.F.Folder.tells_files l.i l.count l.fn.hall l.hall (g.F.Folder.files l.fn.folder) (g.F.Folder.files l.folder) (g.F.Folder.folder_faults l.fn.folder) (g.F.Folder.folder_faults l.folder) l.least
