use Rattle.std.proofs.Common.{take}
use Rattle.std.specs.Prelude.{IsTrue}
use Rattle.floor_files.specs.Opened.{HasOpened, LeavesFound}
use Rattle.floor_files.proofs.channels.open_channels.Given as goal

abbrev pub invariant-channels : goal.invariant-channels
invariant-channels g l =
    HasOpened g.F.Folder.tells_files l.hall.options l.topic (take l.item-index l.channels) (g.F.Folder.files l.fn.folder) (g.F.Folder.files l.folder) (g.F.Folder.folder_faults l.fn.folder) (g.F.Folder.folder_faults l.folder) l.fn.room l.room
    × (IsTrue g.F.Folder.tells_files → LeavesFound l.topic (take l.item-index l.channels) (g.F.Folder.files l.fn.folder) (g.F.Folder.files l.folder))
