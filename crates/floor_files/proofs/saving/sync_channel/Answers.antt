use Rattle.std.proofs.Common.{refl}
use Rattle.floor_rooms.specs.Changes.{InRoom}
use Rattle.floor_rooms.proofs.Marked.{at_room_read, in_room_read, range_of}
use Rattle.floor_files.specs.Saving.{SavesStall}
use Rattle.floor_files.proofs.saving.sync_channel.Goals as goal

pub returns-clause-stall : goal.returns-clause-stall
returns-clause-stall g c =
    let room = c.index_mut.result.now in
    let stall = c.index_mut-2.result.now in
    let Saves = SavesStall g.F.Folder.tells_files c.args.hall.now.moment c.args.hall.now.options.sync_timeout c.save_stall.result (g.F.Folder.files c.args.folder.now) (g.F.Folder.files c.save_stall.new.folder) (g.F.Folder.folder_faults c.args.folder.now) (g.F.Folder.folder_faults c.save_stall.new.folder) in
    at_room_read c.args.i (InRoom c.args.j Saves) c.args.hall.now.rooms.items room _ c.requires.room c.index_mut.ensures.value
    (in_room_read c.args.j Saves room _ stall c.save_stall.new.stall (range_of c.args.j c.args.hall.now.rooms.items c.args.i room c.index_mut.ensures.value c.requires.stall) c.index_mut-2.ensures.value refl refl c.save_stall.ensures)
