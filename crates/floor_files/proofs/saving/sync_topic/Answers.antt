use Rattle.floor_rooms.proofs.Marked.{at_room_read}
use Rattle.floor_files.specs.Saving.{SavesRoom}
use Rattle.floor_files.proofs.saving.sync_topic.Goals as goal

pub returns-clause-room : goal.returns-clause-room
returns-clause-room g c =
    let Saves = SavesRoom g.F.Folder.tells_files c.args.hall.now.moment c.args.hall.now.options.sync_timeout c.save_room.result (g.F.Folder.files c.args.folder.now) (g.F.Folder.files c.save_room.new.folder) (g.F.Folder.folder_faults c.args.folder.now) (g.F.Folder.folder_faults c.save_room.new.folder) in
    at_room_read c.args.i Saves c.args.hall.now.rooms.items c.index_mut.result.now c.save_room.new.room c.requires.room c.index_mut.ensures.value c.save_room.ensures
