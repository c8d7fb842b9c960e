use Rattle.std.proofs.Common.{refl}
use Rattle.floor_rooms.specs.Changes.{InRoom}
use Rattle.floor_rooms.proofs.Marked.{at_room_read, in_room_read, range_of}
use Rattle.floor_topics.specs.Emptying.{EmptiesStall}
use Rattle.floor_topics.proofs.Emptied.{empty_fails}
use Rattle.floor_topics.proofs.emptying.empty_stall.Goals as goal

pub returns-clause-stall : goal.returns-clause-stall
returns-clause-stall g c =
    let room = c.index_mut.result.now in
    let stall = c.index_mut-2.result.now in
    let Empties = EmptiesStall g.F.Folder.tells_files c.empty.result (g.F.Folder.files c.args.folder.now) (g.F.Folder.files c.empty.new.folder) (g.F.Folder.folder_faults c.args.folder.now) (g.F.Folder.folder_faults c.empty.new.folder) in
    at_room_read c.args.i (InRoom c.args.j Empties) c.args.hall.now.rooms.items room _ c.requires.room c.index_mut.ensures.value
    (in_room_read c.args.j Empties room _ stall _ (range_of c.args.j c.args.hall.now.rooms.items c.args.i room c.index_mut.ensures.value c.requires.stall) c.index_mut-2.ensures.value refl refl
    (record {
      same = refl;
      rest = c.empty.ensures.rest;
      row = c.empty.ensures.row;
      disk = c.empty.ensures.disk;
    }))

pub returns-clause-cause : goal.returns-clause-cause
returns-clause-cause g c = empty_fails (g.F.Folder.folder_faults c.args.folder.now) (g.F.Folder.folder_faults c.empty.new.folder) c.empty.new.self.backlog.queue c.empty.result c.empty.ensures.cause
