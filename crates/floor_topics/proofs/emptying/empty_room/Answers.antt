use Rattle.std.proofs.Common.{refl}
use Rattle.floor_rooms.proofs.Marked.{at_room_read}
use Rattle.floor_topics.specs.Emptying.{EmptiesRoom}
use Rattle.floor_topics.proofs.Emptied.{empty_fails}
use Rattle.floor_topics.proofs.emptying.empty_room.Goals as goal

pub returns-clause-room : goal.returns-clause-room
returns-clause-room g c =
    let room = c.index_mut.result.now in
    let Empties = EmptiesRoom g.F.Folder.tells_files c.empty.result (g.F.Folder.files c.args.folder.now) (g.F.Folder.files c.empty.new.folder) in
    at_room_read c.args.i Empties c.args.hall.now.rooms.items room (record room { queue = c.empty.new.self }) c.requires.room c.index_mut.ensures.value
    (record {
      same = refl;
      settled = c.empty.ensures.settled_now;
      queue = c.empty.ensures.queue;
      seen = c.empty.ensures.seen;
      backlog = c.empty.ensures.backlog;
      row = c.empty.ensures.row;
      stands = c.empty.ensures.stands;
      others = c.empty.ensures.others;
    })

pub returns-clause-cause : goal.returns-clause-cause
returns-clause-cause g c = empty_fails (g.F.Folder.folder_faults c.args.folder.now) (g.F.Folder.folder_faults c.empty.new.folder) c.empty.new.self.backlog.queue c.empty.result c.empty.ensures.cause
