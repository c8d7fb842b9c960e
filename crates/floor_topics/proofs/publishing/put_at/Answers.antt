use Rattle.std.proofs.Common.{refl}
use Rattle.floor_rooms.proofs.Marked.{at_room_read}
use Rattle.floor_topics.specs.Publishing.{FillsRoom}
use Rattle.floor_topics.proofs.publishing.put_at.Goals as goal

pub returns-clause-room : goal.returns-clause-room
returns-clause-room g c =
    let room = c.index_mut.result.now in
    let Fills = FillsRoom g.F.Folder.tells_files c.args.messages.now.items c.put_all.result (g.F.Folder.files c.args.folder.now) (g.F.Folder.files c.put_all.new.folder) in
    at_room_read c.args.i Fills c.args.hall.now.rooms.items room (record room { queue = c.put_all.new.self }) c.requires.room c.index_mut.ensures.value
    (record {
      same = refl;
      settled = c.put_all.ensures.settled_now;
      queue = c.put_all.ensures.queue;
      seen = c.put_all.ensures.seen;
      row = c.put_all.ensures.row;
      stands = c.put_all.ensures.stands;
      others = c.put_all.ensures.others;
    })
