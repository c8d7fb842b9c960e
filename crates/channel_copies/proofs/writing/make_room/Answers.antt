use Rattle.channel_copies.specs.Putting.{around}
use Rattle.channel_copies.proofs.Capacity.{flush_capacity}
use Rattle.channel_copies.proofs.Wrote.{room_made}
use Rattle.channel_copies.proofs.writing.make_room.Goals as goal

pub returns-clause-capacity : goal.returns-clause-capacity
returns-clause-capacity g c = flush_capacity _ _ _ c.flush.ensures.seen

pub returns-clause-stores : goal.returns-clause-stores
returns-clause-stores g c =
    let files = g.F.Folder.files in
    let count = g.F.Folder.folder_faults in
    room_made (around c.args.backlog.now (files c.args.folder.now) (count c.args.folder.now)) (around c.flush.new.self (files c.flush.new.folder) (count c.flush.new.folder)) c.flush.result c.flush.ensures.seen c.flush.ensures.list
