use Rattle.std.proofs.Common.{◌∙◌, ◌∷◌, [], sym, subst}
use Rattle.channel_copies.specs.Putting.{around}
use Rattle.channel_copies.specs.Storing.{StoresWhere}
use Rattle.channel_copies.proofs.Capacity.{put_capacity}
use Rattle.channel_copies.proofs.Wrote.{one_written, taken_so, keeps_joined, keeps_put}
use Rattle.channel_copies.proofs.writing.write_one.Goals.{in-Kept, in-Fault-put_back}
use Rattle.channel_copies.proofs.writing.write_one.Goals as goal

pub returns-clause-capacity : goal.returns-clause-capacity
returns-clause-capacity g c = put_capacity _ _ _ _ c.put_back.ensures.seen ∙ c.make_room.ensures.capacity

pub returns-clause-stores : goal.returns-clause-stores
returns-clause-stores g c =
    let files = g.F.Folder.files in
    let count = g.F.Folder.folder_faults in
    let a = around c.args.backlog.now (files c.args.folder.now) (count c.args.folder.now) in
    let b = around c.make_room.new.backlog (files c.make_room.new.folder) (count c.make_room.new.folder) in
    let e = around c.put_back.new.backlog (files c.put_back.new.folder) (count c.put_back.new.folder) in
    elim c.match-put_back.branch [
      | in-Kept w ↦ subst (StoresWhere g.F.Folder.tells_files (c.args.message ∷ []) a e) (sym w.result-is) (one_written a b e c.put_back.result (taken_so c.put_back.result w.in-Kept.is) c.requires.durable c.make_room.ensures.disk c.in-Done.ensures.stores c.put_back.ensures)
      | in-Fault-put_back w ↦ subst (StoresWhere g.F.Folder.tells_files (c.args.message ∷ []) a e) (sym w.result-is) tt
    ]

pub returns-clause-disk : goal.returns-clause-disk
returns-clause-disk g c =
    let files = g.F.Folder.files in
    let count = g.F.Folder.folder_faults in
    let a = around c.args.backlog.now (files c.args.folder.now) (count c.args.folder.now) in
    let b = around c.make_room.new.backlog (files c.make_room.new.folder) (count c.make_room.new.folder) in
    let e = around c.put_back.new.backlog (files c.put_back.new.folder) (count c.put_back.new.folder) in
    keeps_joined a b e c.make_room.ensures.disk (keeps_put c.put_back.result b e c.put_back.ensures)
