use Rattle.std.proofs.Common.{◌≡◌, ◌-◌, ◌^◌, true, false, None, refl, sym, ap, ◌∙◌}
use Rattle.floor_files.specs.Saving.{is_failed}
use Rattle.floor_files.proofs.Marking.{mark_failed, mark_saved, room_synced}
use Rattle.floor_files.specs.Timely.{mark_or_last}
use Rattle.floor_files.proofs.marks.save_room.Goals as goal

pub returns-then-is_failed : goal.returns-then-is_failed
returns-then-is_failed g c =
    let room = c.args.room.now in
    let sync = c.sync.ensures in
    let failed : is_failed c.sync.result ≡ true = sym c.is_failed.ensures ∙ c.if-is_failed.true in
    room_synced g.F.Folder.tells_files c.args.at c.args.timeout c.in-Some.since (g.F.Folder.files c.args.folder.now) (g.F.Folder.files c.sync.new.folder) (g.F.Folder.folder_faults c.args.folder.now) (g.F.Folder.folder_faults c.sync.new.folder) room c.sync.new.self room.since c.sync.result
    sync.seen sync.queue sync.backlog sync.row sync.stands sync.others sync.faults
    (mark_failed c.args.at c.args.timeout (g.F.Folder.folder_faults c.args.folder.now) (g.F.Folder.folder_faults c.sync.new.folder) c.in-Some.since room.since room.queue.backlog.queue c.sync.new.self.backlog.queue c.sync.result c.in-Some.is (c.is_lately.ensures.past c.if-is_lately.false) sync.backlog sync.cause failed)
    (sym (ap mark_or_last c.in-Some.is))

pub returns : goal.returns
returns g c =
    let room = c.args.room.now in
    let sync = c.sync.ensures in
    let well : is_failed c.sync.result ≡ false = sym c.is_failed.ensures ∙ c.if-is_failed.false in
    room_synced g.F.Folder.tells_files c.args.at c.args.timeout (2 ^ 64 - 1) (g.F.Folder.files c.args.folder.now) (g.F.Folder.files c.sync.new.folder) (g.F.Folder.folder_faults c.args.folder.now) (g.F.Folder.folder_faults c.sync.new.folder) room c.sync.new.self None c.sync.result
    sync.seen sync.queue sync.backlog sync.row sync.stands sync.others sync.faults
    (mark_saved c.args.at c.args.timeout (g.F.Folder.folder_faults c.args.folder.now) (g.F.Folder.folder_faults c.sync.new.folder) c.in-Some.since room.since room.queue.backlog.queue c.sync.new.self.backlog.queue c.sync.result c.in-Some.is (c.is_lately.ensures.past c.if-is_lately.false) sync.backlog well)
    refl
